-- What a contract sees of a reader.
use Rattle.std.specs.Prelude.{ℕ, List, [], Bool, false, Option}

-- `remaining`: the octets that it has still to read, where the source tells them; the first of them are those that it
-- took from the source ahead of need. `at`: 0 before the name is read, and then the next record's offset. `octets`:
-- those of the record that was read last.
pub record ReaderState : Type 0 where
  pub remaining : Option (List ℕ)
  pub ahead : List ℕ
  pub at : ℕ
  pub faults : ℕ
  pub spent : Bool
  pub octets : List ℕ

-- nothing was read yet
abbrev pub new_reader : Option (List ℕ) → ℕ → ReaderState
new_reader remaining faults =
    record { remaining = remaining; ahead = []; at = 0; faults = faults; spent = false; octets = [] }
