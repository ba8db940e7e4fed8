-- What a contract sees of a reader.
use Rattle.std.specs.Prelude.{ℕ, List, [], Bool, false, None}
use Rattle.std.specs.declared.option.Option.{Option}
use Rattle.pcap_file.specs.declared.format.Format.{Format}

-- `remaining`: the octets that it has still to read, where the source tells them; the first of them are those that it
-- took from the source ahead of need. `format`: what the header told, once it was read. `at`: the next record's offset.
pub record ReaderState : Type 0 where
  pub remaining : Option (List ℕ)
  pub ahead : List ℕ
  pub format : Option Format
  pub at : ℕ
  pub faults : ℕ
  pub spent : Bool

-- nothing was read yet: the first record stands behind the 24 octets of the header
abbrev pub new_reader : Option (List ℕ) → ℕ → ReaderState
new_reader remaining faults =
    record { remaining = remaining; ahead = []; format = None; at = 24; faults = faults; spent = false }
