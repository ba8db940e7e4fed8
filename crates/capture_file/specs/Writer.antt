-- What a contract sees of a writer.
use Rattle.std.specs.Prelude.{ℕ, List, Bool, true, false, Option}

-- `contents`: the octets that its sink holds, where that tells them; `begun`: the name was given to it
pub record WriterState : Type 0 where
  pub contents : Option (List ℕ)
  pub begun : Bool
  pub faults : ℕ

-- nothing was written yet
abbrev pub new_writer : Option (List ℕ) → ℕ → WriterState
new_writer contents faults = record { contents = contents; begun = false; faults = faults }

-- the name stands in the sink already
abbrev pub onward_writer : Option (List ℕ) → ℕ → WriterState
onward_writer contents faults = record { contents = contents; begun = true; faults = faults }
