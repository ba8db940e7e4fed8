-- What one turn of a walk came to.
use Rattle.std.specs.Prelude.{ℕ, List, Bool, true, false, Result, Ok, Err}
use Rattle.outside_io.specs.Told.{Passage}
use Rattle.capture_file.specs.Capture.{Record}
use Rattle.capture_walk.specs.Form.{Form}
use Rattle.capture_walk.specs.Leaves.{Brought, IfBrought, Leaves}
use Rattle.capture_walk.specs.declared.walk_bad.WalkBad.{WalkBad}

-- P holds where a record was taken
abbrev pub IfOn : Result Bool WalkBad → Type 0 → Type 0
IfOn (Ok true) P = P
IfOn (Ok false) P = Unit {0}
IfOn (Err bad) P = Unit {0}

-- P holds of how the walk ended, where it has
abbrev pub IfOver : Result Bool WalkBad → (Result Unit WalkBad → Type 0) → Type 0
IfOver (Ok true) P = Unit {0}
IfOver (Ok false) P = P (Ok tt)
IfOver (Err bad) P = P (Err bad)

-- A walk ended so: what it leaves of source and sink; and unless a write failed or memory was refused, its visitor took
-- the whole records that were read, and the end.
pub record EndsBy (form : Form) (so_far whole : List Record → List ℕ) (has_ended : List Record → Type 0) (p : Passage)
    (end : Result Unit WalkBad) : Type 0 where
  pub leaves : Leaves form so_far whole 0 p end
  pub seen : IfBrought end (Brought form p.had p.left has_ended end)
