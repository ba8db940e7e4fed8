-- A history, the newest first.
use Rattle.std.specs.Prelude.{List, ◌∷◌, Option, Some, None}

module _ {E : Type 0} where
  -- these entries, and one more before them, if there is one
  abbrev pub added : Option E → List E → List E
  added (Some e) es = e ∷ es
  added None es = es
