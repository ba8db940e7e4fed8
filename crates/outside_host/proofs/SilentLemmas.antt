-- A host that tells nothing owes nothing to those that ask what it tells.
use Rattle.std.specs.Prelude.{IsTrue, false}

pub nothing_told : {X : Type 0} → IsTrue false → X
nothing_told e = absurd cc
