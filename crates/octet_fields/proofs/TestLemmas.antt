-- A reading is a list of tests, of which the first that fails is the answer.
use Rattle.std.proofs.Common.{◌≡◌, Bool, true, false, cond, Result, Ok, Err, refl}

-- where a value is read, each test passes
pub passed : {X E : Type 0} (test : Bool) (bad : E) (rest : Result X E) (value : X) → cond test (Err bad) rest ≡ Ok value
    → (test ≡ false) × (rest ≡ Ok value)
passed true bad rest value e = absurd cc
passed false bad rest value e = (refl, e)
