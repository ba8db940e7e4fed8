-- What a source that pauses answers.
use Rattle.std.specs.Prelude.{ℕ, zero, suc, List, [], ◌∷◌, Bool, true}

-- the answers that are still to come of a list, and yes behind its end
abbrev pub answers_of : List Bool → ℕ → Bool
answers_of [] k = true
answers_of (answer ∷ answers) zero = answer
answers_of (answer ∷ answers) (suc k) = answers_of answers k
