-- What is still to come of answers without end, by the number of the call.
use Rattle.std.specs.Prelude.{◌≡◌, ℕ, suc, Option, Some}

-- without the first of them
abbrev pub later : {A : Type 0} → (ℕ → A) → ℕ → A
later s k = s (suc k)

-- the first of them is this, where they are told
abbrev pub IsFirst : {A : Type 0} → Option (ℕ → A) → A → Type 0
IsFirst {A} told x = (s : ℕ → A) → told ≡ Some s → s 0 ≡ x
