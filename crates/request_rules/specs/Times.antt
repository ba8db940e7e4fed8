-- What a program keeps of the times at which a number was asked for, the newest first: the newest of them, and how many
-- they are.
use Rattle.std.specs.Prelude.{◌≡◌, ℕ, ◌+◌, List, length, slice_get, Bool, true, nat_le, Option, None, Some}

-- a time and a count are those of some times
pub record AreTimes (last : Option ℕ) (count : ℕ) (times : List ℕ) : Type 0 where
  pub newest : last ≡ slice_get times 0
  pub count_is : count ≡ length times
