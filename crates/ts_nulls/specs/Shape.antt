-- What is told of a payload whose null packets were deleted.
use Rattle.std.specs.Prelude.{◌≡◌, ℕ, ◌-◌, ◌%◌, ◌^◌, ◌<◌, ◌≤◌, Bool}

-- how many packets the payload had, whether they have 204 octets, and a bit for each that was null: bit
-- 6, counted from the least significant, for the first, and so on down
pub record Shape : Type 0 where
  pub units : ℕ
  pub long : Bool
  pub nulls : ℕ

-- one to seven packets, and no bit past them
pub record IsShape (units nulls : ℕ) : Type 0 where
  pub some : 1 ≤ units
  pub few : units ≤ 7
  pub below : nulls < 128
  pub clear : nulls % 2 ^ (7 - units) ≡ 0
