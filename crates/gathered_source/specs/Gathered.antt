-- What a contract sees of a source whose octets are gathered as they come.
use Rattle.std.specs.Prelude.{◌≡◌, ◌≤◌, ◌<◌, ◌||◌, ℕ, Bool, true, false, List, Option, length}

-- The source behind. `left`: the octets that were gathered, and then what remains of the source, where it tells;
-- `ahead`: those that were gathered and not read; whether the source has come to its end, and whether a read of it has
-- failed, as it was gathered; and how many reads have told a fault
pub record GatheredState (S : Type 0) : Type 0 where
  pub source : S
  pub left : Option (List ℕ)
  pub ahead : List ℕ
  pub has_ended : Bool
  pub has_failed : Bool
  pub faults : ℕ

-- how many octets are gathered at most
abbrev pub most_gathered : ℕ
most_gathered = 16384

-- where the answer is yes so many octets stand ahead, or all that are left, or a fault behind them; and fewer do where
-- it is no
abbrev pub HasGathered : {S : Type 0} → ℕ → Bool → GatheredState S → Type 0
HasGathered count true g = (g.has_ended || g.has_failed) ≡ false → count ≤ length g.ahead
HasGathered count false g = length g.ahead < count
