-- What holds of each timer, whatever it was told.
use Rattle.std.specs.Prelude.{ℕ, ◌<◌, ◌≤◌, ◌^◌, List, [], ◌∷◌, length, Option}
use Rattle.std.specs.Option.{ForSome}
use Rattle.request_rules.specs.declared.policy.Policy.{Policy}
use Rattle.nack_timer.specs.declared.entry.Missing.{Missing}
use Rattle.nack_timer.specs.State.{AreRising, high_or}
use Rattle.receiver_rules.specs.declared.bounds.TheConstants.{MAX_SPAN}

-- times from which no sum wraps
pub record IsSmallEntry (e : Missing) : Type 0 where
  pub found : e.found < 2 ^ 61
  pub last : ForSome e.last (λ t. t < 2 ^ 61)

-- likewise in each of some entries
abbrev pub AreSmall : List Missing → Type 0
AreSmall [] = Unit {0}
AreSmall (e ∷ es) = IsSmallEntry e × AreSmall es

-- the bounds of a policy
pub record IsSmallPolicy (policy : Policy) : Type 0 where
  pub reorder : policy.reorder_tolerance ≤ 90000
  pub least : policy.retry_interval ≤ 90000
  pub tries : policy.retry_limit ≤ 32

-- what holds of each timer
pub record IsSoundTimer (policy : Policy) (span : ℕ) (high : Option ℕ) (missing : List Missing) : Type 0 where
  pub reorder : policy.reorder_tolerance ≤ 90000
  pub least : policy.retry_interval ≤ 90000
  pub tries : policy.retry_limit ≤ 32
  pub some : 1 ≤ span
  pub few : span ≤ MAX_SPAN
  pub room : length missing ≤ span
  pub rising : AreRising 0 (high_or high) missing
  pub below : high_or high < 2 ^ 62
  pub small : AreSmall missing
