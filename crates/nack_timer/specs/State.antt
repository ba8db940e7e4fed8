-- What a timer keeps, as its clauses see it.
use Rattle.std.specs.Prelude.{ℕ, ◌+◌, ◌*◌, ◌<◌, ◌≤◌, List, [], ◌∷◌, Option, None, Some}
use Rattle.request_rules.specs.declared.policy.Policy.{Policy}
use Rattle.nack_timer.specs.declared.settings.Settings.{Settings}
use Rattle.nack_timer.specs.declared.entry.Missing.{Missing}

-- the settings in ticks: a millisecond is 90 of them
abbrev pub policy_of : Settings → Policy
policy_of settings =
    record {
      reorder_tolerance = 90 * settings.reorder;
      retry_interval = 90 * settings.least;
      retry_limit = settings.tries;
      kind = settings.nack;
    }

-- the ranges of the settings
pub record IsInRange (settings : Settings) : Type 0 where
  pub reorder : settings.reorder ≤ 1000
  pub least : settings.least ≤ 1000
  pub tries : settings.tries ≤ 32

-- when it asks, its buffer's span, the highest number that it was told, and the packets that it keeps as missing, by
-- rising number; some of them may have come since
pub record TimerState : Type 0 where
  pub policy : Policy
  pub span : ℕ
  pub high : Option ℕ
  pub missing : List Missing

-- numbers rise strictly from low on, below high
abbrev pub AreRising : ℕ → ℕ → List Missing → Type 0
AreRising low high [] = Unit {0}
AreRising low high (e ∷ es) = (low ≤ e.number) × (e.number < high) × AreRising (e.number + 1) high es

-- the highest number, and 0 where none was told
abbrev pub high_or : Option ℕ → ℕ
high_or None = 0
high_or (Some high) = high
