-- The calls of an object in memory.
use Rattle.std.specs.Prelude.{ℕ, ◌+◌, ◌-◌, ◌^◌, ◌≡◌, min, List, Contains, Result, MatchResult}

-- the calls that are to fail, by their places from 0; how many calls were made; how many failed
pub record Calls : Type 0 where
  pub failing : List ℕ
  pub made : ℕ
  pub faults : ℕ

-- no call was made yet
abbrev pub no_calls : List ℕ → Calls
no_calls failing = record { failing = failing; made = 0; faults = 0 }

-- the next number, up to the greatest of 64 bits
abbrev pub next_count : ℕ → ℕ
next_count n = min (n + 1) (2 ^ 64 - 1)

-- the next call is to fail
abbrev pub FailsNext : Calls → Type 0
FailsNext c = Contains c.failing c.made

-- a call was made
abbrev pub call_done : Calls → Calls
call_done c = record c { made = next_count c.made }

-- a call was made, and failed
abbrev pub call_failed : Calls → Calls
call_failed c = record c { made = next_count c.made; faults = next_count c.faults }

-- a call was made, and failed where it answered an error
abbrev pub CountsCall : {T E : Type 0} → Calls → Calls → Result T E → Type 0
CountsCall old new result = MatchResult result (λ _. new ≡ call_done old) (λ _. new ≡ call_failed old)
