-- A run from its first turn to its last.
use Rattle.std.specs.Prelude.{◌≡◌, ◌<◌, ◌⊎◌, ℕ, zero, suc, List, true, false, if◌then◌else◌, Some, Result, Ok, Err}
use Rattle.outside_io.specs.Causes.{Fault, NoFault, Read}
use Rattle.rist_send.specs.declared.fault.SendFault.{SendFault}
use Rattle.rist_send.specs.declared.fault.SendFault.TheVariants.{ReadFault, LinksDown, Spent, TooLong, TurnsSpent}
use Rattle.rist_send.specs.Run.{Setup, Run, is_over, has_ended}
use Rattle.rist_send.specs.Turns.{Turn}
use Rattle.rist_send.specs.Given.{Gives, GivesPayloads}

-- so many turns, none of them refused, and after none of them the run is over
abbrev pub TurnsOn : Setup → ℕ → Run → Run → Type 0
TurnsOn setup zero from to = to ≡ from
TurnsOn setup (suc count) from to =
    (between : Run) × TurnsOn setup count from between × Turn setup (Ok tt) between to
    × (is_over setup.settings.linger to.progress ≡ false)

-- the turn after which a run stops: it was refused, or the run is over
abbrev pub StopsWith : Setup → Result Unit SendFault → Run → Type 0
StopsWith setup (Ok done) to = is_over setup.settings.linger to.progress ≡ true
StopsWith setup (Err fault) to = Unit {0}

-- the answer of a run that made all its turns: Ok exactly where the source had ended
abbrev pub result_at_last : Run → Result Unit SendFault
result_at_last run = if has_ended run.progress.stage then Ok tt else Err TurnsSpent

-- how a run goes on after some turns: with one that stops it, or not at all, where all turns were made
pub record Stops (setup : Setup) (count : ℕ) (result : Result Unit SendFault) (from to : Run) : Type 0 where
  pub left : count < setup.settings.turns
  pub turn : Turn setup result from to
  pub stops : StopsWith setup result to

-- a run made all its turns
pub record IsSpent (setup : Setup) (count : ℕ) (result : Result Unit SendFault) (from to : Run) : Type 0 where
  pub all : count ≡ setup.settings.turns
  pub same : to ≡ from
  pub answer : result ≡ result_at_last from

-- A run from its first turn on. Of a source that tells its octets it gave its sender the first pieces, in order, each
-- once, and of one that tells its payloads the first of these, each whole, in order, once.
pub record SendsSource (setup : Setup) (result : Result Unit SendFault) (from to : Run) : Type 0 where
  pub count : ℕ
  pub before : Run
  pub turns : TurnsOn setup count from before
  pub ends : Stops setup count result before to ⊎ IsSpent setup count result before to
  pub gives : (octets : List ℕ) → from.octets ≡ Some octets → Gives result octets to.octets to.sent
  pub gives_payloads : (payloads : List (List ℕ)) → from.payloads ≡ Some payloads
      → GivesPayloads result payloads to.payloads to.sent

-- which call on the source failed, by an error
abbrev pub read_fault : SendFault → Fault
read_fault ReadFault = Read
read_fault LinksDown = NoFault
read_fault Spent = NoFault
read_fault TooLong = NoFault
read_fault TurnsSpent = NoFault
