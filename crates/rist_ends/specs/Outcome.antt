-- What the outcome of a step says.
use Rattle.std.specs.Prelude.{◌≡◌, ℕ, List, Option, None, Some, Bool, true, false, Result, Ok, Err}
use Rattle.receiver_rules.specs.declared.limits.Limits.{Limits}
use Rattle.receiver_rules.specs.declared.verdict.Verdict.{Verdict}
use Rattle.receiver_rules.specs.History.{verdict}
use Rattle.psk_seal.specs.declared.sealer.Spent as seal
use Rattle.request_rules.specs.Steps.{Input, Media, Control, Keepalive, Refused, Tick, End, Step, buffer_history}
use Rattle.rist_reporter.specs.declared.out.Outs.{Outs}
use Rattle.rist_ends.specs.declared.outcome.Outcome.{Outcome}
use Rattle.rist_ends.specs.declared.outcome.Outcome.TheVariants as outcomes
use Rattle.rist_ends.specs.declared.outcome.Answer.{Answer}
use Rattle.rist_ends.specs.declared.outcome.Answer.TheVariants as answers

-- the outcome of an answer, where the datagrams that it made are these
abbrev pub outcome_with : Answer → Outs → Outcome
outcome_with answers.Stopped outs = outcomes.Stopped
outcome_with answers.WriteFault outs = outcomes.WriteFault
outcome_with (answers.Verdict v) outs = outcomes.Verdict v
outcome_with answers.Spent outs = outcomes.Spent
outcome_with answers.Made outs = outcomes.Made outs
outcome_with answers.Nothing outs = outcomes.Nothing

-- P holds where the step was made
abbrev pub IfStepped : Outcome → Type 0 → Type 0
IfStepped outcomes.Stopped P = Unit {0}
IfStepped outcomes.WriteFault P = Unit {0}
IfStepped (outcomes.Verdict v) P = P
IfStepped outcomes.Spent P = P
IfStepped (outcomes.Made outs) P = P
IfStepped outcomes.Nothing P = P

-- the verdict on a media packet is that of the history, and nothing else has one
abbrev pub HasVerdict : Option Verdict → Limits → List Step → ℕ → Input → Type 0
HasVerdict v limits history tick (Media arrival) = v ≡ Some (verdict limits (buffer_history history) tick arrival)
HasVerdict v limits history tick (Control sample request) = v ≡ None
HasVerdict v limits history tick Keepalive = v ≡ None
HasVerdict v limits history tick Refused = v ≡ None
HasVerdict v limits history tick (Tick micros) = v ≡ None
HasVerdict v limits history tick End = v ≡ None

-- the verdict that an outcome tells
abbrev pub verdict_in : Outcome → Option Verdict
verdict_in outcomes.Stopped = None
verdict_in outcomes.WriteFault = None
verdict_in (outcomes.Verdict v) = Some v
verdict_in outcomes.Spent = None
verdict_in (outcomes.Made outs) = None
verdict_in outcomes.Nothing = None

-- what was made in the step, or that too few pairs were left
abbrev pub result_of : Outcome → Result (Option Outs) seal.Spent
result_of outcomes.Stopped = Ok None
result_of outcomes.WriteFault = Ok None
result_of (outcomes.Verdict v) = Ok None
result_of outcomes.Spent = Err (record {})
result_of (outcomes.Made outs) = Ok (Some outs)
result_of outcomes.Nothing = Ok None

-- a write failed in the step
abbrev pub is_write_fault : Outcome → Bool
is_write_fault outcomes.Stopped = false
is_write_fault outcomes.WriteFault = true
is_write_fault (outcomes.Verdict v) = false
is_write_fault outcomes.Spent = false
is_write_fault (outcomes.Made outs) = false
is_write_fault outcomes.Nothing = false

-- the step was made
abbrev pub is_stepped : Outcome → Bool
is_stepped outcomes.Stopped = false
is_stepped outcomes.WriteFault = false
is_stepped (outcomes.Verdict v) = true
is_stepped outcomes.Spent = true
is_stepped (outcomes.Made outs) = true
is_stepped outcomes.Nothing = true
