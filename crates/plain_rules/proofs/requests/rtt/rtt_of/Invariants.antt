-- the round-trip time of the steps so far
use Rattle.std.proofs.Common.{◌≡◌, ◌≤◌, take}
use Rattle.std.specs.Option.{ForSome}
use Rattle.request_rules.specs.Steps.{rtt_of}
use Rattle.plain_rules.specs.Requests.Told.{history_of}
use Rattle.plain_rules.proofs.requests.rtt.rtt_of.Given as goal

abbrev pub invariant-loop-step : goal.invariant-loop-step
invariant-loop-step l = (l.rtt ≡ rtt_of l.link (history_of (take l.step-index l.steps))) × ForSome l.rtt (λ r. r ≤ 10000000)
