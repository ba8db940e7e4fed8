-- the longest of the links so far
use Rattle.std.proofs.Common.{◌≡◌, ◌≤◌}
use Rattle.request_rules.specs.Steps.{longest_rtt}
use Rattle.plain_rules.specs.Requests.Told.{history_of}
use Rattle.plain_rules.proofs.requests.rtt.longest_rtt.Given as goal

abbrev pub invariant-loop-link : goal.invariant-loop-link
invariant-loop-link l = (l.longest ≡ longest_rtt l.link (history_of l.steps)) × (l.longest ≤ 10000000)
