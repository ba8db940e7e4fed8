-- the requests so far
use Rattle.std.proofs.Common.{◌<◌, ◌≤◌, ◌^◌, take}
use Rattle.std.specs.Option.{ForSome}
use Rattle.request_rules.specs.Requests.{request_times}
use Rattle.request_rules.specs.Times.{AreTimes}
use Rattle.plain_rules.specs.Inside.RequestsAsking.{requests_seen}
use Rattle.plain_rules.proofs.requests.times.times_of.Given as goal

abbrev pub invariant-loop-request : goal.invariant-loop-request
invariant-loop-request l = AreTimes l.times.last l.times.count (request_times (requests_seen (take l.request-index l.made)) l.number) × ForSome l.times.last (λ t. t < 2 ^ 61) × (l.times.count ≤ l.request-index)
