-- the requests so far
use Rattle.std.proofs.Common.{◌≡◌, ◌++◌, map, take}
use Rattle.std.specs.List.{All}
use Rattle.request_rules.specs.Requests.{request_at}
use Rattle.plain_rules.specs.Inside.RequestsAsking.{requests_seen, IsSmallMade}
use Rattle.plain_rules.proofs.requests.asking.made_with.Given as goal

abbrev pub invariant-loop-request : goal.invariant-loop-request
invariant-loop-request l = All IsSmallMade l.made.items × (requests_seen l.made.items ≡ map (λ x. request_at x l.t) l.numbers ++ requests_seen (take l.request-index l.before))
