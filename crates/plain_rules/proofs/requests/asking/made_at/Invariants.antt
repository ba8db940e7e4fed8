-- the requests so far
use Rattle.std.proofs.Common.{◌≡◌, map, take}
use Rattle.std.specs.List.{All}
use Rattle.request_rules.specs.Requests.{request_at}
use Rattle.plain_rules.specs.Inside.RequestsAsking.{requests_seen, IsSmallMade}
use Rattle.plain_rules.proofs.requests.asking.made_at.Given as goal

abbrev pub invariant-loop-number : goal.invariant-loop-number
invariant-loop-number l = All IsSmallMade l.made.items × (requests_seen l.made.items ≡ map (λ x. request_at x l.t) (take l.number-index l.numbers))
