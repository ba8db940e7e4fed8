use Rattle.std.proofs.Common.{sym, subst, ◌+◌, Some, ◌∷◌, ◌++◌, [], ℕ}
use Rattle.request_rules.specs.Requests.{request_times}
use Rattle.request_rules.specs.Times.{AreTimes}
use Rattle.plain_rules.specs.Inside.RequestsAsking.{requests_seen}
use Rattle.plain_rules.proofs.AskingLemmas.{noted_same}
use Rattle.plain_rules.proofs.requests.times.noted.Goals as goal

pub returns-then-request-number-clause-times : goal.returns-then-request-number-clause-times
returns-then-request-number-clause-times c newer h =
    subst (λ (v : ℕ). AreTimes (Some v) (c.args.times.count + 1) (request_times (requests_seen (newer ++ c.args.request.now ∷ [])) c.args.number))
    (sym c.unwrap_or.ensures) (noted_same c.args.times.last c.args.times.count newer c.args.request.now c.args.number c.if-request-number.true h)
