use Rattle.std.proofs.Common.{ℕ, ◌*◌, take, ap, ◌∙◌}
use Rattle.rist_rtt.specs.Echo.{echo_words}
use Rattle.rist_rtt.proofs.EchoLemmas.{words_as}
use Rattle.rist_rtt.proofs.writing.put_answer.Goals as goal

pub returns-clause-ok : goal.returns-clause-ok
returns-clause-ok c =
    let e = c.args.echo.now in
    words_as c.put_app.result c.put_app.new.self c.args.out.now 3 e.flow _ _
    (c.put_body-end.ensures.octets ∙ ap (λ (n : ℕ). echo_words e.stamp c.args.delay (take (4 * n) e.more.now)) c.min-count.ensures) c.put_app.ensures.ok
