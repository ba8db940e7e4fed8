use Rattle.rist_rtt.proofs.EchoLemmas.{words_as}
use Rattle.rist_rtt.proofs.writing.put_request.Goals as goal

pub returns-clause-ok : goal.returns-clause-ok
returns-clause-ok c = words_as c.put_app.result c.put_app.new.self c.args.out.now 2 c.args.media _ _ c.put_body-end.ensures.octets c.put_app.ensures.ok
