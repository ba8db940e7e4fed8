use Rattle.std.proofs.Common.{◌∙◌}
use Rattle.std.proofs.lemmas.Result.{IfOk-weaker}
use Rattle.rist_wire.proofs.BackLemmas.{compound-item}
use Rattle.rist_wire.proofs.shutter.Shutter.control.Goals as goal

pub returns-clause-read_back : goal.returns-clause-read_back
returns-clause-read_back c = λ packets spells.
    IfOk-weaker c.put.result _ _ (λ sent datagram. datagram.item ∙ compound-item c.args.self.now.session.tunnel packets c.args.compound.now spells) c.put.ensures.datagram
