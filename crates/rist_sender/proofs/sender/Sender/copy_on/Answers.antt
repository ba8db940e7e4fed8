use Rattle.std.proofs.Common.{◌∙◌, ◌<◌, sym, ap, arith}
use Rattle.std.specs.Prelude.{not, ◌&&◌}
use Rattle.rist_sender.specs.Links.{is_failed}
use Rattle.rist_sender.proofs.PutLemmas.{copy_made}
use Rattle.rist_sender.proofs.sender.Sender.copy_on.Goals as goal

pub returns-then-one-clause-does : goal.returns-then-one-clause-does
returns-then-one-clause-does g c = λ from packet pair stands spells.
    let few : c.args.link < 16 = omega arith in
    copy_made _ c.args.self.now c.write-answer.new.self c.args.links.now c.write-answer.new.links from c.args.one pair packet c.args.link c.write-answer.result c.args.channel c.args.octets.now _
    stands few (sym (stands.down c.args.link few) ∙ sym c.is_down.ensures.value ∙ c.if-is_down.false) spells c.write-answer.ensures.state c.write-answer.ensures.writes
    (ap (λ b. b && not (is_failed c.write-answer.result)) c.if-one.true ∙ ap not (sym c.is_failed.ensures.value))

pub returns-else-one-clause-does : goal.returns-else-one-clause-does
returns-else-one-clause-does g c = λ from packet pair stands spells.
    let few : c.args.link < 16 = omega arith in
    copy_made _ c.args.self.now c.write-answer.new.self c.args.links.now c.write-answer.new.links from c.args.one pair packet c.args.link c.write-answer.result c.args.channel c.args.octets.now _
    stands few (sym (stands.down c.args.link few) ∙ sym c.is_down.ensures.value ∙ c.if-is_down.false) spells c.write-answer.ensures.state c.write-answer.ensures.writes
    (ap (λ b. b && not (is_failed c.write-answer.result)) c.if-one.false ∙ sym c.if-one.false)
