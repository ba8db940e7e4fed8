use Rattle.std.proofs.Common.{◌∙◌, sym, refl}
use Rattle.plain_rules.proofs.AskingLemmas.{put_named, append_nil}
use Rattle.plain_rules.proofs.requests.asks.put.Goals as goal

pub returns-in_ok-push-clause-named : goal.returns-in_ok-push-clause-named
returns-in_ok-push-clause-named c =
    put_named c.args.kind c.args.words.now c.add.new.self c.args.number c.args.numbers.now.items c.push.new.self.items c.add.result c.requires.above c.add.ensures.value c.requires.named c.add.ensures.takes
    (c.in_ok-push.ensures.items ∙ rw c.if-add.true refl)

pub returns-else-add-clause-named : goal.returns-else-add-clause-named
returns-else-add-clause-named c =
    put_named c.args.kind c.args.words.now c.add.new.self c.args.number c.args.numbers.now.items c.args.numbers.now.items c.add.result c.requires.above c.add.ensures.value c.requires.named c.add.ensures.takes
    (rw c.if-add.false (sym (append_nil c.args.numbers.now.items)))
