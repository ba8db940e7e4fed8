use Rattle.std.proofs.Common.{◌∙◌, arith}
use Rattle.keepalive_msg.proofs.MessageLemmas.{found_from, reading-spelled}
use Rattle.keepalive_msg.proofs.reading.read.Goals as goal

pub returns-clause-found : goal.returns-clause-found
returns-clause-found c =
    found_from c.args.octets.now _ (λ i. omega (arith, c.type_inv.octets i)) c.value_of.ensures.value

pub returns-clause-only : goal.returns-clause-only
returns-clause-only c = λ message spells. c.value_of.ensures.value ∙ reading-spelled message c.args.octets.now spells
