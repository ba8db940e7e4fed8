use Rattle.std.proofs.Common.{sym, ◌∙◌, arith}
use Rattle.std.proofs.lemmas.Option.{none-some}
use Rattle.rtcp_compound.proofs.CompoundLaws.{compound_from, compound_accepted, compound_packets}
use Rattle.rtcp_compound.proofs.compound.Compound.read.Goals as goal

pub returns-in-Ok-clause-ok : goal.returns-in-Ok-clause-ok
returns-in-Ok-clause-ok c = compound_from c.args.octets.now (λ i. omega (arith, c.type_inv.octets i)) c.in-Ok.ensures.accepted

pub returns-in-Ok-clause-only : goal.returns-in-Ok-clause-only
returns-in-Ok-clause-only c = λ ps spells. compound_packets ps c.args.octets.now spells

pub returns-in-Err-clause-only : goal.returns-in-Err-clause-only
returns-in-Err-clause-only c = λ ps spells. none-some _ (sym (compound_accepted ps c.args.octets.now spells) ∙ c.in-Err.ensures.refused)
