use Rattle.std.proofs.Common.{◌∙◌, sym}
use Rattle.link_words.proofs.LinkLemmas.{if_err, link_is, same_refused}
use Rattle.link_words.proofs.addresses.link_at.Goals as goal

pub returns-then-is_link-clause-refused : goal.returns-then-is_link-clause-refused
returns-then-is_link-clause-refused g c =
    if_err c.put_link.result c.put_link.ensures.refused
    (λ e h t tells. same_refused (link_is t c.args.scan c.args.word.now (sym c.is_link.ensures ∙ c.if-is_link.true)) e (h t tells))
