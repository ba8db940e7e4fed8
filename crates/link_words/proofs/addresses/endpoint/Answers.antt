use Rattle.std.proofs.Common.{◌∙◌, sym}
use Rattle.link_words.proofs.LinkLemmas.{if_err, named_is, same_refused}
use Rattle.link_words.proofs.addresses.endpoint.Goals as goal

pub returns-then-is_name-clause-refused : goal.returns-then-is_name-clause-refused
returns-then-is_name-clause-refused g c =
    if_err c.named_link.result c.named_link.ensures.refused
    (λ e h t tells. same_refused (named_is t c.args.host.now c.args.port.now (sym c.is_name.ensures ∙ c.if-is_name.true)) e (h t tells))
