use Rattle.std.proofs.Common.{◌∙◌, Some, ap, map, string_bytes, sym}
use Rattle.link_words.specs.Addresses.{resolved_by}
use Rattle.link_words.specs.Positions.{scan_of}
use Rattle.link_words.proofs.LinkLemmas.{if_err, same_refused}
use Rattle.link_words.proofs.resolving.with_addresses.Goals as goal

pub returns-in-Some-clause-refused : goal.returns-in-Some-clause-refused
returns-in-Some-clause-refused g c =
    if_err c.rewritten.result c.rewritten.ensures.refused
    (λ e h t tells. same_refused (ap (resolved_by t (map string_bytes c.args.words.items)) (ap (λ ws. scan_of (map string_bytes ws)) (sym c.as_slice.ensures.value) ∙ c.in-Some.ensures.some)
    ∙ ap (λ ws. resolved_by t (map string_bytes ws) (Some c.in-Some.scan)) (sym c.as_slice-in-Some.ensures.value)) e (h t tells))
