use Rattle.std.proofs.Common.{◌∙◌, ◌+◌, ap, arith, drop, get_or, map, string_bytes, sym}
use Rattle.std.proofs.lemmas.List.{at_drop_more}
use Rattle.link_words.specs.Addresses.{link_at, links_from}
use Rattle.link_words.proofs.LinkLemmas.{bad_links}
use Rattle.link_words.proofs.addresses.push_links.Goals as goal

pub returns-in-Err-clause-refused : goal.returns-in-Err-clause-refused
returns-in-Err-clause-refused g c = λ t tells fault is.
    let words = c.args.words.now in
    let old = map string_bytes c.loop-word.line.items in
    c.loop-word.invariant.links t tells
    ∙ at_drop_more (λ ws. links_from t c.loop-word.at old (map string_bytes ws)) words c.loop-word.word-index c.word-item.result (omega (arith, c.loop-word-test.true))
    ∙ bad_links t c.loop-word.at old (string_bytes (get_or words c.loop-word.word-index c.word-item.result)) (map string_bytes (drop (c.loop-word.word-index + 1) words)) fault
    (ap (λ w. link_at t c.loop-word.at (string_bytes w)) (sym c.word-item.is) ∙ ap (link_at t c.loop-word.at) (sym c.as_str.ensures.value) ∙ c.in-Err.ensures.refused t (c.loop-word.invariant.table ∙ tells) fault is)
