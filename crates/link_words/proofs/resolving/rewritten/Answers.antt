use Rattle.std.proofs.Common.{◌∙◌, ◌++◌, [], ap, drop, map, string_bytes, sym}
use Rattle.link_words.specs.Addresses.{links_from, options_from}
use Rattle.link_words.proofs.LinkLemmas.{links_tell}
use Rattle.link_words.proofs.resolving.rewritten.Goals as goal

pub returns-in-Err-clause-refused : goal.returns-in-Err-clause-refused
returns-in-Err-clause-refused g c = λ t tells fault is.
    let words = map string_bytes c.args.words.now in
    let options = map string_bytes c.push_options.new.options.items in
    links_tell t c.args.scan words options
    (ap (λ k. options_from k c.args.scan [] (drop 2 words)) (sym c.command_of.ensures)
    ∙ ap (λ os. options_from c.command_of.result.now c.args.scan (map string_bytes os) (drop 2 words)) (sym c.new-options.ensures.items)
    ∙ ap (options_from c.command_of.result.now c.args.scan (map string_bytes c.new-options.result.items)) (sym c.rest_of.ensures)
    ∙ c.in_ok-push_options.ensures.ok)
    ∙ ap (λ front. links_from t c.args.scan (front ++ options) (drop 2 words)) (sym c.in_ok-line.ensures.ok)
    ∙ ap (λ line. links_from t c.args.scan line (drop 2 words)) (sym c.in_ok-append.ensures.ok)
    ∙ ap (links_from t c.args.scan (map string_bytes c.append.new.words.items)) (sym c.rest_of-2.ensures)
    ∙ c.in-Err.ensures.refused t tells fault is
