use Rattle.std.proofs.Common.{◌∙◌, ◌+◌, ap, arith, drop, get_or, map, string_bytes, sym}
use Rattle.std.proofs.lemmas.List.{at_drop_more}
use Rattle.link_words.specs.Addresses.{options_at, options_from}
use Rattle.link_words.specs.Positions.{after}
use Rattle.link_words.proofs.LinkLemmas.{bad_options, next_options}
use Rattle.link_words.proofs.parameters.push_options.Goals as goal

pub loop-word-preserved : goal.loop-word-preserved
loop-word-preserved c =
    let words = c.args.words.now in
    let old = map string_bytes c.loop-word.options.items in
    c.loop-word.invariant
    ∙ at_drop_more (λ ws. options_from c.args.command.now c.loop-word.at old (map string_bytes ws)) words c.loop-word.word-index c.word-item.result (omega (arith, c.loop-word-test.true))
    ∙ next_options c.args.command.now c.loop-word.at old (map string_bytes c.push_options_at.new.options.items) (string_bytes (get_or words c.loop-word.word-index c.word-item.result)) (map string_bytes (drop (c.loop-word.word-index + 1) words))
    (ap (λ w. options_at c.args.command.now c.loop-word.at old (string_bytes w)) (sym c.word-item.is) ∙ ap (options_at c.args.command.now c.loop-word.at old) (sym c.as_str.ensures.value) ∙ c.in-Ok.ensures.ok)
    ∙ ap (λ s. options_from c.args.command.now s (map string_bytes c.push_options_at.new.options.items) (map string_bytes (drop (c.loop-word.word-index + 1) words)))
    (ap (λ w. after c.loop-word.at (string_bytes w)) (sym c.word-item.is) ∙ ap (after c.loop-word.at) (sym c.as_str-in-loop-word.ensures.value) ∙ sym c.after-at.ensures)

pub returns-in-Err-clause-refused : goal.returns-in-Err-clause-refused
returns-in-Err-clause-refused c = λ fault is.
    let words = c.args.words.now in
    let old = map string_bytes c.loop-word.options.items in
    c.loop-word.invariant
    ∙ at_drop_more (λ ws. options_from c.args.command.now c.loop-word.at old (map string_bytes ws)) words c.loop-word.word-index c.word-item.result (omega (arith, c.loop-word-test.true))
    ∙ bad_options c.args.command.now c.loop-word.at old (string_bytes (get_or words c.loop-word.word-index c.word-item.result)) (map string_bytes (drop (c.loop-word.word-index + 1) words)) fault
    (ap (λ w. options_at c.args.command.now c.loop-word.at old (string_bytes w)) (sym c.word-item.is) ∙ ap (options_at c.args.command.now c.loop-word.at old) (sym c.as_str.ensures.value) ∙ c.in-Err.ensures.refused fault is)
