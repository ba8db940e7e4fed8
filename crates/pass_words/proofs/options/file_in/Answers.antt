use Rattle.std.proofs.Common.{◌≡◌, ◌∙◌, ◌-◌, ap, arith, drop, length, map, string_bytes, sym, take}
use Rattle.std.proofs.lemmas.Slice.{between_to_end}
use Rattle.pass_words.specs.Options.{place_of, value_of}
use Rattle.pass_words.proofs.OptionLemmas.{is_no_value, is_value}
use Rattle.pass_words.proofs.options.file_in.Goals as goal

pub returns-in-Some-clause-value : goal.returns-in-Some-clause-value
returns-in-Some-clause-value c =
    let words = c.args.words.now in
    let rest : take (length words - c.args.at) (drop c.args.at words) ≡ drop c.args.at words = between_to_end words c.args.at (length words) (omega arith) in
    sym (ap (place_of c.args.option c.args.at) (is_value c.value_in.result _ _ c.value_in.ensures.value c.in-Some.is))
    ∙ ap (λ ws. place_of c.args.option c.args.at (value_of (map string_bytes ws))) rest

pub returns-in-None-clause-value : goal.returns-in-None-clause-value
returns-in-None-clause-value c =
    let words = c.args.words.now in
    let rest : take (length words - c.args.at) (drop c.args.at words) ≡ drop c.args.at words = between_to_end words c.args.at (length words) (omega arith) in
    sym (ap (place_of c.args.option c.args.at) (is_no_value c.value_in.result _ c.value_in.ensures.value c.in-None.is))
    ∙ ap (λ ws. place_of c.args.option c.args.at (value_of (map string_bytes ws))) rest
