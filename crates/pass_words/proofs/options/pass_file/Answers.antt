use Rattle.std.proofs.Common.{◌∙◌, ap, string_bytes, sym}
use Rattle.std.proofs.lemmas.List.{drop-map}
use Rattle.pass_words.specs.Options.{place_of, value_of}
use Rattle.pass_words.proofs.OptionLemmas.{pass_file_is}
use Rattle.pass_words.proofs.options.pass_file.Goals as goal

pub returns-clause-value : goal.returns-clause-value
returns-clause-value c =
    c.file_in.ensures.value
    ∙ ap (λ ws. place_of c.args.option c.in-Some.at (value_of ws)) (sym (drop-map string_bytes c.in-Some.at c.args.words.now))
    ∙ sym (pass_file_is c.args.option _ c.in-Some.at (sym c.is_of_command.ensures.value ∙ c.if-not-is_of_command.false) (sym c.file_at.ensures.value ∙ c.in-Some.is)
    (sym c.pass_count.ensures ∙ c.if-pass_count-ne1.false))
