use Rattle.std.proofs.Common.{◌∙◌, ap, map, string_bytes, subst}
use Rattle.pass_words.specs.Options.{pass_file_of}
use Rattle.pass_words.specs.Placing.{IsPlaced}
use Rattle.pass_words.proofs.OptionLemmas.{place_is}
use Rattle.pass_words.proofs.resolving.with_file.Goals as goal

pub returns-in_ok-with_word-in-Ok-Some-clause-placed : goal.returns-in_ok-with_word-in-Ok-Some-clause-placed
returns-in_ok-with_word-in-Ok-Some-clause-placed g c =
    subst (λ place. IsPlaced c.args.option place c.args.words.items c.in_ok-with_word-in-Ok-Some.field-0.items)
    (place_is c.pass_file.result c.in-Ok-Some.field-0 c.in-Ok-Some.file _
    (c.pass_file.ensures.value ∙ ap (λ ws. pass_file_of c.args.option (map string_bytes ws)) c.as_slice.ensures.value) c.in-Ok-Some.is c.in-Ok-Some.field-0-is)
    (c.in_ok-word-in-Ok-Some.word, c.in_ok-word-in-Ok-Some.ensures.some, c.in_ok-with_word-in-Ok-Some.ensures)
