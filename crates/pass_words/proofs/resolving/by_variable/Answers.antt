use Rattle.std.proofs.Common.{◌∙◌, ap, inr, map, string_bytes, sym}
use Rattle.pass_words.specs.Options.{takes_variable}
use Rattle.pass_words.proofs.resolving.by_variable.Goals as goal

pub returns-in_ok-with_variable-in-Ok-clause-placed : goal.returns-in_ok-with_variable-in-Ok-clause-placed
returns-in_ok-with_variable-in-Ok-clause-placed g c =
    inr (
      sym (c.takes_variable.ensures.value ∙ ap (λ ws. takes_variable (map string_bytes ws)) c.as_slice.ensures.value) ∙ c.if-not-takes_variable.false,
      (c.in_ok-word-in-Ok.word, (c.as_str.result.now, c.in_ok-word-in-Ok.ensures), c.in_ok-with_variable-in-Ok.ensures),
    )
