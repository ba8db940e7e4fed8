-- No value of a line is a float.
use Rattle.std.proofs.Common.{ap, ◌∙◌, ◌++◌, ◌∷◌, []}
use Rattle.serde_json.specs.Written.{has_float, compact_text}
use Rattle.rist_show.specs.Origins.{origin_in}
use Rattle.rist_show.proofs.LineLemmas.{no_float}
use Rattle.rist_show.proofs.line.line.Goals as goal

pub returns : goal.returns
returns c = record {
  value = c.in_ok-push.ensures.items
      ∙ ap (λ text. text ++ 10 ∷ []) (c.in_ok-text.ensures.text (ap has_float c.in_ok-value.ensures.value ∙ no_float (origin_in c.args.head.now) c.args.item.now)
      ∙ ap compact_text c.in_ok-value.ensures.value);
}
