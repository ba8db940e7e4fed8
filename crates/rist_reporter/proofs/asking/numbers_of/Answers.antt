use Rattle.std.proofs.Common.{rules, ap, sym, ◌∙◌, ◌+◌, length}
use Rattle.request_rules.specs.Words.{numbers_in}
use Rattle.rist_reporter.proofs.AskingLemmas.{range_numbers, mask_numbers}
use Rattle.rist_reporter.proofs.asking.numbers_of.Goals as goal

pub returns-in-Range-clause-value : goal.returns-in-Range-clause-value
returns-in-Range-clause-value c =
    ap (λ n. 1 + n) c.from.ensures ∙ range_numbers c.args.word.now ∙ ap (λ k. length (numbers_in k c.args.word.now)) (sym c.in-Range.is)

pub returns-in-Mask-clause-value : goal.returns-in-Mask-clause-value
returns-in-Mask-clause-value c =
    ap (λ n. 1 + n) c.from-in-Mask.ensures ∙ mask_numbers c.args.word.now (search rules) ∙ ap (λ k. length (numbers_in k c.args.word.now)) (sym c.in-Mask.is)
