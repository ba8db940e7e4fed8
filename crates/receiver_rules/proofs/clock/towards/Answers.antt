-- The nearest to the transit that lies within the step.
use Rattle.std.proofs.Common.{pos, ◌∙◌, ap, rules, FitsSigned, w64}
use Rattle.std.specs.Prelude.{◌+ℤ◌, ◌-ℤ◌}
use Rattle.std.proofs.lemmas.Int.{to_z-of_z}
use Rattle.receiver_rules.proofs.ClockLemmas.{same_clamp}
use mir.Val.{to_z, of_z}
use Rattle.receiver_rules.proofs.clock.towards.Goals as goal

pub returns : goal.returns
returns c =
    let low : FitsSigned w64 (c.args.base -ℤ pos 9) = search rules in
    let high : FitsSigned w64 (c.args.base +ℤ pos 9) = search rules in
    let fits : FitsSigned w64 c.clamp.result = search rules in
    let base = to_z-of_z w64 c.args.base c.ranges.base in
    to_z-of_z w64 c.clamp.result fits
    ∙ c.clamp.ensures.value
    ∙ same_clamp
    (ap (λ z. to_z w64 (of_z w64 (z -ℤ pos 9))) base ∙ to_z-of_z w64 (c.args.base -ℤ pos 9) low)
    (to_z-of_z w64 c.args.transit c.ranges.transit)
    (ap (λ z. to_z w64 (of_z w64 (z +ℤ pos 9))) base ∙ to_z-of_z w64 (c.args.base +ℤ pos 9) high)
