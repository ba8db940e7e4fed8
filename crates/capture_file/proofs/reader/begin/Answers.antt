use Rattle.std.proofs.Common.{true≢false, refl, arith, ◌≢◌, sym, ap₂, ◌∙◌, not}
use Rattle.std.specs.Cmp.Lexicographic.{pointwise}
use Rattle.std.proofs.Math.Dec.{eqb}
use Rattle.capture_file.proofs.ReadingLemmas.{no_name_short, no_name_other}
use Rattle.capture_file.specs.Capture.{magic}
use Rattle.capture_file.proofs.reader.begin.Goals as goal

pub returns-then-count-lt8-clause-value : goal.returns-then-count-lt8-clause-value
returns-then-count-lt8-clause-value g c =
    let e = c.in-Ok.ensures in
    (refl, refl, no_name_short _ _ _ e.ok (e.end c.if-count-lt8.true) (omega (arith, e.size.0, c.if-count-lt8.true)))

pub returns-then-ne-clause-value : goal.returns-then-ne-clause-value
returns-then-ne-clause-value g c =
    let e = c.in-Ok.ensures in
    let other : c.take.new.self.taken ≢ magic = λ same.
    true≢false (sym c.if-ne.true ∙ c.ne.ensures ∙ ap₂ (λ a b. not (pointwise eqb a b)) (c.taken.ensures.value ∙ same) c.as_slice.ensures) in
    (refl, refl, no_name_other _ _ _ e.ok (omega (arith, e.size, c.if-count-lt8.false)) other)
