use Rattle.std.proofs.Common.{ℕ, sym, subst, arith}
use Rattle.std.proofs.lemmas.Bool.Decides.{nat_tests}
use Rattle.ts_nulls.specs.Shape.{IsShape}
use Rattle.rist_ext.proofs.CountedLemmas.{moved}
use Rattle.rist_ext.proofs.counted.nulls_by.Goals as goal

pub returns-then-bits-units-clause-value : goal.returns-then-bits-units-clause-value
returns-then-bits-units-clause-value c =
    let m = (moved c.args.units c.args.bits c.requires.some c.requires.few (omega (arith, c.if-bits-units.true))).same in
    grind (arith, nat_tests)

pub returns-then-bits-units-clause-shape : goal.returns-then-bits-units-clause-shape
returns-then-bits-units-clause-shape c =
    let m = moved c.args.units c.args.bits c.requires.some c.requires.few (omega (arith, c.if-bits-units.true)) in
    subst (λ (n : ℕ). IsShape c.args.units n) (sym m.same) m.shape
