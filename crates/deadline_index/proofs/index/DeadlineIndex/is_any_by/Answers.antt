-- A search from the first place on decides, where the bounds don't.
use Rattle.std.proofs.Common.{◌≡◌, ◌<◌, nat_le, false, sym, ◌∙◌, subst, arith}
use Rattle.std.proofs.lemmas.Bool.Decides.{nat_tests}
use Rattle.deadline_index.specs.Inside.Near.{IsNearAt}
use Rattle.deadline_index.proofs.SearchLemmas.{none_any, any_by}
use Rattle.deadline_index.proofs.NearLemmas.{none_by}
use Rattle.deadline_index.proofs.index.DeadlineIndex.is_any_by.Goals.{then-self-tick, else-self-tick}
use Rattle.deadline_index.proofs.index.DeadlineIndex.is_any_by.Goals as goal

pub returns-then-self-tick-2 : goal.returns-then-self-tick-2
returns-then-self-tick-2 c = c.is_some.ensures ∙ any_by c.args.tick c.args.self.now c.first_by.result c.first_by.ensures.some c.first_by.ensures.none

-- the tick is below both bounds
bounds : (c : goal.Else-self-tick-2) → (c.args.tick < c.self.inside.near_least) × (c.args.tick < c.self.inside.far_least)
bounds c = elim c.if-self-tick.branch [
  | then-self-tick w ↦ let due : nat_le c.self.inside.near_least c.args.tick ≡ false = sym w.value-is ∙ c.if-self-tick-2.false in absurd (let is = w.if-self-tick.true in grind (arith, nat_tests))
  | else-self-tick w ↦
      let soon = w.if-self-tick.false in
      let due : nat_le c.self.inside.far_least c.args.tick ≡ false = sym w.value-is ∙ c.if-self-tick-2.false in
      (soon, grind (arith, nat_tests))
]

pub returns-else-self-tick-2 : goal.returns-else-self-tick-2
returns-else-self-tick-2 c =
    c.if-self-tick-2.false
    ∙ sym (none_any c.args.tick c.args.self.now
    (λ place low there. none_by c.args.self.now c.self.inside.groups c.self.inside.near c.self.inside.near_least c.self.inside.far_least c.args.tick place (subst (λ ticks. IsNearAt ticks c.self.inside.groups c.self.inside.near c.self.inside.near_least c.self.inside.far_least) c.self.view_is c.self.invariant) (bounds c).0 (bounds c).1 there))
