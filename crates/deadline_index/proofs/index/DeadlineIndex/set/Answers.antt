-- The group of the place is the near one now.
use Rattle.std.proofs.Common.{◌≡◌, ◌+◌, ◌*◌, ◌/◌, ◌-◌, ◌^◌, ◌<◌, List, ℕ, length, min, subst, sym, ap, ◌∙◌, arith}
use Rattle.std.specs.Prelude.{slice_set}
use Rattle.deadline_index.specs.Inside.Levels.{IsLeastIn}
use Rattle.deadline_index.specs.Inside.Near.{IsNearAt}
use Rattle.deadline_index.specs.declared.index.DeadlineIndex.TheInside.{Inside}
use Rattle.deadline_index.proofs.NearLemmas.{raised_near, raised_far}
use Rattle.deadline_index.proofs.index.DeadlineIndex.set.Goals.{then-group-self, else-group-self}
use Rattle.deadline_index.proofs.index.DeadlineIndex.set.Goals as goal

-- the least of the place's group, among the ticks after the change
least_after : (c : goal.After-self-then-before-tick-1) (ticks : List ℕ) → c.if-group-self.self-inside.ticks.items ≡ ticks
    → IsLeastIn ticks 0 (8 * (c.args.place / 8)) (min (8 * (c.args.place / 8) + 8) (length ticks)) c.least_of_group-self-inside.result
least_after c ticks is =
    subst (λ xs. IsLeastIn xs 0 (8 * (c.args.place / 8)) (min (8 * (c.args.place / 8) + 8) (length xs)) c.least_of_group-self-inside.result) (c.deref.ensures.value ∙ is)
    (subst (λ n. IsLeastIn c.deref.result.now 0 (8 * (c.args.place / 8)) (min (8 * (c.args.place / 8) + 8) n) c.least_of_group-self-inside.result) (c.len.ensures ∙ sym c.deref.ensures.len) c.least_of_group-self-inside.ensures)

pub invariant_of-self : goal.invariant_of-self
invariant_of-self c =
    let there : c.args.place < length c.self.inside.ticks.items = omega (arith, c.requires, ap length c.self.view_is) in
    elim c.if-group-self.branch [
      | then-group-self w ↦
          let same = w.set-then-group-self.ensures.value ∙ ap (λ groups. slice_set groups (c.args.place / 8) (2 ^ 64 - 1)) w.set.ensures.value in
          subst (λ (s : Inside). IsNearAt s.ticks.items s.groups s.near c.least_of_group-self-inside.result s.far_least) (sym w.self-inside-is)
          (subst (λ groups. IsNearAt (slice_set c.self.inside.ticks.items c.args.place c.args.tick) groups (c.args.place / 8) c.least_of_group-self-inside.result w.least-self-inside.result) (sym same)
          (raised_far c.self.inside.ticks.items c.self.inside.groups c.self.inside.near c.self.inside.near_least c.self.inside.far_least c.args.place c.args.tick c.least_of_group-self-inside.result w.least-self-inside.result _ c.self.invariant there w.if-group-self.true
          (least_after c _ (ap (λ (s : Inside). s.ticks.items) w.self-inside-is))
          (subst (λ groups. IsLeastIn groups 0 0 (length groups) w.least-self-inside.result) same w.least-self-inside.ensures)))
      | else-group-self w ↦
          subst (λ (s : Inside). IsNearAt s.ticks.items s.groups s.near c.least_of_group-self-inside.result s.far_least) (sym w.self-inside-is)
          (raised_near c.self.inside.ticks.items c.self.inside.groups c.self.inside.near c.self.inside.near_least c.self.inside.far_least c.args.place c.args.tick c.least_of_group-self-inside.result c.self.invariant there w.if-group-self.false
          (least_after c _ (ap (λ (s : Inside). s.ticks.items) w.self-inside-is)))
    ]
