-- The nearer of what the groups find and of the near group.
use Rattle.std.proofs.Common.{ℕ, length, subst, arith}
use Rattle.deadline_index.specs.Inside.Levels.{IsNoneIn}
use Rattle.deadline_index.specs.Inside.Near.{IsNearAt}
use Rattle.deadline_index.proofs.SearchLemmas.{some_as, none_as}
use Rattle.deadline_index.proofs.NearLemmas.{IsNoneNear, first_far, none_far, first_near}
use Rattle.deadline_index.proofs.index.DeadlineIndex.first_group.Goals.{then-self-start-via-then-self-start, then-self-start-via-else-self-start+then-tick-self}
use Rattle.deadline_index.proofs.index.DeadlineIndex.first_group.Goals.{in_default-via-in-Some+else-group-self, in_default-via-in_default}
use Rattle.deadline_index.proofs.index.DeadlineIndex.first_group.Goals as goal

-- the near places don't come, or aren't due
none_near : (c : goal.Joined-then-self-start) (end : ℕ) → IsNoneNear c.args.self.now c.self.inside.near c.args.start end c.args.tick
none_near c end k low above below e = elim c.then-self-start.branch [
  | then-self-start-via-then-self-start w ↦ absurd (let before = w.if-self-start.true in omega (arith, before, above, e))
  | then-self-start-via-else-self-start+then-tick-self w ↦
      let least = (subst (λ ticks. IsNearAt ticks c.self.inside.groups c.self.inside.near c.self.inside.near_least c.self.inside.far_least) c.self.view_is c.self.invariant).here k low e in
      let soon = w.if-tick-self.true in
      omega (arith, least, soon)
]

pub returns-then-self-start-clause-some : goal.returns-then-self-start-clause-some
returns-then-self-start-clause-some c =
    some_as (λ group f.
    first_far c.args.self.now c.self.inside.groups c.self.inside.near c.self.inside.near_least c.self.inside.far_least c.args.start c.args.tick group (subst (λ ticks. IsNearAt ticks c.self.inside.groups c.self.inside.near c.self.inside.near_least c.self.inside.far_least) c.self.view_is c.self.invariant) f (none_near c group))
    c.first_by-far.result c.first_by-far.ensures.some

pub returns-then-self-start-clause-none : goal.returns-then-self-start-clause-none
returns-then-self-start-clause-none c =
    none_as (λ none.
    none_far c.args.self.now c.self.inside.groups c.self.inside.near c.self.inside.near_least c.self.inside.far_least c.args.start c.args.tick (subst (λ ticks. IsNearAt ticks c.self.inside.groups c.self.inside.near c.self.inside.near_least c.self.inside.far_least) c.self.view_is c.self.invariant) none (none_near c (length c.self.inside.groups)))
    c.first_by-far.result c.first_by-far.ensures.none

pub returns-in-Some-clause-some : goal.returns-in-Some-clause-some
returns-in-Some-clause-some c =
    first_far c.args.self.now c.self.inside.groups c.self.inside.near c.self.inside.near_least c.self.inside.far_least c.args.start c.args.tick c.in-Some.group (subst (λ ticks. IsNearAt ticks c.self.inside.groups c.self.inside.near c.self.inside.near_least c.self.inside.far_least) c.self.view_is c.self.invariant) c.in-Some.ensures.some
    (λ k low above below e. absurd (let before = c.if-group-self.true in omega (arith, before, below, e)))

pub returns-in_default-clause-some : goal.returns-in_default-clause-some
returns-in_default-clause-some c =
    let there = c.self.invariant.there in
    let none : IsNoneIn c.self.inside.groups 0 c.args.start c.self.inside.near c.args.tick = λ g low high. elim c.in_default.branch [
      | in_default-via-in-Some+else-group-self w ↦ w.in-Some.ensures.some.first g low (let after = w.if-group-self.false in omega (arith, after, high))
      | in_default-via-in_default w ↦ w.in_default.ensures.none g low (omega (arith, there, high))
    ] in
    first_near c.args.self.now c.self.inside.groups c.self.inside.near c.self.inside.near_least c.self.inside.far_least c.args.start c.args.tick (subst (λ ticks. IsNearAt ticks c.self.inside.groups c.self.inside.near c.self.inside.near_least c.self.inside.far_least) c.self.view_is c.self.invariant) (let after = c.if-self-start.false in omega (arith, after)) none
