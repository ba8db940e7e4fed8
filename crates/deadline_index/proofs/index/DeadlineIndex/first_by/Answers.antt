-- None was due up to the place that was looked at, and none behind it where no group is.
use Rattle.std.proofs.Common.{length, subst, sym, ap, ◌∙◌, arith}
use Rattle.deadline_index.specs.Inside.Levels.{IsNoneIn, IsFirstIn}
use Rattle.deadline_index.proofs.NearLemmas.{first_after, none_after}
use Rattle.deadline_index.proofs.index.DeadlineIndex.first_by.Goals as goal

pub returns-in-Some-clause-some : goal.returns-in-Some-clause-some
returns-in-Some-clause-some c =
    first_after c.args.self.now c.args.start c.loop-next.next c.group_end-end.result c.args.tick c.in-Some.place c.loop-next.invariant.0
    (omega (arith, c.group_end-end.ensures, c.len-places.ensures ∙ sym c.deref.ensures.len ∙ ap length (c.deref.ensures.value ∙ c.self.view_is)))
    c.loop-next.invariant.1
    (subst (λ xs. IsFirstIn xs 0 c.loop-next.next c.group_end-end.result c.args.tick c.in-Some.place) (c.deref.ensures.value ∙ c.self.view_is) c.in-Some.ensures.some)

pub returns-then-end-places-clause-none : goal.returns-then-end-places-clause-none
returns-then-end-places-clause-none c =
    none_after c.args.self.now c.args.start c.loop-next.next c.group_end-end.result c.args.tick c.loop-next.invariant.1
    (subst (λ xs. IsNoneIn xs 0 c.loop-next.next c.group_end-end.result c.args.tick) (c.deref.ensures.value ∙ c.self.view_is) c.in_default.ensures.none)
    (λ place above there. absurd (omega (arith, above, there, c.if-end-places.true, c.len-places.ensures ∙ sym c.deref.ensures.len ∙ ap length (c.deref.ensures.value ∙ c.self.view_is))))

pub returns-in-None-clause-none : goal.returns-in-None-clause-none
returns-in-None-clause-none c =
    none_after c.args.self.now c.args.start c.loop-next.next c.group_end-end.result c.args.tick c.loop-next.invariant.1
    (subst (λ xs. IsNoneIn xs 0 c.loop-next.next c.group_end-end.result c.args.tick) (c.deref.ensures.value ∙ c.self.view_is) c.in_default.ensures.none)
    (λ place above there. c.in-None.ensures.none place there (omega arith))
