-- What is found a level higher says which group to look at.
use Rattle.std.proofs.Common.{rules, ◌+◌, ◌-◌, ◌<◌, inl, inr, sym, subst, arith}
use Rattle.std.proofs.lemmas.Bool.{cases_lt}
use Rattle.deadline_index.specs.Inside.Levels.{AreLevels}
use Rattle.deadline_index.proofs.LevelLemmas.{inside, parted}
use Rattle.deadline_index.proofs.SearchLemmas.{none_of_groups}
use Rattle.deadline_index.proofs.levels.+first_by.Goals as goal

pub first_in-requires : goal.first_in-requires
first_in-requires t c =
    let room = inside c.args.levels c.args.at c.args.len c.args.all.now c.requires.levels in
    record { within = omega (arith, c.group_end-end.ensures) }

pub overflow_add-at : goal.overflow_add-at
overflow_add-at t c =
    let room = inside c.args.levels c.args.at c.args.len c.args.all.now c.requires.levels in
    let long = c.well_formed.0 in
    omega arith

pub first_by-requires : goal.first_by-requires
first_by-requires t c =
    let some : 0 < c.args.levels = search rules in (
      omega (arith, c.decreases),
      subst (λ n. AreLevels (c.args.levels - 1) (c.args.at + c.args.len) n c.args.all.now) (sym c.group_count.ensures) (parted c.args.levels c.args.at c.args.len c.args.all.now some c.requires.levels).1,
    )

pub loop-next-preserved : goal.loop-next-preserved
loop-next-preserved t c =
    let some : 0 < c.args.levels = search rules in
    let within = c.loop-next-test.true in
    let end = c.group_end-end.ensures in
    let on = c.if-end-len.false in
    let start = c.loop-next.invariant.0 in
    let found = c.in-Some-first_by.ensures.some in
    let low = found.low in
    let below = found.below in
    let count = c.group_count.ensures in (
      omega arith,
      λ k above under.
          elim (cases_lt k c.loop-next.next) [
            | inl before ↦ c.loop-next.invariant.1 k above before
            | inr from ↦
                elim (cases_lt k c.group_end-end.result) [
                  | inl near ↦ c.in_default.ensures.none k from near
                  | inr far ↦ none_of_groups c.args.at c.args.len c.args.all.now _ _ c.args.tick (parted c.args.levels c.args.at c.args.len c.args.all.now some c.requires.levels).0 found.first k (omega arith) (omega arith) (omega arith)
                ]
          ],
    )

pub returns-in-None-clause-none : goal.returns-in-None-clause-none
returns-in-None-clause-none t c k above under =
    let some : 0 < c.args.levels = search rules in
    let within = c.loop-next-test.true in
    let end = c.group_end-end.ensures in
    let on = c.if-end-len.false in
    let count = c.group_count.ensures in
    elim (cases_lt k c.loop-next.next) [
      | inl before ↦ c.loop-next.invariant.1 k above before
      | inr from ↦
          elim (cases_lt k c.group_end-end.result) [
            | inl near ↦ c.in_default.ensures.none k from near
            | inr far ↦ none_of_groups c.args.at c.args.len c.args.all.now _ _ c.args.tick (parted c.args.levels c.args.at c.args.len c.args.all.now some c.requires.levels).0 c.in-None.ensures.none k under (omega arith) (omega arith)
          ]
    ]
