-- An entry that is no less than the one above it leaves the levels as they stand; else the one above gets the least of the
-- group.
use Rattle.std.proofs.Common.{◌≡◌, ◌+◌, ◌-◌, ◌/◌, refl, sym, ap, subst, arith}
use Rattle.std.proofs.lemmas.List.{length-set, get_or-set_same}
use Rattle.std.specs.Prelude.{slice_index, slice_set}
use Rattle.deadline_index.specs.Inside.Levels.{group_count, AreLevels}
use Rattle.deadline_index.proofs.LevelLemmas.{inside, parted, whole, top, kept, stands, elsewhere, recovered}
use Rattle.deadline_index.proofs.levels.+set_entry.Goals as goal

pub overflow_add-before : goal.overflow_add-before
overflow_add-before t c =
    let room = inside c.args.levels c.args.at c.args.len c.args.all.now c.requires.before in
    let entry = c.requires.entry in
    let long = c.well_formed.0 in
    omega arith

pub offset_bounds-all-at : goal.offset_bounds-all-at
offset_bounds-all-at t c =
    let room = inside c.args.levels c.args.at c.args.len c.args.all.now c.requires.before in
    let entry = c.requires.entry in
    let long = c.well_formed.0 in
    omega arith

pub bounds-all-at : goal.bounds-all-at
bounds-all-at t c =
    let room = inside c.args.levels c.args.at c.args.len c.args.all.now c.requires.before in
    let entry = c.requires.entry in
    omega arith

pub overflow_add-all : goal.overflow_add-all
overflow_add-all t c =
    let room = inside c.args.levels c.args.at c.args.len c.args.all.now c.requires.before in
    let entry = c.requires.entry in
    let long = c.well_formed.0 in
    omega arith

pub offset_bounds-all-at-2 : goal.offset_bounds-all-at-2
offset_bounds-all-at-2 t c =
    let room = inside c.args.levels c.args.at c.args.len c.args.all.now c.requires.before in
    let entry = c.requires.entry in
    let long = c.well_formed.0 in
    omega arith

pub bounds-all-at-2 : goal.bounds-all-at-2
bounds-all-at-2 t c =
    let room = inside c.args.levels c.args.at c.args.len c.args.all.now c.requires.before in
    let entry = c.requires.entry in
    omega arith

pub returns-then-levels-eq0-clause-levels : goal.returns-then-levels-eq0-clause-levels
returns-then-levels-eq0-clause-levels t c =
    let room = inside c.args.levels c.args.at c.args.len c.args.all.now c.requires.before in
    top c.args.levels c.args.at c.args.len _ c.if-levels-eq0.true (omega (arith, room, length-set c.args.all.now (c.args.at + c.args.entry) c.args.tick))

pub overflow_add-above : goal.overflow_add-above
overflow_add-above t c =
    let room = inside c.args.levels c.args.at c.args.len c.args.all.now c.requires.before in
    let long = c.well_formed.0 in
    omega arith

pub overflow_add-least : goal.overflow_add-least
overflow_add-least t c =
    let some = c.if-levels-eq0.false in
    let entry = c.requires.entry in
    let room = inside (c.args.levels - 1) (c.args.at + c.args.len) (group_count c.args.len) c.args.all.now (parted c.args.levels c.args.at c.args.len c.args.all.now (omega arith) c.requires.before).1 in
    let long = c.well_formed.0 in
    omega arith

pub offset_bounds-all-above : goal.offset_bounds-all-above
offset_bounds-all-above t c =
    let some = c.if-levels-eq0.false in
    let entry = c.requires.entry in
    let room = inside (c.args.levels - 1) (c.args.at + c.args.len) (group_count c.args.len) c.args.all.now (parted c.args.levels c.args.at c.args.len c.args.all.now (omega arith) c.requires.before).1 in
    let long = c.well_formed.0 in
    omega arith

pub bounds-all-above : goal.bounds-all-above
bounds-all-above t c =
    let some = c.if-levels-eq0.false in
    let entry = c.requires.entry in
    let room = inside (c.args.levels - 1) (c.args.at + c.args.len) (group_count c.args.len) c.args.all.now (parted c.args.levels c.args.at c.args.len c.args.all.now (omega arith) c.requires.before).1 in
    omega (arith, length-set c.args.all.now (c.args.at + c.args.entry) c.args.tick)

pub returns-then-least-before-clause-levels : goal.returns-then-least-before-clause-levels
returns-then-least-before-clause-levels t c =
    let some = c.if-levels-eq0.false in
    let entry = c.requires.entry in
    let low = c.if-least-tick.true in
    stands c.args.levels c.args.at c.args.len c.args.all.now c.args.entry c.args.tick (omega arith) entry c.requires.before
    (omega (arith, low, elsewhere c.args.all.now (c.args.at + c.args.entry) (c.args.at + c.args.len + c.args.entry / 8) c.args.tick (λ e. absurd (omega arith))))

pub least_now-now-requires-clause-within : goal.least_now-now-requires-clause-within
least_now-now-requires-clause-within t c =
    let room = inside c.args.levels c.args.at c.args.len c.args.all.now c.requires.before in
    omega (arith, length-set c.args.all.now (c.args.at + c.args.entry) c.args.tick)

pub least_now-now-requires-clause-others : goal.least_now-now-requires-clause-others
least_now-now-requires-clause-others t c k low same other =
    let some = c.if-levels-eq0.false in
    let entry = c.requires.entry in
    let old = (parted c.args.levels c.args.at c.args.len c.args.all.now (omega arith) c.requires.before).0.least k low in
    let group : slice_index c.args.all.now (c.args.at + c.args.len + k / 8) ≡ slice_index c.args.all.now (c.args.at + c.args.len + c.args.entry / 8) = ap (λ n. slice_index c.args.all.now (c.args.at + c.args.len + n)) same in
    omega (
      arith,
      old,
      group,
      elsewhere c.args.all.now (c.args.at + c.args.entry) (c.args.at + c.args.len + c.args.entry / 8) c.args.tick (λ e. absurd (omega arith)),
      elsewhere c.args.all.now (c.args.at + c.args.entry) (c.args.at + k) c.args.tick (λ e. other (omega arith)),
    )

pub returns-then-now-least-clause-levels : goal.returns-then-now-least-clause-levels
returns-then-now-least-clause-levels t c =
    let some = c.if-levels-eq0.false in
    let entry = c.requires.entry in
    let room = inside c.args.levels c.args.at c.args.len c.args.all.now c.requires.before in
    let low = c.least_now-now.ensures c.args.entry (omega arith) (omega arith) in
    let is = c.if-now-least.true in
    stands c.args.levels c.args.at c.args.len c.args.all.now c.args.entry c.args.tick (omega arith) entry c.requires.before
    (omega (
      arith,
      low,
      is,
      get_or-set_same c.args.all.now (c.args.at + c.args.entry) c.args.tick 0 (omega arith),
      elsewhere c.args.all.now (c.args.at + c.args.entry) (c.args.at + c.args.len + c.args.entry / 8) c.args.tick (λ e. absurd (omega arith)),
    ))

pub set_entry-requires : goal.set_entry-requires
set_entry-requires t c =
    let some = c.if-levels-eq0.false in
    let entry = c.requires.entry in (
      omega (arith, c.decreases),
      (
        omega (arith, c.group_count.ensures),
        subst (λ n. AreLevels (c.args.levels - 1) (c.args.at + c.args.len) n (slice_set c.args.all.now (c.args.at + c.args.entry) c.args.tick)) (sym c.group_count.ensures)
            (kept (c.args.levels - 1) (c.args.at + c.args.len) (group_count c.args.len) c.args.all.now (c.args.at + c.args.entry) c.args.tick (omega arith)
            (parted c.args.levels c.args.at c.args.len c.args.all.now (omega arith) c.requires.before).1),
      ),
    )

pub returns-clause-levels : goal.returns-clause-levels
returns-clause-levels t c =
    let some = c.if-levels-eq0.false in
    let entry = c.requires.entry in
    let p = parted c.args.levels c.args.at c.args.len c.args.all.now (omega arith) c.requires.before in
    let room = inside (c.args.levels - 1) (c.args.at + c.args.len) (group_count c.args.len) c.args.all.now p.1 in
    whole c.args.levels c.args.at c.args.len c.set_entry.new.all (omega arith)
    (recovered c.args.at c.args.len c.args.entry _ c.args.tick c.least_now-now.result c.args.all.now c.set_entry.new.all entry room p.0 refl c.least_now-now.ensures
    (λ i low. c.set_entry.ensures.value i (omega (arith, c.group_count.ensures))))
    (subst (λ n. AreLevels (c.args.levels - 1) (c.args.at + c.args.len) n c.set_entry.new.all) c.group_count.ensures c.set_entry.ensures.levels)
