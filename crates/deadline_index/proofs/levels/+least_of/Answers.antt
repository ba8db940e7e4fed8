-- What the level above says.
use Rattle.std.proofs.Common.{◌+◌, ◌-◌, ◌/◌, sym, subst, arith}
use Rattle.deadline_index.specs.Inside.Levels.{AreLevels}
use Rattle.deadline_index.proofs.LevelLemmas.{inside, parted}
use Rattle.deadline_index.proofs.levels.+least_of.Goals as goal

pub least_in-requires : goal.least_in-requires
least_in-requires t c = record { within = inside c.args.levels c.args.at c.args.len c.args.all.now c.requires }

pub overflow_add-at : goal.overflow_add-at
overflow_add-at t c =
    let room = inside c.args.levels c.args.at c.args.len c.args.all.now c.requires in
    let long = c.well_formed.0 in
    omega arith

pub least_of-requires : goal.least_of-requires
least_of-requires t c =
    let some = c.if-levels-eq0.false in (
      omega (arith, c.decreases),
      subst (λ n. AreLevels (c.args.levels - 1) (c.args.at + c.args.len) n c.args.all.now) (sym c.group_count.ensures) (parted c.args.levels c.args.at c.args.len c.args.all.now (omega arith) c.requires).1,
    )

pub returns-else-levels-eq0 : goal.returns-else-levels-eq0
returns-else-levels-eq0 t c k low high =
    let some = c.if-levels-eq0.false in
    let least = (parted c.args.levels c.args.at c.args.len c.args.all.now (omega arith) c.requires).0.least k high in
    let above = c.least_of.ensures (k / 8) (omega arith) (omega (arith, c.group_count.ensures)) in
    omega (arith, least, above)
