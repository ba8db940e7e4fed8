-- Levels of equal ticks.
use Rattle.std.proofs.Common.{◌≡◌, ◌-◌, ◌^◌, replicate, rules, subst, sym}
use Rattle.deadline_index.specs.Inside.Levels.{AreLevels}
use Rattle.deadline_index.proofs.LevelLemmas.{never_levels, some_levels}
use Rattle.deadline_index.proofs.groups.Groups.with_count.Goals as goal

pub invariant_of-result : goal.invariant_of-result
invariant_of-result c =
    let all : c.resize.new.self.items ≡ replicate c.in-Some.total (2 ^ 64 - 1) = search rules in
    subst (AreLevels c.level_count.result 0 c.args.count) (sym all) (some_levels c.level_count.result c.args.count _ c.level_count.ensures (never_levels c.args.count c.in-Some.total (2 ^ 64 - 1) (search rules)))
