use Rattle.std.proofs.Common.{◌≡◌}
use Rattle.std.specs.List.{sum_by, range_with_len}
use Rattle.rist_ends.specs.Counts.{capped}
use Rattle.rist_world.specs.Counted.{lost_at, resent_at, count_on}
use Rattle.rist_world.proofs.counts.count_all.Given as goal

abbrev pub invariant-loop-link : goal.invariant-loop-link
invariant-loop-link l = record {
  lost : l.lost ≡ capped (sum_by (count_on l.world (lost_at l.world)) (range_with_len 0 l.link));
  resent : l.resent ≡ capped (sum_by (count_on l.world (resent_at l.world)) (range_with_len 0 l.link));
}
