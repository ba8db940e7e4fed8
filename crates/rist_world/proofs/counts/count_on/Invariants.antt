use Rattle.std.proofs.Common.{◌≡◌}
use Rattle.std.specs.List.{count_by, range_with_len}
use Rattle.rist_ends.specs.Counts.{capped}
use Rattle.rist_world.specs.Counted.{lost_at, resent_at}
use Rattle.rist_world.proofs.counts.count_on.Given as goal

abbrev pub invariant-loop-place : goal.invariant-loop-place
invariant-loop-place l = record {
  lost : l.lost ≡ capped (count_by (lost_at l.world l.link) (range_with_len 0 l.place));
  resent : l.resent ≡ capped (count_by (resent_at l.world l.link) (range_with_len 0 l.place));
}
