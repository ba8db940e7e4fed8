use Rattle.std.proofs.Common.{◌≡◌}
use Rattle.rist_world.proofs.MarkLemmas.{AreMadeBelow}
use Rattle.rist_world.proofs.marks.mark_all.Given as goal

abbrev pub invariant-loop-link : goal.invariant-loop-link
invariant-loop-link l = record {
  marks : AreMadeBelow l.fn.opener l.fn.media l.wires l.media l.link;
  same : l.opener ≡ l.fn.opener;
}
