-- The link is as it was, whatever it was told.
use Rattle.std.proofs.Common.{◌≡◌}
use Rattle.rist_desk.specs.Links.{IsKept}
use Rattle.fan_desk.proofs.figures.tell_row.Given as goal

abbrev pub invariant-loop-v : goal.invariant-loop-v
invariant-loop-v g l = record {
  kept : IsKept g.L.Link.reads g.L.Link.ends g.L.Link.knows l.initial.link l.link;
  taken : g.L.Link.taken l.link ≡ g.L.Link.taken l.initial.link;
  faults : g.L.Link.faults l.link ≡ g.L.Link.faults l.initial.link;
}
