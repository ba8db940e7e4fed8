-- The turns that were made.
use Rattle.std.proofs.Common.{◌≡◌, ◌<◌, ◌≤◌, ◌+◌, ◌*◌, ◌-◌}
use Rattle.rist_desk.specs.Turns.{Feed}
use Rattle.rist_desk.specs.Work.{holds}
use Rattle.rist_desk.specs.Serving.{IsFeed}
use Rattle.rist_desk.specs.Inside.Going.{IsGoing}
use Rattle.rist_desk.proofs.serving.all_turns.Given as goal

abbrev pub invariant-turns : goal.invariant-turns
invariant-turns g l = record {
  within : l.made < l.limits.turns;
  desk : l.access.desk.now ≡ l.desk;
  own : g.S.Flows.owns l.desk l.place l.worker.trace;
  left : 2 * l.limits.turns ≤ g.S.Flows.good_for l.worker.trace + 2 * l.made;
  session : l.worker.opener ≡ l.initial.worker.opener;
  ends : g.L.Link.ends l.worker.link ≡ g.L.Link.ends l.initial.worker.link;
  faults : g.L.Link.faults l.worker.link ≡ g.L.Link.faults l.initial.worker.link;
  going : (f : Feed) → IsFeed f l.initial.worker.opener l.place l.limits (g.C.Clock.moments l.initial.worker.clock) (g.L.Link.reads l.initial.worker.link) (g.L.Link.knows l.initial.worker.link)
      → IsGoing g.S.Flows.work f l.made (g.L.Link.knows l.worker.link) (g.C.Clock.moments l.worker.clock) (g.L.Link.reads l.worker.link)
      (holds (g.S.Flows.tells.told l.initial.worker.trace) (g.L.Link.taken l.initial.worker.link)) (holds (g.S.Flows.tells.told l.worker.trace) (g.L.Link.taken l.worker.link)) l.pace.ticked l.pace.since;
}

abbrev pub decreases-turns : goal.decreases-turns
decreases-turns g l = l.limits.turns - l.made
