-- what the tick did on the links so far
use Rattle.std.proofs.Common.{◌≡◌, false, length}
use Rattle.rist_sender.specs.Calls.{Work}
use Rattle.rist_sender.specs.Sender.{IsSenderAfter, StaysSet, DoesWork, has_keepalives}
use Rattle.rist_sender.specs.Inside.Puts.{TicksBefore}
use Rattle.rist_sender.proofs.sender.Sender.tick_links.Given as goal

abbrev pub invariant-loop-link : goal.invariant-loop-link
invariant-loop-link g l = record {
  same : length l.links ≡ length l.initial.links;
  set : StaysSet l.initial.self l.self;
  does : (from : Work) → IsSenderAfter l.initial.self from → from.is_short ≡ false
      → DoesWork (record { taken = g.L.Link.taken; knows = g.L.Link.knows; faults = g.L.Link.faults; reads = g.L.Link.reads; ends = g.L.Link.ends })
      l.initial.self l.self l.initial.links l.links from (TicksBefore (has_keepalives l.initial.self.session.profile) l.us l.link (length l.initial.links) from);
}
