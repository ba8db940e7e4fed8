-- The parts before the rest were sent.
use Rattle.std.proofs.Common.{◌≡◌, ◌≤◌, length}
use Rattle.sender_rules.specs.Bonding.{link_count}
use Rattle.rist_sender.specs.Sender.{StaysSet}
use Rattle.rist_gateway.specs.Course.{Course}
use Rattle.rist_gateway.specs.Onward.{passed_of}
use Rattle.rist_gateway.specs.Inside.Moves.{setup_with, IsFar, Goes, SendsBefore}
use Rattle.rist_gateway.proofs.cuts.send_parts.Given as goal

abbrev pub invariant-loop-rest : goal.invariant-loop-rest
invariant-loop-rest g l = record {
  stay : StaysSet l.initial.sender l.sender;
  same : length l.links ≡ length l.initial.links;
  links : length l.links ≡ link_count l.sender.bonding;
  few : length l.links ≤ 16;
  work : (from : Course) → IsFar (record { reads = g.L.Link.reads; taken = g.L.Link.taken; knows = g.L.Link.knows; ends = g.L.Link.ends; faults = g.L.Link.faults }) l.initial.sender (passed_of (g.C.Clock.moments l.initial.clock) l.initial.handed) l.initial.links from
      → Goes (record { reads = g.L.Link.reads; taken = g.L.Link.taken; knows = g.L.Link.knows; ends = g.L.Link.ends; faults = g.L.Link.faults }) l.initial.sender l.sender (passed_of (g.C.Clock.moments l.clock) l.handed) l.initial.links l.links from
      (SendsBefore (setup_with l.initial.sender (length l.initial.links)) l.piece l.rest from);
}

abbrev pub decreases-loop-rest : goal.decreases-loop-rest
decreases-loop-rest g l = length l.rest
