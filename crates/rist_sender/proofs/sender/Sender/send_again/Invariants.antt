-- the numbers so far were answered
use Rattle.std.proofs.Common.{◌≡◌, ◌≤◌, ◌+◌, false, length}
use Rattle.rist_sender.specs.History.{effective_time}
use Rattle.rist_sender.specs.Calls.{Work}
use Rattle.rist_sender.specs.Sender.{IsSenderAfter, StaysSet, DoesWork}
use Rattle.rist_sender.specs.Inside.Puts.{AnswersBefore}
use Rattle.rist_sender.proofs.sender.Sender.send_again.Given as goal

abbrev pub invariant-loop-asked : goal.invariant-loop-asked
invariant-loop-asked g l = record {
  same : length l.links ≡ length l.initial.links;
  set : StaysSet l.initial.self l.self;
  few : l.count + l.left ≤ 256;
  does : (from : Work) → IsSenderAfter l.initial.self from → from.is_short ≡ false
      → DoesWork (record { taken = g.L.Link.taken; knows = g.L.Link.knows; faults = g.L.Link.faults; reads = g.L.Link.reads; ends = g.L.Link.ends })
      l.initial.self l.self l.initial.links l.links from
      (AnswersBefore l.initial.self.store.size l.initial.self.hold (effective_time from.history) l.link l.count l.left l.numbers l.initial.numbers from);
}

abbrev pub decreases-loop-asked : goal.decreases-loop-asked
decreases-loop-asked g l = length l.numbers
