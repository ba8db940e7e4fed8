-- the links so far were tried
use Rattle.std.proofs.Common.{◌≡◌, ◌-◌, length}
use Rattle.std.specs.Prelude.{Option}
use Rattle.std.specs.List.{range_with_len}
use Rattle.psk_seal.specs.declared.sealer.Pair.{Pair}
use Rattle.sender_rules.specs.Sendings.{Packet}
use Rattle.rist_sender.specs.Messages.{Original}
use Rattle.rist_sender.specs.Calls.{Work}
use Rattle.rist_sender.specs.Sender.{IsSenderAfter, StaysSet, DoesWork}
use Rattle.rist_sender.specs.Inside.Puts.{IsPacketIn, SpreadsBefore}
use Rattle.rist_sender.proofs.sender.Sender.spread_over.Given as goal

abbrev pub invariant-loop-link : goal.invariant-loop-link
invariant-loop-link g l = record {
  same : length l.links ≡ length l.initial.links;
  set : StaysSet l.initial.self l.self;
  time : l.self.time ≡ l.initial.self.time;
  does : (from : Work) (packet : Packet) (pair : Option Pair) → IsSenderAfter l.initial.self from → IsPacketIn l.initial.self pair packet l.channel l.octets
      → DoesWork (record { taken = g.L.Link.taken; knows = g.L.Link.knows; faults = g.L.Link.faults; reads = g.L.Link.reads; ends = g.L.Link.ends })
      l.initial.self l.self l.initial.links l.links from
      (SpreadsBefore l.one l.initial.self.time pair (Original packet) (range_with_len l.link (l.end - l.link)) (range_with_len l.start (l.end - l.start)) from);
}
