-- what was written so far, and what is left to write, are together what was to be written; the floor is that of what is left
use Rattle.std.proofs.Common.{◌≡◌, length}
use Rattle.receiver_rules.specs.Packets.{IsRising}
use Rattle.receiver_rules.specs.Seen.{moment_of}
use Rattle.reorder_buffer.specs.Inside.Release.{floor_from}
use Rattle.reorder_buffer.proofs.WriteLemmas.{Writes}
use Rattle.reorder_buffer.proofs.release.put_due.Given as goal

abbrev pub invariant-loop-until : goal.invariant-loop-until
invariant-loop-until g l =
    Writes (floor_from l.fn.from (moment_of l.fn.until) l.fn.ring.packets) (g.K.Sink.contents l.fn.sink) (g.K.Sink.contents l.sink) l.fn.ring.packets l.ring.packets l.count
    × (g.K.Sink.faults l.sink ≡ g.K.Sink.faults l.fn.sink)
    × (l.ring.capacity ≡ l.fn.ring.capacity)
    × (floor_from l.fn.from (moment_of l.fn.until) l.fn.ring.packets ≡ floor_from l.floor (moment_of l.fn.until) l.ring.packets)
    × IsRising l.floor l.ring.packets

abbrev pub decreases-loop-until : goal.decreases-loop-until
decreases-loop-until g l = length l.ring.packets
