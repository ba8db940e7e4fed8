-- What one arrival changes of what a plain program knows.
use Rattle.std.specs.Prelude.{◌≡◌, ℕ, ◌∷◌, ◌++◌, [], List, Bool, true, not, ◌&&◌, if◌then◌else◌, Option, Some, None}
use Rattle.std.specs.Prelude.{unwrap_or}
use Rattle.receiver_rules.specs.declared.limits.Limits.{Limits}
use Rattle.receiver_rules.specs.declared.verdict.Verdict.{Verdict}
use Rattle.receiver_rules.specs.declared.anchor.Anchor.{Anchor}
use Rattle.plain_rules.specs.declared.receiver.running.Run.{Run}
use Rattle.receiver_rules.specs.Steps.{Arrival}
use Rattle.receiver_rules.specs.Packets.{Packet, placed_packet, higher, highest_of, verdict_of, is_kept}
use Rattle.receiver_rules.specs.Packets.{insert_by_number}
use Rattle.receiver_rules.specs.Epochs.{opens_next, new_anchor}
use Rattle.receiver_rules.specs.Seen.{begun_clock, counted_clock}
use Rattle.receiver_rules.specs.declared.clock.Clock.{Clock}
use Rattle.plain_rules.specs.Receiver.Kept.{kept_packets}

-- a packet before those that were kept, where its verdict keeps it
abbrev pub kept_with : Verdict → Packet → List Packet → List Packet
kept_with verdict p packets = if is_kept verdict then p ∷ packets else packets

-- at its place among those in order, where its verdict keeps it
abbrev pub ordered_with : Verdict → Packet → List Packet → List Packet
ordered_with verdict p packets = if is_kept verdict then insert_by_number p packets else packets

-- only what is kept has changed
pub record SameButKept (old new : Run) : Type 0 where
  pub time : new.time ≡ old.time
  pub ended : new.has_ended ≡ old.has_ended
  pub anchor : new.anchor ≡ old.anchor
  pub clock : new.clock ≡ old.clock
  pub verdicts : new.verdicts.items ≡ old.verdicts.items
  pub over : new.over.items ≡ old.over.items

-- one more packet is kept
pub record IsKeptAfter (p : Packet) (old new : Run) : Type 0 where
  pub same : SameButKept old new
  pub highest : new.highest ≡ Some (higher p old.highest)
  pub kept : kept_packets new.kept.items ≡ p ∷ kept_packets old.kept.items
  pub ordered : kept_packets new.ordered.items ≡ insert_by_number p (kept_packets old.ordered.items)
  pub last : new.last ≡ old.time

-- an arrival opens an epoch, by what is known of the current one
abbrev pub opens_here : Limits → Option Anchor → List Packet → ℕ → ℕ → Arrival → Bool
opens_here limits None accepted last t arrival = true
opens_here limits (Some anchor) accepted last t arrival =
    opens_next limits (record { anchor = anchor; accepted = accepted; last = last; transits = [] }) t arrival

-- an arrival at the run's time opens an epoch
abbrev pub opens_now : Limits → Run → Arrival → Bool
opens_now limits run arrival = opens_here limits run.anchor (kept_packets run.kept.items) run.last run.time arrival

-- what is known before an arrival is judged: where it opens an epoch nothing is kept yet, and the epoch before it is
-- over
pub record IsTurned (opens : Bool) (old new : Run) : Type 0 where
  pub time : new.time ≡ old.time
  pub ended : new.has_ended ≡ old.has_ended
  pub verdicts : new.verdicts.items ≡ old.verdicts.items
  pub anchor : new.anchor ≡ (if opens then None else old.anchor)
  pub clock : new.clock ≡ old.clock
  pub kept : kept_packets new.kept.items ≡ (if opens then [] else kept_packets old.kept.items)
  pub ordered : kept_packets new.ordered.items ≡ (if opens then [] else kept_packets old.ordered.items)
  pub last : new.last ≡ (if opens then old.time else old.last)
  pub over : kept_packets new.over.items
      ≡ (if opens then kept_packets old.over.items ++ kept_packets old.ordered.items else kept_packets old.over.items)

-- what an arrival at the run's time is judged by
abbrev pub anchor_here : Run → Arrival → Anchor
anchor_here run arrival = unwrap_or run.anchor (new_anchor run.time arrival)

-- what its deadline counts from
abbrev pub clock_now : Run → Clock
clock_now run = begun_clock run.anchor run.clock run.time

-- the verdict on it, by all that was kept
abbrev pub verdict_here : Limits → Run → Arrival → Verdict
verdict_here limits run arrival =
    verdict_of limits (anchor_here run arrival) (clock_now run).base (kept_packets run.kept.items) run.time arrival

-- the packet that it is
abbrev pub packet_here : Limits → Run → Arrival → Packet
packet_here limits run arrival =
    placed_packet limits (anchor_here run arrival) (clock_now run).base (highest_of (kept_packets run.kept.items))
    arrival

-- the clock after it: only an original that is kept changes it
abbrev pub clock_here : Limits → Run → Arrival → Clock
clock_here limits run arrival =
    counted_clock limits (anchor_here run arrival) (clock_now run) run.time (packet_here limits run arrival).timestamp
    (is_kept (verdict_here limits run arrival) && not arrival.again)

-- one arrival at the run's time
pub record IsBrought (limits : Limits) (arrival : Arrival) (old new : Run) : Type 0 where
  pub time : new.time ≡ old.time
  pub ended : new.has_ended ≡ old.has_ended
  pub anchor : new.anchor ≡ Some (anchor_here old arrival)
  pub clock : new.clock ≡ clock_here limits old arrival
  pub verdicts : new.verdicts.items ≡ old.verdicts.items ++ verdict_here limits old arrival ∷ []
  pub kept : kept_packets new.kept.items ≡ kept_with (verdict_here limits old arrival) (packet_here limits old arrival)
      (kept_packets old.kept.items)
  pub ordered : kept_packets new.ordered.items
      ≡ ordered_with (verdict_here limits old arrival) (packet_here limits old arrival) (kept_packets old.ordered.items)
  pub last : new.last ≡ (if is_kept (verdict_here limits old arrival) then old.time else old.last)
  pub over : new.over.items ≡ old.over.items

-- one arrival, which may open an epoch
pub record IsTaken (limits : Limits) (arrival : Arrival) (old new : Run) : Type 0 where
  pub turned : Run
  pub turns : IsTurned (opens_now limits old arrival) old turned
  pub brings : IsBrought limits arrival turned new
