-- The epochs of a history (this profile). A sender that is started again comes with another SSRC and other numbers; its
-- flow then opens an epoch, in which numbers and deadlines count anew.
use Rattle.std.specs.Prelude.{◌≡◌, ℕ, ℤ, ◌+◌, List, [], ◌∷◌, Bool, true, false, not, ◌&&◌, nat_lt, nat_le, ◌==◌}
use Rattle.std.specs.Prelude.{if◌then◌else◌, Option, None, Some}
use Rattle.std.specs.List.{list_any}
use Rattle.receiver_rules.specs.declared.verdict.Verdict.{Verdict}
use Rattle.receiver_rules.specs.declared.limits.Limits.{Limits}
use Rattle.receiver_rules.specs.declared.anchor.Anchor.{Anchor}
use Rattle.receiver_rules.specs.Steps.{Arrival, Event, Media, TimeOnly, End, Step, effective_time}
use Rattle.receiver_rules.specs.Clock.{transit_of, clock_base, clock_of}
use Rattle.receiver_rules.specs.declared.clock.Clock.{Clock}
use Rattle.receiver_rules.specs.Packets.{Packet, highest_of, At, number_of, timestamp_of, placed_packet, is_buffered}
use Rattle.receiver_rules.specs.Packets.{verdict_of, is_kept}

-- what an arrival fixes where it opens an epoch
abbrev pub new_anchor : ℕ → Arrival → Anchor
new_anchor t arrival =
    record { flow = arrival.flow; time = t; number = number_of None arrival; timestamp = timestamp_of None arrival }

-- an epoch: what the arrival that opened it fixed, the packets that were kept in it, the newest first, the effective
-- time at which the last of them came, and the transits of the originals among them, the newest first
pub record Epoch : Type 0 where
  pub anchor : Anchor
  pub accepted : List Packet
  pub last : ℕ
  pub transits : List ℤ

-- the epoch that an arrival opens, before it is judged
abbrev pub new_epoch : ℕ → Arrival → Epoch
new_epoch t arrival = record { anchor = new_anchor t arrival; accepted = []; last = t; transits = [] }

-- an arrival opens the next epoch: it is of another flow than the current one, there is a restart time, no packet waits
-- in the buffer, and the last one was kept the restart time ago or longer
abbrev pub opens_next : Limits → Epoch → ℕ → Arrival → Bool
opens_next limits current t arrival =
    not (arrival.flow == current.anchor.flow)
    && (nat_lt 0 limits.restart_time
    && (not (list_any (is_buffered current.accepted (At t)) current.accepted)
    && nat_le (current.last + limits.restart_time) t))

-- an arrival opens an epoch, given the epochs so far, the newest first: the first arrival does
abbrev pub opens_epoch : Limits → List Epoch → ℕ → Arrival → Bool
opens_epoch limits [] t arrival = true
opens_epoch limits (current ∷ earlier) t arrival = opens_next limits current t arrival

-- the epoch of an arrival: the current one, or the one that it opens
abbrev pub epoch_at : Limits → List Epoch → ℕ → Arrival → Epoch
epoch_at limits [] t arrival = new_epoch t arrival
epoch_at limits (current ∷ earlier) t arrival =
    if opens_next limits current t arrival then new_epoch t arrival else current

-- the epochs before that one
abbrev pub earlier_at : Limits → List Epoch → ℕ → Arrival → List Epoch
earlier_at limits [] t arrival = []
earlier_at limits (current ∷ earlier) t arrival =
    if opens_next limits current t arrival then current ∷ earlier else earlier

-- what the deadlines of an epoch's next packets count from
abbrev pub base_of : Limits → Epoch → ℤ
base_of limits epoch = clock_base limits epoch.anchor.time epoch.transits

-- the verdict on an arrival of an epoch
abbrev pub verdict_in : Limits → Epoch → ℕ → Arrival → Verdict
verdict_in limits epoch t arrival = verdict_of limits epoch.anchor (base_of limits epoch) epoch.accepted t arrival

-- the packet that it is
abbrev pub packet_in : Limits → Epoch → Arrival → Packet
packet_in limits epoch arrival =
    placed_packet limits epoch.anchor (base_of limits epoch) (highest_of epoch.accepted) arrival

-- the epoch after it: only a packet that is kept changes it
abbrev pub epoch_with : Limits → Epoch → ℕ → Arrival → Epoch
epoch_with limits epoch t arrival =
    record {
      anchor = epoch.anchor;
      accepted =
          if is_kept (verdict_in limits epoch t arrival) then packet_in limits epoch arrival ∷ epoch.accepted
          else epoch.accepted;
      last = if is_kept (verdict_in limits epoch t arrival) then t else epoch.last;
      transits =
          if is_kept (verdict_in limits epoch t arrival) && not arrival.again
          then transit_of epoch.anchor t (packet_in limits epoch arrival).timestamp ∷ epoch.transits
          else epoch.transits;
    }

-- the epochs after one more step
abbrev pub epochs_after : Limits → List Epoch → ℕ → Event → List Epoch
epochs_after limits epochs t (Media arrival) =
    epoch_with limits (epoch_at limits epochs t arrival) t arrival ∷ earlier_at limits epochs t arrival
epochs_after limits epochs t TimeOnly = epochs
epochs_after limits epochs t End = epochs

-- the epochs of a history, the newest first
abbrev pub epochs_of : Limits → List Step → List Epoch
epochs_of limits [] = []
epochs_of limits (step ∷ before) =
    epochs_after limits (epochs_of limits before) (effective_time (step ∷ before)) step.event

-- ---- the current epoch

-- the anchor of the newest epoch
abbrev pub newest_anchor : List Epoch → Option Anchor
newest_anchor [] = None
newest_anchor (current ∷ earlier) = Some current.anchor

-- the packets that were kept in it, the newest first
abbrev pub newest_accepted : List Epoch → List Packet
newest_accepted [] = []
newest_accepted (current ∷ earlier) = current.accepted

-- when the last of them came, 0 where no epoch is open
abbrev pub newest_last : List Epoch → ℕ
newest_last [] = 0
newest_last (current ∷ earlier) = current.last

-- a clock is that of the newest epoch, where one is open
abbrev pub IsNewestClock : Limits → Clock → List Epoch → Type 0
IsNewestClock limits clock [] = Unit {0}
IsNewestClock limits clock (current ∷ earlier) = clock ≡ clock_of limits current.anchor.time current.transits

-- what comes with a step opens an epoch
abbrev pub is_opening : Limits → List Epoch → ℕ → Event → Bool
is_opening limits epochs t (Media arrival) = opens_epoch limits epochs t arrival
is_opening limits epochs t TimeOnly = false
is_opening limits epochs t End = false
