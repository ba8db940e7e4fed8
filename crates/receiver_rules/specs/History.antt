-- What a whole history means: the current epoch's anchor and kept packets, the verdicts, and what is released (this
-- profile).
use Rattle.std.specs.Prelude.{ℕ, ◌-◌, max, List, [], ◌∷◌, ◌++◌, map, length, if◌then◌else◌, Option}
use Rattle.std.specs.List.{filter, concat}
use Rattle.receiver_rules.specs.declared.verdict.Verdict.{Verdict}
use Rattle.receiver_rules.specs.declared.limits.Limits.{Limits}
use Rattle.receiver_rules.specs.declared.anchor.Anchor.{Anchor}
use Rattle.receiver_rules.specs.Steps.{Arrival, Event, Media, TimeOnly, End, Step, effective_time, has_ended}
use Rattle.receiver_rules.specs.Packets.{Packet, Moment, At, Ever, is_played_out, is_buffered, by_number}
use Rattle.receiver_rules.specs.Epochs.{Epoch, epoch_at, verdict_in, epochs_of, newest_anchor, newest_accepted}

-- what the current epoch's first arrival fixed: its flow, and where deadlines count from
abbrev pub anchor_of : Limits → List Step → Option Anchor
anchor_of limits history = newest_anchor (epochs_of limits history)

-- the packets that were kept in the current epoch, the newest first
abbrev pub accepted_packets : Limits → List Step → List Packet
accepted_packets limits history = newest_accepted (epochs_of limits history)

-- how often the flow has restarted: the current epoch's place, from 0 on
abbrev pub epoch_number : Limits → List Step → ℕ
epoch_number limits history = length (epochs_of limits history) - 1

-- the verdict on an arrival that comes after a history
abbrev pub verdict : Limits → List Step → ℕ → Arrival → Verdict
verdict limits before tick arrival =
    let t = max tick (effective_time before) in
    verdict_in limits (epoch_at limits (epochs_of limits before) t arrival) t arrival

-- the verdicts after one more step
abbrev pub verdicts_after : Limits → List Step → Event → ℕ → List Verdict → List Verdict
verdicts_after limits before (Media arrival) tick verdicts = verdicts ++ verdict limits before tick arrival ∷ []
verdicts_after limits before TimeOnly tick verdicts = verdicts
verdicts_after limits before End tick verdicts = verdicts

-- the verdicts on the arrivals of a history, the oldest first
abbrev pub verdicts_of : Limits → List Step → List Verdict
verdicts_of limits [] = []
verdicts_of limits (step ∷ before) = verdicts_after limits before step.event step.tick (verdicts_of limits before)

-- ---- what is released

-- the moment that the history has come to: after an end all kept packets count as played out
abbrev pub current_moment : List Step → Moment
current_moment history = if has_ended history then Ever else At (effective_time history)

-- the kept packets of epochs that are over, epoch after epoch, each one's by rising number
abbrev pub packets_over : List Epoch → List Packet
packets_over [] = []
packets_over (epoch ∷ earlier) = packets_over earlier ++ by_number epoch.accepted

-- the packets that were played out at a moment: all of the epochs that are over, and then those of the newest one
abbrev pub playout_of : List Epoch → Moment → List Packet
playout_of [] moment = []
playout_of (current ∷ earlier) moment =
    packets_over earlier ++ filter (is_played_out current.accepted moment) (by_number current.accepted)

-- the packets that were played out: epoch after epoch, each one's by rising number
abbrev pub played_out_packets : Limits → List Step → List Packet
played_out_packets limits history = playout_of (epochs_of limits history) (current_moment history)

-- the packets that wait in the buffer, by rising number: all of them are the current epoch's
abbrev pub buffered_packets : Limits → List Step → List Packet
buffered_packets limits history =
    filter (is_buffered (accepted_packets limits history) (current_moment history))
    (by_number (accepted_packets limits history))

-- the payloads that were released, in the order of their release
abbrev pub released_payloads : Limits → List Step → List (List ℕ)
released_payloads limits history = map (λ p. p.payload) (played_out_packets limits history)

-- all that was released, one payload after another
abbrev pub released_bytes : Limits → List Step → List ℕ
released_bytes limits history = concat (released_payloads limits history)
