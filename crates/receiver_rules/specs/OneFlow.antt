-- What a history means where no other flow ever takes the first one's place and the base of deadlines stays: there is
-- one anchor, all that was kept is of its flow, and deadlines count from the time of the first arrival. Without a
-- restart time and without compensation of drift this is what each history means.
use Rattle.std.specs.Prelude.{ℕ, pos, max, List, [], ◌∷◌, map, if◌then◌else◌, Option, None, Some, unwrap_or}
use Rattle.std.specs.List.{filter}
use Rattle.receiver_rules.specs.declared.verdict.Verdict.{Verdict}
use Rattle.receiver_rules.specs.declared.limits.Limits.{Limits}
use Rattle.receiver_rules.specs.declared.anchor.Anchor.{Anchor}
use Rattle.receiver_rules.specs.Steps.{Arrival, Event, Media, TimeOnly, End, Step, effective_time}
use Rattle.receiver_rules.specs.Packets.{Packet, highest_of, placed_packet, is_played_out, verdict_of, is_kept}
use Rattle.receiver_rules.specs.Packets.{by_number}
use Rattle.receiver_rules.specs.Epochs.{new_anchor}
use Rattle.receiver_rules.specs.History.{current_moment}

-- the anchor after one more step
abbrev pub one_anchor_after : Option Anchor → ℕ → Event → Option Anchor
one_anchor_after first t (Media arrival) = Some (unwrap_or first (new_anchor t arrival))
one_anchor_after first t TimeOnly = first
one_anchor_after first t End = first

-- the first media arrival fixes the flow, and where deadlines count from
abbrev pub one_anchor : List Step → Option Anchor
one_anchor [] = None
one_anchor (step ∷ before) = one_anchor_after (one_anchor before) (effective_time (step ∷ before)) step.event

-- the kept packets after one more step
abbrev pub one_accepted_after : Limits → Option Anchor → List Packet → ℕ → Event → List Packet
one_accepted_after limits first accepted t (Media arrival) =
    let a = unwrap_or first (new_anchor t arrival) in
    if is_kept (verdict_of limits a (pos a.time) accepted t arrival)
    then placed_packet limits a (pos a.time) (highest_of accepted) arrival ∷ accepted else accepted
one_accepted_after limits first accepted t TimeOnly = accepted
one_accepted_after limits first accepted t End = accepted

-- the packets that were kept, the newest first
abbrev pub one_accepted : Limits → List Step → List Packet
one_accepted limits [] = []
one_accepted limits (step ∷ before) =
    one_accepted_after limits (one_anchor before) (one_accepted limits before) (effective_time (step ∷ before))
    step.event

-- the verdict on an arrival that comes after a history
abbrev pub one_verdict : Limits → List Step → ℕ → Arrival → Verdict
one_verdict limits before tick arrival =
    let t = max tick (effective_time before) in
    let a = unwrap_or (one_anchor before) (new_anchor t arrival) in
    verdict_of limits a (pos a.time) (one_accepted limits before) t arrival

-- the packets that were played out, by rising number
abbrev pub one_playout : Limits → List Step → List Packet
one_playout limits history =
    filter (is_played_out (one_accepted limits history) (current_moment history))
    (by_number (one_accepted limits history))

-- the payloads that were released, in the order of their release
abbrev pub one_release : Limits → List Step → List (List ℕ)
one_release limits history = map (λ p. p.payload) (one_playout limits history)
