-- Which packets are missing after a history, and since when (this profile). Histories are those of the buffer; only the
-- current epoch's packets count.
use Rattle.std.specs.Prelude.{ℕ, ◌+◌, ◌-◌, max, List, [], ◌∷◌, Bool, false, not, nat_lt, ◌==◌, if◌then◌else◌, Option}
use Rattle.std.specs.Prelude.{None, Some}
use Rattle.std.specs.List.{filter, list_any, range_with_len}
use Rattle.receiver_rules.specs.declared.limits.Limits.{Limits}
use Rattle.receiver_rules.specs.declared.anchor.Anchor.{Anchor}
use Rattle.receiver_rules.specs.declared.anchor.Highest.{Highest}
use Rattle.receiver_rules.specs.Steps.{Step, effective_time, has_ended}
use Rattle.receiver_rules.specs.Packets.{Packet, Moment, At, Ever, highest_of, playout_floor}
use Rattle.receiver_rules.specs.Epochs.{epochs_of, is_opening}
use Rattle.receiver_rules.specs.History.{anchor_of, accepted_packets}

-- a packet of this number was kept
abbrev pub is_accepted : List Packet → ℕ → Bool
is_accepted accepted x = list_any (λ p. p.number == x) accepted

-- a packet of a higher number was kept
abbrev pub is_passed : List Packet → ℕ → Bool
is_passed accepted x = list_any (λ p. nat_lt x p.number) accepted

-- a number lies below the highest one, where there is one
abbrev pub is_below_highest : Option ℕ → ℕ → Bool
is_below_highest None x = false
is_below_highest (Some highest) x = nat_lt x highest

-- the lowest number that is looked for: not below the first arrival's, nor at or below any that was played out, nor the
-- capacity or more below the highest
abbrev pub lowest_wanted : Limits → Anchor → List Packet → Moment → Highest → ℕ
lowest_wanted limits anchor accepted moment highest =
    max (max anchor.number (playout_floor accepted moment)) (highest.number + 1 - limits.capacity)

-- the numbers from one up to another, without that
abbrev pub numbers_up_to : ℕ → ℕ → List ℕ
numbers_up_to low high = range_with_len low (high - low)

-- the numbers of which no packet was kept, from the lowest that is looked for up to the highest that was kept
abbrev pub missing_among : Limits → Option Anchor → List Packet → Moment → Option Highest → List ℕ
missing_among limits None accepted moment highest = []
missing_among limits (Some anchor) accepted moment None = []
missing_among limits (Some anchor) accepted moment (Some highest) =
    filter (λ x. not (is_accepted accepted x))
    (numbers_up_to (lowest_wanted limits anchor accepted moment highest) highest.number)

-- a time after a history; after an end all kept packets count as played out
abbrev pub moment_at : List Step → ℕ → Moment
moment_at history t = if has_ended history then Ever else At t

-- the numbers that are missing at a time after a history, rising
abbrev pub missing_numbers : Limits → List Step → ℕ → List ℕ
missing_numbers limits history t =
    let accepted = accepted_packets limits history in
    missing_among limits (anchor_of limits history) accepted (moment_at history t) (highest_of accepted)

-- the packets that were kept before a step, in the epoch that it comes in: none where it opens one
abbrev pub accepted_before : Limits → Step → List Step → List Packet
accepted_before limits step before =
    if is_opening limits (epochs_of limits before) (effective_time (step ∷ before)) step.event then []
    else accepted_packets limits before

-- since when a missing packet is known to be missing: the time at which a packet of a higher number was first kept in
-- the epoch. (Of a number that isn't missing this says nothing.)
abbrev pub found_time : Limits → List Step → ℕ → ℕ
found_time limits [] x = 0
found_time limits (step ∷ before) x =
    if is_passed (accepted_before limits step before) x then found_time limits before x
    else effective_time (step ∷ before)
