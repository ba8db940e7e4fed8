-- Without a restart time and without compensation of drift a history has one epoch at most, deadlines count from its
-- start, and it means what one flow means.
use Rattle.std.proofs.Common.{◌≡◌, ℕ, pos, false, cond, max, List, [], ◌∷◌, Option, None, Some, unwrap_or, refl, sym, ◌∙◌, ap, subst, map}
use Rattle.std.specs.List.{filter}
use Rattle.receiver_rules.specs.declared.verdict.Verdict.{Verdict}
use Rattle.receiver_rules.specs.declared.limits.Limits.{Limits}
use Rattle.receiver_rules.specs.declared.anchor.Anchor.{Anchor}
use Rattle.receiver_rules.specs.Steps.{Arrival, Event, Media, TimeOnly, End, Step, effective_time}
use Rattle.receiver_rules.specs.Packets.{Packet, highest_of, placed_packet, is_played_out, verdict_of, is_kept, by_number}
use Rattle.receiver_rules.specs.Epochs.{Epoch, base_of, new_anchor, new_epoch, verdict_in, epoch_at, epoch_with, epochs_after, epochs_of, newest_anchor, newest_accepted}
use Rattle.receiver_rules.specs.History.{anchor_of, accepted_packets, verdict, current_moment, playout_of, played_out_packets, released_payloads}
use Rattle.receiver_rules.specs.OneFlow.{one_anchor, one_anchor_after, one_accepted, one_accepted_after, one_verdict, one_playout, one_release}
use Rattle.receiver_rules.proofs.HistoryLemmas.{epochs_continued, opens_never}
use Rattle.receiver_rules.proofs.SentLemmas.{base_stays}

-- the only epoch, where there is one, has this anchor and these packets
abbrev IsOne : List Epoch → Option Anchor → List Packet → Type 0
IsOne [] first packets = (first ≡ None) × (packets ≡ [])
IsOne (epoch ∷ []) first packets = (first ≡ Some epoch.anchor) × (packets ≡ epoch.accepted)
IsOne (epoch ∷ before ∷ earlier) first packets = ⊥

-- an epoch's base is the time of its anchor
base_is : (limits : Limits) (epoch : Epoch) → limits.drift ≡ false → base_of limits epoch ≡ pos epoch.anchor.time
base_is limits epoch stays = base_stays limits epoch.anchor.time epoch.transits stays

-- what an arrival leaves of the packets of an epoch, by its base
accepted_at : (limits : Limits) (epoch : Epoch) (t : ℕ) (arrival : Arrival) → limits.drift ≡ false
    → (epoch_with limits epoch t arrival).accepted ≡ one_accepted_after limits (Some epoch.anchor) epoch.accepted t (Media arrival)
accepted_at limits epoch t arrival stays =
    ap (λ b. cond (is_kept (verdict_of limits epoch.anchor b epoch.accepted t arrival)) (placed_packet limits epoch.anchor b (highest_of epoch.accepted) arrival ∷ epoch.accepted) epoch.accepted) (base_is limits epoch stays)

one_after : (limits : Limits) → limits.restart_time ≡ 0 → limits.drift ≡ false → (epochs : List Epoch) (first : Option Anchor) (packets : List Packet) (t : ℕ) (event : Event) → IsOne epochs first packets
    → IsOne (epochs_after limits epochs t event) (one_anchor_after first t event) (one_accepted_after limits first packets t event)
one_after limits never stays [] first packets t (Media arrival) is = (
  ap (λ o. Some (unwrap_or o (new_anchor t arrival))) is.0,
  ap (λ o. one_accepted_after limits o packets t (Media arrival)) is.0 ∙ ap (λ ps. one_accepted_after limits None ps t (Media arrival)) is.1 ∙ sym (accepted_at limits (new_epoch t arrival) t arrival stays),
)
one_after limits never stays (epoch ∷ []) first packets t (Media arrival) is =
    subst (λ es. IsOne es (one_anchor_after first t (Media arrival)) (one_accepted_after limits first packets t (Media arrival))) (sym (epochs_continued limits epoch [] t arrival (opens_never limits epoch t arrival never))) (
      ap (λ o. Some (unwrap_or o (new_anchor t arrival))) is.0,
      ap (λ o. one_accepted_after limits o packets t (Media arrival)) is.0 ∙ ap (λ ps. one_accepted_after limits (Some epoch.anchor) ps t (Media arrival)) is.1 ∙ sym (accepted_at limits epoch t arrival stays),
    )
one_after limits never stays (epoch ∷ before ∷ earlier) first packets t (Media arrival) is = absurd is
one_after limits never stays epochs first packets t TimeOnly is = is
one_after limits never stays epochs first packets t End is = is

one_of : (limits : Limits) → limits.restart_time ≡ 0 → limits.drift ≡ false → (history : List Step) → IsOne (epochs_of limits history) (one_anchor history) (one_accepted limits history)
one_of limits never stays [] = (refl, refl)
one_of limits never stays (step ∷ before) = one_after limits never stays (epochs_of limits before) (one_anchor before) (one_accepted limits before) (effective_time (step ∷ before)) step.event (one_of limits never stays before)

pub anchor_one : (limits : Limits) (history : List Step) → limits.restart_time ≡ 0 → limits.drift ≡ false → anchor_of limits history ≡ one_anchor history
anchor_one limits history never stays = at (epochs_of limits history) (one_anchor history) (one_accepted limits history) (one_of limits never stays history)
  where
    at : (epochs : List Epoch) (first : Option Anchor) (packets : List Packet) → IsOne epochs first packets → newest_anchor epochs ≡ first
    at [] first packets is = sym is.0
    at (epoch ∷ []) first packets is = sym is.0
    at (epoch ∷ before ∷ earlier) first packets is = absurd is

pub accepted_one : (limits : Limits) (history : List Step) → limits.restart_time ≡ 0 → limits.drift ≡ false → accepted_packets limits history ≡ one_accepted limits history
accepted_one limits history never stays = at (epochs_of limits history) (one_anchor history) (one_accepted limits history) (one_of limits never stays history)
  where
    at : (epochs : List Epoch) (first : Option Anchor) (packets : List Packet) → IsOne epochs first packets → newest_accepted epochs ≡ packets
    at [] first packets is = sym is.1
    at (epoch ∷ []) first packets is = sym is.1
    at (epoch ∷ before ∷ earlier) first packets is = absurd is

pub playout_one : (limits : Limits) (history : List Step) → limits.restart_time ≡ 0 → limits.drift ≡ false → played_out_packets limits history ≡ one_playout limits history
playout_one limits history never stays = at (epochs_of limits history) (one_anchor history) (one_accepted limits history) (one_of limits never stays history)
  where
    at : (epochs : List Epoch) (first : Option Anchor) (packets : List Packet) → IsOne epochs first packets → playout_of epochs (current_moment history) ≡ filter (is_played_out packets (current_moment history)) (by_number packets)
    at [] first packets is = ap (λ ps. filter (is_played_out ps (current_moment history)) (by_number ps)) (sym is.1)
    at (epoch ∷ []) first packets is = ap (λ ps. filter (is_played_out ps (current_moment history)) (by_number ps)) (sym is.1)
    at (epoch ∷ before ∷ earlier) first packets is = absurd is

pub release_one : (limits : Limits) (history : List Step) → limits.restart_time ≡ 0 → limits.drift ≡ false → released_payloads limits history ≡ one_release limits history
release_one limits history never stays = ap (map (λ (p : Packet). p.payload)) (playout_one limits history never stays)

pub verdict_one : (limits : Limits) (history : List Step) (tick : ℕ) (arrival : Arrival) → limits.restart_time ≡ 0 → limits.drift ≡ false → verdict limits history tick arrival ≡ one_verdict limits history tick arrival
verdict_one limits history tick arrival never stays = at (epochs_of limits history) (one_anchor history) (one_accepted limits history) (one_of limits never stays history)
  where
    t : ℕ
    t = max tick (effective_time history)

    by : Anchor → List Packet → Verdict
    by a ps = verdict_of limits a (pos a.time) ps t arrival

    at : (epochs : List Epoch) (first : Option Anchor) (packets : List Packet) → IsOne epochs first packets → verdict_in limits (epoch_at limits epochs t arrival) t arrival ≡ by (unwrap_or first (new_anchor t arrival)) packets
    at [] first packets is = sym (ap (λ o. by (unwrap_or o (new_anchor t arrival)) packets) is.0 ∙ ap (by (new_anchor t arrival)) is.1)
    at (epoch ∷ []) first packets is =
        ap (λ c. verdict_in limits (cond c (new_epoch t arrival) epoch) t arrival) (opens_never limits epoch t arrival never)
        ∙ ap (λ b. verdict_of limits epoch.anchor b epoch.accepted t arrival) (base_is limits epoch stays)
        ∙ sym (ap (λ o. by (unwrap_or o (new_anchor t arrival)) packets) is.0 ∙ ap (by epoch.anchor) is.1)
    at (epoch ∷ before ∷ earlier) first packets is = absurd is
