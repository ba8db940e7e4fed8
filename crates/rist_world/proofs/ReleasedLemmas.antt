-- After an end as many payloads are out as packets were kept.
use Rattle.std.proofs.Common.{◌≡◌, ◌∙◌, ℕ, suc, ◌+◌, max, Bool, true, false, List, [], ◌∷◌, length, refl, ap, arith, length-append}
use Rattle.std.specs.Prelude.{if◌then◌else◌, cond, nat_lt}
use Rattle.std.proofs.lemmas.List.{length-map}
use Rattle.receiver_rules.specs.declared.verdict.Verdict.{Verdict}
use Rattle.receiver_rules.specs.declared.verdict.Verdict.TheVariants as verdicts
use Rattle.receiver_rules.specs.declared.verdict.Verdict.TheVariants.{Kept}
use Rattle.receiver_rules.specs.declared.limits.Limits.{Limits}
use Rattle.receiver_rules.specs.Steps as buffer
use Rattle.receiver_rules.specs.Steps.{Arrival, effective_time, has_ended}
use Rattle.receiver_rules.specs.Packets.{Packet, At, Ever, insert_by_number, by_number, is_kept}
use Rattle.receiver_rules.specs.Epochs.{Epoch, opens_next, new_epoch, epoch_at, earlier_at, epochs_of, verdict_in, packet_in}
use Rattle.receiver_rules.specs.History.{packets_over, playout_of, played_out_packets, released_payloads}
use Rattle.receiver_rules.proofs.CopyOrderLemmas.{playout_end}
use Rattle.request_rules.specs.Steps.{Input, Media, Control, Keepalive, Refused, Tick, End, Step, buffer_history}
use Rattle.rist_ends.specs.Counts.{verdict_count, counted_verdict, one_where_same}

length-insert : (p : Packet) (ps : List Packet) → length (insert_by_number p ps) ≡ suc (length ps)
length-insert p [] = refl
length-insert p (q ∷ qs) = elim (nat_lt p.number q.number) as (λ c. length (cond c (p ∷ q ∷ qs) (q ∷ insert_by_number p qs)) ≡ suc (suc (length qs))) [ true ↦ refl | false ↦ ap suc (length-insert p qs) ]

length-by_number : (ps : List Packet) → length (by_number ps) ≡ length ps
length-by_number [] = refl
length-by_number (p ∷ ps) = length-insert p (by_number ps) ∙ ap suc (length-by_number ps)

-- how many packets were kept in some epochs
abbrev all_kept : List Epoch → ℕ
all_kept [] = 0
all_kept (epoch ∷ earlier) = all_kept earlier + length epoch.accepted

over_length : (epochs : List Epoch) → length (packets_over epochs) ≡ all_kept epochs
over_length [] = refl
over_length (epoch ∷ earlier) =
    length-append (packets_over earlier) (by_number epoch.accepted)
    ∙ ap (λ n. n + length (by_number epoch.accepted)) (over_length earlier)
    ∙ ap (λ n. all_kept earlier + n) (length-by_number epoch.accepted)

kept_where : (v : Verdict) (p : Packet) (ps : List Packet) → length (if is_kept v then p ∷ ps else ps) ≡ length ps + one_where_same Kept v
kept_where verdicts.Kept p ps = omega arith
kept_where verdicts.Stranger p ps = omega arith
kept_where verdicts.Exhausted p ps = omega arith
kept_where verdicts.Late p ps = omega arith
kept_where verdicts.Behind p ps = omega arith
kept_where verdicts.Early p ps = omega arith
kept_where verdicts.Twice p ps = omega arith
kept_where verdicts.Span p ps = omega arith

-- an arrival's epoch and those before it hold what was kept
at_kept : (limits : Limits) (epochs : List Epoch) (t : ℕ) (arrival : Arrival) → all_kept (earlier_at limits epochs t arrival) + length (epoch_at limits epochs t arrival).accepted ≡ all_kept epochs
at_kept limits [] t arrival = refl
at_kept limits (current ∷ earlier) t arrival =
    elim (opens_next limits current t arrival) as (λ (c : Bool). all_kept (if c then current ∷ earlier else earlier) + length (if c then new_epoch t arrival else current).accepted ≡ all_kept earlier + length current.accepted) [
      | true ↦ omega arith
      | false ↦ refl
    ]

media_kept : (limits : Limits) (before : List buffer.Step) (tick : ℕ) (arrival : Arrival) (count : ℕ) → all_kept (epochs_of limits before) ≡ count
    → all_kept (epochs_of limits (record { tick = tick; event = buffer.Media arrival } ∷ before)) ≡ count + one_where_same Kept (verdict_in limits (epoch_at limits (epochs_of limits before) (max tick (effective_time before)) arrival) (max tick (effective_time before)) arrival)
media_kept limits before tick arrival count is =
    let t : ℕ = max tick (effective_time before) in
    let epochs = epochs_of limits before in
    omega (arith, is, at_kept limits epochs t arrival, kept_where (verdict_in limits (epoch_at limits epochs t arrival) t arrival) (packet_in limits (epoch_at limits epochs t arrival) arrival) (epoch_at limits epochs t arrival).accepted)

step_kept : (limits : Limits) (before : List Step) (link tick : ℕ) (input : Input) → all_kept (epochs_of limits (buffer_history before)) ≡ verdict_count Kept limits before
    → all_kept (epochs_of limits (buffer_history (record { link = link; tick = tick; input = input } ∷ before))) ≡ verdict_count Kept limits before + counted_verdict Kept limits before tick input
step_kept limits before link tick (Media arrival) is = media_kept limits (buffer_history before) tick arrival (verdict_count Kept limits before) is
step_kept limits before link tick (Control sample request) is = omega (arith, is)
step_kept limits before link tick Keepalive is = omega (arith, is)
step_kept limits before link tick Refused is = omega (arith, is)
step_kept limits before link tick (Tick micros) is = omega (arith, is)
step_kept limits before link tick End is = omega (arith, is)

kept_count : (limits : Limits) (steps : List Step) → all_kept (epochs_of limits (buffer_history steps)) ≡ verdict_count Kept limits steps
kept_count limits [] = refl
kept_count limits (step ∷ before) = step_kept limits before step.link step.tick step.input (kept_count limits before)

-- after an end
pub released_all : (limits : Limits) (steps : List Step) → has_ended (buffer_history steps) ≡ true → length (released_payloads limits (buffer_history steps)) ≡ verdict_count Kept limits steps
released_all limits steps ended =
    length-map (played_out_packets limits (buffer_history steps)) (λ (p : Packet). p.payload)
    ∙ ap (λ (c : Bool). length (playout_of (epochs_of limits (buffer_history steps)) (if c then Ever else At (effective_time (buffer_history steps))))) ended
    ∙ ap length (playout_end (epochs_of limits (buffer_history steps)))
    ∙ over_length (epochs_of limits (buffer_history steps))
    ∙ kept_count limits steps
