-- Each number that was sent was kept or is missing.
use Rattle.std.proofs.Common.{◌≡◌, ℕ, suc, ◌+◌, ◌-◌, ◌^◌, ◌<◌, ◌≤◌, max, List, [], ◌∷◌, map, length, refl, sym, ap, ◌∙◌, arith, Bool, true, false, cond}
use Rattle.std.specs.Prelude.{nat_lt, nat_le, ◌&&◌, not, if◌then◌else◌, Option, None, Some}
use Rattle.std.proofs.lemmas.Bool.{leb-false}
use Rattle.std.specs.List.{filter, sum}
use Rattle.std.proofs.lemmas.Bool.Decides.{nat_tests}
use Rattle.receiver_rules.specs.declared.limits.Limits.{Limits}
use Rattle.receiver_rules.specs.declared.anchor.Highest.{Highest}
use Rattle.receiver_rules.specs.Steps.{Arrival, Event, Media, TimeOnly, End, Step, effective_time, has_ended}
use Rattle.receiver_rules.specs.Packets.{Packet, Moment, At, Ever, IsRising, by_number, highest_of, higher, is_kept, insert_by_number, is_buffered, is_from, playout_floor}
use Rattle.receiver_rules.specs.Epochs.{Epoch, base_of, new_epoch, opens_next, epoch_at, epoch_with, epochs_after, verdict_in, packet_in, epochs_of, newest_accepted}
use Rattle.receiver_rules.specs.History.{current_moment, verdict}
use Rattle.receiver_rules.proofs.PacketLemmas.{is_buffered-floor}
use Rattle.receiver_rules.proofs.HistoryLemmas.{AreDistinct, accepted_parts, epochs_distinct}
use Rattle.rist_ends.specs.Numbers.{above, lowest_of, sent_in, sent_over, missing_in, missing_over, missing_at, sent_count, missing_count}
use Rattle.receiver_rules.specs.ReceiverSteps.{buffer_event}
use Rattle.request_rules.specs.Steps as inputs
use Rattle.request_rules.specs.Steps.{Step as ReceiverStep, buffer_history}
use Rattle.session_figures.specs.declared.amounts.Amounts.{Amounts}
use Rattle.session_figures.specs.declared.amounts.Passed.{Passed}
use Rattle.session_figures.specs.Amounts.{amounts_by, amounts_of, passed_by, one_if}
use Rattle.session_figures.specs.Figures.{Entry, entries_of, first_count, recovered_count}
use Rattle.std.proofs.lemmas.List.Sums.{sum_by-cons}

-- how many packets of some epochs were kept
abbrev pub kept_over : List Epoch → ℕ
kept_over [] = 0
kept_over (epoch ∷ epochs) = length epoch.accepted + kept_over epochs

-- ---- numbers lie between the lowest and the highest

-- each number lies from a low one on, and below a high one
abbrev IsWithin : ℕ → ℕ → List Packet → Type 0
IsWithin low high [] = Unit {0}
IsWithin low high (p ∷ ps) = (low ≤ p.number) × ((p.number < high) × IsWithin low high ps)

wider : (low high less more : ℕ) (ps : List Packet) → less ≤ low → high ≤ more → IsWithin low high ps → IsWithin less more ps
wider low high less more [] a b w = tt
wider low high less more (p ∷ ps) a b w = (omega (arith, w.0), (omega (arith, w.1.0), wider low high less more ps a b w.1.1))

above_higher : (p : Packet) (h : Option Highest) → (p.number < above (Some (higher p h))) × (above h ≤ above (Some (higher p h)))
above_higher p None = (omega arith, omega arith)
above_higher p (Some highest) =
    elim (nat_lt highest.number p.number) as (λ c. nat_lt highest.number p.number ≡ c → (p.number < (cond c (record { number = p.number; timestamp = p.timestamp }) highest).number + 1) × (highest.number + 1 ≤ (cond c (record { number = p.number; timestamp = p.timestamp }) highest).number + 1)) [
      | true ↦ λ e. (omega arith, let t : nat_lt highest.number p.number ≡ true = e in grind (arith, nat_tests))
      | false ↦ λ e. ((let t : nat_lt highest.number p.number ≡ false = e in grind (arith, nat_tests)), omega arith)
    ] refl

all_within : (ps : List Packet) → IsWithin (lowest_of ps) (above (highest_of ps)) ps
all_within [] = tt
all_within (p ∷ ps) =
    let top = above_higher p (highest_of ps) in
    (omega arith, (top.0, wider (lowest_of ps) (above (highest_of ps)) (lowest_of (p ∷ ps)) (above (highest_of (p ∷ ps))) ps (omega arith) top.1 (all_within ps)))

within_insert : (low high : ℕ) (p : Packet) (ps : List Packet) → low ≤ p.number → p.number < high → IsWithin low high ps → IsWithin low high (insert_by_number p ps)
within_insert low high p [] a b w = (a, (b, tt))
within_insert low high p (q ∷ qs) a b w =
    elim (nat_lt p.number q.number) as (λ c. IsWithin low high (cond c (p ∷ q ∷ qs) (q ∷ insert_by_number p qs))) [
      | true ↦ (a, (b, w))
      | false ↦ (w.0, (w.1.0, within_insert low high p qs a b w.1.1))
    ]

within_order : (low high : ℕ) (ps : List Packet) → IsWithin low high ps → IsWithin low high (by_number ps)
within_order low high [] w = tt
within_order low high (p ∷ ps) w = within_insert low high p (by_number ps) w.0 w.1.0 (within_order low high ps w.1.1)

-- ---- so many they are

length_insert : (p : Packet) (ps : List Packet) → length (insert_by_number p ps) ≡ suc (length ps)
length_insert p [] = refl
length_insert p (q ∷ qs) =
    elim (nat_lt p.number q.number) as (λ c. length (cond c (p ∷ q ∷ qs) (q ∷ insert_by_number p qs)) ≡ suc (suc (length qs))) [
      | true ↦ refl
      | false ↦ ap suc (length_insert p qs)
    ]

length_order : (ps : List Packet) → length (by_number ps) ≡ length ps
length_order [] = refl
length_order (p ∷ ps) = length_insert p (by_number ps) ∙ ap suc (length_order ps)

-- numbers that rise are no more than there are between the bounds
few_between : (from low high : ℕ) (ps : List Packet) → IsRising from ps → IsWithin low high ps → length ps ≤ high - max from low
few_between from low high [] r w = omega arith
few_between from low high (p ∷ ps) r w =
    let rest = few_between (p.number + 1) low high ps r.1 w.1.1 in
    omega (arith, r.0, w.0, w.1.0, rest)

few_kept : (accepted : List Packet) → IsRising 0 (by_number accepted) → length accepted ≤ sent_in accepted
few_kept accepted r =
    let low : ℕ = lowest_of accepted in
    let high : ℕ = above (highest_of accepted) in
    let few = few_between 0 low high (by_number accepted) r (within_order low high accepted (all_within accepted)) in
    let count = length_order accepted in
    omega (arith, few, count)

-- ---- numbers end at 2^62

-- each kept number of each epoch is small
abbrev AreSmall : List Epoch → Type 0
AreSmall [] = Unit {0}
AreSmall (epoch ∷ earlier) = (above (highest_of epoch.accepted) ≤ 2 ^ 62) × AreSmall earlier

small_higher : (p : Packet) (h : Option Highest) → p.number < 2 ^ 62 → above h ≤ 2 ^ 62 → above (Some (higher p h)) ≤ 2 ^ 62
small_higher p None a b = omega (arith, a)
small_higher p (Some highest) a b =
    elim (nat_lt highest.number p.number) as (λ c. (cond c (record { number = p.number; timestamp = p.timestamp }) highest).number + 1 ≤ 2 ^ 62) [
      | true ↦ omega (arith, a)
      | false ↦ b
    ]

small_number : (n : ℕ) → nat_le (2 ^ 62) n ≡ false → n < 2 ^ 62
small_number n test = omega (arith, leb-false (2 ^ 62) n test)

small_with : (limits : Limits) (epoch : Epoch) (t : ℕ) (arrival : Arrival) → above (highest_of epoch.accepted) ≤ 2 ^ 62 → above (highest_of (epoch_with limits epoch t arrival).accepted) ≤ 2 ^ 62
small_with limits epoch t arrival small =
    elim (is_kept (verdict_in limits epoch t arrival)) as (λ c. is_kept (verdict_in limits epoch t arrival) ≡ c → above (highest_of (cond c (packet_in limits epoch arrival ∷ epoch.accepted) epoch.accepted)) ≤ 2 ^ 62) [
      | true ↦ λ e. small_higher (packet_in limits epoch arrival) (highest_of epoch.accepted) (small_number (packet_in limits epoch arrival).number (accepted_parts limits epoch.anchor (base_of limits epoch) epoch.accepted t arrival e).small) small
      | false ↦ λ e. small
    ] refl

small_after : (limits : Limits) (epochs : List Epoch) (t : ℕ) (event : Event) → AreSmall epochs → AreSmall (epochs_after limits epochs t event)
small_after limits [] t (Media arrival) s = (small_with limits (new_epoch t arrival) t arrival (omega arith), tt)
small_after limits (current ∷ earlier) t (Media arrival) s =
    elim (opens_next limits current t arrival) as (λ c. AreSmall (epoch_with limits (cond c (new_epoch t arrival) current) t arrival ∷ cond c (current ∷ earlier) earlier)) [
      | true ↦ (small_with limits (new_epoch t arrival) t arrival (omega arith), s)
      | false ↦ (small_with limits current t arrival s.0, s.1)
    ]
small_after limits epochs t TimeOnly s = s
small_after limits epochs t End s = s

epochs_small : (limits : Limits) (history : List Step) → AreSmall (epochs_of limits history)
epochs_small limits [] = tt
epochs_small limits (step ∷ before) = small_after limits (epochs_of limits before) (effective_time (step ∷ before)) step.event (epochs_small limits before)

-- so each number of an epoch was kept or not
parts_of : (accepted : List Packet) → IsRising 0 (by_number accepted) → above (highest_of accepted) ≤ 2 ^ 62 → sent_in accepted ≡ length accepted + missing_in accepted
parts_of accepted r small = let few = few_kept accepted r in omega (arith, few, small)

parts_over : (epochs : List Epoch) → AreDistinct epochs → AreSmall epochs → sent_over epochs ≡ kept_over epochs + missing_over epochs
parts_over [] d s = refl
parts_over (epoch ∷ epochs) d s =
    let here = parts_of epoch.accepted d.0 s.0 in
    let rest = parts_over epochs d.1 s.1 in
    omega (arith, here, rest)

-- ---- at the end

floor_ever : (accepted : List Packet) → playout_floor accepted Ever ≡ above (highest_of accepted)
floor_ever [] = refl
floor_ever (p ∷ ps) = ap (max (p.number + 1)) (floor_ever ps) ∙ by_highest (highest_of ps)
  where
    by_highest : (h : Option Highest) → max (p.number + 1) (above h) ≡ above (Some (higher p h))
    by_highest None = omega arith
    by_highest (Some highest) =
        elim (nat_lt highest.number p.number) as (λ c. nat_lt highest.number p.number ≡ c → max (p.number + 1) (highest.number + 1) ≡ (cond c (record { number = p.number; timestamp = p.timestamp }) highest).number + 1) [
          | true ↦ λ e. (let t : nat_lt highest.number p.number ≡ true = e in grind (arith, nat_tests))
          | false ↦ λ e. (let t : nat_lt highest.number p.number ≡ false = e in grind (arith, nat_tests))
        ] refl

none_from : (low floor : ℕ) (accepted ps : List Packet) → floor ≡ playout_floor accepted Ever → IsWithin low floor ps → filter (is_buffered accepted Ever) ps ≡ []
none_from low floor accepted [] is w = refl
none_from low floor accepted (p ∷ ps) is w =
    let test : is_buffered accepted Ever p ≡ false =
    is_buffered-floor accepted Ever p ∙ ap (λ (f : ℕ). is_from f p) (sym is) ∙ (let below : p.number < floor = w.1.0 in grind (arith, nat_tests)) in
    ap (λ (b : Bool). cond b (p ∷ filter (is_buffered accepted Ever) ps) (filter (is_buffered accepted Ever) ps)) test ∙ none_from low floor accepted ps is w.1.1

none_waits : (accepted : List Packet) → length (filter (is_buffered accepted Ever) (by_number accepted)) ≡ 0
none_waits accepted =
    ap length (none_from (lowest_of accepted) (above (highest_of accepted)) accepted (by_number accepted) (sym (floor_ever accepted)) (within_order (lowest_of accepted) (above (highest_of accepted)) accepted (all_within accepted)))

at_end : (epochs : List Epoch) → missing_at epochs (playout_floor (newest_accepted epochs) Ever) (length (filter (is_buffered (newest_accepted epochs) Ever) (by_number (newest_accepted epochs)))) ≡ missing_over epochs
at_end [] = refl
at_end (current ∷ earlier) =
    let floor = floor_ever current.accepted in
    let none = none_waits current.accepted in
    omega (arith, floor, none)

-- ---- an arrival that is kept is one more

kept_more : (b : Bool) (p : Packet) (ps : List Packet) → length (if b then p ∷ ps else ps) ≡ one_if b + length ps
kept_more true p ps = omega arith
kept_more false p ps = omega arith

opened_more : (b : Bool) (limits : Limits) (current : Epoch) (earlier : List Epoch) (t : ℕ) (arrival : Arrival)
    → kept_over (epoch_with limits (if b then new_epoch t arrival else current) t arrival ∷ (if b then current ∷ earlier else earlier))
    ≡ one_if (is_kept (verdict_in limits (if b then new_epoch t arrival else current) t arrival)) + kept_over (current ∷ earlier)
opened_more true limits current earlier t arrival =
    let fresh : Epoch = new_epoch t arrival in
    let one = kept_more (is_kept (verdict_in limits fresh t arrival)) (packet_in limits fresh arrival) [] in
    omega (arith, one)
opened_more false limits current earlier t arrival =
    let one = kept_more (is_kept (verdict_in limits current t arrival)) (packet_in limits current arrival) current.accepted in
    omega (arith, one)

-- after an arrival one more packet was kept, if it was
pub arrival_more : (limits : Limits) (epochs : List Epoch) (t : ℕ) (arrival : Arrival)
    → kept_over (epochs_after limits epochs t (Media arrival)) ≡ one_if (is_kept (verdict_in limits (epoch_at limits epochs t arrival) t arrival)) + kept_over epochs
arrival_more limits [] t arrival =
    let fresh : Epoch = new_epoch t arrival in
    let one = kept_more (is_kept (verdict_in limits fresh t arrival)) (packet_in limits fresh arrival) [] in
    omega (arith, one)
arrival_more limits (current ∷ earlier) t arrival = opened_more (opens_next limits current t arrival) limits current earlier t arrival

-- and it was an original or a retransmission
pub one_of_both : (kept again : Bool) → one_if (kept && not again) + one_if (kept && again) ≡ one_if kept
one_of_both true true = refl
one_of_both true false = refl
one_of_both false true = refl
one_of_both false false = refl

-- what was sent was kept or is missing
sent_parts : (limits : Limits) (history : List Step) → has_ended history ≡ true → sent_count limits history ≡ kept_over (epochs_of limits history) + missing_count limits history
sent_parts limits history over =
    let epochs : List Epoch = epochs_of limits history in
    let moment : current_moment history ≡ Ever = ap (λ (b : Bool). cond b Ever (At (effective_time history))) over in
    let missing : missing_count limits history ≡ missing_over epochs =
    ap (λ (m : Moment). missing_at epochs (playout_floor (newest_accepted epochs) m) (length (filter (is_buffered (newest_accepted epochs) m) (by_number (newest_accepted epochs))))) moment ∙ at_end epochs in
    parts_over epochs (epochs_distinct limits history) (epochs_small limits history) ∙ ap (λ (m : ℕ). kept_over epochs + m) (sym missing)

-- ---- over the steps

sum_cons : (x : ℕ) (xs : List ℕ) → sum (x ∷ xs) ≡ x + sum xs
sum_cons x xs = sum_by-cons (λ (n : ℕ). n) x xs

-- what came with a step was kept, or not
step_more : (limits : Limits) (before : List ReceiverStep) (link tick : ℕ) (passed : Passed) (input : inputs.Input)
    → ((amounts_by limits before link tick passed input).first + (amounts_by limits before link tick passed input).recovered) + kept_over (epochs_of limits (buffer_history before))
    ≡ kept_over (epochs_after limits (epochs_of limits (buffer_history before)) (max tick (effective_time (buffer_history before))) (buffer_event (inputs.receiver_input input)))
step_more limits before link tick passed (inputs.Media arrival) =
    let both = one_of_both (is_kept (verdict limits (buffer_history before) tick arrival)) arrival.again in
    let more = arrival_more limits (epochs_of limits (buffer_history before)) (max tick (effective_time (buffer_history before))) arrival in
    omega (arith, both, more)
step_more limits before link tick passed (inputs.Control sample request) = omega arith
step_more limits before link tick passed inputs.Keepalive = omega arith
step_more limits before link tick passed inputs.Refused = omega arith
step_more limits before link tick passed (inputs.Tick micros) = omega arith
step_more limits before link tick passed inputs.End = omega arith

came_is : (limits : Limits) (history : List ReceiverStep) → first_count limits history + recovered_count limits history ≡ kept_over (epochs_of limits (buffer_history history))
came_is limits [] = refl
came_is limits (step ∷ before) =
    let a : Amounts = amounts_of limits before step in
    let firsts : List ℕ = map (λ (e : Entry). e.amounts.first) (entries_of limits before) in
    let recovered : List ℕ = map (λ (e : Entry). e.amounts.recovered) (entries_of limits before) in
    let rest = came_is limits before in
    let more = step_more limits before step.link step.tick (passed_by limits before step) step.input in
    ap (λ (n : ℕ). n + sum (a.recovered ∷ recovered)) (sum_cons a.first firsts) ∙ ap (λ (n : ℕ). (a.first + sum firsts) + n) (sum_cons a.recovered recovered) ∙ omega (arith, rest, more)

-- what was sent came first time, was recovered or is missing
pub sent_is : (limits : Limits) (history : List ReceiverStep) → has_ended (buffer_history history) ≡ true
    → sent_count limits (buffer_history history) ≡ (first_count limits history + recovered_count limits history) + missing_count limits (buffer_history history)
sent_is limits history over =
    sent_parts limits (buffer_history history) over ∙ ap (λ (n : ℕ). n + missing_count limits (buffer_history history)) (sym (came_is limits history))
