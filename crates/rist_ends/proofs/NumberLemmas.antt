-- Numbers after an arrival.
use Rattle.std.proofs.Common.{◌≡◌, ℕ, suc, ◌-◌, ◌^◌, ◌<◌, max, List, [], ◌∷◌, length, refl, sym, ap, ◌∙◌, subst, arith, Bool, true, false, not}
use Rattle.std.specs.Prelude.{nat_eq, if◌then◌else◌, Option, None, Some}
use Rattle.std.proofs.lemmas.Bool.Decides.{nat_tests}
use Rattle.std.specs.Option.{option_map}
use Rattle.receiver_rules.specs.declared.limits.Limits.{Limits}
use Rattle.receiver_rules.specs.declared.anchor.Highest.{Highest}
use Rattle.receiver_rules.specs.Steps.{Arrival, Media}
use Rattle.receiver_rules.specs.Packets.{Packet, Moment, highest_of, number_of, is_kept, playout_floor}
use Rattle.receiver_rules.specs.Epochs.{Epoch, new_epoch, opens_next, epoch_at, epoch_with, epochs_of, verdict_in, packet_in, epochs_after, newest_accepted}
use Rattle.receiver_rules.specs.declared.verdict.Verdict.{Verdict}
use Rattle.receiver_rules.specs.declared.arrival.Arrival.{Arrival as Offered}
use Rattle.receiver_rules.specs.Seen.{seen}
use Rattle.receiver_rules.specs.Steps as buffer
use Rattle.receiver_rules.specs.History.{accepted_packets, epoch_number, verdict}
use Rattle.request_rules.specs.Steps.{Step as ReceiverStep, buffer_history}
use Rattle.rist_ends.specs.declared.numbers.Numbers.{Numbers}
use Rattle.rist_ends.specs.declared.told.What.{What}
use Rattle.rist_ends.specs.declared.told.What.TheVariants as whats
use Rattle.rist_ends.specs.Counts.{capped}
use Rattle.rist_ends.specs.Numbers.{AreNumbersOf, lowest_of, above, sent_over, missing_over, missing_at}
use Rattle.rist_ends.specs.Taking.{above_number, number_by, numbers_with, closed, with_kept, taken, sent_of, missing_of}
use Rattle.rist_ends.specs.Told.{input_of}
use Rattle.rist_ends.specs.Inside.Stepping.{SaysVerdictOn}

-- the highest number
abbrev pub number_in : Option Highest → Option ℕ
number_in h = option_map (λ (x : Highest). x.number) h

-- a number by the highest number alone
pub number_same : (h : Option Highest) (arrival : Arrival) → number_of h arrival ≡ number_by (number_in h) arrival
number_same None arrival = refl
number_same (Some highest) arrival = refl

pub above_same : (h : Option Highest) → above h ≡ above_number (number_in h)
above_same None = refl
above_same (Some highest) = refl

-- ---- a packet that is kept

-- what is kept of an epoch and of those before it
pub record AreParts (n : Numbers) (accepted : List Packet) (earlier : List Epoch) : Type 0 where
  pub lowest : n.low ≡ lowest_of accepted
  pub count : n.kept ≡ capped (length accepted)
  pub before : n.sent ≡ capped (sent_over earlier)
  pub lost : n.missing ≡ capped (missing_over earlier)

pub keeps : (n : Numbers) (kept : Bool) (number : ℕ) (p : Packet) (accepted : List Packet) (earlier : List Epoch) → p.number ≡ number → AreParts n accepted earlier
    → AreParts (with_kept n kept number) (if kept then p ∷ accepted else accepted) earlier
keeps n true number p accepted earlier is parts =
    let low = parts.lowest in
    let count = parts.count in
    record { lowest = omega (arith, low, is); count = omega (arith, count); before = parts.before; lost = parts.lost }
keeps n false number p accepted earlier is parts = parts

-- an epoch that is over
pub closes : (n : Numbers) (current : Epoch) (earlier : List Epoch) → AreParts n current.accepted earlier
    → AreParts (closed n (number_in (highest_of current.accepted))) [] (current ∷ earlier)
closes n current earlier parts =
    let low = parts.lowest in
    let count = parts.count in
    let before = parts.before in
    let lost = parts.lost in
    let top = above_same (highest_of current.accepted) in
    record {
      lowest = refl;
      count = refl;
      before = omega (arith, low, before, top);
      lost = omega (arith, low, count, lost, top);
    }

-- ---- an arrival

-- an arrival that opens an epoch after another one
abbrev pub reopens : Limits → List Epoch → ℕ → Arrival → Bool
reopens limits [] t arrival = false
reopens limits (current ∷ earlier) t arrival = opens_next limits current t arrival

-- the numbers after an arrival, where it opens an epoch or not
taken_by : (b : Bool) (limits : Limits) (current : Epoch) (earlier : List Epoch) (t : ℕ) (arrival : Arrival) (n : Numbers) → AreParts n current.accepted earlier
    → AreNumbersOf (taken n b (number_in (highest_of current.accepted)) (is_kept (verdict_in limits (if b then new_epoch t arrival else current) t arrival)) arrival)
    (epoch_with limits (if b then new_epoch t arrival else current) t arrival ∷ (if b then current ∷ earlier else earlier))
taken_by true limits current earlier t arrival n parts =
    let fresh : Epoch = new_epoch t arrival in
    let k = keeps (closed n (number_in (highest_of current.accepted))) (is_kept (verdict_in limits fresh t arrival)) (number_by None arrival) (packet_in limits fresh arrival) [] (current ∷ earlier) (number_same None arrival) (closes n current earlier parts) in
    record { lowest = k.lowest; count = k.count; before = k.before; lost = k.lost }
taken_by false limits current earlier t arrival n parts =
    let k = keeps n (is_kept (verdict_in limits current t arrival)) (number_by (number_in (highest_of current.accepted)) arrival) (packet_in limits current arrival) current.accepted earlier (number_same (highest_of current.accepted) arrival) parts in
    record { lowest = k.lowest; count = k.count; before = k.before; lost = k.lost }

pub taken_epochs : (limits : Limits) (epochs : List Epoch) (t : ℕ) (arrival : Arrival) (n : Numbers) → AreNumbersOf n epochs
    → AreNumbersOf (taken n (reopens limits epochs t arrival) (number_in (highest_of (newest_accepted epochs))) (is_kept (verdict_in limits (epoch_at limits epochs t arrival) t arrival)) arrival) (epochs_after limits epochs t (Media arrival))
taken_epochs limits [] t arrival n are =
    let fresh : Epoch = new_epoch t arrival in
    let k = keeps n (is_kept (verdict_in limits fresh t arrival)) (number_by None arrival) (packet_in limits fresh arrival) [] [] (number_same None arrival) (record { lowest = are.lowest; count = are.count; before = are.before; lost = are.lost }) in
    record { lowest = k.lowest; count = k.count; before = k.before; lost = k.lost }
taken_epochs limits (current ∷ earlier) t arrival n are =
    taken_by (opens_next limits current t arrival) limits current earlier t arrival n (record { lowest = are.lowest; count = are.count; before = are.before; lost = are.lost })

-- an epoch opened exactly where there is one more
more_by : (b : Bool) (e : Epoch) (current : Epoch) (earlier : List Epoch) → not (nat_eq (length (e ∷ (if b then current ∷ earlier else earlier)) - 1) (length (current ∷ earlier) - 1)) ≡ b
more_by true e current earlier = more (length earlier)
  where
    more : (n : ℕ) → not (nat_eq (suc (suc n) - 1) (suc n - 1)) ≡ true
    more n = grind (arith, nat_tests)
more_by false e current earlier = same (length earlier)
  where
    same : (n : ℕ) → not (nat_eq (suc n - 1) (suc n - 1)) ≡ false
    same n = grind (arith, nat_tests)

pub reopened : (limits : Limits) (epochs : List Epoch) (t : ℕ) (arrival : Arrival) → not (nat_eq (length (epochs_after limits epochs t (Media arrival)) - 1) (length epochs - 1)) ≡ reopens limits epochs t arrival
reopened limits [] t arrival = refl
reopened limits (current ∷ earlier) t arrival = more_by (opens_next limits current t arrival) (epoch_with limits (epoch_at limits (current ∷ earlier) t arrival) t arrival) current earlier

-- ---- what the numbers tell

pub sent_is : (n : Numbers) (epochs : List Epoch) → AreNumbersOf n epochs → sent_of n (number_in (highest_of (newest_accepted epochs))) ≡ capped (sent_over epochs)
sent_is n [] are =
    let low = are.lowest in
    let before = are.before in
    omega (arith, low, before)
sent_is n (current ∷ earlier) are =
    let low = are.lowest in
    let before = are.before in
    let top = above_same (highest_of current.accepted) in
    omega (arith, low, before, top)

pub missing_is : (n : Numbers) (epochs : List Epoch) (floor waiting : ℕ) → floor < 2 ^ 64 → AreNumbersOf n epochs → missing_of n floor waiting ≡ capped (missing_at epochs floor waiting)
missing_is n [] floor waiting fits are =
    let low = are.lowest in
    let lost = are.lost in
    omega (arith, low, lost, fits)
missing_is n (current ∷ earlier) floor waiting fits are =
    let low = are.lowest in
    let count = are.count in
    let lost = are.lost in
    omega (arith, low, count, lost)

-- the same by the floor of the playout
pub missing_shown : (n : Numbers) (epochs : List Epoch) (floor waiting : ℕ) (moment : Moment) → floor ≡ playout_floor (newest_accepted epochs) moment → AreNumbersOf n epochs → missing_of n floor waiting ≡ capped (missing_at epochs floor waiting)
missing_shown n [] floor waiting moment is are = missing_is n [] floor waiting (omega (arith, is)) are
missing_shown n (current ∷ earlier) floor waiting moment is are =
    let low = are.lowest in
    let count = are.count in
    let lost = are.lost in
    omega (arith, low, count, lost)

-- ---- what a buffer tells of an arrival

pub opened_is : (limits : Limits) (epochs : List Epoch) (t : ℕ) (arrival : Arrival) (was is : ℕ) → was ≡ length epochs - 1 → is ≡ length (epochs_after limits epochs t (Media arrival)) - 1
    → not (nat_eq is was) ≡ reopens limits epochs t arrival
opened_is limits epochs t arrival was is before after =
    ap (λ (n : ℕ). not (nat_eq n was)) after ∙ ap (λ (n : ℕ). not (nat_eq (length (epochs_after limits epochs t (Media arrival)) - 1) n)) before ∙ reopened limits epochs t arrival

pub received_numbers : (limits : Limits) (epochs : List Epoch) (t : ℕ) (arrival : Arrival) (n new : Numbers) (opened kept : Bool) (high : Option ℕ)
    → new ≡ taken n opened high kept arrival → opened ≡ reopens limits epochs t arrival → high ≡ number_in (highest_of (newest_accepted epochs))
    → kept ≡ is_kept (verdict_in limits (epoch_at limits epochs t arrival) t arrival)
    → AreNumbersOf n epochs → AreNumbersOf new (epochs_after limits epochs t (Media arrival))
received_numbers limits epochs t arrival n new opened kept high value o h k are =
    subst (λ (m : Numbers). AreNumbersOf m (epochs_after limits epochs t (Media arrival)))
    (sym (value ∙ ap (λ (b : Bool). taken n b high kept arrival) o
    ∙ ap (λ (x : Option ℕ). taken n (reopens limits epochs t arrival) x kept arrival) h
    ∙ ap (λ (b : Bool). taken n (reopens limits epochs t arrival) (number_in (highest_of (newest_accepted epochs))) b arrival) k))
    (taken_epochs limits epochs t arrival n are)

-- ---- what came with a step

-- what is told of an arrival: whether the place of its epoch is another, and the highest number before it
pub record IsToldOf (limits : Limits) (history : List ReceiverStep) (step : ReceiverStep) (opened : Bool) (high : Option ℕ) (was now : ℕ) : Type 0 where
  pub other : opened ≡ not (nat_eq now was)
  pub place : was ≡ epoch_number limits (buffer_history history)
  pub here : now ≡ epoch_number limits (buffer_history (step ∷ history))
  pub top : high ≡ number_in (highest_of (accepted_packets limits (buffer_history history)))

media_numbered : (v : Option Verdict) (n : Numbers) (limits : Limits) (h : List ReceiverStep) (link tick us : ℕ) (arrival : Offered) (opened : Bool) (high : Option ℕ) (was now : ℕ)
    → v ≡ Some (verdict limits (buffer_history h) tick (seen arrival)) → IsToldOf limits h (record { link = link; tick = tick; input = input_of us (whats.Media arrival) }) opened high was now
    → AreNumbersOf n (epochs_of limits (buffer_history h))
    → AreNumbersOf (numbers_with v (whats.Media arrival) opened high n) (epochs_of limits (buffer_history (record { link = link; tick = tick; input = input_of us (whats.Media arrival) } ∷ h)))
media_numbered v n limits h link tick us arrival opened high was now e told are =
    let w : Verdict = verdict limits (buffer_history h) tick (seen arrival) in
    let t : ℕ = max tick (buffer.effective_time (buffer_history h)) in
    let epochs : List Epoch = epochs_of limits (buffer_history h) in
    subst (λ (o : Option Verdict). AreNumbersOf (numbers_with o (whats.Media arrival) opened high n) (epochs_after limits epochs t (Media (seen arrival)))) (sym e)
    (received_numbers limits epochs t (seen arrival) n (taken n opened high (is_kept w) (seen arrival)) opened (is_kept w) high refl
    (told.other ∙ opened_is limits epochs t (seen arrival) was now told.place told.here) told.top refl are)

silent_numbered : (v : Option Verdict) (what : What) (n : Numbers) (epochs : List Epoch) (opened : Bool) (high : Option ℕ) → v ≡ None → AreNumbersOf n epochs → AreNumbersOf (numbers_with v what opened high n) epochs
silent_numbered v what n epochs opened high e are = subst (λ (o : Option Verdict). AreNumbersOf (numbers_with o what opened high n) epochs) (sym e) are

-- the numbers of what is told, with the verdict that its step says
pub numbered : (v : Option Verdict) (what : What) (n : Numbers) (limits : Limits) (h : List ReceiverStep) (link tick us : ℕ) (opened : Bool) (high : Option ℕ) (was now : ℕ)
    → SaysVerdictOn v limits (buffer_history h) tick (input_of us what) → IsToldOf limits h (record { link = link; tick = tick; input = input_of us what }) opened high was now
    → AreNumbersOf n (epochs_of limits (buffer_history h))
    → AreNumbersOf (numbers_with v what opened high n) (epochs_of limits (buffer_history (record { link = link; tick = tick; input = input_of us what } ∷ h)))
numbered v (whats.Media arrival) n limits h link tick us opened high was now e told are = media_numbered v n limits h link tick us arrival opened high was now e told are
numbered v (whats.Control compound) n limits h link tick us opened high was now e told are = silent_numbered v (whats.Control compound) n (epochs_of limits (buffer_history h)) opened high e are
numbered v whats.Keepalive n limits h link tick us opened high was now e told are = silent_numbered v whats.Keepalive n (epochs_of limits (buffer_history h)) opened high e are
numbered v whats.Refused n limits h link tick us opened high was now e told are = silent_numbered v whats.Refused n (epochs_of limits (buffer_history h)) opened high e are
numbered v whats.Tick n limits h link tick us opened high was now e told are = silent_numbered v whats.Tick n (epochs_of limits (buffer_history h)) opened high e are
numbered v whats.End n limits h link tick us opened high was now e told are = silent_numbered v whats.End n (epochs_of limits (buffer_history h)) opened high e are
