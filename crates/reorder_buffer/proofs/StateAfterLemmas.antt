-- What a state shows of its history, before and after an arrival.
use Rattle.std.proofs.Common.{◌≡◌, ◌||◌, ℕ, suc, ◌+◌, ◌-◌, ◌*◌, ◌^◌, ◌<◌, ◌≤◌, max, pos, Bool, true, false, cond, not, ◌&&◌, List, [], ◌∷◌, Option, Some, None, unwrap_or, length, refl, sym, ◌∙◌, ap, subst, arith}
use Rattle.std.specs.Prelude.{ℤ, nat_lt, nat_le, nat_eq, ◌==◌, int_le, int_lt, IsSome, IsNone}
use Rattle.std.proofs.lemmas.Bool.{ltb-false, leb-false, and_parts, eqb-true, ne_eqb}
use Rattle.std.specs.List.{filter, list_any}
use Rattle.receiver_rules.specs.declared.verdict.Verdict.TheVariants.{Kept, Stranger, Exhausted, Late, Behind, Early, Twice, Span}
use Rattle.receiver_rules.specs.declared.anchor.Anchor.{Anchor}
use Rattle.receiver_rules.specs.declared.limits.Limits.{Limits}
use Rattle.receiver_rules.specs.Steps.{Arrival, Event, Media, Step, effective_time, is_end, has_ended, media_step, time_step}
use Rattle.receiver_rules.specs.Packets.{Packet, Moment, At, Ever, number_of, timestamp_of, deadline_of, placed_packet, distance, is_buffered, verdict_of, is_kept, playout_floor, by_number, highest_of, higher, insert_by_number, is_from}
use Rattle.receiver_rules.specs.Epochs.{Epoch, base_of, IsNewestClock, new_anchor, new_epoch, opens_next, opens_epoch, epoch_at, earlier_at, verdict_in, packet_in, epoch_with, epochs_after, epochs_of, newest_anchor, newest_accepted, newest_last}
use Rattle.receiver_rules.specs.History.{accepted_packets, current_moment, verdict}
use Rattle.receiver_rules.proofs.PacketLemmas.{any_same, filter_same, any-filter, any-by_number, is_behind_playout-floor, is_buffered-floor, buffered-cons}
use Rattle.receiver_rules.proofs.HistoryLemmas.{chain as kept_chain, now_open, IsKept, accepted_parts, buffered_when_accepted}
use Rattle.std.proofs.lemmas.Int.{ints}
use Rattle.receiver_rules.specs.Bounds.{AreInRange, IsEarlyAnchor, IsNearBase}
use Rattle.receiver_rules.specs.Clock.{transit_of, clock_of}
use Rattle.receiver_rules.specs.Seen.{packet_at, IsPlaceOf, begun_clock, counted_clock}
use Rattle.receiver_rules.specs.declared.place.Position.{Position}
use Rattle.receiver_rules.specs.declared.clock.Clock.{Clock}
use Rattle.receiver_rules.proofs.BoundLemmas.{mid_in_window}
use Rattle.receiver_rules.proofs.ClockLemmas.{counted_follows}
use Rattle.reorder_buffer.specs.State.{State}
use Rattle.reorder_buffer.specs.StateAfter.{Shows, IsStateAfter}
use Rattle.reorder_buffer.specs.Inside.Tests.{IsAdmissible, verdict_here, anchor_at, clock_at, placed_at, judged}
use Rattle.reorder_buffer.specs.Inside.Changes.{holding, moved, clock_then, taken, is_opening, begun, opened_at}
use Rattle.reorder_buffer.specs.declared.phase.Phase.TheVariants.{Open, Ended}
use Rattle.reorder_buffer.proofs.PhaseLemmas.{not_failed}

open_phase : (b : Bool) → cond b Ended Open ≡ Open → b ≡ false
open_phase true e = cc
open_phase false e = refl

pub still_open : (b : State) (history : List Step) → Shows b history → b.phase ≡ Open → has_ended history ≡ false
still_open b history s e = open_phase _ (sym s.phase ∙ e)

-- what the state keeps, at the moment t of its last step, or at any moment where nothing came yet
pub record IsAt (b : State) (packets : List Packet) (t : ℕ) : Type 0 where
  pub floor : b.floor ≡ playout_floor packets (At t)
  pub held : b.held ≡ filter (is_buffered packets (At t)) (by_number packets)

-- ---- the tests, on what is held and on all that was kept

twice_at : (floor number : ℕ) (packets : List Packet) → floor ≤ number → list_any (λ q. q.number == number) (filter (is_from floor) (by_number packets)) ≡ list_any (λ q. q.number == number) packets
twice_at floor number packets h =
    any-filter (λ q. q.number == number) (is_from floor) (by_number packets)
    ∙ any_same (λ q. is_from floor q && (q.number == number)) (λ q. q.number == number) (λ q. grind arith) (by_number packets)
    ∙ any-by_number (λ q. q.number == number) packets

chain : (a b c d d' e f f' g g' : Bool) → d ≡ d' → (d' ≡ false → f ≡ f') → g ≡ g'
    → cond a Stranger (cond b Exhausted (cond c Late (cond d Behind (cond e Early (cond f Twice (cond g Span Kept))))))
    ≡ cond a Stranger (cond b Exhausted (cond c Late (cond d' Behind (cond e Early (cond f' Twice (cond g' Span Kept))))))
chain a b c d true e f f' g g' p q r = ap (λ x. cond a Stranger (cond b Exhausted (cond c Late (cond x Behind (cond e Early (cond f Twice (cond g Span Kept))))))) p
chain a b c d false e f f' g g' p q r =
    ap (λ x. cond a Stranger (cond b Exhausted (cond c Late (cond x Behind (cond e Early (cond f Twice (cond g Span Kept))))))) p
    ∙ ap (λ x. cond a Stranger (cond b Exhausted (cond c Late (cond e Early (cond x Twice (cond g Span Kept)))))) (q refl)
    ∙ ap (λ x. cond a Stranger (cond b Exhausted (cond c Late (cond e Early (cond f' Twice (cond x Span Kept)))))) r

pub verdict_same : (b : State) (packets : List Packet) (t : ℕ) (a : Anchor) (base : ℤ) (arrival : Arrival) → IsAt b packets t
    → verdict_here b a t arrival.flow (number_of (highest_of packets) arrival) (deadline_of b.limits a base (timestamp_of (highest_of packets) arrival)) ≡ verdict_of b.limits a base packets t arrival
verdict_same b packets t a base arrival is =
    let p : Packet = placed_packet b.limits a base (highest_of packets) arrival in
    let held : b.held ≡ filter (is_from (playout_floor packets (At t))) (by_number packets) = is.held ∙ filter_held in
    chain _ _ _ _ _ _ _ _ _ _
    (ap (λ n. nat_lt p.number n) is.floor ∙ sym (is_behind_playout-floor packets (At t) p))
    (λ ahead. ap (λ ps. list_any (λ q. q.number == p.number) ps) held ∙ twice_at (playout_floor packets (At t)) p.number packets (ltb-false _ _ (sym (is_behind_playout-floor packets (At t) p) ∙ ahead)))
    (ap (λ ps. list_any (λ q. nat_le b.limits.capacity (distance q.number p.number)) ps) is.held
    ∙ any-filter _ _ (by_number packets)
    ∙ any-by_number _ packets)
  where
    filter_held : filter (is_buffered packets (At t)) (by_number packets) ≡ filter (is_from (playout_floor packets (At t))) (by_number packets)
    filter_held = filter_same _ _ (is_buffered-floor packets (At t)) (by_number packets)

-- ---- a packet that is kept may wait

pub admissible : (b : State) (a : Anchor) (base : ℤ) (t : ℕ) (arrival : Arrival) (place : Position) (payload : List ℕ) → AreInRange b.limits → IsEarlyAnchor t a → IsNearBase a.time base → t < 2 ^ 61
    → IsPlaceOf place (placed_packet b.limits a base b.highest arrival) → is_kept (verdict_here b a t arrival.flow place.number place.deadline) ≡ true → IsAdmissible b (packet_at place payload)
admissible b a base t arrival place payload small early near h at e =
    let c = kept_chain _ _ _ _ _ _ _ e in
    let mid = mid_in_window b.limits a base t b.highest arrival small early near h (ap (λ d. int_le d (pos t)) (sym at.deadline) ∙ c.2) (ap (λ d. int_lt (pos (t + 2 * b.limits.playout_delay)) d) (sym at.deadline) ∙ c.4) in
    record {
      low = ltb-false _ _ c.3;
      high = leb-false _ _ c.1;
      mid = record {
        first = λ none. subst (λ n. 2 ^ 40 ≤ n) (sym at.number) (mid.first none);
        timestamp_low = subst (λ n. 2 ^ 59 ≤ n) (sym at.timestamp) mid.timestamp_low;
        timestamp_high = subst (λ n. n < 2 ^ 62) (sym at.timestamp) mid.timestamp_high;
      };
      positive = positive place.deadline t c.2;
      soon = soon place.deadline t b.limits.playout_delay h small.delay c.4;
      new = c.5;
      near = c.6;
    }
  where
    positive : (d : ℤ) (t : ℕ) → int_le d (pos t) ≡ false → int_lt d (pos 0) ≡ false
    positive d t late = grind (arith, ints)

    soon : (d : ℤ) (t delay : ℕ) → t < 2 ^ 61 → delay ≤ 2700000 → int_lt (pos (t + 2 * delay)) d ≡ false → int_lt d (pos (2 ^ 62)) ≡ true
    soon d t delay h small early = grind (arith, ints)

-- ---- an arrival of an epoch

-- what a state shows of the epoch that an arrival comes in, and of those before it
pub record Faces (b : State) (epoch : Epoch) (earlier : List Epoch) (t : ℕ) (arrival : Arrival) : Type 0 where
  pub anchor : anchor_at b t arrival ≡ epoch.anchor
  pub highest : b.highest ≡ highest_of epoch.accepted
  pub at : IsAt b epoch.accepted t
  pub last : b.last ≡ epoch.last
  pub place : b.epoch ≡ length earlier
  pub clock : clock_at b t ≡ clock_of b.limits epoch.anchor.time epoch.transits

-- what a state shows of the epochs at a moment
pub record ShowsEpochs (b : State) (epochs : List Epoch) (m : Moment) : Type 0 where
  pub anchor : b.anchor ≡ newest_anchor epochs
  pub highest : b.highest ≡ highest_of (newest_accepted epochs)
  pub floor : b.floor ≡ playout_floor (newest_accepted epochs) m
  pub held : b.held ≡ filter (is_buffered (newest_accepted epochs) m) (by_number (newest_accepted epochs))
  pub last : b.last ≡ newest_last epochs
  pub epoch : b.epoch ≡ length epochs - 1
  pub clock : IsNewestClock b.limits b.clock epochs

pub judged_faced : (b : State) (epoch : Epoch) (earlier : List Epoch) (t : ℕ) (arrival : Arrival) → Faces b epoch earlier t arrival → judged b t arrival ≡ verdict_in b.limits epoch t arrival
judged_faced b epoch earlier t arrival f =
    ap (λ highest. verdict_here b (anchor_at b t arrival) t arrival.flow (number_of highest arrival) (deadline_of b.limits (anchor_at b t arrival) (clock_at b t).base (timestamp_of highest arrival))) f.highest
    ∙ ap (λ a. verdict_here b a t arrival.flow (number_of (highest_of epoch.accepted) arrival) (deadline_of b.limits a (clock_at b t).base (timestamp_of (highest_of epoch.accepted) arrival))) f.anchor
    ∙ ap (λ (k : Clock). verdict_here b epoch.anchor t arrival.flow (number_of (highest_of epoch.accepted) arrival) (deadline_of b.limits epoch.anchor k.base (timestamp_of (highest_of epoch.accepted) arrival))) f.clock
    ∙ verdict_same b epoch.accepted t epoch.anchor (base_of b.limits epoch) arrival f.at

placed_faced : (b : State) (epoch : Epoch) (earlier : List Epoch) (t : ℕ) (arrival : Arrival) → Faces b epoch earlier t arrival → placed_at b t arrival ≡ packet_in b.limits epoch arrival
placed_faced b epoch earlier t arrival f =
    ap (λ a. placed_packet b.limits a (clock_at b t).base b.highest arrival) f.anchor
    ∙ ap (λ (k : Clock). placed_packet b.limits epoch.anchor k.base b.highest arrival) f.clock
    ∙ ap (λ highest. placed_packet b.limits epoch.anchor (base_of b.limits epoch) highest arrival) f.highest

same_length : (n : ℕ) → n ≡ suc n - 1
same_length n = omega arith

-- an arrival that isn't kept
moved_shows : (b : State) (epoch : Epoch) (earlier : List Epoch) (t : ℕ) (arrival : Arrival) (clock : Clock) → Faces b epoch earlier t arrival → clock ≡ clock_of b.limits epoch.anchor.time epoch.transits
    → ShowsEpochs (moved b t epoch.anchor clock false) (epoch ∷ earlier) (At t)
moved_shows b epoch earlier t arrival clock f is =
    record { anchor = refl; highest = f.highest; floor = f.at.floor; held = f.at.held; last = f.last; epoch = f.place ∙ same_length (length earlier); clock = is }

-- the epoch with one more packet
abbrev kept_in : Limits → Epoch → ℕ → Arrival → List ℤ → Epoch
kept_in limits epoch t arrival transits = record { anchor = epoch.anchor; accepted = packet_in limits epoch arrival ∷ epoch.accepted; last = t; transits = transits }

-- an arrival that is kept
holding_shows : (b : State) (epoch : Epoch) (earlier : List Epoch) (t : ℕ) (arrival : Arrival) (clock : Clock) (transits : List ℤ) → Faces b epoch earlier t arrival → is_kept (verdict_in b.limits epoch t arrival) ≡ true → clock ≡ clock_of b.limits epoch.anchor.time transits
    → ShowsEpochs (moved (holding b (packet_in b.limits epoch arrival)) t epoch.anchor clock true) (kept_in b.limits epoch t arrival transits ∷ earlier) (At t)
holding_shows b epoch earlier t arrival clock transits f kept is =
    let p : Packet = packet_in b.limits epoch arrival in
    let parts : IsKept b.limits epoch.anchor (base_of b.limits epoch) epoch.accepted t arrival = accepted_parts b.limits epoch.anchor (base_of b.limits epoch) epoch.accepted t arrival kept in
    record {
      anchor = refl;
      highest = ap (λ o. Some (higher p o)) f.highest;
      floor = f.at.floor ∙ sym (ap (λ c. cond c (max (p.number + 1) (playout_floor epoch.accepted (At t))) (playout_floor epoch.accepted (At t))) parts.in_time);
      held = ap (insert_by_number p) f.at.held ∙ sym (buffered-cons p epoch.accepted (At t) parts.in_time (buffered_when_accepted epoch.accepted (At t) p parts.ahead));
      last = refl;
      epoch = f.place ∙ same_length (length earlier);
      clock = is;
    }

-- the clock after an arrival
clock_faced : (b : State) (epoch : Epoch) (earlier : List Epoch) (t : ℕ) (arrival : Arrival) (kept : Bool) → Faces b epoch earlier t arrival
    → clock_then b t arrival kept ≡ clock_of b.limits epoch.anchor.time (cond (kept && not arrival.again) (transit_of epoch.anchor t (packet_in b.limits epoch arrival).timestamp ∷ epoch.transits) epoch.transits)
clock_faced b epoch earlier t arrival kept f =
    ap (λ a. counted_clock b.limits a (clock_at b t) t (placed_at b t arrival).timestamp (kept && not arrival.again)) f.anchor
    ∙ ap (λ k. counted_clock b.limits epoch.anchor k t (placed_at b t arrival).timestamp (kept && not arrival.again)) f.clock
    ∙ ap (λ (p : Packet). counted_clock b.limits epoch.anchor (clock_of b.limits epoch.anchor.time epoch.transits) t p.timestamp (kept && not arrival.again)) (placed_faced b epoch earlier t arrival f)
    ∙ counted_follows b.limits epoch.anchor t (packet_in b.limits epoch arrival).timestamp epoch.transits (kept && not arrival.again)

-- what an arrival leaves shows the epochs with it
pub taken_shows : (b : State) (epoch : Epoch) (earlier : List Epoch) (t : ℕ) (arrival : Arrival) → Faces b epoch earlier t arrival → ShowsEpochs (taken b t arrival) (epoch_with b.limits epoch t arrival ∷ earlier) (At t)
taken_shows b epoch earlier t arrival f =
    let same : is_kept (judged b t arrival) ≡ is_kept (verdict_in b.limits epoch t arrival) = ap is_kept (judged_faced b epoch earlier t arrival f) in
    let more : Bool → List ℤ = λ c. cond (c && not arrival.again) (transit_of epoch.anchor t (packet_in b.limits epoch arrival).timestamp ∷ epoch.transits) epoch.transits in
    let after : Bool → Packet → Anchor → Clock → State = λ c p a k. moved (cond c (holding b p) b) t a k c in
    let is : taken b t arrival ≡ after (is_kept (verdict_in b.limits epoch t arrival)) (packet_in b.limits epoch arrival) epoch.anchor (clock_of b.limits epoch.anchor.time (more (is_kept (verdict_in b.limits epoch t arrival)))) =
    ap (λ c. after c (placed_at b t arrival) (anchor_at b t arrival) (clock_then b t arrival c)) same
    ∙ ap (λ p. after (is_kept (verdict_in b.limits epoch t arrival)) p (anchor_at b t arrival) (clock_then b t arrival (is_kept (verdict_in b.limits epoch t arrival)))) (placed_faced b epoch earlier t arrival f)
    ∙ ap (λ a. after (is_kept (verdict_in b.limits epoch t arrival)) (packet_in b.limits epoch arrival) a (clock_then b t arrival (is_kept (verdict_in b.limits epoch t arrival)))) f.anchor
    ∙ ap (after (is_kept (verdict_in b.limits epoch t arrival)) (packet_in b.limits epoch arrival) epoch.anchor) (clock_faced b epoch earlier t arrival (is_kept (verdict_in b.limits epoch t arrival)) f) in
    subst (λ s. ShowsEpochs s (epoch_with b.limits epoch t arrival ∷ earlier) (At t)) (sym is)
    (elim (is_kept (verdict_in b.limits epoch t arrival)) as (λ c. is_kept (verdict_in b.limits epoch t arrival) ≡ c → ShowsEpochs (after c (packet_in b.limits epoch arrival) epoch.anchor (clock_of b.limits epoch.anchor.time (more c))) (record { anchor = epoch.anchor; accepted = cond c (packet_in b.limits epoch arrival ∷ epoch.accepted) epoch.accepted; last = cond c t epoch.last; transits = more c } ∷ earlier) (At t)) [
      | true ↦ λ e. holding_shows b epoch earlier t arrival (clock_of b.limits epoch.anchor.time (more true)) (more true) f e refl
      | false ↦ λ e. moved_shows b epoch earlier t arrival (clock_of b.limits epoch.anchor.time epoch.transits) f refl
    ] refl)

-- ---- an arrival after a history

-- what an arrival is told of before it is judged
pub record Arrives (b : State) (history : List Step) (at : ℕ) : Type 0 where
  pub shows : Shows b history
  pub live : b.phase ≡ Open
  pub later : b.time ≤ at
  pub released : IsSome b.anchor → b.time ≡ at

time_is : (b : State) (history : List Step) (at : ℕ) → Arrives b history at → max at (effective_time history) ≡ at
time_is b history at h = let e = h.shows.time in let l = h.later in omega arith

now_is : (b : State) (history : List Step) (at : ℕ) (arrival : Arrival) → Arrives b history at → current_moment (media_step at arrival ∷ history) ≡ At at
now_is b history at arrival h =
    ap (λ c. cond c Ever (At (max at (effective_time history)))) (still_open b history h.shows h.live)
    ∙ ap At (time_is b history at h)

-- the epochs, at the time of the arrival
pub record Meets (b : State) (epochs : List Epoch) (at : ℕ) : Type 0 where
  pub anchor : b.anchor ≡ newest_anchor epochs
  pub highest : b.highest ≡ highest_of (newest_accepted epochs)
  pub here : IsSome b.anchor → IsAt b (newest_accepted epochs) at
  pub floor : IsNone b.anchor → b.floor ≡ 0
  pub held : IsNone b.anchor → b.held ≡ []
  pub last : b.last ≡ newest_last epochs
  pub epoch : b.epoch ≡ length epochs - 1
  pub clock : IsNewestClock b.limits b.clock epochs

no_floor : (epochs : List Epoch) (m : Moment) → newest_anchor epochs ≡ None → playout_floor (newest_accepted epochs) m ≡ 0
no_floor [] m e = refl
no_floor (current ∷ earlier) m e = cc

nothing_held : (epochs : List Epoch) (m : Moment) → newest_anchor epochs ≡ None → filter (is_buffered (newest_accepted epochs) m) (by_number (newest_accepted epochs)) ≡ []
nothing_held [] m e = refl
nothing_held (current ∷ earlier) m e = cc

pub meets : (b : State) (history : List Step) (at : ℕ) → Arrives b history at → Meets b (epochs_of b.limits history) at
meets b history at h =
    let s = h.shows in
    let moment = now_open history (still_open b history s h.live) in
    record {
      anchor = s.anchor;
      highest = s.highest;
      here = λ some.
          let same : current_moment history ≡ At at = moment ∙ ap At (sym s.time ∙ h.released some) in
          record {
            floor = s.floor ∙ ap (λ m. playout_floor (accepted_packets b.limits history) m) same;
            held = s.held ∙ ap (λ m. filter (is_buffered (accepted_packets b.limits history) m) (by_number (accepted_packets b.limits history))) same;
          };
      floor = λ none. s.floor ∙ no_floor (epochs_of b.limits history) (current_moment history) (sym s.anchor ∙ is_none b.anchor none);
      held = λ none. s.held ∙ nothing_held (epochs_of b.limits history) (current_moment history) (sym s.anchor ∙ is_none b.anchor none);
      last = s.last;
      epoch = s.epoch;
      clock = s.clock;
    }
  where
    is_none : (o : Option Anchor) → IsNone o → o ≡ None
    is_none None e = refl
    is_none (Some a) e = cc

-- whether it opens an epoch
length_none : (f : Packet → Bool) (ps : List Packet) → nat_eq (length (filter f ps)) 0 ≡ not (list_any f ps)
length_none f [] = refl
length_none f (p ∷ ps) =
    elim (f p) as (λ c. nat_eq (length (cond c (p ∷ filter f ps) (filter f ps))) 0 ≡ not (c || list_any f ps)) [ true ↦ ne_eqb (suc (length (filter f ps))) 0 (λ e. cc) | false ↦ length_none f ps ]

pub opening_is : (b : State) (epochs : List Epoch) (at : ℕ) (arrival : Arrival) → Meets b epochs at → is_opening b b.anchor at arrival.flow ≡ opens_epoch b.limits epochs at arrival
opening_is b [] at arrival m = ap (λ o. is_opening b o at arrival.flow) m.anchor
opening_is b (current ∷ earlier) at arrival m =
    let is = m.here (subst IsSome (sym m.anchor) refl) in
    ap (λ o. is_opening b o at arrival.flow) m.anchor
    ∙ ap (λ ps. not (arrival.flow == current.anchor.flow) && (nat_lt 0 b.limits.restart_time && (nat_eq (length ps) 0 && nat_le (b.last + b.limits.restart_time) at))) is.held
    ∙ ap (λ c. not (arrival.flow == current.anchor.flow) && (nat_lt 0 b.limits.restart_time && (c && nat_le (b.last + b.limits.restart_time) at)))
    (length_none (is_buffered current.accepted (At at)) (by_number current.accepted) ∙ ap not (any-by_number (is_buffered current.accepted (At at)) current.accepted))
    ∙ ap (λ n. not (arrival.flow == current.anchor.flow) && (nat_lt 0 b.limits.restart_time && (not (list_any (is_buffered current.accepted (At at)) current.accepted) && nat_le (n + b.limits.restart_time) at))) m.last

-- where it does, it finds a new one
first_faces : (b : State) (at : ℕ) (arrival : Arrival) → Meets b [] at → Faces (begun b None at) (new_epoch at arrival) [] at arrival
first_faces b at arrival m =
    let none : IsNone b.anchor = subst IsNone (sym m.anchor) refl in
    record { anchor = ap (λ o. unwrap_or o (new_anchor at arrival)) m.anchor; highest = m.highest; at = record { floor = m.floor none; held = m.held none }; last = refl; place = m.epoch; clock = ap (λ o. begun_clock o b.clock at) m.anchor }

next_faces : (b : State) (at : ℕ) (arrival : Arrival) (a : Anchor) (epochs : List Epoch) → b.held ≡ [] → b.epoch + 1 ≡ length epochs → Faces (begun b (Some a) at) (new_epoch at arrival) epochs at arrival
next_faces b at arrival a epochs empty place =
    record { anchor = refl; highest = refl; at = record { floor = refl; held = empty }; last = refl; place = place; clock = refl }

no_packets : (ps : List Packet) → nat_eq (length ps) 0 ≡ true → ps ≡ []
no_packets [] e = refl
no_packets (p ∷ ps) e = absurd (let none : suc (length ps) ≡ 0 = eqb-true _ _ e in cc)

-- an epoch opens where nothing waits
pub empty_at : (b : State) (a : Anchor) (at flow : ℕ) → is_opening b (Some a) at flow ≡ true → b.held ≡ []
empty_at b a at flow e =
    let some = and_parts (not (flow == a.flow)) (nat_lt 0 b.limits.restart_time && (nat_eq (length b.held) 0 && nat_le (b.last + b.limits.restart_time) at)) e in
    let empty = and_parts (nat_lt 0 b.limits.restart_time) (nat_eq (length b.held) 0 && nat_le (b.last + b.limits.restart_time) at) some.1 in
    no_packets b.held (and_parts (nat_eq (length b.held) 0) (nat_le (b.last + b.limits.restart_time) at) empty.1).0

one_more : (n : ℕ) → suc n - 1 + 1 ≡ suc n
one_more n = omega arith

-- the state that the arrival finds
found : (b : State) (epochs : List Epoch) (at : ℕ) (arrival : Arrival) → Meets b epochs at → (P : State → Epoch → List Epoch → Type 0)
    → ((c : State) (e : Epoch) (es : List Epoch) → c.limits ≡ b.limits → Faces c e es at arrival → P c e es) → P (opened_at b at arrival.flow) (epoch_at b.limits epochs at arrival) (earlier_at b.limits epochs at arrival)
found b [] at arrival m P given =
    subst (λ c. P (cond c (begun b b.anchor at) b) (new_epoch at arrival) []) (sym (opening_is b [] at arrival m))
    (subst (λ o. P (begun b o at) (new_epoch at arrival) []) (sym m.anchor)
    (given (begun b None at) (new_epoch at arrival) [] refl (first_faces b at arrival m)))
found b (current ∷ earlier) at arrival m P given =
    let same = opening_is b (current ∷ earlier) at arrival m in
    subst (λ c. P (cond c (begun b b.anchor at) b) (epoch_at b.limits (current ∷ earlier) at arrival) (earlier_at b.limits (current ∷ earlier) at arrival)) (sym same)
    (elim (opens_next b.limits current at arrival) as (λ c. is_opening b b.anchor at arrival.flow ≡ c → P (cond c (begun b b.anchor at) b) (cond c (new_epoch at arrival) current) (cond c (current ∷ earlier) earlier)) [
      | true ↦ λ e. subst (λ o. P (begun b o at) (new_epoch at arrival) (current ∷ earlier)) (sym m.anchor)
          (given (begun b (Some current.anchor) at) (new_epoch at arrival) (current ∷ earlier) refl
          (next_faces b at arrival current.anchor (current ∷ earlier) (empty_at b current.anchor at arrival.flow (sym (ap (λ o. is_opening b o at arrival.flow) m.anchor) ∙ e)) (ap (λ n. n + 1) m.epoch ∙ one_more (length earlier))))
      | false ↦ λ e. given b current earlier refl
          (record {
            anchor = ap (λ o. unwrap_or o (new_anchor at arrival)) m.anchor;
            highest = m.highest;
            at = m.here (subst IsSome (sym m.anchor) refl);
            last = m.last;
            place = m.epoch ∙ sym (same_length (length earlier));
            clock = ap (λ o. begun_clock o b.clock at) m.anchor ∙ m.clock;
          })
    ] same)

-- the verdict is that of the history
pub verdict_after_steps : (b : State) (history : List Step) (at : ℕ) (arrival : Arrival) → Arrives b history at
    → judged (opened_at b at arrival.flow) at arrival ≡ verdict b.limits history at arrival
verdict_after_steps b history at arrival h =
    found b (epochs_of b.limits history) at arrival (meets b history at h) (λ c e es. judged c at arrival ≡ verdict_in b.limits e at arrival)
    (λ c e es same f. judged_faced c e es at arrival f ∙ ap (λ l. verdict_in l e at arrival) same)
    ∙ sym (ap (λ t. verdict_in b.limits (epoch_at b.limits (epochs_of b.limits history) t arrival) t arrival) (time_is b history at h))

-- what an arrival leaves of the rest
pub record Keeps (b after : State) (at : ℕ) : Type 0 where
  pub limits : after.limits ≡ b.limits
  pub phase : after.phase ≡ b.phase
  pub time : after.time ≡ at

keeps_taken : (b c : State) (at : ℕ) (arrival : Arrival) → c.limits ≡ b.limits → c.phase ≡ b.phase → Keeps b (taken c at arrival) at
keeps_taken b c at arrival limits phase =
    elim (is_kept (judged c at arrival)) as (λ k. Keeps b (moved (cond k (holding c (placed_at c at arrival)) c) at (anchor_at c at arrival) (clock_then c at arrival k) k) at) [
      | true ↦ record { limits = limits; phase = phase; time = refl }
      | false ↦ record { limits = limits; phase = phase; time = refl }
    ]

keeps_begun : (b : State) (o : Option Anchor) (at : ℕ) → ((begun b o at).limits ≡ b.limits) × ((begun b o at).phase ≡ b.phase)
keeps_begun b None at = (refl, refl)
keeps_begun b (Some a) at = (refl, refl)

keeps_opened : (b : State) (at flow : ℕ) → ((opened_at b at flow).limits ≡ b.limits) × ((opened_at b at flow).phase ≡ b.phase)
keeps_opened b at flow =
    elim (is_opening b b.anchor at flow) as (λ c. ((cond c (begun b b.anchor at) b).limits ≡ b.limits) × ((cond c (begun b b.anchor at) b).phase ≡ b.phase)) [ true ↦ keeps_begun b b.anchor at | false ↦ (refl, refl) ]

pub keeps : (b : State) (at : ℕ) (arrival : Arrival) → Keeps b (taken (opened_at b at arrival.flow) at arrival) at
keeps b at arrival =
    let o = keeps_opened b at arrival.flow in
    keeps_taken b (opened_at b at arrival.flow) at arrival o.0 o.1

shown_history : (b after : State) (history : List Step) (at : ℕ) (arrival : Arrival) → Arrives b history at → Keeps b after at → ShowsEpochs after (epochs_of b.limits (media_step at arrival ∷ history)) (At at) → Shows after (media_step at arrival ∷ history)
shown_history b after history at arrival h k s =
    let moment : current_moment (media_step at arrival ∷ history) ≡ At at = now_is b history at arrival h in
    let own : ShowsEpochs after (epochs_of after.limits (media_step at arrival ∷ history)) (current_moment (media_step at arrival ∷ history)) =
    subst (λ l. ShowsEpochs after (epochs_of l (media_step at arrival ∷ history)) (current_moment (media_step at arrival ∷ history))) (sym k.limits)
    (subst (ShowsEpochs after (epochs_of b.limits (media_step at arrival ∷ history))) (sym moment) s) in
    record {
      phase = k.phase ∙ h.shows.phase;
      time = k.time ∙ sym (time_is b history at h);
      anchor = own.anchor;
      highest = own.highest;
      floor = own.floor;
      held = own.held;
      last = own.last;
      epoch = own.epoch;
      clock = own.clock;
    }

-- what an arrival leaves stands for the history with that arrival
pub state_after_arrival : (b : State) (history : List Step) (at : ℕ) (arrival : Arrival) → Arrives b history at → Shows (taken (opened_at b at arrival.flow) at arrival) (media_step at arrival ∷ history)
state_after_arrival b history at arrival h =
    shown_history b (taken (opened_at b at arrival.flow) at arrival) history at arrival h (keeps b at arrival)
    (subst (λ t. ShowsEpochs (taken (opened_at b at arrival.flow) at arrival) (epochs_after b.limits (epochs_of b.limits history) t (Media arrival)) (At at)) (sym (time_is b history at h))
    (found b (epochs_of b.limits history) at arrival (meets b history at h) (λ c e es. ShowsEpochs (taken c at arrival) (epoch_with b.limits e at arrival ∷ es) (At at))
    (λ c e es same f. subst (λ l. ShowsEpochs (taken c at arrival) (epoch_with l e at arrival ∷ es) (At at)) same (taken_shows c e es at arrival f))))

pub arrives : (b : State) (history : List Step) (at : ℕ) → IsStateAfter b history → b.phase ≡ Open → b.time ≤ at → (IsSome b.anchor → b.time ≡ at) → Arrives b history at
arrives b history at s live later released = record { shows = s (not_failed b.phase live); live = live; later = later; released = released }

-- from the floor on, what waits is what was kept
pub has_accepted : (b : State) (history : List Step) (number : ℕ) → IsStateAfter b history → b.phase ≡ Open → b.floor ≤ number → list_any (λ q. q.number == number) b.held ≡ list_any (λ q. q.number == number) (accepted_packets b.limits history)
has_accepted b history number stands live low =
    let s : Shows b history = stands (not_failed b.phase live) in
    ap (λ ps. list_any (λ q. q.number == number) ps) (s.held ∙ filter_same _ _ (is_buffered-floor (accepted_packets b.limits history) (current_moment history)) (by_number (accepted_packets b.limits history)))
    ∙ twice_at (playout_floor (accepted_packets b.limits history) (current_moment history)) number (accepted_packets b.limits history) (let e = s.floor in omega arith)

-- ---- a step at its own tick, after the time has moved

-- what a state shows of a history and one more step at this effective time
record ShowsAt (b : State) (history : List Step) (event : Event) (t : ℕ) : Type 0 where
  phase : b.phase ≡ cond (is_end event || has_ended history) Ended Open
  time : b.time ≡ t
  epochs : ShowsEpochs b (epochs_after b.limits (epochs_of b.limits history) t event) (cond (is_end event || has_ended history) Ever (At t))

to_time : (b : State) (history : List Step) (event : Event) (t : ℕ) (step : Step) → step.event ≡ event → max step.tick (effective_time history) ≡ t → Shows b (step ∷ history) → ShowsAt b history event t
to_time b history event t step same time s =
    subst (λ n. ShowsAt b history event n) time
    (subst (λ x. ShowsAt b history x (max step.tick (effective_time history))) same
    (record { phase = s.phase; time = s.time; epochs = record { anchor = s.anchor; highest = s.highest; floor = s.floor; held = s.held; last = s.last; epoch = s.epoch; clock = s.clock } }))

from_time : (b : State) (history : List Step) (tick : ℕ) (event : Event) → ShowsAt b history event (max tick (effective_time history)) → Shows b (record { tick = tick; event = event } ∷ history)
from_time b history tick event s =
    record { phase = s.phase; time = s.time; anchor = s.epochs.anchor; highest = s.epochs.highest; floor = s.epochs.floor; held = s.epochs.held; last = s.epochs.last; epoch = s.epochs.epoch; clock = s.epochs.clock }

-- a step at the effective time is the step at its own tick
pub shows_told : (b : State) (history : List Step) (tick at : ℕ) (event : Event) → at ≡ max tick (effective_time history) → Shows b (record { tick = at; event = event } ∷ history) → Shows b (record { tick = tick; event = event } ∷ history)
shows_told b history tick at event e s =
    from_time b history tick event (to_time b history event (max tick (effective_time history)) (record { tick = at; event = event }) refl (omega arith) s)

-- an arrival after the time has moved is the arrival at its own tick
pub shows_arrival : (b : State) (history : List Step) (tick at : ℕ) (arrival : Arrival) → at ≡ max tick (effective_time history) → Shows b (media_step at arrival ∷ time_step at ∷ history) → Shows b (media_step tick arrival ∷ history)
shows_arrival b history tick at arrival e s =
    let same : max at (max at (effective_time history)) ≡ max tick (effective_time history) = omega arith in
    from_time b history tick (Media arrival)
    (subst (λ n. ShowsAt b history (Media arrival) n) same
    (record { phase = s.phase; time = s.time; epochs = record { anchor = s.anchor; highest = s.highest; floor = s.floor; held = s.held; last = s.last; epoch = s.epoch; clock = s.clock } }))
