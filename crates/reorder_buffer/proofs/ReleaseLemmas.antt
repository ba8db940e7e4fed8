-- A floor that rises: the state stays sound, and shows the history with one more step.
use Rattle.std.proofs.Common.{◌≡◌, ℕ, ◌+◌, suc, ◌-◌, ◌^◌, ◌<◌, ◌≤◌, max, Bool, true, false, cond, not, List, [], ◌∷◌, ◌++◌, Option, length, refl, sym, ◌∙◌, ap, subst, map, arith, append_assoc, length-append}
use Rattle.std.proofs.lemmas.List.{nil_from_length}
use Rattle.std.specs.Prelude.{nat_lt}
use Rattle.std.proofs.lemmas.Bool.{ltb-true, ltb-false}
use Rattle.receiver_rules.proofs.ClockLemmas.{within_more}
use Rattle.std.specs.List.{filter, concat}
use Rattle.outside_io.specs.Told.{Appends, AppendsPart, Writes, WritesPart}
use Rattle.receiver_rules.specs.Steps.{Step, effective_time, time_step, end_step}
use Rattle.receiver_rules.specs.Packets.{Packet, Moment, At, Ever, is_past_deadline, is_played_out, is_buffered, playout_floor, by_number, IsRising, is_below, is_from}
use Rattle.receiver_rules.specs.Epochs.{Epoch, epochs_of, newest_accepted}
use Rattle.receiver_rules.specs.History.{accepted_packets, current_moment, packets_over, playout_of, released_payloads, released_bytes}
use Rattle.receiver_rules.proofs.PacketLemmas.{rising-filter, IsLater, later_At, later_Ever, floor_later, buffered_later, played_out_later}
use Rattle.receiver_rules.proofs.HistoryLemmas.{now_open}
use Rattle.reorder_buffer.specs.State.{State}
use Rattle.reorder_buffer.specs.StateAfter.{Shows, IsStateAfter}
use Rattle.reorder_buffer.specs.Inside.Changes.{raised}
use Rattle.reorder_buffer.specs.Inside.Sound.{IsSound}
use Rattle.reorder_buffer.specs.Inside.Span.{AllBelow, IsWithin}
use Rattle.reorder_buffer.specs.Inside.Release.{octets_below, floor_then}
use Rattle.reorder_buffer.specs.declared.phase.Phase.TheVariants.{Open, Ended}
use Rattle.reorder_buffer.proofs.StateAfterLemmas.{still_open}
use Rattle.reorder_buffer.proofs.PhaseLemmas.{not_failed}

-- ---- soundness

rising-from : (floor low : ℕ) (ps : List Packet) → IsRising low ps → IsRising floor (filter (is_from floor) ps)
rising-from floor low [] r = tt
rising-from floor low (p ∷ ps) r =
    elim (nat_lt p.number floor) as (λ b. nat_lt p.number floor ≡ b → IsRising floor (cond (not b) (p ∷ filter (is_from floor) ps) (filter (is_from floor) ps))) [
      | true ↦ λ e. rising-from floor (p.number + 1) ps r.1
      | false ↦ λ e. (ltb-false _ _ e, rising-filter (is_from floor) (p.number + 1) ps r.1)
    ] refl

below-filter : (f : Packet → Bool) (bound : ℕ) (ps : List Packet) → AllBelow bound ps → AllBelow bound (filter f ps)
below-filter f bound [] h = tt
below-filter f bound (p ∷ ps) h =
    elim (f p) as (λ b. AllBelow bound (cond b (p ∷ filter f ps) (filter f ps))) [ true ↦ (h.0, below-filter f bound ps h.1) | false ↦ below-filter f bound ps h.1 ]

pub below_higher : (low high : ℕ) (ps : List Packet) → low ≤ high → AllBelow low ps → AllBelow high ps
below_higher low high [] h b = tt
below_higher low high (p ∷ ps) h b = (omega (arith, b.0), below_higher low high ps h b.1)

-- the numbers behind the first stay within its span, also where the first has gone
pub within-tail : (span low first : ℕ) (ps : List Packet) → first ≤ low → IsRising low ps → AllBelow (first + span) ps → IsWithin span ps
within-tail span low first [] h r b = tt
within-tail span low first (p ∷ ps) h r b = below_higher (first + span) (p.number + span) ps (omega (arith, r.0)) b.1

within-filter : (f : Packet → Bool) (span low : ℕ) (ps : List Packet) → IsRising low ps → IsWithin span ps → IsWithin span (filter f ps)
within-filter f span low [] r w = tt
within-filter f span low (p ∷ ps) r w =
    elim (f p) as (λ b. IsWithin span (cond b (p ∷ filter f ps) (filter f ps))) [
      | true ↦ below-filter f (p.number + span) ps w
      | false ↦ within-filter f span (p.number + 1) ps r.1 (within-tail span (p.number + 1) p.number ps (omega arith) r.1 w)
    ]

-- the packets that go out are no more than the numbers by which the floor rises
few_out : (low floor : ℕ) (ps : List Packet) → IsRising low ps → length ps ≤ (floor - low) + length (filter (is_from floor) ps)
few_out low floor [] r = omega arith
few_out low floor (p ∷ ps) r =
    elim (nat_lt p.number floor) as (λ b. nat_lt p.number floor ≡ b → suc (length ps) ≤ (floor - low) + length (cond (not b) (p ∷ filter (is_from floor) ps) (filter (is_from floor) ps))) [
      | true ↦ λ e. omega (arith, r.0, ltb-true _ _ e, few_out (p.number + 1) floor ps r.1)
      | false ↦ λ e. omega (arith, r.0, ltb-false _ _ e, few_out (p.number + 1) floor ps r.1)
    ] refl

-- no floor rises above the end of the numbers
floor_small : (moment : Moment) (ps : List Packet) → AllBelow (2 ^ 62) ps → playout_floor ps moment ≤ 2 ^ 62
floor_small moment [] b = omega arith
floor_small moment (p ∷ ps) b =
    elim (is_past_deadline moment p) as (λ c. cond c (max (p.number + 1) (playout_floor ps moment)) (playout_floor ps moment) ≤ 2 ^ 62) [
      | true ↦ omega (arith, b.0, floor_small moment ps b.1)
      | false ↦ floor_small moment ps b.1
    ]

pub floor_then_small : (b : State) (moment : Moment) → IsSound b → floor_then b moment ≤ 2 ^ 62
floor_then_small b moment s = omega (arith, s.floor, floor_small moment b.held s.below)

pub floor_then_rises : (b : State) (moment : Moment) → b.floor ≤ floor_then b moment
floor_then_rises b moment = omega arith

pub sound-raised : (b : State) (floor : ℕ) → b.floor ≤ floor → floor ≤ 2 ^ 62 → IsSound b → IsSound (raised b floor)
sound-raised b floor up small s =
    record {
      limits = s.limits;
      anchor = s.anchor;
      highest = s.highest;
      rising = rising-from floor b.floor b.held s.rising;
      within = within-filter (is_from floor) b.limits.capacity b.floor b.held s.rising s.within;
      below = below-filter (is_from floor) (2 ^ 62) b.held s.below;
      last = s.last;
      epoch = s.epoch;
      floor = small;
      clock = λ live a e. within_more a.time (b.floor + length b.held) (floor + length (filter (is_from floor) b.held)) b.clock (omega (arith, up, few_out b.floor floor b.held s.rising)) (s.clock live a e);
    }

-- rising numbers below a bound are no more than the numbers there
few_between : (low bound : ℕ) (ps : List Packet) → IsRising low ps → AllBelow bound ps → length ps + low ≤ max low bound
few_between low bound [] r b = omega arith
few_between low bound (p ∷ ps) r b = omega (arith, r.0, b.0, few_between (p.number + 1) bound ps r.1 b.1)

-- no more packets wait than the span has places
pub few_held : (span low : ℕ) (ps : List Packet) → 1 ≤ span → IsRising low ps → IsWithin span ps → length ps ≤ span
few_held span low [] s r w = omega arith
few_held span low (p ∷ ps) s r w = omega (arith, few_between (p.number + 1) (p.number + span) ps r.1 w)

-- so the numbers below the floor and the packets that wait are less than 2^63
pub few_in_all : (b : State) → IsSound b → b.floor + length b.held < 2 ^ 63
few_in_all b s = omega (arith, s.floor, s.limits.capacity, few_held b.limits.capacity b.floor b.held s.limits.some s.rising s.within)

-- ---- the history

-- a state whose floor rises to that of a later moment
pub record Rises (b : State) (packets : List Packet) (m later : Moment) : Type 0 where
  pub floor : b.floor ≡ playout_floor packets m
  pub held : b.held ≡ filter (is_buffered packets m) (by_number packets)
  pub after : IsLater m later

pub floor_is : (b : State) (packets : List Packet) (m later : Moment) → Rises b packets m later → floor_then b later ≡ playout_floor packets later
floor_is b packets m later r =
    ap (λ n. max n (playout_floor b.held later)) r.floor
    ∙ ap (λ ps. max (playout_floor packets m) (playout_floor ps later)) r.held
    ∙ sym (floor_later m later r.after packets)

pub held_is : (b : State) (packets : List Packet) (m later : Moment) → Rises b packets m later → filter (is_from (floor_then b later)) b.held ≡ filter (is_buffered packets later) (by_number packets)
held_is b packets m later r =
    ap (λ n. filter (is_from n) b.held) (floor_is b packets m later r)
    ∙ ap (filter (is_from (playout_floor packets later))) r.held
    ∙ sym (buffered_later m later r.after packets)

map-append : (xs ys : List Packet) → map (λ (p : Packet). p.payload) (xs ++ ys) ≡ map (λ (p : Packet). p.payload) xs ++ map (λ (p : Packet). p.payload) ys
map-append [] ys = refl
map-append (x ∷ xs) ys = ap (λ ps. x.payload ∷ ps) (map-append xs ys)

-- the payloads that are out at a later moment
pub released_is : (b : State) (packets : List Packet) (m later : Moment) → Rises b packets m later
    → map (λ (p : Packet). p.payload) (filter (is_played_out packets later) (by_number packets)) ≡ map (λ (p : Packet). p.payload) (filter (is_played_out packets m) (by_number packets)) ++ map (λ (p : Packet). p.payload) (filter (is_below (floor_then b later)) b.held)
released_is b packets m later r =
    ap (map (λ (p : Packet). p.payload)) (played_out_later m later r.after packets)
    ∙ map-append (filter (is_played_out packets m) (by_number packets)) (filter (is_below (playout_floor packets later)) (filter (is_buffered packets m) (by_number packets)))
    ∙ ap (λ ps. map (λ (p : Packet). p.payload) (filter (is_played_out packets m) (by_number packets)) ++ map (λ (p : Packet). p.payload) ps) (sym same)
  where
    same : filter (is_below (floor_then b later)) b.held ≡ filter (is_below (playout_floor packets later)) (filter (is_buffered packets m) (by_number packets))
    same = ap (λ n. filter (is_below n) b.held) (floor_is b packets m later r) ∙ ap (filter (is_below (playout_floor packets later))) r.held

-- and with all that was released of the epochs before
released_of : (b : State) (epochs : List Epoch) (m later : Moment) → Rises b (newest_accepted epochs) m later
    → map (λ (p : Packet). p.payload) (playout_of epochs later) ≡ map (λ (p : Packet). p.payload) (playout_of epochs m) ++ map (λ (p : Packet). p.payload) (filter (is_below (floor_then b later)) b.held)
released_of b [] m later r = released_is b [] m later r
released_of b (current ∷ earlier) m later r =
    map-append (packets_over earlier) (filter (is_played_out current.accepted later) (by_number current.accepted))
    ∙ ap (λ xs. map (λ (p : Packet). p.payload) (packets_over earlier) ++ xs) (released_is b current.accepted m later r)
    ∙ sym (append_assoc (map (λ (p : Packet). p.payload) (packets_over earlier)) (map (λ (p : Packet). p.payload) (filter (is_played_out current.accepted m) (by_number current.accepted))) (map (λ (p : Packet). p.payload) (filter (is_below (floor_then b later)) b.held)))
    ∙ ap (λ xs. xs ++ map (λ (p : Packet). p.payload) (filter (is_below (floor_then b later)) b.held)) (sym (map-append (packets_over earlier) (filter (is_played_out current.accepted m) (by_number current.accepted))))

concat-append : (xs ys : List (List ℕ)) → concat (xs ++ ys) ≡ concat xs ++ concat ys
concat-append [] ys = refl
concat-append (x ∷ xs) ys = ap (λ zs. x ++ zs) (concat-append xs ys) ∙ sym (append_assoc x (concat xs) (concat ys))

-- a step that brings nothing to keep
pub record Follows (b : State) (history : List Step) (step : Step) (later : Moment) : Type 0 where
  pub shows : Shows b history
  pub same : epochs_of b.limits (step ∷ history) ≡ epochs_of b.limits history
  pub moment : current_moment (step ∷ history) ≡ later
  pub after : IsLater (current_moment history) later

pub rises : (b : State) (history : List Step) (step : Step) (later : Moment) → Follows b history step later → Rises b (accepted_packets b.limits history) (current_moment history) later
rises b history step later f = record { floor = f.shows.floor; held = f.shows.held; after = f.after }

released_then : (b : State) (history : List Step) (step : Step) (later : Moment) → Follows b history step later → released_payloads b.limits (step ∷ history) ≡ released_payloads b.limits history ++ map (λ (p : Packet). p.payload) (filter (is_below (floor_then b later)) b.held)
released_then b history step later f =
    ap (λ es. map (λ (p : Packet). p.payload) (playout_of es (current_moment (step ∷ history)))) f.same
    ∙ ap (λ m. map (λ (p : Packet). p.payload) (playout_of (epochs_of b.limits history) m)) f.moment
    ∙ released_of b (epochs_of b.limits history) (current_moment history) later (rises b history step later f)

octets_then : (b : State) (history : List Step) (step : Step) (later : Moment) → Follows b history step later → released_bytes b.limits (step ∷ history) ≡ released_bytes b.limits history ++ octets_below (floor_then b later) b.held
octets_then b history step later f = ap concat (released_then b history step later f) ∙ concat-append (released_payloads b.limits history) (map (λ (p : Packet). p.payload) (filter (is_below (floor_then b later)) b.held))

-- ---- what is written

pub written_then : (b : State) (history : List Step) (step : Step) (later : Moment) (old new : Option (List ℕ)) → Follows b history step later → Appends old new (octets_below (floor_then b later) b.held) → Writes old new (released_bytes b.limits history) (released_bytes b.limits (step ∷ history))
written_then b history step later old new f put = (octets_below (floor_then b later) b.held, put, octets_then b history step later f)

pub part_then : (b : State) (history : List Step) (step : Step) (later : Moment) (old new : Option (List ℕ)) → Follows b history step later → AppendsPart old new (octets_below (floor_then b later) b.held) → WritesPart old new (released_bytes b.limits history) (released_bytes b.limits (step ∷ history))
part_then b history step later old new f part = (
  part.0,
  part.2,
  (
    part.1.0,
    octets_then b history step later f ∙ ap (λ xs. released_bytes b.limits history ++ xs) part.1.1 ∙ sym (append_assoc (released_bytes b.limits history) part.0 part.1.0),
  ),
)

-- where a step releases no octet there is none below its floor
pub nothing_then : (b : State) (history : List Step) (step : Step) (later : Moment) → Follows b history step later → released_bytes b.limits (step ∷ history) ≡ released_bytes b.limits history → octets_below (floor_then b later) b.held ≡ []
nothing_then b history step later f same =
    let whole = ap length (sym (octets_then b history step later f) ∙ same) in
    nil_from_length (octets_below (floor_then b later) b.held) (omega (arith, whole, length-append (released_bytes b.limits history) (octets_below (floor_then b later) b.held)))

length-append-map : (xs : List (List ℕ)) (ps : List Packet) → length ps + length xs ≡ length (xs ++ map (λ (p : Packet). p.payload) ps)
length-append-map [] [] = omega arith
length-append-map [] (p ∷ ps) = grind (arith, length-append-map [] ps)
length-append-map (x ∷ xs) ps = grind (arith, length-append-map xs ps)

pub count_then : (b : State) (history : List Step) (step : Step) (later : Moment) (n : ℕ) → Follows b history step later → n ≡ length (filter (is_below (floor_then b later)) b.held) → n + length (released_payloads b.limits history) ≡ length (released_payloads b.limits (step ∷ history))
count_then b history step later n f e =
    ap (λ k. k + length (released_payloads b.limits history)) e
    ∙ length-append-map (released_payloads b.limits history) (filter (is_below (floor_then b later)) b.held)
    ∙ sym (ap length (released_then b history step later f))

pub pass_follows : (b : State) (history : List Step) (at : ℕ) → IsStateAfter b history → b.phase ≡ Open → b.time ≤ at → Follows b history (time_step at) (At at)
pass_follows b history at stands live later =
    let s : Shows b history = stands (not_failed b.phase live) in
    let going = still_open b history s live in
    let e = s.time in
    let behind : effective_time history ≤ at = omega arith in
    let last : max at (effective_time history) ≡ at = omega arith in
    record {
      shows = s;
      same = refl;
      moment = ap (λ c. cond c Ever (At (max at (effective_time history)))) going ∙ ap At last;
      after = subst (λ m. IsLater m (At at)) (sym (now_open history going)) (later_At (effective_time history) at behind);
    }

pub end_follows : (b : State) (history : List Step) → IsStateAfter b history → b.phase ≡ Open → Follows b history end_step Ever
end_follows b history stands live =
    record { shows = stands (not_failed b.phase live); same = refl; moment = refl; after = later_Ever (current_moment history) }

abbrev pub timed : State → ℕ → State
timed b t = record { limits = b.limits; phase = b.phase; time = t; anchor = b.anchor; highest = b.highest; floor = b.floor; held = b.held; last = b.last; epoch = b.epoch; clock = b.clock }

abbrev pub ended : State → State
ended b = record { limits = b.limits; phase = Ended; time = b.time; anchor = b.anchor; highest = b.highest; floor = b.floor; held = b.held; last = b.last; epoch = b.epoch; clock = b.clock }

pub shows_pass : (b : State) (history : List Step) (at floor : ℕ) → IsStateAfter b history → b.phase ≡ Open → b.time ≤ at → floor ≡ floor_then b (At at) → Shows (timed (raised b floor) at) (time_step at ∷ history)
shows_pass b history at floor stands live later e =
    let f = pass_follows b history at stands live later in
    let r = rises b history (time_step at) (At at) f in
    let t = f.shows.time in
    record {
      phase = f.shows.phase;
      time = omega arith;
      anchor = f.shows.anchor;
      highest = f.shows.highest;
      floor = e ∙ floor_is b (accepted_packets b.limits history) (current_moment history) (At at) r ∙ ap (playout_floor (accepted_packets b.limits history)) (sym f.moment);
      held = ap (λ n. filter (is_from n) b.held) e ∙ held_is b (accepted_packets b.limits history) (current_moment history) (At at) r ∙ ap (λ m. filter (is_buffered (accepted_packets b.limits history) m) (by_number (accepted_packets b.limits history))) (sym f.moment);
      last = f.shows.last;
      epoch = f.shows.epoch;
      clock = f.shows.clock;
    }

pub shows_end : (b : State) (history : List Step) (floor : ℕ) → IsStateAfter b history → b.phase ≡ Open → floor ≡ floor_then b Ever → Shows (ended (raised b floor)) (end_step ∷ history)
shows_end b history floor stands live e =
    let f = end_follows b history stands live in
    let r = rises b history end_step Ever f in
    let t = f.shows.time in
    record {
      phase = refl;
      time = omega arith;
      anchor = f.shows.anchor;
      highest = f.shows.highest;
      floor = e ∙ floor_is b (accepted_packets b.limits history) (current_moment history) Ever r;
      held = ap (λ n. filter (is_from n) b.held) e ∙ held_is b (accepted_packets b.limits history) (current_moment history) Ever r;
      last = f.shows.last;
      epoch = f.shows.epoch;
      clock = f.shows.clock;
    }
