-- What a timer asks for is what its histories ask for.
use Rattle.std.proofs.Common.{◌≡◌, ℕ, ◌+◌, ◌-◌, ◌<◌, ◌≤◌, max, Bool, true, false, not, List, [], ◌∷◌, Some, option_map, refl, sym, ap, subst, ◌∙◌, arith}
use Rattle.std.specs.Prelude.{if◌then◌else◌}
use Rattle.std.specs.List.{filter, range_with_len}
use Rattle.receiver_rules.specs.declared.bounds.TheConstants.{MAX_SPAN}
use Rattle.receiver_rules.specs.declared.anchor.Anchor.{Anchor}
use Rattle.receiver_rules.specs.declared.anchor.Highest.{Highest}
use Rattle.receiver_rules.specs.Packets.{Packet, At, Ever, highest_of, playout_floor}
use Rattle.receiver_rules.specs.Steps.{tick_of, has_ended, effective_time}
use Rattle.receiver_rules.specs.Steps.{Step as BufferStep}
use Rattle.receiver_rules.specs.History.{anchor_of, accepted_packets, current_moment}
use Rattle.receiver_rules.proofs.PacketLemmas.{floor_rises, later_At}
use Rattle.receiver_rules.proofs.HistoryLemmas.{now_open}
use Rattle.reorder_buffer.specs.State.{State}
use Rattle.reorder_buffer.specs.StateAfter.{Shows, IsStateAfter}
use Rattle.reorder_buffer.specs.declared.phase.Phase.TheVariants.{Open, Ended}
use Rattle.reorder_buffer.proofs.StateAfterLemmas.{has_accepted}
use Rattle.request_rules.specs.declared.policy.NackKind.{NackKind}
use Rattle.request_rules.specs.declared.policy.NackKind.TheVariants.{Range, Mask}
use Rattle.request_rules.specs.Steps.{Step, buffer_history, longest_rtt}
use Rattle.request_rules.specs.Words.{words_for, asked_numbers}
use Rattle.request_rules.specs.Missing.{is_accepted, lowest_wanted, missing_among, missing_numbers, found_time}
use Rattle.request_rules.specs.Requests.{Request, request_times, requests_of, is_due, due_numbers, asked_words}
use Rattle.nack_timer.specs.State.{TimerState, AreRising, high_or}
use Rattle.nack_timer.specs.Inside.Pass.{words_of, entries_of}
use Rattle.nack_timer.specs.Steps.{tick_step}
use Rattle.nack_timer.specs.TimerAfter.{IsLookedFor, AreEntriesOf, IsTimerAfter}
use Rattle.nack_timer.proofs.PassLemmas.{rising_left}
use Rattle.nack_timer.proofs.RaiseLemmas.{rising_higher}
use Rattle.nack_timer.proofs.DueLemmas.{due_in, words_is, named_in, asked_is, asks, entries_are, named_below}
use Rattle.nack_timer.proofs.LiftLemmas.{has, same_list, both_ways, live_numbers, live_rises, is_held, live_to, live_from, range_rises, range_to, range_from, has_left, due_is, entries_found, passed_below, Rises}

-- what is known where a timer is asked for what is due, and a flow is known
pub record Asked (t : TimerState) (b : State) (before : List Step) (link tick micros at rtt low : ℕ) (a : Anchor) (h : Highest) : Type 0 where
  pub timer : IsTimerAfter t b.limits before
  pub buffer : IsStateAfter b (buffer_history (tick_step link tick micros ∷ before))
  pub open_ : b.phase ≡ Open
  pub time : b.time ≡ at
  pub first : b.anchor ≡ Some a
  pub top : b.highest ≡ Some h
  pub rtts : rtt ≡ tick_of (longest_rtt 16 before)
  pub lowest : low ≡ max (max a.number b.floor) (h.number + 1 - t.span)
  pub order : AreRising 0 (high_or t.high) t.missing
  pub near : high_or t.high ≤ low + MAX_SPAN

some_anchor : (a c : Anchor) → Some a ≡ Some c → a ≡ c
some_anchor a c e = cc

some_highest : (h g : Highest) → Some h ≡ Some g → h ≡ g
some_highest h g e = cc

not_true : (b : Bool) → not b ≡ true → b ≡ false
not_true true e = absurd cc
not_true false e = refl

rises_zero : (low : ℕ) (xs : List ℕ) → Rises low xs → Rises 0 xs
rises_zero low [] r = tt
rises_zero low (x ∷ xs) r = (omega arith, r.1)

module _ (t : TimerState) (b : State) (before : List Step) (link tick micros at rtt low : ℕ) (a : Anchor) (h : Highest) (k : Asked t b before link tick micros at rtt low a h) where
  shows : Shows b (buffer_history (tick_step link tick micros ∷ before))
  shows = k.buffer (λ failed. absurd cc)

  abbrev acc : List Packet
  acc = accepted_packets b.limits (buffer_history before)

  going : has_ended (buffer_history before) ≡ false
  going = not_ended (has_ended (buffer_history before)) (sym shows.phase ∙ k.open_)
    where
      not_ended : (c : Bool) → (if c then Ended else Open) ≡ Open → c ≡ false
      not_ended true e = absurd cc
      not_ended false e = refl

  abbrev bh : List BufferStep
  bh = buffer_history before

  abbrev bh' : List BufferStep
  bh' = buffer_history (tick_step link tick micros ∷ before)

  now_is : effective_time bh' ≡ at
  now_is = sym shows.time ∙ k.time

  moment_before : current_moment bh ≡ At (effective_time bh)
  moment_before = now_open bh going

  moment_now : current_moment bh' ≡ At at
  moment_now = now_open bh' going ∙ ap At now_is

  floor_is : b.floor ≡ playout_floor acc (At at)
  floor_is = shows.floor ∙ ap (playout_floor acc) moment_now

  floor_before : playout_floor acc (current_moment bh) ≤ b.floor
  floor_before =
      let later : effective_time bh ≤ at = omega (arith, now_is) in
      let le = floor_rises (At (effective_time bh)) (At at) (later_At (effective_time bh) at later) acc in
      let here : playout_floor acc (current_moment bh) ≡ playout_floor acc (At (effective_time bh)) = ap (playout_floor acc) moment_before in
      omega (arith, le, here, floor_is)

  top_is : highest_of acc ≡ Some h
  top_is = sym shows.highest ∙ k.top

  first_is : anchor_of b.limits bh ≡ Some a
  first_is = sym shows.anchor ∙ k.first

  high_is : high_or t.high ≡ h.number
  high_is = ap high_or (k.timer.high ∙ ap (option_map (λ g. g.number)) top_is)

  held_is : (x : ℕ) → b.floor ≤ x → is_held b.held x ≡ is_accepted acc x
  held_is x le = has_accepted b bh' x k.buffer k.open_ le

  -- what is looked for, where it isn't below the lowest
  looked_for : (x : ℕ) → low ≤ x → x < h.number → is_accepted acc x ≡ false → IsLookedFor b.limits bh x
  looked_for x le lt new = record {
    first = λ c e. let same : a ≡ c = some_anchor a c (sym first_is ∙ e) in omega (arith, le, k.lowest, ap (λ d. d.number) same);
    below = λ g e. let same : h ≡ g = some_highest h g (sym top_is ∙ e) in let is : h.number ≡ g.number = ap (λ d. d.number) same in (omega (arith, lt, is), omega (arith, le, k.lowest, is, k.timer.span));
    out = omega (arith, floor_before, le, k.lowest);
    new = new;
    passed = passed_below acc h x top_is lt;
  }

  -- the numbers of live entries are the missing ones
  live_is : live_numbers low b.held t.missing ≡ filter (λ x. not (is_accepted acc x)) (range_with_len low (h.number - low))
  live_is = same_list 0 (live_numbers low b.held t.missing) (filter (λ x. not (is_accepted acc x)) (range_with_len low (h.number - low)))
      (live_rises low b.held 0 (high_or t.high) t.missing k.order)
      (rises_zero low (filter (λ x. not (is_accepted acc x)) (range_with_len low (h.number - low))) (range_rises (λ x. not (is_accepted acc x)) low (h.number - low)))
      (λ z. both_ways (has (live_numbers low b.held t.missing) z) (has (filter (λ x. not (is_accepted acc x)) (range_with_len low (h.number - low))) z)
      (λ e. let l = live_to low b.held 0 (high_or t.high) z t.missing k.order e in
      range_from (λ x. not (is_accepted acc x)) low (h.number - low) z l.since (omega (arith, l.since, l.below, high_is))
      (ap not (sym (held_is z (omega (arith, l.since, k.lowest))) ∙ l.new)))
      (λ e. let r = range_to (λ x. not (is_accepted acc x)) low (h.number - low) z e in
      let new = not_true (is_accepted acc z) r.passes in
      let lt : z < h.number = omega (arith, r.since, r.below) in
      live_from low b.held z t.missing (k.timer.keeps z (looked_for z r.since lt new)) r.since (held_is z (omega (arith, r.since, k.lowest)) ∙ new)))

  missing_is : live_numbers low b.held t.missing ≡ missing_numbers b.limits bh at
  missing_is =
      live_is
      ∙ ap (λ l. filter (λ x. not (is_accepted acc x)) (range_with_len l (h.number - l))) low_is
      ∙ sym (ap (λ c. missing_among b.limits (anchor_of b.limits bh) acc (if c then Ever else At at) (highest_of acc)) going
      ∙ ap (λ o. missing_among b.limits o acc (At at) (highest_of acc)) first_is ∙ ap (missing_among b.limits (Some a) acc (At at)) top_is)
    where
      low_is : low ≡ lowest_wanted b.limits a acc (At at) h
      low_is = k.lowest ∙ ap (λ f. max (max a.number f) (h.number + 1 - t.span)) floor_is ∙ ap (λ s. max (max a.number (playout_floor acc (At at))) (h.number + 1 - s)) k.timer.span

  abbrev requests : List Request
  requests = requests_of b.limits t.policy before

  pub due_here : due_in t.policy rtt at low b.held t.missing ≡ due_numbers b.limits t.policy before requests at
  due_here =
      due_is t.policy rtt (longest_rtt 16 before) at low b.held (found_time b.limits bh) requests t.missing k.rtts k.timer.entries
      ∙ ap (filter (λ x. is_due t.policy (longest_rtt 16 before) at (found_time b.limits bh x) (request_times requests x))) missing_is

  no_words : (kind : NackKind) → [] ≡ words_for kind 64 []
  no_words Range = refl
  no_words Mask = refl

  -- the words of the pass are those that the history asks by
  pub words_stand : words_of t.policy rtt at low b.held [] t.missing ≡ asked_words b.limits t.policy before at
  words_stand = words_is t.policy rtt at low 0 (high_or t.high) b.held [] [] t.missing (no_words t.policy.kind) (λ x g le. le) k.order ∙ ap (words_for t.policy.kind 64) due_here

  order_near : AreRising 0 (low + MAX_SPAN) t.missing
  order_near = rising_higher 0 (high_or t.high) (low + MAX_SPAN) t.missing k.near k.order

  asked_here : asks at (named_in t.policy rtt at low b.held [] t.missing) requests ≡ requests_of b.limits t.policy (tick_step link tick micros ∷ before)
  asked_here =
      ap (λ ns. asks at ns requests) (sym (asked_is t.policy rtt at low 0 b.held [] [] t.missing (no_words t.policy.kind) (λ x g le. le) order_near) ∙ ap (asked_numbers t.policy.kind) words_stand)
      ∙ ap (λ n. asks n (asked_numbers t.policy.kind (asked_words b.limits t.policy before n)) requests) (sym now_is)

  found_same : (x : ℕ) → x < high_or t.high → found_time b.limits bh' x ≡ found_time b.limits bh x
  found_same x lt = let passed = passed_below acc h x top_is (omega (arith, lt, high_is)) in rw passed refl

  -- the pass leaves what the history with the tick says
  pub after_stands : IsTimerAfter (record { policy = t.policy; span = t.span; high = t.high; missing = entries_of t.policy rtt at low b.held [] t.missing }) b.limits (tick_step link tick micros ∷ before)
  after_stands = record {
    span = k.timer.span;
    high = k.timer.high;
    order = rising_left t.policy rtt at low b.held [] 0 (high_or t.high) t.missing k.order;
    entries = subst (λ r. AreEntriesOf (found_time b.limits bh') r (entries_of t.policy rtt at low b.held [] t.missing)) asked_here
        (entries_found (found_time b.limits bh) (found_time b.limits bh') (asks at (named_in t.policy rtt at low b.held [] t.missing) requests) 0 (high_or t.high) (entries_of t.policy rtt at low b.held [] t.missing)
        (rising_left t.policy rtt at low b.held [] 0 (high_or t.high) t.missing k.order) found_same
        (entries_are t.policy rtt at low 0 (high_or t.high) b.held [] t.missing (found_time b.limits bh) requests k.order k.timer.entries));
    keeps = λ x l.
        let le : low ≤ x = omega (arith, k.lowest, l.first a first_is, ap (λ m. playout_floor acc m) moment_now, floor_is, l.out, (l.below h top_is).1, k.timer.span) in
        has_left t.policy rtt at low b.held [] t.missing x
        ∙ live_from low b.held x t.missing (k.timer.keeps x (looked_for x le (l.below h top_is).0 l.new)) le (held_is x (omega (arith, le, k.lowest)) ∙ l.new);
    unasked = λ x le. ap (λ r. request_times r x) (sym asked_here) ∙ named_below t.policy rtt at low 0 (high_or t.high) x b.held [] t.missing requests k.order le ∙ k.timer.unasked x le;
    started = k.timer.started;
  }
