-- What a timer keeps after the highest number has risen, against the history.
use Rattle.std.proofs.Common.{◌≡◌, ℕ, zero, suc, ◌+◌, ◌-◌, ◌<◌, ◌≤◌, max, Bool, true, false, cond, ◌||◌, List, [], ◌∷◌, ◌++◌, length, drop, Option, Some, None, option_map, unwrap_or, refl, sym, ap, subst, ◌∙◌, arith}
use Rattle.std.specs.Prelude.{nat_lt, ◌==◌, if◌then◌else◌}
use Rattle.std.proofs.lemmas.Bool.{lt-ltb, le-ltb, ltb-true, ltb-false, eq-eqb, eqb-true, eqb-false}
use Rattle.circular_buffer.specs.Buffer.{keep_last}
use Rattle.receiver_rules.specs.declared.limits.Limits.{Limits}
use Rattle.receiver_rules.specs.declared.anchor.Anchor.{Anchor}
use Rattle.receiver_rules.specs.declared.anchor.Highest.{Highest}
use Rattle.receiver_rules.specs.Packets.{Packet, Moment, At, Ever, highest_of, higher, playout_floor, is_past_deadline, is_kept, number_of}
use Rattle.receiver_rules.specs.Steps.{Arrival, has_ended, effective_time}
use Rattle.receiver_rules.specs.Steps.{Step as BufferStep}
use Rattle.receiver_rules.specs.Epochs.{Epoch, new_anchor, new_epoch, opens_epoch, verdict_in, packet_in, epoch_with, epochs_of, newest_anchor, newest_accepted}
use Rattle.receiver_rules.specs.History.{anchor_of, accepted_packets, current_moment}
use Rattle.receiver_rules.proofs.OpeningLemmas.{has_continued, has_opened}
use Rattle.request_rules.specs.declared.policy.Policy.{Policy}
use Rattle.nack_timer.specs.OneMore.{IsOfEpoch, OpensNext}
use Rattle.receiver_rules.proofs.PacketLemmas.{floor_rises, later_At, IsLater}
use Rattle.request_rules.specs.Steps.{Step, buffer_history}
use Rattle.request_rules.specs.Missing.{is_accepted, is_passed, found_time}
use Rattle.request_rules.specs.Requests.{Request, request_times, requests_of}
use Rattle.request_rules.specs.Times.{AreTimes}
use Rattle.request_rules.specs.Missing.{is_below_highest}
use Rattle.request_rules.proofs.KeptLemmas.{passed_highest}
use Rattle.nack_timer.specs.declared.entry.Missing.{Missing}
use Rattle.nack_timer.specs.State.{TimerState, AreRising, high_or}
use Rattle.nack_timer.specs.Inside.Raise.{new_entries, found_between, raised_to, renewed_to}
use Rattle.nack_timer.specs.Steps.{media_step}
use Rattle.nack_timer.specs.TimerAfter.{highest_number, IsLookedFor, has_entry, AreEntriesOf, IsTimerAfter}
use Rattle.nack_timer.proofs.LiftLemmas.{entries_found}
use Rattle.nack_timer.proofs.RaiseLemmas.{rising_found, rising_drop}
use Rattle.nack_timer.proofs.NoneLemmas.{IsSomeOf, some_of, none_of, none_requested}

-- ---- the packet that raised it

pub record Raising (packet : Packet) (high : ℕ) (acc after : List Packet) : Type 0 where
  pub is : after ≡ packet ∷ acc
  pub number : packet.number ≡ high

some_number : (m n : ℕ) → Some m ≡ Some n → m ≡ n
some_number m n e = cc

higher_is : (p : Packet) (o : Option Highest) (high : ℕ) → (higher p o).number ≡ high → ((old : ℕ) → option_map (λ h. h.number) o ≡ Some old → old < high) → p.number ≡ high
higher_is p None high e above = e
higher_is p (Some g) high e above =
    elim (nat_lt g.number p.number) as (λ c. (cond c (record { number = p.number; timestamp = p.timestamp }) g).number ≡ high → p.number ≡ high) [
      | true ↦ λ f. f
      | false ↦ λ f. absurd (omega (arith, f, above g.number refl))
    ] e

raising : (c : Bool) (p : Packet) (acc : List Packet) (high : ℕ) → option_map (λ h. h.number) (highest_of (if c then p ∷ acc else acc)) ≡ Some high
    → ((old : ℕ) → option_map (λ h. h.number) (highest_of acc) ≡ Some old → old < high) → Raising p high acc (if c then p ∷ acc else acc)
raising true p acc high e above = record { is = refl; number = higher_is p (highest_of acc) high (some_number (higher p (highest_of acc)).number high e) above }
raising false p acc high e above = absurd (omega (arith, above high e))

-- ---- lists of entries

entries_append : (found : ℕ → ℕ) (requests : List Request) (xs ys : List Missing) → AreEntriesOf found requests xs → AreEntriesOf found requests ys → AreEntriesOf found requests (xs ++ ys)
entries_append found requests [] ys h g = g
entries_append found requests (x ∷ xs) ys h g = (h.0, entries_append found requests xs ys h.1 g)

entries_drop : (found : ℕ → ℕ) (requests : List Request) (k : ℕ) (xs : List Missing) → AreEntriesOf found requests xs → AreEntriesOf found requests (drop k xs)
entries_drop found requests zero xs h = h
entries_drop found requests (suc k) [] h = tt
entries_drop found requests (suc k) (x ∷ xs) h = entries_drop found requests k xs h.1

entries_new : (found : ℕ → ℕ) (requests : List Request) (at low n : ℕ) → ((x : ℕ) → low ≤ x → at ≡ found x) → ((x : ℕ) → low ≤ x → request_times requests x ≡ []) → AreEntriesOf found requests (new_entries at low n)
entries_new found requests at low zero f g = tt
entries_new found requests at low (suc n) f g = (
  record { since = f low (omega arith); times = subst (AreTimes None 0) (sym (g low (omega arith))) (record { newest = refl; count_is = refl }) },
  entries_new found requests at (low + 1) n (λ x le. f x (omega (arith, le))) (λ x le. g x (omega (arith, le))),
)

has_append : (xs ys : List Missing) (x : ℕ) → has_entry (xs ++ ys) x ≡ (has_entry xs x || has_entry ys x)
has_append [] ys x = refl
has_append (e ∷ es) ys x = ap (λ b. (e.number == x) || b) (has_append es ys x) ∙ grouped (e.number == x) (has_entry es x) (has_entry ys x)
  where
    grouped : (a b c : Bool) → (a || (b || c)) ≡ ((a || b) || c)
    grouped true b c = refl
    grouped false b c = refl

has_new : (at low n x : ℕ) → low ≤ x → x < low + n → has_entry (new_entries at low n) x ≡ true
has_new at low zero x le lt = absurd (omega (arith, le, lt))
has_new at low (suc n) x le lt =
    elim (low == x) as (λ c. (low == x) ≡ c → (c || has_entry (new_entries at (low + 1) n) x) ≡ true) [
      | true ↦ λ e. refl
      | false ↦ λ e. has_new at (low + 1) n x (omega (arith, le, eqb-false low x e)) (omega (arith, lt))
    ] refl

-- rising entries fit between their bounds
rising_room : (low high : ℕ) (e : Missing) (es : List Missing) → AreRising low high (e ∷ es) → low + length (e ∷ es) ≤ high
rising_room low high e [] h = omega (arith, h.0, h.1)
rising_room low high e (f ∷ fs) h = omega (arith, h.0, rising_room (e.number + 1) high f fs h.2)

-- an entry near enough to the highest number is not dropped
survives : (span k low high x : ℕ) (es : List Missing) → 1 ≤ span → AreRising low high es → length es ≡ k + span → high < x + span → has_entry es x ≡ true → has_entry (drop k es) x ≡ true
survives span zero low high x es some order size near h = h
survives span (suc k) low high x [] some order size near h = absurd (omega (arith, size))
survives span (suc k) low high x (e ∷ []) some order size near h = absurd (omega (arith, size, some))
survives span (suc k) low high x (e ∷ f ∷ fs) some order size near h =
    elim (e.number == x) as (λ c. (e.number == x) ≡ c → (c || has_entry (f ∷ fs) x) ≡ true → has_entry (drop k (f ∷ fs)) x ≡ true) [
      | true ↦ λ g i. absurd (omega (arith, eqb-true e.number x g, rising_room (e.number + 1) high f fs order.2, size, near))
      | false ↦ λ g i. survives span k (e.number + 1) high x (f ∷ fs) some order.2 (omega (arith, size)) near i
    ] refl h

pub kept_near : (span high x : ℕ) (es : List Missing) → 1 ≤ span → AreRising 0 high es → high < x + span → has_entry es x ≡ true → has_entry (keep_last span es) x ≡ true
kept_near span high x es some order near h = by_excess (length es - span) refl
  where
    by_excess : (k : ℕ) → length es - span ≡ k → has_entry (drop k es) x ≡ true
    by_excess zero e = h
    by_excess (suc k) e = survives span (suc k) 0 high x es some order (omega (arith, e)) near h

-- ---- the floor

pub floor_more : (p : Packet) (ps : List Packet) (m : Moment) → playout_floor ps m ≤ playout_floor (p ∷ ps) m
floor_more p ps m = elim (is_past_deadline m p) as (λ c. playout_floor ps m ≤ (if c then max (p.number + 1) (playout_floor ps m) else playout_floor ps m)) [ true ↦ omega arith | false ↦ omega arith ]

pub later_moment : (c : Bool) (m n : ℕ) → m ≤ n → IsLater (if c then Ever else At m) (if c then Ever else At n)
later_moment true m n le = λ p e. e
later_moment false m n le = later_At m n le

or_true : (b : Bool) → (b || true) ≡ true
or_true true = refl
or_true false = refl

accepted_by : (p : Packet) (ps : List Packet) (n : ℕ) (o : Option Highest) → ((g : Highest) → o ≡ Some g → is_accepted ps g.number ≡ true) → (higher p o).number ≡ n → is_accepted (p ∷ ps) n ≡ true
accepted_by p ps n None known e = rw (eq-eqb p.number n e) refl
accepted_by p ps n (Some g) known e =
    elim (nat_lt g.number p.number) as (λ c. (cond c (record { number = p.number; timestamp = p.timestamp }) g).number ≡ n → is_accepted (p ∷ ps) n ≡ true) [
      | true ↦ λ f. rw (eq-eqb p.number n f) refl
      | false ↦ λ f. let rest : is_accepted ps n ≡ true = ap (is_accepted ps) (sym f) ∙ known g refl in rw rest (or_true (p.number == n))
    ] e

pub same_highest : (g h : Highest) → Some g ≡ Some h → g.number ≡ h.number
same_highest g h e = let is : g ≡ h = cc in ap (λ k. k.number) is

highest_accepted : (ps : List Packet) (h : Highest) → highest_of ps ≡ Some h → is_accepted ps h.number ≡ true
highest_accepted [] h e = absurd cc
highest_accepted (p ∷ ps) h e = accepted_by p ps h.number (highest_of ps) (λ g f. highest_accepted ps g f) (same_highest (higher p (highest_of ps)) h e)

-- ---- a packet that opens no epoch

-- the epoch that it comes in
pub record Continues (limits : Limits) (before : List Step) (link tick : ℕ) (arrival : Arrival) : Type 0 where
  pub epoch : Epoch
  pub after : accepted_packets limits (buffer_history (media_step link tick arrival ∷ before)) ≡ (epoch_with limits epoch (effective_time (buffer_history (media_step link tick arrival ∷ before))) arrival).accepted
  pub accepted : accepted_packets limits (buffer_history before) ≡ epoch.accepted
  pub anchor : anchor_of limits (buffer_history (media_step link tick arrival ∷ before)) ≡ Some epoch.anchor
  pub since : epoch.anchor ≡ unwrap_or (anchor_of limits (buffer_history before)) (new_anchor (effective_time (buffer_history (media_step link tick arrival ∷ before))) arrival)
  pub found : (x : ℕ) → is_passed (accepted_packets limits (buffer_history before)) x ≡ true → found_time limits (buffer_history (media_step link tick arrival ∷ before)) x ≡ found_time limits (buffer_history before) x
  pub found_new : (x : ℕ) → is_passed (accepted_packets limits (buffer_history before)) x ≡ false → found_time limits (buffer_history (media_step link tick arrival ∷ before)) x ≡ effective_time (buffer_history (media_step link tick arrival ∷ before))
  pub requests : (policy : Policy) → requests_of limits policy (media_step link tick arrival ∷ before) ≡ requests_of limits policy before

pub continues : (limits : Limits) (before : List Step) (link tick : ℕ) (arrival : Arrival) → IsOfEpoch limits before link tick arrival → Continues limits before link tick arrival
continues limits before link tick arrival of =
    let bh : List BufferStep = buffer_history before in
    let t : ℕ = effective_time (buffer_history (media_step link tick arrival ∷ before)) in
    let h = has_continued limits (epochs_of limits bh) t arrival of in
    let blank : opens_epoch limits (epochs_of limits bh) t arrival ≡ true → accepted_packets limits bh ≡ [] = λ e. ap newest_accepted (h.first e) in
    record {
      epoch = h.epoch;
      after = ap newest_accepted h.is;
      accepted = h.accepted;
      anchor = ap newest_anchor h.is;
      since = h.anchor;
      found = λ x passed. elim (opens_epoch limits (epochs_of limits bh) t arrival) as (λ c. opens_epoch limits (epochs_of limits bh) t arrival ≡ c → (if is_passed (if c then [] else accepted_packets limits bh) x then found_time limits bh x else t) ≡ found_time limits bh x) [
        | true ↦ λ e. absurd (let wrong : false ≡ true = ap (λ ps. is_passed ps x) (sym (blank e)) ∙ passed in cc)
        | false ↦ λ e. rw passed refl
      ] refl;
      found_new = λ x passed. elim (opens_epoch limits (epochs_of limits bh) t arrival) as (λ c. (if is_passed (if c then [] else accepted_packets limits bh) x then found_time limits bh x else t) ≡ t) [ true ↦ refl | false ↦ rw passed refl ];
      requests = λ policy. elim (opens_epoch limits (epochs_of limits bh) t arrival) as (λ c. opens_epoch limits (epochs_of limits bh) t arrival ≡ c → (if c then [] else requests_of limits policy before) ≡ requests_of limits policy before) [
        | true ↦ λ e. sym (none_requested limits policy before (h.first e))
        | false ↦ λ e. refl
      ] refl;
    }

-- ---- after the packet

pub record Raised (t : TimerState) (limits : Limits) (before : List Step) (link tick at high : ℕ) (arrival : Arrival) : Type 0 where
  pub timer : IsTimerAfter t limits before
  pub top : highest_number limits (buffer_history (media_step link tick arrival ∷ before)) ≡ Some high
  pub time : effective_time (buffer_history (media_step link tick arrival ∷ before)) ≡ at
  pub above : (old : ℕ) → t.high ≡ Some old → old < high
  pub some : 1 ≤ t.span
  pub order : AreRising 0 (high_or t.high) t.missing
  pub of : IsOfEpoch limits before link tick arrival

module _ (t : TimerState) (limits : Limits) (before : List Step) (link tick at high : ℕ) (arrival : Arrival) (k : Raised t limits before link tick at high arrival) where
  abbrev bh : List BufferStep
  bh = buffer_history before

  abbrev bh' : List BufferStep
  bh' = buffer_history (media_step link tick arrival ∷ before)

  abbrev acc : List Packet
  acc = accepted_packets limits bh

  abbrev acc' : List Packet
  acc' = accepted_packets limits bh'

  c : Continues limits before link tick arrival
  c = continues limits before link tick arrival k.of

  abbrev packet : Packet
  packet = packet_in limits c.epoch arrival

  acc_is : acc' ≡ (if is_kept (verdict_in limits c.epoch (effective_time bh') arrival) then packet ∷ acc else acc)
  acc_is = c.after ∙ ap (λ ps. if is_kept (verdict_in limits c.epoch (effective_time bh') arrival) then packet ∷ ps else ps) (sym c.accepted)

  raised : Raising packet high acc acc'
  raised = subst (Raising packet high acc) (sym acc_is)
      (raising (is_kept (verdict_in limits c.epoch (effective_time bh') arrival)) packet acc high (ap (λ ps. option_map (λ (h : Highest). h.number) (highest_of ps)) (sym acc_is) ∙ k.top) (λ old e. k.above old (k.timer.high ∙ e)))

  first_number : anchor_of limits bh ≡ None → c.epoch.anchor.number ≡ number_of None arrival
  first_number e = ap (λ (a : Anchor). a.number) c.since ∙ ap (λ (o : Option Anchor). (unwrap_or o (new_anchor (effective_time bh') arrival)).number) e

  high_le : high_or t.high ≤ high
  high_le = by_high t.high refl
    where
      by_high : (o : Option ℕ) → t.high ≡ o → high_or o ≤ high
      by_high None e = omega arith
      by_high (Some old) e = omega (arith, k.above old e)

  -- the numbers so far were passed before, and no number from the highest on
  passed_old : (x : ℕ) → x < high_or t.high → is_passed acc x ≡ true
  passed_old x lt = sym (passed_highest acc x) ∙ ap (λ o. is_below_highest o x) (sym k.timer.high) ∙ by_high t.high lt
    where
      by_high : (o : Option ℕ) → x < high_or o → is_below_highest o x ≡ true
      by_high None l = absurd (omega (arith, l))
      by_high (Some old) l = lt-ltb x old l

  not_passed : (x : ℕ) → high_or t.high ≤ x → is_passed acc x ≡ false
  not_passed x le = sym (passed_highest acc x) ∙ ap (λ o. is_below_highest o x) (sym k.timer.high) ∙ by_high t.high le
    where
      by_high : (o : Option ℕ) → high_or o ≤ x → is_below_highest o x ≡ false
      by_high None l = refl
      by_high (Some old) l = le-ltb x old l

  found_old : (x : ℕ) → x < high_or t.high → found_time limits bh' x ≡ found_time limits bh x
  found_old x lt = c.found x (passed_old x lt)

  found_new : (x : ℕ) → high_or t.high ≤ x → at ≡ found_time limits bh' x
  found_new x le = sym k.time ∙ sym (c.found_new x (not_passed x le))

  entries_found_between : AreEntriesOf (found_time limits bh') (requests_of limits t.policy before) (found_between t.high t.span at high)
  entries_found_between = by_high t.high refl
    where
      by_high : (o : Option ℕ) → t.high ≡ o → AreEntriesOf (found_time limits bh') (requests_of limits t.policy before) (found_between o t.span at high)
      by_high None e = tt
      by_high (Some old) e =
          let low = max (old + 1) (high + 1 - t.span) in
          let since : high_or t.high ≤ low = omega (arith, ap high_or e) in
          entries_new (found_time limits bh') (requests_of limits t.policy before) at low (high - low) (λ x le. found_new x (omega (arith, since, le))) (λ x le. k.timer.unasked x (omega (arith, since, le)))

  floor_le : playout_floor acc (current_moment bh) ≤ playout_floor acc' (current_moment bh')
  floor_le =
      let later : effective_time bh ≤ effective_time bh' = omega arith in
      let rises = floor_rises (current_moment bh) (current_moment bh') (later_moment (has_ended bh) (effective_time bh) (effective_time bh') later) acc in
      omega (arith, rises, floor_more packet acc (current_moment bh'), ap (λ ps. playout_floor ps (current_moment bh')) raised.is)

  module _ (x : ℕ) (l : IsLookedFor limits bh' x) where
    near : (x < high) × (high < x + t.span)
    near =
        let top = some_of (λ (h : Highest). h.number) (highest_of acc') high k.top in
        let parts = l.below top.value top.is in
        (omega (arith, parts.0, top.number), omega (arith, parts.1, top.number, k.timer.span))

    new_before : is_accepted acc x ≡ false
    new_before = second (packet.number == x) (is_accepted acc x) (sym (ap (λ ps. is_accepted ps x) raised.is) ∙ l.new)
      where
        second : (a b : Bool) → (a || b) ≡ false → b ≡ false
        second true b e = absurd cc
        second false b e = e

    first_before : (a : Anchor) → anchor_of limits bh ≡ Some a → a.number ≤ x
    first_before a e = omega (arith, l.first c.epoch.anchor c.anchor, ap (λ (b : Anchor). b.number) c.since, ap (λ (o : Option Anchor). (unwrap_or o (new_anchor (effective_time bh') arrival)).number) e)

    looked_for_before : (h : Highest) → highest_of acc ≡ Some h → x < h.number → IsLookedFor limits bh x
    looked_for_before h e lt =
        let high_is : high_or t.high ≡ h.number = ap high_or (k.timer.high ∙ ap (option_map (λ (g : Highest). g.number)) e) in
        record {
          first = first_before;
          below = λ g f. let is : h.number ≡ g.number = same_highest h g (sym e ∙ f) in (omega (arith, lt, is), omega (arith, is, high_is, high_le, near.1, k.timer.span));
          out = omega (arith, floor_le, l.out);
          new = new_before;
          passed = passed_old x (omega (arith, lt, high_is));
        }

    in_all : has_entry (t.missing ++ found_between t.high t.span at high) x ≡ true
    in_all = by_high t.high refl
      where
        by_high : (o : Option ℕ) → t.high ≡ o → has_entry (t.missing ++ found_between o t.span at high) x ≡ true
        by_high None e =
            let none : highest_of acc ≡ None = none_of (λ (h : Highest). h.number) (highest_of acc) (sym k.timer.high ∙ e) in
            let number : number_of None arrival ≡ high = ap (λ o. number_of o arrival) (sym (ap highest_of (sym c.accepted) ∙ none)) ∙ raised.number in
            let first = l.first c.epoch.anchor c.anchor in
            let is = first_number (k.timer.started e) in
            absurd (omega (arith, first, is, number, near.0))
        by_high (Some old) e =
            let h = some_of (λ (g : Highest). g.number) (highest_of acc) old (sym k.timer.high ∙ e) in
            has_append t.missing (found_between (Some old) t.span at high) x ∙ either (nat_lt x old) refl h
          where
            either : (c : Bool) → nat_lt x old ≡ c → IsSomeOf (λ (g : Highest). g.number) (highest_of acc) old → (has_entry t.missing x || has_entry (found_between (Some old) t.span at high) x) ≡ true
            either true f h = let here : has_entry t.missing x ≡ true = k.timer.keeps x (looked_for_before h.value h.is (omega (arith, ltb-true x old f, h.number))) in rw here refl
            either false f h =
                let apart : (old ≡ x) → ⊥ = λ g. wrong (ap (is_accepted acc) (sym g ∙ sym h.number) ∙ highest_accepted acc h.value h.is) new_before in
                let low = max (old + 1) (high + 1 - t.span) in
                let le : low ≤ x = omega (arith, apart, ltb-false x old f, near.1) in
                let here : has_entry (found_between (Some old) t.span at high) x ≡ true = has_new at low (high - low) x le (omega (arith, le, near.0)) in
                rw here (or_true (has_entry t.missing x))
              where
                wrong : is_accepted acc x ≡ true → is_accepted acc x ≡ false → ⊥
                wrong u v = let w : true ≡ false = sym u ∙ v in cc

  -- the timer stands for the history with the packet
  pub raised_stands : IsTimerAfter (raised_to t at high) limits (media_step link tick arrival ∷ before)
  raised_stands = record {
    span = k.timer.span;
    high = sym k.top;
    order = rising_drop (length (t.missing ++ found_between t.high t.span at high) - t.span) 0 high (t.missing ++ found_between t.high t.span at high) (rising_found t.high t.span at high t.missing high_le k.order);
    entries = subst (λ r. AreEntriesOf (found_time limits bh') r (keep_last t.span (t.missing ++ found_between t.high t.span at high))) (sym (c.requests t.policy))
        (entries_drop (found_time limits bh') (requests_of limits t.policy before) (length (t.missing ++ found_between t.high t.span at high) - t.span) (t.missing ++ found_between t.high t.span at high)
        (entries_append (found_time limits bh') (requests_of limits t.policy before) t.missing (found_between t.high t.span at high)
        (entries_found (found_time limits bh) (found_time limits bh') (requests_of limits t.policy before) 0 (high_or t.high) t.missing k.order found_old k.timer.entries) entries_found_between));
    keeps = λ x l. kept_near t.span high x (t.missing ++ found_between t.high t.span at high) k.some (rising_found t.high t.span at high t.missing high_le k.order) (near x l).1 (in_all x l);
    unasked = λ x le. ap (λ r. request_times r x) (c.requests t.policy) ∙ k.timer.unasked x (omega (arith, high_le, le));
    started = λ e. absurd cc;
  }

pub some_above : (o : Option ℕ) (high : ℕ) → ((old : ℕ) → o ≡ Some old → old < high) → high_or o ≤ high
some_above None high f = omega arith
some_above (Some old) high f = omega (arith, f old refl)

-- ---- a packet that opens the next epoch

inside_some : {X : Type 0} (x y : X) → Some x ≡ Some y → x ≡ y
inside_some x y e = cc

one_kept : (c : Bool) (p : Packet) (h : Highest) → highest_of (if c then p ∷ [] else []) ≡ Some h → p.number ≡ h.number
one_kept true p h e = ap (λ (g : Highest). g.number) (inside_some (higher p None) h e)
one_kept false p h e = cc

-- nothing is looked for yet
pub renewed_stands : (t : TimerState) (limits : Limits) (before : List Step) (link tick high : ℕ) (arrival : Arrival) → IsTimerAfter t limits before → OpensNext limits before link tick arrival
    → highest_number limits (buffer_history (media_step link tick arrival ∷ before)) ≡ Some high → IsTimerAfter (renewed_to t high) limits (media_step link tick arrival ∷ before)
renewed_stands t limits before link tick high arrival s next top =
    let now : ℕ = effective_time (buffer_history (media_step link tick arrival ∷ before)) in
    let o = has_opened limits (epochs_of limits (buffer_history before)) now arrival next in
    record {
      span = s.span;
      high = sym top;
      order = tt;
      entries = tt;
      keeps = λ x l. absurd
          (let h = some_of (λ (h : Highest). h.number) (highest_of (accepted_packets limits (buffer_history (media_step link tick arrival ∷ before)))) high top in
          let number : number_of None arrival ≡ h.value.number = one_kept (is_kept (verdict_in limits (new_epoch now arrival) now arrival)) (packet_in limits (new_epoch now arrival) arrival) h.value (ap (λ es. highest_of (newest_accepted es)) (sym o.is) ∙ h.is) in
          omega (arith, number, l.first (new_anchor now arrival) (ap newest_anchor o.is), (l.below h.value h.is).0));
      unasked = λ x le. ap (λ c. request_times (if c then [] else requests_of limits t.policy before) x) o.opens;
      started = λ e. absurd cc;
    }
