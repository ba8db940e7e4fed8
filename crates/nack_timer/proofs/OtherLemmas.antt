-- Steps with which the highest number stays, and that ask for nothing, leave a timer as it is.
use Rattle.std.proofs.Common.{◌≡◌, ℕ, ◌<◌, ◌≤◌, max, Bool, true, false, ◌||◌, List, [], ◌∷◌, Option, Some, None, option_map, unwrap_or, refl, sym, ap, subst, ◌∙◌, arith}
use Rattle.std.specs.Prelude.{◌==◌, if◌then◌else◌}
use Rattle.receiver_rules.specs.declared.limits.Limits.{Limits}
use Rattle.receiver_rules.specs.declared.anchor.Anchor.{Anchor}
use Rattle.receiver_rules.specs.declared.anchor.Highest.{Highest}
use Rattle.receiver_rules.specs.Packets.{Packet, Moment, Ever, highest_of, is_kept, playout_floor}
use Rattle.receiver_rules.specs.Steps.{Arrival, has_ended, effective_time}
use Rattle.receiver_rules.specs.Steps.{Step as BufferStep}
use Rattle.receiver_rules.specs.Epochs.{new_anchor, verdict_in, packet_in}
use Rattle.receiver_rules.specs.History.{anchor_of, accepted_packets, current_moment}
use Rattle.receiver_rules.proofs.PacketLemmas.{floor_rises, later_Ever, IsLater}
use Rattle.request_rules.specs.Steps.{Input, Media, Control, Keepalive, Refused, Tick, End, Step, buffer_history, receiver_input}
use Rattle.request_rules.specs.Missing.{is_accepted, is_passed, found_time}
use Rattle.request_rules.specs.Requests.{requests_of, request_times}
use Rattle.std.proofs.lemmas.Bool.{lt-ltb}
use Rattle.receiver_rules.specs.ReceiverSteps.{buffer_step}
use Rattle.request_rules.specs.Missing.{is_below_highest}
use Rattle.request_rules.proofs.KeptLemmas.{passed_highest}
use Rattle.nack_timer.specs.State.{TimerState, AreRising, high_or}
use Rattle.nack_timer.specs.Steps.{media_step, IsSilent}
use Rattle.nack_timer.specs.TimerAfter.{highest_number, IsLookedFor, AreEntriesOf, IsTimerAfter}
use Rattle.nack_timer.proofs.LiftLemmas.{entries_found}
use Rattle.nack_timer.proofs.NoneLemmas.{none_of, none_kept, some_of}
use Rattle.nack_timer.proofs.RaisedLemmas.{floor_more, later_moment, same_highest, Continues, continues}
use Rattle.nack_timer.specs.OneMore.{IsOfEpoch}

-- what such a step changes
record Stays (t : TimerState) (limits : Limits) (before : List Step) (step : Step) : Type 0 where
  timer : IsTimerAfter t limits before
  order : AreRising 0 (high_or t.high) t.missing
  top : highest_number limits (buffer_history (step ∷ before)) ≡ t.high
  requests : requests_of limits t.policy (step ∷ before) ≡ requests_of limits t.policy before
  anchors : (a : Anchor) → anchor_of limits (buffer_history before) ≡ Some a → anchor_of limits (buffer_history (step ∷ before)) ≡ Some a
  started : t.high ≡ None → anchor_of limits (buffer_history (step ∷ before)) ≡ None
  found : (x : ℕ) → is_passed (accepted_packets limits (buffer_history before)) x ≡ true → found_time limits (buffer_history (step ∷ before)) x ≡ found_time limits (buffer_history before) x
  floor : playout_floor (accepted_packets limits (buffer_history before)) (current_moment (buffer_history before)) ≤ playout_floor (accepted_packets limits (buffer_history (step ∷ before))) (current_moment (buffer_history (step ∷ before)))
  accepted : (x : ℕ) → is_accepted (accepted_packets limits (buffer_history (step ∷ before))) x ≡ false → is_accepted (accepted_packets limits (buffer_history before)) x ≡ false

passed_under : (ps : List Packet) (o : Option ℕ) (x : ℕ) → o ≡ option_map (λ h. h.number) (highest_of ps) → x < high_or o → is_passed ps x ≡ true
passed_under ps o x e lt = sym (passed_highest ps x) ∙ ap (λ q. is_below_highest q x) (sym e) ∙ by_high o lt
  where
    by_high : (q : Option ℕ) → x < high_or q → is_below_highest q x ≡ true
    by_high None l = absurd (omega (arith, l))
    by_high (Some old) l = lt-ltb x old l

none_passed : (x : ℕ) → is_passed [] x ≡ true → ⊥
none_passed x e = cc

stays : (t : TimerState) (limits : Limits) (before : List Step) (step : Step) → Stays t limits before step → IsTimerAfter t limits (step ∷ before)
stays t limits before step k =
    record {
      span = k.timer.span;
      high = sym k.top;
      order = k.order;
      entries = subst (λ r. AreEntriesOf (found_time limits (buffer_history (step ∷ before))) r t.missing) (sym k.requests)
          (entries_found (found_time limits (buffer_history before)) (found_time limits (buffer_history (step ∷ before))) (requests_of limits t.policy before) 0 (high_or t.high) t.missing k.order
          (λ x lt. k.found x (passed_under (accepted_packets limits (buffer_history before)) t.high x k.timer.high lt)) k.timer.entries);
      keeps = λ x l. k.timer.keeps x (looked_for x l t.high refl);
      unasked = λ x le. ap (λ r. request_times r x) k.requests ∙ k.timer.unasked x le;
      started = k.started;
    }
  where
    looked_for : (x : ℕ) → IsLookedFor limits (buffer_history (step ∷ before)) x → (o : Option ℕ) → t.high ≡ o → IsLookedFor limits (buffer_history before) x
    looked_for x l None e =
        let none = none_kept (accepted_packets limits (buffer_history (step ∷ before))) (none_of (λ (h : Highest). h.number) (highest_of (accepted_packets limits (buffer_history (step ∷ before)))) (k.top ∙ e)) in
        absurd (none_passed x (ap (λ ps. is_passed ps x) (sym none) ∙ l.passed))
    looked_for x l (Some high) e =
        let top = some_of (λ (h : Highest). h.number) (highest_of (accepted_packets limits (buffer_history (step ∷ before)))) high (k.top ∙ e) in
        let old = some_of (λ (h : Highest). h.number) (highest_of (accepted_packets limits (buffer_history before))) high (sym k.timer.high ∙ e) in
        let parts = l.below top.value top.is in
        record {
          first = λ a f. l.first a (k.anchors a f);
          below = λ h f. let is : old.value.number ≡ h.number = same_highest old.value h (sym old.is ∙ f) in (omega (arith, parts.0, top.number, old.number, is), omega (arith, parts.1, top.number, old.number, is));
          out = omega (arith, k.floor, l.out);
          new = k.accepted x l.new;
          passed = passed_under (accepted_packets limits (buffer_history before)) t.high x k.timer.high (omega (arith, ap high_or e, parts.0, top.number));
        }

-- ---- each kind of step

-- nothing else than the moment changes
floor_then : (limits : Limits) (bh : List BufferStep) (m : Moment) → IsLater (current_moment bh) m → playout_floor (accepted_packets limits bh) (current_moment bh) ≤ playout_floor (accepted_packets limits bh) m
floor_then limits bh m later = floor_rises (current_moment bh) m later (accepted_packets limits bh)

pub silent_stands : (t : TimerState) (limits : Limits) (before : List Step) (link tick : ℕ) (input : Input) → IsSilent input → AreRising 0 (high_or t.high) t.missing → IsTimerAfter t limits before
    → IsTimerAfter t limits (record { link = link; tick = tick; input = input } ∷ before)
silent_stands t limits before link tick (Media arrival) silent order s = absurd silent
silent_stands t limits before link tick (Tick micros) silent order s = absurd silent
silent_stands t limits before link tick (Control sample request) silent order s = stays t limits before (record { link = link; tick = tick; input = Control sample request })
    (record {
      timer = s;
      order = order;
      top = sym s.high;
      requests = refl;
      anchors = λ a e. e;
      started = s.started;
      found = λ x passed. rw passed refl;
      accepted = λ x e. e;
      floor = floor_then limits (buffer_history before) (current_moment (buffer_history (record { link = link; tick = tick; input = Control sample request } ∷ before)))
          (later_moment (has_ended (buffer_history before)) (effective_time (buffer_history before)) (max tick (effective_time (buffer_history before))) (omega arith));
    })
silent_stands t limits before link tick Keepalive silent order s = stays t limits before (record { link = link; tick = tick; input = Keepalive })
    (record {
      timer = s;
      order = order;
      top = sym s.high;
      requests = refl;
      anchors = λ a e. e;
      started = s.started;
      found = λ x passed. rw passed refl;
      accepted = λ x e. e;
      floor = floor_then limits (buffer_history before) (current_moment (buffer_history (record { link = link; tick = tick; input = Keepalive } ∷ before)))
          (later_moment (has_ended (buffer_history before)) (effective_time (buffer_history before)) (max tick (effective_time (buffer_history before))) (omega arith));
    })
silent_stands t limits before link tick Refused silent order s = stays t limits before (record { link = link; tick = tick; input = Refused })
    (record {
      timer = s;
      order = order;
      top = sym s.high;
      requests = refl;
      anchors = λ a e. e;
      started = s.started;
      found = λ x passed. rw passed refl;
      accepted = λ x e. e;
      floor = floor_then limits (buffer_history before) (current_moment (buffer_history (record { link = link; tick = tick; input = Refused } ∷ before)))
          (later_moment (has_ended (buffer_history before)) (effective_time (buffer_history before)) (max tick (effective_time (buffer_history before))) (omega arith));
    })
silent_stands t limits before link tick End silent order s = stays t limits before (record { link = link; tick = tick; input = End })
    (record {
      timer = s;
      order = order;
      top = sym s.high;
      requests = refl;
      anchors = λ a e. e;
      started = s.started;
      found = λ x passed. rw passed refl;
      accepted = λ x e. e;
      floor = floor_then limits (buffer_history before) Ever (later_Ever (current_moment (buffer_history before)));
    })

accepted_if : (c : Bool) (p : Packet) (acc : List Packet) (x : ℕ) → is_accepted (if c then p ∷ acc else acc) x ≡ false → is_accepted acc x ≡ false
accepted_if true p acc x e = second (p.number == x) (is_accepted acc x) e
  where
    second : (a b : Bool) → (a || b) ≡ false → b ≡ false
    second true b e = absurd cc
    second false b e = e
accepted_if false p acc x e = e

floor_if : (c : Bool) (p : Packet) (acc : List Packet) (m later : Moment) → IsLater m later → playout_floor acc m ≤ playout_floor (if c then p ∷ acc else acc) later
floor_if true p acc m later l = omega (arith, floor_rises m later l acc, floor_more p acc later)
floor_if false p acc m later l = floor_rises m later l acc

pub media_stands : (t : TimerState) (limits : Limits) (before : List Step) (link tick high : ℕ) (arrival : Arrival) → AreRising 0 (high_or t.high) t.missing → IsTimerAfter t limits before
    → IsOfEpoch limits before link tick arrival → t.high ≡ Some high → highest_number limits (buffer_history (media_step link tick arrival ∷ before)) ≡ Some high → IsTimerAfter t limits (media_step link tick arrival ∷ before)
media_stands t limits before link tick high arrival order s of is top =
    let c : Continues limits before link tick arrival = continues limits before link tick arrival of in
    let now : ℕ = effective_time (buffer_history (media_step link tick arrival ∷ before)) in
    let kept : Bool = is_kept (verdict_in limits c.epoch now arrival) in
    let after : accepted_packets limits (buffer_history (media_step link tick arrival ∷ before)) ≡ (if kept then packet_in limits c.epoch arrival ∷ accepted_packets limits (buffer_history before) else accepted_packets limits (buffer_history before)) =
    c.after ∙ ap (λ ps. if kept then packet_in limits c.epoch arrival ∷ ps else ps) (sym c.accepted) in
    stays t limits before (media_step link tick arrival)
    (record {
      timer = s;
      order = order;
      top = top ∙ sym is;
      requests = c.requests t.policy;
      anchors = λ a e. c.anchor ∙ ap Some (c.since ∙ ap (λ o. unwrap_or o (new_anchor now arrival)) e);
      started = λ e. let wrong : Some high ≡ None = sym is ∙ e in absurd cc;
      found = c.found;
      accepted = λ x e. accepted_if kept (packet_in limits c.epoch arrival) (accepted_packets limits (buffer_history before)) x (ap (λ ps. is_accepted ps x) (sym after) ∙ e);
      floor = subst (λ ps. playout_floor (accepted_packets limits (buffer_history before)) (current_moment (buffer_history before)) ≤ playout_floor ps (current_moment (buffer_history (media_step link tick arrival ∷ before)))) (sym after)
          (floor_if kept (packet_in limits c.epoch arrival) (accepted_packets limits (buffer_history before)) (current_moment (buffer_history before)) (current_moment (buffer_history (media_step link tick arrival ∷ before)))
          (later_moment (has_ended (buffer_history before)) (effective_time (buffer_history before)) (max tick (effective_time (buffer_history before))) (omega arith)));
    })
