-- A media packet leaves a reporter that stands for the history with it.
use Rattle.std.proofs.Common.{◌≡◌, ◌≢◌, ℕ, ◌+◌, ◌*◌, ◌^◌, ◌<◌, ◌≤◌, max, Bool, true, false, cond, List, [], ◌∷◌, Option, Some, None, refl, sym, ap, subst, ◌∙◌, arith, option_map, not, nat_eq}
use Rattle.std.specs.Prelude.{if◌then◌else◌, ◌==◌, nat_le, pos, int_le, int_lt, ◌-ℤ◌}
use Rattle.std.proofs.lemmas.Bool.{eq-eqb, eqb-true, lt-leb}
use Rattle.std.specs.Option.{option_eq}
use Rattle.std.proofs.lemmas.Int.{ints}
use Rattle.receiver_rules.specs.declared.verdict.Verdict.TheVariants.{Kept, Stranger, Exhausted, Late, Early}
use Rattle.receiver_rules.specs.declared.anchor.Highest.{Highest}
use Rattle.seq_unwrap.specs.declared.width.Width.{Width}
use Rattle.receiver_rules.specs.declared.limits.Limits.{Limits}
use Rattle.receiver_rules.specs.Steps.{Arrival}
use Rattle.receiver_rules.specs.Steps as buffer
use Rattle.receiver_rules.specs.Packets.{Packet, highest_of, is_kept, verdict_of}
use Rattle.receiver_rules.specs.Epochs.{Epoch, new_anchor, new_epoch, packet_in, epoch_with, epochs_after, epochs_of, newest_anchor, newest_accepted}
use Rattle.receiver_rules.specs.History.{anchor_of}
use Rattle.receiver_rules.proofs.OpeningLemmas.{has_opened}
use Rattle.reorder_buffer.proofs.OpeningLemmas.{first_is_kept}
use Rattle.request_rules.specs.Steps.{Step, buffer_history}
use Rattle.nack_timer.specs.State.{TimerState}
use Rattle.nack_timer.specs.Steps.{media_step}
use Rattle.nack_timer.specs.TimerAfter.{IsTimerAfter, highest_number}
use Rattle.nack_timer.proofs.OtherLemmas.{media_stands}
use Rattle.rist_reporter.specs.Nacks.{width_of}
use Rattle.rtcp_compound.specs.Compound.{Content}
use Rattle.rist_rtt.specs.Echo.{echoes_in}
use Rattle.rist_rtt.specs.Echo.{first_response}
use Rattle.request_rules.specs.Steps.{control_input}
use Rattle.nack_timer.proofs.OtherLemmas.{silent_stands}
use Rattle.rist_reporter.specs.Links.{LinksState, AreLinksAfter}
use Rattle.rist_reporter.specs.Inside.Due.{IsNoLowerNumber}
use Rattle.rist_reporter.specs.Inside.Changes.{links_sampled}
use Rattle.rist_reporter.specs.Reporter.{ReporterState, IsReporterAfter}
use Rattle.rist_reporter.specs.OneMore.{IsReceived, control_step}
use Rattle.rist_reporter.proofs.LinksLemmas.{links_same, links_heard}

-- ---- the first packet of an epoch

-- so a number is known after a packet that opens an epoch
opening_highest : (limits : Limits) (t : ℕ) (arrival : Arrival) (earlier : List Epoch) → 1 ≤ limits.playout_delay → arrival.word < 2 ^ 32
    → option_map (λ (h : Highest). h.number) (highest_of (newest_accepted (epoch_with limits (new_epoch t arrival) t arrival ∷ earlier))) ≢ None
opening_highest limits t arrival earlier some word lost =
    let packet : Packet = packet_in limits (new_epoch t arrival) arrival in
    let known : option_map (λ (h : Highest). h.number) (highest_of (newest_accepted (epoch_with limits (new_epoch t arrival) t arrival ∷ earlier))) ≡ Some packet.number =
    ap (λ (b : Bool). option_map (λ (g : Highest). g.number) (highest_of (if b then packet ∷ [] else []))) (first_is_kept limits t arrival some word) in
    absurd (no_some (sym known ∙ lost))
  where
    no_some : {n : ℕ} → Some n ≡ None → ⊥
    no_some e = cc

-- as after the first
first_highest : (limits : Limits) (before : List Step) (link tick : ℕ) (arrival : Arrival) → 1 ≤ limits.playout_delay → arrival.word < 2 ^ 32 → anchor_of limits (buffer_history before) ≡ None
    → highest_number limits (buffer_history (media_step link tick arrival ∷ before)) ≢ None
first_highest limits before link tick arrival some word none lost =
    let t : ℕ = max tick (buffer.effective_time (buffer_history before)) in
    let blank = no_epochs (epochs_of limits (buffer_history before)) none in
    opening_highest limits t arrival [] some word (ap (λ (es : List Epoch). option_map (λ (g : Highest). g.number) (highest_of (newest_accepted (epochs_after limits es t (buffer.Media arrival))))) (sym blank) ∙ lost)
  where
    no_epochs : (es : List Epoch) → newest_anchor es ≡ None → es ≡ []
    no_epochs [] e = refl
    no_epochs (current ∷ earlier) e = cc

-- ---- a packet

-- what a packet finds
pub record AtMedia (r : ReporterState) (limits : Limits) (before : List Step) (link tick : ℕ) (arrival : Arrival) (at : ℕ) (bits : Width) (is_accepted opened : Bool) (highest : Option ℕ) : Type 0 where
  pub reporter : IsReporterAfter r limits before
  pub received : IsReceived limits before link tick arrival at bits is_accepted opened highest

module _ (r : ReporterState) (limits : Limits) (before : List Step) (link tick : ℕ) (arrival : Arrival) (at : ℕ) (bits : Width) (is_accepted opened : Bool) (highest : Option ℕ)
    (k : AtMedia r limits before link tick arrival at bits is_accepted opened highest) where
  pub links_stand : AreLinksAfter r.links (media_step link tick arrival ∷ before)
  links_stand = links_same r.links before (media_step link tick arrival) refl (λ rtt. refl) k.reporter.links

  pub width_stands : (if is_accepted then bits else r.width) ≡ width_of limits (media_step link tick arrival ∷ before)
  width_stands =
      ap (λ (w : Width). if is_accepted then w else r.width) (sym k.received.width)
      ∙ ap (λ (w : Width). if is_accepted then arrival.width else w) k.reporter.width
      ∙ ap (λ (b : Bool). if b then arrival.width else width_of limits before) (sym k.received.kept)

  -- no packet leaves no number known
  pub known : r.timer.high ≡ None → highest ≡ None → ⊥
  known unknown lost =
      first_highest limits before link tick arrival k.received.delay k.received.word (k.reporter.timer.started unknown) (k.received.high ∙ lost)

  -- nor does one that opens an epoch
  pub known_opened : opened ≡ true → highest ≡ None → ⊥
  known_opened o lost =
      let t : ℕ = max tick (buffer.effective_time (buffer_history before)) in
      let h = has_opened limits (epochs_of limits (buffer_history before)) t arrival (k.received.next o) in
      opening_highest limits t arrival (epochs_of limits (buffer_history before)) k.received.delay k.received.word
      (ap (λ (es : List Epoch). option_map (λ (g : Highest). g.number) (highest_of (newest_accepted es))) (sym h.is) ∙ k.received.high ∙ lost)

  -- the highest number is what it was
  pub timer_stands : opened ≡ false → (high : ℕ) → r.timer.high ≡ Some high → highest ≡ Some high → IsTimerAfter r.timer limits (media_step link tick arrival ∷ before)
  timer_stands of high is top = media_stands r.timer limits before link tick high arrival k.reporter.timer.order k.reporter.timer (k.received.same of) is (k.received.high ∙ top)

-- ---- a compound

-- the links have taken the sample of the compound's first response
pub control_stands : (r new : ReporterState) (limits : Limits) (before : List Step) (link tick us : ℕ) (packets : List Content) → link < 16
    → new.timer ≡ r.timer → new.links ≡ links_sampled link us (first_response (echoes_in packets)) r.links → new.width ≡ r.width → IsReporterAfter r limits before
    → IsReporterAfter new limits (control_step link tick us packets ∷ before)
control_stands r new limits before link tick us packets below timers links widths s = record {
  timer = subst (λ (t : TimerState). IsTimerAfter t limits (control_step link tick us packets ∷ before)) (sym timers)
      (silent_stands r.timer limits before link tick (control_input us packets) tt s.timer.order s.timer);
  links = subst (λ (l : LinksState). AreLinksAfter l (control_step link tick us packets ∷ before)) (sym links) (links_heard r.links before link tick us packets below s.links);
  width = widths ∙ s.width;
}

pub no_lower_none : (o : Option ℕ) → IsNoLowerNumber o None → o ≡ None
no_lower_none None l = refl
no_lower_none (Some n) l = absurd l

pub same_number : (o : Option ℕ) (n : ℕ) → not (option_eq nat_eq o (Some n)) ≡ false → o ≡ Some n
same_number None n e = absurd cc
same_number (Some m) n e = ap Some (eqb-true m n (unnot (nat_eq m n) e))
  where
    unnot : (b : Bool) → not b ≡ false → b ≡ true
    unnot true e = refl
    unnot false e = absurd cc
