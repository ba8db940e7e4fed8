-- What is told, as a step of the richer history.
use Rattle.std.proofs.Common.{◌≡◌, ◌⊎◌, ℕ, ◌^◌, ◌<◌, ◌≤◌, Bool, true, false, List, ◌∷◌, Option, Some, None, refl, sym, ap, subst, ◌∙◌, arith, option_map, Bor, is_err, Result, Ok, Err, inl, inr}
use Rattle.std.specs.Prelude.{IsSome, not, nat_eq}
use Rattle.std.proofs.lemmas.Bool.{eq-eqb, eqb-true}
use Rattle.seq_unwrap.specs.Nearest.{cycle_of}
use Rattle.seq_unwrap.specs.declared.width.Width.{Width}
use Rattle.seq_unwrap.specs.declared.width.Width.TheVariants.{W16, W32}
use Rattle.receiver_rules.specs.declared.limits.Limits.{Limits}
use Rattle.receiver_rules.specs.declared.anchor.Highest.{Highest}
use Rattle.receiver_rules.specs.declared.verdict.Verdict.{Verdict}
use Rattle.receiver_rules.specs.declared.arrival.Arrival.{Arrival as Offered}
use Rattle.receiver_rules.specs.Steps.{tick_of}
use Rattle.receiver_rules.specs.Steps.{Step as BufferStep}
use Rattle.receiver_rules.specs.Seen.{seen}
use Rattle.receiver_rules.specs.Packets.{is_kept}
use Rattle.receiver_rules.specs.Epochs.{epochs_of}
use Rattle.receiver_rules.specs.History.{verdict, epoch_number}
use Rattle.receiver_rules.proofs.OpeningLemmas.{one_more}
use Rattle.reorder_buffer.specs.State.{State, IsNoLower}
use Rattle.rist_reporter.specs.Inside.Due.{IsNoLowerNumber}
use Rattle.reorder_buffer.specs.StateAfter.{Shows, IsStateAfter}
use Rattle.reorder_buffer.specs.declared.phase.Phase.TheVariants.{Open, Ended}
use Rattle.reorder_buffer.proofs.PhaseLemmas.{not_failed}
use Rattle.psk_seal.specs.declared.sealer.Spent.{Spent as NoPairs}
use Rattle.rtcp_compound.specs.Compound.{Content}
use Rattle.request_rules.specs.Steps.{Step, Input, buffer_history, effective_time}
use Rattle.request_rules.specs.Steps as inputs
use Rattle.nack_timer.specs.Steps.{media_step}
use Rattle.nack_timer.proofs.OtherLemmas.{silent_stands}
use Rattle.rist_reporter.specs.declared.out.Outs.{Outs}
use Rattle.rist_reporter.specs.Reporter.{ReporterState, IsReporterAfter}
use Rattle.rist_reporter.specs.OneMore.{control_step, step_answered, IsReceived}
use Rattle.rist_reporter.proofs.LinksLemmas.{links_same}
use Rattle.rist_reporter.proofs.TickLemmas.{keepalive_stands}
use Rattle.rist_ends.specs.declared.counts.Counts.{Counts}
use Rattle.rist_ends.specs.declared.outcome.Outcome.{Outcome}
use Rattle.rist_ends.specs.declared.outcome.Outcome.TheVariants as outcomes
use Rattle.rist_ends.specs.declared.told.Told.{Told}
use Rattle.rist_ends.specs.declared.told.What.{What}
use Rattle.rist_ends.specs.declared.told.What.TheVariants.{Media, Control, Keepalive, Refused, Tick, End}
use Rattle.rist_ends.specs.Counts.{AreCountsOf, capped, recovered_count}
use Rattle.rist_ends.specs.Outcome.{IfStepped, is_stepped, HasVerdict}
use Rattle.rist_ends.specs.Told.{input_of, step_of, buffer_step, ended_at, phase_after}
use Rattle.rist_ends.specs.Inside.Stepping.{SaysVerdictOn, IsHigh, IsHighNumber, IsQuiet}

-- ---- outcomes

pub on_stepped : (o : Outcome) (P : Type 0) → is_stepped o ≡ true → P → IfStepped o P
on_stepped outcomes.Stopped P e p = tt
on_stepped outcomes.WriteFault P e p = tt
on_stepped (outcomes.Verdict v) P e p = p
on_stepped outcomes.Spent P e p = p
on_stepped (outcomes.Made outs) P e p = p
on_stepped outcomes.Nothing P e p = p

pub says_has : (v : Option Verdict) (limits : Limits) (h : List Step) (tick : ℕ) (input : Input) → SaysVerdictOn v limits (buffer_history h) tick input → HasVerdict v limits h tick input
says_has v limits h tick (inputs.Media arrival) s = s
says_has v limits h tick (inputs.Control sample request) s = s
says_has v limits h tick inputs.Keepalive s = s
says_has v limits h tick inputs.Refused s = s
says_has v limits h tick (inputs.Tick micros) s = s
says_has v limits h tick inputs.End s = s

-- ---- steps by what is told

abbrev step_with : Told → What → Step
step_with told what = record { link = told.link; tick = tick_of told.us; input = input_of told.us what }

pub media_told_step : (told : Told) (arrival : Offered) → told.what ≡ Media arrival → step_of told ≡ media_step told.link (tick_of told.us) (seen arrival)
media_told_step told arrival e = ap (step_with told) e

pub control_told_step : (told : Told) (compound : Bor (List Content)) → told.what ≡ Control compound → step_of told ≡ control_step told.link (tick_of told.us) told.us compound.now
control_told_step told compound e = ap (step_with told) e

-- a keepalive that came, a refusal and an end
pub silent_told_stands : (r : ReporterState) (b : State) (limits : Limits) (told : Told) (history : List Step) → ((told.what ≡ Keepalive) ⊎ ((told.what ≡ Refused) ⊎ (told.what ≡ End))) → b.phase ≡ ended_at told → b.phase ≡ Open
    → IsReporterAfter r limits history → IsReporterAfter r limits (step_of told ∷ history)
silent_told_stands r b limits told history (inl e) ended running s = subst (λ (st : Step). IsReporterAfter r limits (st ∷ history)) (sym (ap (step_with told) e)) (keepalive_stands r limits history told.link (tick_of told.us) s)
silent_told_stands r b limits told history (inr (inl e)) ended running s = subst (λ (st : Step). IsReporterAfter r limits (st ∷ history)) (sym (ap (step_with told) e))
    (record {
      timer = silent_stands r.timer limits history told.link (tick_of told.us) inputs.Refused tt s.timer.order s.timer;
      links = links_same r.links history (step_with told Refused) refl (λ rtt. refl) s.links;
      width = s.width;
    })
silent_told_stands r b limits told history (inr (inr e)) ended running s = absurd (not_open (sym running ∙ ended ∙ ap phase_after e))
  where
    not_open : Open ≡ Ended → ⊥
    not_open e = cc

-- ---- a step for which too few pairs were left

pub quiet_step : (us link tick : ℕ) (what : What) (result : Result (Option Outs) NoPairs) → (is_err result ≡ true → IsQuiet what)
    → buffer_step (step_answered (record { link = link; tick = tick; input = input_of us what }) result) ≡ buffer_step (record { link = link; tick = tick; input = input_of us what })
quiet_step us link tick what (Ok made) quiet = refl
quiet_step us link tick (Media arrival) (Err spent) quiet = absurd (quiet refl)
quiet_step us link tick (Control compound) (Err spent) quiet = refl
quiet_step us link tick Keepalive (Err spent) quiet = absurd (quiet refl)
quiet_step us link tick Refused (Err spent) quiet = absurd (quiet refl)
quiet_step us link tick Tick (Err spent) quiet = refl
quiet_step us link tick End (Err spent) quiet = absurd (quiet refl)

pub quiet_counts : (us link tick : ℕ) (what : What) (result : Result (Option Outs) NoPairs) (c : Counts) (limits : Limits) (h : List Step) → (is_err result ≡ true → IsQuiet what)
    → AreCountsOf c limits (record { link = link; tick = tick; input = input_of us what } ∷ h)
    → AreCountsOf c limits (step_answered (record { link = link; tick = tick; input = input_of us what }) result ∷ h)
quiet_counts us link tick what (Ok made) c limits h quiet a = a
quiet_counts us link tick (Media arrival) (Err spent) c limits h quiet a = absurd (quiet refl)
quiet_counts us link tick (Control compound) (Err spent) c limits h quiet a = record { each = a.each; refused = a.refused }
quiet_counts us link tick Keepalive (Err spent) c limits h quiet a = absurd (quiet refl)
quiet_counts us link tick Refused (Err spent) c limits h quiet a = absurd (quiet refl)
quiet_counts us link tick Tick (Err spent) c limits h quiet a = record { each = a.each; refused = a.refused }
quiet_counts us link tick End (Err spent) c limits h quiet a = absurd (quiet refl)

pub quiet_recovered : (us link tick : ℕ) (what : What) (result : Result (Option Outs) NoPairs) (n : ℕ) (limits : Limits) (h : List Step) → (is_err result ≡ true → IsQuiet what)
    → n ≡ capped (recovered_count limits (record { link = link; tick = tick; input = input_of us what } ∷ h))
    → n ≡ capped (recovered_count limits (step_answered (record { link = link; tick = tick; input = input_of us what }) result ∷ h))
quiet_recovered us link tick what (Ok made) n limits h quiet a = a
quiet_recovered us link tick (Media arrival) (Err spent) n limits h quiet a = absurd (quiet refl)
quiet_recovered us link tick (Control compound) (Err spent) n limits h quiet a = a
quiet_recovered us link tick Keepalive (Err spent) n limits h quiet a = absurd (quiet refl)
quiet_recovered us link tick Refused (Err spent) n limits h quiet a = absurd (quiet refl)
quiet_recovered us link tick Tick (Err spent) n limits h quiet a = a
quiet_recovered us link tick End (Err spent) n limits h quiet a = absurd (quiet refl)

-- ---- numbers

small_word : (width : Width) (word : ℕ) → word < cycle_of width → word < 2 ^ 32
small_word W16 word l = omega (arith, l)
small_word W32 word l = omega (arith, l)

same_some : {A : Type 0} {x y : A} → Some x ≡ Some y → x ≡ y
same_some e = cc

-- what a media packet is for the reporter
pub is_received : (b : State) (told : Told) (arrival : Offered) (history : List Step) (v : Verdict) (at : ℕ) (high : Option ℕ) → told.what ≡ Media arrival → 1 ≤ b.limits.playout_delay → arrival.word < cycle_of arrival.width
    → b.phase ≡ Open → b.time ≡ at → IsStateAfter b (buffer_history (step_of told ∷ history)) → Some v ≡ Some (verdict b.limits (buffer_history history) (tick_of told.us) (seen arrival))
    → high ≡ option_map (λ (h : Highest). h.number) b.highest
    → (place : ℕ) (opened : Bool) → place ≡ epoch_number b.limits (buffer_history history) → (opened ≡ false → b.epoch ≡ place) → (opened ≡ true → b.epoch ≡ place → ⊥)
    → IsReceived b.limits history told.link (tick_of told.us) (seen arrival) at arrival.width (is_kept v) opened high
is_received b told arrival history v at high what delay fits running clock stands says top place opened place_is same other =
    let is = media_told_step told arrival what in
    let here : IsStateAfter b (buffer_history (media_step told.link (tick_of told.us) (seen arrival) ∷ history)) = subst (λ (st : Step). IsStateAfter b (buffer_history (st ∷ history))) is stands in
    let shows : Shows b (buffer_history (media_step told.link (tick_of told.us) (seen arrival) ∷ history)) = here (not_failed b.phase running) in
    record {
      delay = delay;
      word = small_word arrival.width arrival.word fits;
      time = sym shows.time ∙ clock;
      width = refl;
      kept = ap is_kept (sym (same_some says));
      same = λ o. sym shows.epoch ∙ same o ∙ place_is;
      next = λ o. one_more b.limits (epochs_of b.limits (buffer_history history)) (effective_time (media_step told.link (tick_of told.us) (seen arrival) ∷ history)) (seen arrival) (λ e. other o (shows.epoch ∙ e ∙ sym place_is));
      high = sym (ap (option_map (λ (h : Highest). h.number)) shows.highest) ∙ sym top;
    }

pub high_number : (what : What) (old new : State) (place : ℕ) → place ≡ old.epoch → IsHigh what old new → IsHighNumber what place new.epoch (option_map (λ (h : Highest). h.number) old.highest) (option_map (λ (h : Highest). h.number) new.highest)
high_number (Media arrival) old new place e l = (λ same. of_number old.highest new.highest (l.0 (same ∙ e)), λ other. some_number new.highest (l.1 (λ f. other (f ∙ sym e))))
  where
    of_number : (o n : Option Highest) → IsNoLower o n → IsNoLowerNumber (option_map (λ (h : Highest). h.number) o) (option_map (λ (h : Highest). h.number) n)
    of_number None n l = tt
    of_number (Some h) None l = l
    of_number (Some h) (Some g) l = l

    some_number : (o : Option Highest) → IsSome o → IsSome (option_map (λ (h : Highest). h.number) o)
    some_number None some = some
    some_number (Some h) some = refl
high_number (Control compound) old new place e l = ap (option_map (λ (h : Highest). h.number)) l
high_number Keepalive old new place e l = ap (option_map (λ (h : Highest). h.number)) l
high_number Refused old new place e l = ap (option_map (λ (h : Highest). h.number)) l
high_number Tick old new place e l = ap (option_map (λ (h : Highest). h.number)) l
high_number End old new place e l = tt

-- the place of the epoch before a step
pub shown_epoch : (b : State) (history : List BufferStep) → b.phase ≡ Open → IsStateAfter b history → b.epoch ≡ epoch_number b.limits history
shown_epoch b history running s = let shows : Shows b history = s (not_failed b.phase running) in shows.epoch

-- whether two places are the same
pub same_place : (a b : ℕ) (r : Bool) → r ≡ not (nat_eq a b) → r ≡ false → a ≡ b
same_place a b r e f = eqb-true a b (unnot (nat_eq a b) (sym e ∙ f))
  where
    unnot : (c : Bool) → not c ≡ false → c ≡ true
    unnot true e = refl
    unnot false e = cc

pub other_place : (a b : ℕ) (r : Bool) → r ≡ not (nat_eq a b) → r ≡ true → a ≡ b → ⊥
other_place a b r e t same = let wrong : not true ≡ true = ap not (sym (eq-eqb a b same)) ∙ sym e ∙ t in cc
