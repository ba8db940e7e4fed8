-- What each way to end a step says of it.
use Rattle.std.proofs.Common.{◌≡◌, ◌≢◌, ◌∙◌, ℕ, ◌+◌, List, [], ◌∷◌, true, Option, Result, refl, sym, subst, ap}
use Rattle.psk_seal.specs.declared.sealer.Spent as seal
use Rattle.receiver_rules.specs.declared.limits.Limits.{Limits}
use Rattle.reorder_buffer.specs.State.{State}
use Rattle.reorder_buffer.specs.declared.phase.Phase.TheVariants.{Open, Failed}
use Rattle.rist_wire.specs.declared.session.Session.{Session}
use Rattle.request_rules.specs.declared.policy.Policy.{Policy}
use Rattle.request_rules.specs.Steps.{Step}
use Rattle.rist_reporter.specs.declared.out.Outs.{Outs}
use Rattle.rist_reporter.specs.Control.{ControlSettings}
use Rattle.rist_reporter.specs.OneMore.{AnswersAfter, step_answered}
use Rattle.rist_reporter.specs.Asking.{asked_count, number_count, words_in}
use Rattle.rist_reporter.proofs.AskingLemmas.{asked_then}
use Rattle.rist_reporter.specs.Reporter.{ReporterState, settings_with, is_main}
use Rattle.rist_reporter.specs.Inside.Changes.{IsSetAs}
use Rattle.rist_ends.specs.declared.outcome.Outcome.{Outcome}
use Rattle.rist_ends.specs.declared.outcome.Outcome.TheVariants.{Stopped, WriteFault}
use Rattle.rist_ends.specs.declared.told.Told.{Told}
use Rattle.rist_ends.specs.declared.told.What.{What}
use Rattle.rist_ends.specs.declared.told.What.TheVariants.{Media, Control, Keepalive, Refused, Tick, End}
use Rattle.rist_ends.specs.Told.{ended_at, phase_after}
use Rattle.rist_ends.specs.Inside.Stepping.{IsMoved}
use Rattle.rist_ends.specs.Outcome.{is_stepped}
use Rattle.rist_ends.specs.Receiver.{ReceiverState, Steps}

pub not_stopped : (o : Outcome) → is_stepped o ≡ true → o ≡ Stopped → ⊥
not_stopped o s e = let f : is_stepped Stopped ≡ true = subst (λ (x : Outcome). is_stepped x ≡ true) e s in cc

pub not_failing : (o : Outcome) → is_stepped o ≡ true → o ≡ WriteFault → ⊥
not_failing o s e = let f : is_stepped WriteFault ≡ true = subst (λ (x : Outcome). is_stepped x ≡ true) e s in cc

pub fault_not_stopped : WriteFault ≡ Stopped → ⊥
fault_not_stopped e = cc

-- a receiver that has ended
pub stopped_work : (r : ReceiverState) (told : Told) (taken : Option (List ℕ)) → r.buffer.phase ≢ Open → Steps r r told Stopped taken taken
stopped_work r told taken over =
    record {
      stopped = λ e. over;
      ended = λ not. refl;
      verdict = tt;
      made = tt;
      pairs = refl;
      state = tt;
      sink = tt;
      phase = tt;
      settings = refl;
      failed = λ e. absurd (not_fault e);
      stays = λ e. record { counts = refl; again = refl; asked = refl; numbers = refl };
      part = λ e. absurd (not_fault e);
    }
  where
    not_fault : Stopped ≡ WriteFault → ⊥
    not_fault e = cc

-- what is told fails no write by itself
pub never_failed : (w : What) → phase_after w ≢ Failed
never_failed (Media arrival) e = cc
never_failed (Control compound) e = cc
never_failed Keepalive e = cc
never_failed Refused e = cc
never_failed Tick e = cc
never_failed End e = cc

-- a step that was made fails no write
pub moved_held : (old new : State) (at : ℕ) (told : Told) → IsMoved old new at (ended_at told) → new.phase ≡ Failed → new.held ≡ []
moved_held old new at told moved failed = absurd (never_failed told.what (sym moved.phase ∙ failed))

-- what it is set to stays
pub set_as : (limits limits' : Limits) (r r' : ReporterState) → limits' ≡ limits → IsSetAs r r' → settings_with limits' r' ≡ settings_with limits r
set_as limits limits' r r' l s =
    let p = s.policy in
    let o = s.own in
    let m = s.muted in
    let k : is_main r'.shutter.session.profile ≡ is_main r.shutter.session.profile = ap (λ (x : Session). is_main x.profile) s.session in
    cc

-- one more step asks for the numbers of what it made
pub asked_stepped : (limits : Limits) (r r' : ReporterState) (history : List Step) (step : Step) (result : Result (Option Outs) seal.Spent) → IsSetAs r r' → AnswersAfter (settings_with limits r) r.shutter history step result
    → asked_count (settings_with limits r') (step_answered step result ∷ history) ≡ asked_count (settings_with limits r) history + number_count r'.timer.policy.kind (words_in result)
asked_stepped limits r r' history step result s a =
    ap (λ (c : ControlSettings). asked_count c (step_answered step result ∷ history)) (set_as limits limits r r' refl s)
    ∙ asked_then (settings_with limits r) r.shutter history step result a
    ∙ ap (λ (p : Policy). asked_count (settings_with limits r) history + number_count p.kind (words_in result)) (sym s.policy)
