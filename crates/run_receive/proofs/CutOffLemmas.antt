-- What a receiving wrote is a front part of what its steps release, however it ended.
use Rattle.std.proofs.Common.{◌≡◌, ◌∙◌, ◌⊎◌, ◌≤◌, ℕ, List, [], ◌∷◌, ◌++◌, map, reverse, Bool, true, false, Option, Some, None}
use Rattle.std.proofs.Common.{if◌then◌else◌, is_some, refl, sym, ap, subst, append-nil, append_assoc, arith}
use mathlib.Core.Logic.{inl, inr}
use Rattle.std.specs.List.{concat}
use Rattle.outside_io.specs.Told.{IsPrefix}
use Rattle.outside_host.specs.Shelf.{Shelf}
use Rattle.outside_host.specs.declared.host.Place.TheVariants.{Back}
use Rattle.receiver_rules.specs.declared.limits.Limits.{Limits}
use Rattle.receiver_rules.specs.Epochs.{epochs_of}
use Rattle.receiver_rules.specs.History.{playout_of, played_out_packets, released_bytes, released_payloads}
use Rattle.receiver_rules.specs.Packets.{At, Ever, Packet}
use Rattle.receiver_rules.specs.ReceiverSteps.{buffer_event}
use Rattle.receiver_rules.specs.Steps.{Event, effective_time, end_step, has_ended}
use Rattle.receiver_rules.specs.Steps as buffer
use Rattle.receiver_rules.proofs.HistoryLemmas.{played_out_grows}
use Rattle.receiver_rules.proofs.SentEpochsLemmas as by_epochs
use Rattle.receiver_rules.proofs.SentLemmas as sent
use Rattle.request_rules.specs.Steps.{Input, buffer_history, receiver_input}
use Rattle.request_rules.specs.Steps as inputs
use Rattle.rist_ends.proofs.SteppingLemmas.{concat-map-append}
use Rattle.rist_desk.specs.declared.step.Event.TheVariants as events
use Rattle.rist_desk.specs.declared.step.Mark.{Mark}
use Rattle.rist_desk.specs.declared.step.Mark.TheVariants as marks
use Rattle.rist_desk.specs.declared.step.Step.{Step}
use Rattle.rist_desk.specs.Desk.{StandsFor, setup_of}
use Rattle.rist_desk.specs.Legal.{AreWritten, AreWrittenOf, IsLegal, IsNext, Setup, is_fault, is_wanting, mark_on, released_by}
use Rattle.rist_desk.specs.Steps.{counted_input, history_of, input_of}
use Rattle.rist_desk.proofs.ListLemmas.{reverse_more}
use Rattle.desk_run.specs.Setup.{given_to}
use Rattle.rist_words.specs.CommandLine.{RecvCommand}
use Rattle.run_parts.specs.Causes.{CanRefuse}
use Rattle.run_parts.specs.Objects.{Tells, TellsLive}
use Rattle.run_parts.specs.declared.status.Status.{Status}
use Rattle.run_parts.proofs.PlaceLemmas.{same_back}
use Rattle.run_receive.specs.CutOff.{AreBeforeEnd, ReceivesPart}
use Rattle.run_receive.specs.Reached.{receive_limits}
use Rattle.run_receive.specs.Received.{Received}
use Rattle.run_receive.specs.Sessions.{setup_received}

prefix_on : (a b c : List ℕ) → IsPrefix a b → IsPrefix b c → IsPrefix a c
prefix_on a b c p q = (p.0 ++ q.0, q.1 ∙ (ap (λ (l : List ℕ). l ++ q.0) p.1 ∙ append_assoc a p.0 q.0))

-- an end only adds behind what is out
front_of_end : (limits : Limits) (h : List buffer.Step) → IsPrefix (released_bytes limits h) (released_bytes limits (end_step ∷ h))
front_of_end limits h = by_end (has_ended h) refl
  where
    by_end : (b : Bool) → has_ended h ≡ b → IsPrefix (released_bytes limits h) (released_bytes limits (end_step ∷ h))
    by_end false going =
        let grows = played_out_grows limits end_step h going in (
          concat (map (λ (p : Packet). p.payload) grows.0),
          ap (λ ps. concat (map (λ (p : Packet). p.payload) ps)) grows.1 ∙ concat-map-append (played_out_packets limits h) grows.0,
        )
    by_end true over = (
      [],
      ap (λ (b : Bool). concat (map (λ (p : Packet). p.payload) (playout_of (epochs_of limits h) (if b then Ever else At (effective_time h))))) (sym over)
          ∙ sym (append-nil (released_bytes limits h)),
    )

-- at whatever tick an end comes, it releases the same
ended_same : (limits : Limits) (h : List buffer.Step) (t : ℕ) (e : Event) → e ≡ buffer.End → released_bytes limits (record { tick = t; event = e } ∷ h) ≡ released_bytes limits (end_step ∷ h)
ended_same limits h t e is = ap (λ (x : Event). released_bytes limits (record { tick = t; event = x } ∷ h)) is

-- what was written is a front part of what the steps release
octets_in_front : (setup : Setup) (steps : List Step) (octets : List ℕ) → AreWritten setup steps octets → IsPrefix octets (released_by setup steps)
octets_in_front setup [] octets w = ([], sym (append-nil octets ∙ w))
octets_in_front setup (s ∷ before) octets w = by_fault (is_fault s.mark) w
  where
    by_fault : (b : Bool) → AreWrittenOf b (released_by setup before) (released_by setup (s ∷ before)) octets → IsPrefix octets (released_by setup (s ∷ before))
    by_fault false w = ([], sym (append-nil octets ∙ w))
    by_fault true w = w.1

-- an end of a legal list counts as one
counted_end : (setup : Setup) (before : List Step) (last : Step) → last.what ≡ events.End → IsNext setup before last → buffer_event (receiver_input (counted_input last.mark (input_of last.what))) ≡ buffer.End
counted_end setup before last is next =
    ap (λ w. buffer_event (receiver_input (counted_input last.mark (input_of w)))) is ∙ by_next next.mark
  where
    by_mark : (m : Mark) → (m ≡ marks.WriteFault) ⊎ (m ≡ marks.Plain) → buffer_event (receiver_input (counted_input m inputs.End)) ≡ buffer.End
    by_mark marks.Plain x = refl
    by_mark (marks.Verdict v) x = refl
    by_mark marks.WriteFault x = refl
    by_mark marks.Spent (inl e) = absurd (cc (e))
    by_mark marks.Spent (inr e) = absurd (cc (e))

    by_next : (last.mark ≡ marks.WriteFault) ⊎ (last.mark ≡ mark_on setup before last.at (input_of last.what) (is_wanting setup before last)) → buffer_event (receiver_input (counted_input last.mark inputs.End)) ≡ buffer.End
    by_next (inl e) = by_mark last.mark (inl e)
    by_next (inr e) = by_mark last.mark (inr (e ∙ ap (λ w. mark_on setup before last.at (input_of w) (is_wanting setup before last)) is))

-- what was written is a front part of what the steps release with an end behind them, told or not
in_front : (setup : Setup) (before steps : List Step) (octets : List ℕ) → AreBeforeEnd before steps → IsLegal setup (reverse steps) → AreWritten setup (reverse steps) octets
    → IsPrefix octets (released_bytes setup.settings.limits (end_step ∷ buffer_history (history_of (reverse before))))
in_front setup before steps octets (inl is) legal written =
    prefix_on octets (released_by setup (reverse before)) (released_bytes setup.settings.limits (end_step ∷ buffer_history (history_of (reverse before))))
    (octets_in_front setup (reverse before) octets (subst (λ l. AreWritten setup (reverse l) octets) is written))
    (front_of_end setup.settings.limits (buffer_history (history_of (reverse before))))
in_front setup before steps octets (inr last) legal written =
    let turned : reverse steps ≡ last.0 ∷ reverse before = ap reverse last.2 ∙ reverse_more before last.0 in
    let next = (subst (IsLegal setup) turned legal).1 in
    subst (IsPrefix octets) (ended_same setup.settings.limits (buffer_history (history_of (reverse before))) last.0.at _ (counted_end setup (reverse before) last.0 last.1 next))
    (octets_in_front setup (last.0 ∷ reverse before) octets (subst (λ l. AreWritten setup l octets) turned written))

some_of : (o : Option (List Step)) → is_some o ≡ true → (steps : List Step) × (o ≡ Some steps)
some_of (Some steps) is = (steps, refl)
some_of None is = absurd (cc (is))

pub received_part : {I O E L C : Type 0} (tells : Tells I O E) (live : TellsLive L C) (old new : Shelf I O E L C) (c : RecvCommand) (status : Status) → 1 ≤ c.receiver.delay
    → Received tells live old new c status → ReceivesPart tells live old new c status
received_part {I} {O} tells live old new c status some r =
    let run = r.run in
    let told = some_of run.desk.kept run.tells_steps in
    let setup = setup_of (given_to (setup_received c r.sealer) (tells.contents r.sink) (tells.write_faults r.sink)) in
    let stands = run.stands told.0 told.1 in
    let written : (filled : O) (octets : List ℕ) → new.sinks c.out ≡ Back filled → tells.contents filled ≡ Some octets → AreWritten setup (reverse told.0) octets =
    λ filled octets back is. stands.sink octets (run.contents ∙ (ap tells.contents (same_back r.filled filled (sym r.gave ∙ back)) ∙ is)) in
    record {
      received = r;
      steps = told.0;
      kept = told.1;
      reached = λ filled octets before p sent_run back is front is_run steady stays honest.
          subst (IsPrefix octets)
          (ap (λ h. concat (released_payloads (receive_limits c) (end_step ∷ h))) is_run ∙ ap concat (sent.release_set (receive_limits c) p sent_run steady (omega (arith, some)) stays honest))
          (in_front setup before told.0 octets front stands.legal (written filled octets back is));
      epochs = λ filled octets before streams sent_run back is front is_run steady are.
          subst (IsPrefix octets)
          (ap (λ h. concat (released_payloads (receive_limits c) (end_step ∷ h))) is_run ∙ ap concat (by_epochs.release_set (receive_limits c) streams sent_run steady (omega (arith, some)) are))
          (in_front setup before told.0 octets front stands.legal (written filled octets back is));
    }
