-- The step of a record's item is the record's step.
use Rattle.std.proofs.Common.{◌≡◌, ◌∷◌, ◌++◌, [], ◌∙◌, List, ap, sym, subst}
use Rattle.std.specs.Prelude.{OnOk, OnErr}
use Rattle.capture_file.specs.Capture.{Record}
use Rattle.capture_file.specs.Heads.{record_of}
use Rattle.receiver_rules.specs.Steps.{tick_of}
use Rattle.request_rules.specs.Steps.{Input, Step as ReceiverStep, buffer_history}
use Rattle.receiver_rules.specs.History.{released_bytes}
use Rattle.outside_io.specs.Told.{Writes, WritesPart}
use Rattle.rist_ends.specs.Told.{input_of}
use Rattle.rist_ends.specs.Items.{input_read}
use Rattle.rist_replay.specs.Steps.{step_of, receiver_history, history_of}
use Rattle.rist_replay.specs.Replay.{released_so_far, HasReplayed}
use Rattle.rist_ends.specs.Receiver.{IsReceiverAfter}
use Rattle.rist_wire.specs.declared.session.Session.{Session}
use Rattle.rist_reporter.specs.OneMore.{step_answered}
use Rattle.rist_reporter.specs.Control.{ControlSettings}
use Rattle.rist_ends.specs.Receiver.{MakesStep, GoesOn, settings_of}
use Rattle.rist_ends.specs.declared.outcome.Outcome.{Outcome}
use Rattle.rist_ends.specs.Outcome.{outcome_with, result_of}
use Rattle.rist_ends.specs.Told.{phase_after}
use Rattle.rist_wire.specs.Item.{item_of}
use Rattle.rist_replay.proofs.ReplayLemmas.{on_made, on_refused, no_memory, pushed, history_push, both_made, goes_on, muted_step}
use Rattle.rist_replay.proofs.replayer.ReplayerVisitor.record.Goals as goal

pub returns-clause-sink : goal.returns-clause-sink
returns-clause-sink g c =
    let session = c.args.self.now.opener in
    let limits = c.args.self.now.receiver.buffer.limits in
    let r : Record = record_of c.args.head.now c.args.octets.now in
    let step : ReceiverStep = record { link = c.args.head.now.link; tick = tick_of c.args.head.now.us; input = input_of c.args.head.now.us c.what_of.result } in
    let is : step ≡ step_of session r = ap (λ (i : Input). record { link = c.args.head.now.link; tick = tick_of c.args.head.now.us; input = i }) (c.what_of.ensures.value c.args.head.now.us ∙ ap (input_read c.args.head.now.us) c.take-item.ensures.value) in
    let P : Type 0 = (done : List Record) → HasReplayed session c.args.self.now.receiver done → Writes (g.K.Sink.contents c.args.sink.now) (g.K.Sink.contents c.step_into.new.sink) (released_so_far session limits done) (released_so_far session limits (done ++ r ∷ [])) in
    let Q : Type 0 = (history : List ReceiverStep) → IsReceiverAfter c.args.self.now.receiver history → Writes (g.K.Sink.contents c.args.sink.now) (g.K.Sink.contents c.step_into.new.sink) (released_bytes limits (buffer_history history)) (released_bytes limits (buffer_history (step ∷ history))) in
    subst (λ o. OnOk o P) (sym c.answer_of.ensures.value)
    (on_made c.step_into.result c.step_into.new.outs P Q
    c.step_into.ensures.work.sink
    (λ told done has. subst (λ h. Writes (g.K.Sink.contents c.args.sink.now) (g.K.Sink.contents c.step_into.new.sink) (released_bytes limits (history_of session done)) (released_bytes limits h)) (pushed session done r step is) (told (receiver_history session done) has.state))
    (λ over done has. absurd (c.step_into.ensures.work.stopped over has.running)))

pub returns-clause-part : goal.returns-clause-part
returns-clause-part g c =
    let session = c.args.self.now.opener in
    let limits = c.args.self.now.receiver.buffer.limits in
    let r : Record = record_of c.args.head.now c.args.octets.now in
    let step : ReceiverStep = record { link = c.args.head.now.link; tick = tick_of c.args.head.now.us; input = input_of c.args.head.now.us c.what_of.result } in
    let is : step ≡ step_of session r = ap (λ (i : Input). record { link = c.args.head.now.link; tick = tick_of c.args.head.now.us; input = i }) (c.what_of.ensures.value c.args.head.now.us ∙ ap (input_read c.args.head.now.us) c.take-item.ensures.value) in
    let P : Type 0 = (done : List Record) → HasReplayed session c.args.self.now.receiver done → WritesPart (g.K.Sink.contents c.args.sink.now) (g.K.Sink.contents c.step_into.new.sink) (released_so_far session limits done) (released_so_far session limits (done ++ r ∷ [])) in
    subst (λ o. OnErr o P) (sym c.answer_of.ensures.value)
    (on_refused c.step_into.result c.step_into.new.outs P
    (λ fault done has. subst (λ h. WritesPart (g.K.Sink.contents c.args.sink.now) (g.K.Sink.contents c.step_into.new.sink) (released_bytes limits (history_of session done)) (released_bytes limits h)) (pushed session done r step is) (c.step_into.ensures.work.part fault (receiver_history session done) has.state)))

pub returns-clause-none : goal.returns-clause-none
returns-clause-none g c is = no_memory c.step_into.result (g.K.Sink.contents c.step_into.new.sink ≡ g.K.Sink.contents c.args.sink.now) (sym c.answer_of.ensures.value ∙ is)

pub returns-clause-seen : goal.returns-clause-seen
returns-clause-seen g c =
    let session = c.args.self.now.opener in
    let old = c.args.self.now.receiver in
    let new = c.step_into.new.self in
    let outcome : Outcome = outcome_with c.step_into.result c.step_into.new.outs in
    let work = c.step_into.ensures.work in
    let us = c.args.head.now.us in
    let r : Record = record_of c.args.head.now c.args.octets.now in
    let step : ReceiverStep = record { link = c.args.head.now.link; tick = tick_of us; input = input_of us c.what_of.result } in
    let read = c.what_of.ensures.value us ∙ ap (input_read us) c.take-item.ensures.value in
    let is : step ≡ step_of session r = ap (λ (i : Input). record { link = c.args.head.now.link; tick = tick_of us; input = i }) read in
    let P : Type 0 = (done : List Record) → HasReplayed session old done → HasReplayed c.take-item.new.self new (done ++ r ∷ []) in
    let Q : Type 0 = GoesOn old new (step_answered step (result_of outcome)) × (MakesStep old step outcome × (new.buffer.phase ≡ phase_after c.what_of.result)) in
    subst (λ o. OnOk o P) (sym c.answer_of.ensures.value)
    (on_made c.step_into.result c.step_into.new.outs P Q
    (both_made outcome _ _ work.state (both_made outcome _ _ work.made work.phase))
    (λ q done has.
    let h = receiver_history session done in
    let made = muted_step (settings_of old) old.reporter.shutter h step (result_of outcome) has.muted (q.1.0 h has.state) in
    let here : IsReceiverAfter new (step ∷ h) = subst (λ (st : ReceiverStep). IsReceiverAfter new (st ∷ h)) made (q.0 h has.state) in
    let grown : step ∷ h ≡ receiver_history session (done ++ r ∷ []) = ap (λ (st : ReceiverStep). st ∷ h) is ∙ sym (history_push session done r) in
    record {
      state = subst (λ (x : Session). IsReceiverAfter new (receiver_history x (done ++ r ∷ []))) (sym c.take-item.ensures.same) (subst (λ (l : List ReceiverStep). IsReceiverAfter new l) grown here);
      running = q.1.1 ∙ goes_on us c.what_of.result (item_of session r.channel r.octets) read;
      muted = ap (λ (s : ControlSettings). s.is_muted) work.settings ∙ has.muted;
    })
    (λ over done has. absurd (c.step_into.ensures.work.stopped over has.running)))
