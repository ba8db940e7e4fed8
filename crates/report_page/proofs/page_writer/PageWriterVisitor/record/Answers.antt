-- The step of a record's item is the record's step.
use Rattle.std.proofs.Common.{◌≡◌, ◌∷◌, ◌++◌, [], ◌∙◌, List, ap, sym, subst}
use Rattle.capture_file.specs.Capture.{Record}
use Rattle.capture_file.specs.Heads.{record_of}
use Rattle.receiver_rules.specs.Steps.{tick_of}
use Rattle.request_rules.specs.Steps.{Input, Step as ReceiverStep}
use Rattle.rist_ends.specs.Told.{input_of}
use Rattle.rist_ends.specs.Items.{input_read}
use Rattle.rist_replay.specs.Steps.{step_of, receiver_history}
use Rattle.rist_replay.proofs.ReplayLemmas.{history_push}
use Rattle.rist_wire.specs.declared.session.Session.{Session}
use Rattle.session_figures.specs.Counting.{IsCountedAfter}
use Rattle.report_page.proofs.page_writer.PageWriterVisitor.record.Goals as goal

pub returns-clause-seen : goal.returns-clause-seen
returns-clause-seen g c done has =
    let session = c.args.self.now.opener in
    let us = c.args.head.now.us in
    let r : Record = record_of c.args.head.now c.args.octets.now in
    let h : List ReceiverStep = receiver_history session done in
    let step : ReceiverStep = record { link = c.args.head.now.link; tick = tick_of us; input = input_of us c.what_of.result } in
    let read = c.what_of.ensures.value us ∙ ap (input_read us) c.take-item.ensures.value in
    let is : step ≡ step_of session r = ap (λ (i : Input). record { link = c.args.head.now.link; tick = tick_of us; input = i }) read in
    let grown : step ∷ h ≡ receiver_history session (done ++ r ∷ []) = ap (λ (st : ReceiverStep). st ∷ h) is ∙ sym (history_push session done r) in
    record {
      counted = subst (λ (x : Session). IsCountedAfter c.step.new.self (receiver_history x (done ++ r ∷ []))) (sym c.take-item.ensures.same)
          (subst (λ (l : List ReceiverStep). IsCountedAfter c.step.new.self l) grown (c.step.ensures.state has.running h has.counted));
      running = c.step.ensures.phase ∙ has.running;
    }
