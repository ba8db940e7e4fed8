-- A step of the buffer and of the reporter is a step of the receiver.
use Rattle.std.proofs.Common.{◌≡◌, ◌≢◌, ◌∷◌, ◌∙◌, List, refl, ap, sym, subst, not, nat_eq}
use Rattle.receiver_rules.specs.declared.limits.Limits.{Limits}
use Rattle.receiver_rules.specs.Steps.{tick_of}
use Rattle.receiver_rules.specs.Steps as buffer
use Rattle.receiver_rules.specs.Packets.{highest_of}
use Rattle.receiver_rules.specs.Epochs.{epochs_of}
use Rattle.receiver_rules.specs.History.{accepted_packets, released_bytes, epoch_number}
use Rattle.reorder_buffer.specs.State.{State}
use Rattle.reorder_buffer.specs.StateAfter.{IsStateAfter}
use Rattle.outside_io.specs.Told.{Writes, WritesPart}
use Rattle.reorder_buffer.specs.declared.phase.Phase.TheVariants.{Open}
use Rattle.reorder_buffer.proofs.PhaseLemmas.{not_failed}
use Rattle.request_rules.specs.Steps.{Step, buffer_history}
use Rattle.rist_reporter.specs.Reporter.{IsReporterAfter, settings_with}
use Rattle.rist_reporter.specs.OneMore.{AnswersAfter, TakesPairs, answer_count}
use Rattle.rist_reporter.specs.Asking.{asked_count}
use Rattle.rist_ends.specs.Receiver.{ReceiverState, IsReceiverAfter, StaysCounted, GoesOn, step_made, settings_of}
use Rattle.rist_ends.specs.declared.outcome.Outcome.{Outcome}
use Rattle.rist_ends.specs.declared.counts.Counts.{Counts}
use Rattle.rist_ends.specs.Counts.{AreCountsOf, capped, recovered_count}
use Rattle.rist_ends.specs.declared.numbers.Numbers.{Numbers}
use Rattle.rist_ends.specs.Numbers.{AreNumbersOf}
use Rattle.rist_ends.specs.Outcome.{outcome_with, HasVerdict, result_of}
use Rattle.rist_ends.specs.Told.{step_of, input_of}
use Rattle.rist_ends.specs.Inside.Stepping.{SaysVerdict, SaysVerdictOn}
use Rattle.rist_ends.specs.Inside.Reporting.{IsBetween}
use Rattle.rist_ends.proofs.CountLemmas.{asked_more, counted, recovered}
use Rattle.rist_ends.proofs.NumberLemmas.{number_in, numbered}
use Rattle.rist_ends.proofs.ReportLemmas.{on_stepped, says_has, quiet_step, quiet_counts, quiet_recovered, shown_epoch}
use Rattle.rist_ends.proofs.SteppingLemmas.{open_phase}
use Rattle.rist_ends.proofs.StepLemmas.{stopped_work, not_stopped, not_failing, fault_not_stopped, never_failed, set_as, asked_stepped}
use Rattle.rist_ends.proofs.receiver.Receiver.step_into.Goals as goal

pub returns-then-ended-clause-work : goal.returns-then-ended-clause-work
returns-then-ended-clause-work g c =
    let over : c.args.self.now.buffer.phase ≢ Open = λ e. c.ended.ensures.0 c.if-ended.true (ap (λ (r : ReceiverState). r.buffer.phase) c.self.view_is ∙ e) in
    stopped_work c.args.self.now c.args.told.now (g.K.Sink.contents c.args.sink.now) over

pub returns-in-Ok-clause-work : goal.returns-in-Ok-clause-work
returns-in-Ok-clause-work g c =
    let told = c.args.told.now in
    let old : ReceiverState = c.args.self.now in
    let inside = c.self.inside in
    let view = c.self.view_is in
    let new = c.step_buffer.new.buffer in
    let verdict = c.in-Ok.stepped.verdict in
    let limits = c.in-Ok.ensures.limits in
    let outcome : Outcome = outcome_with c.report-answer.result c.report-answer.new.outs in
    let stepped = c.report-answer.ensures.stepped in
    let running = open_phase inside.buffer.phase c.ended.result c.ended.ensures c.if-ended.false in
    let stands : (history : List Step) → IsReceiverAfter old history → IsReceiverAfter (record { buffer = inside.buffer; counts = inside.counts; recovered = inside.recovered; asked = inside.asked; numbers = inside.numbers; reporter = inside.reporter }) history = λ history s. subst (λ (x : ReceiverState). IsReceiverAfter x history) (sym view) s in
    let between : (history : List Step) → IsReceiverAfter old history → IsBetween inside.reporter new told verdict c.epoch-epoch.result history = λ history s. record {
      reporter = subst (λ (l : Limits). IsReporterAfter inside.reporter l history) (sym limits) ((stands history s).reporter running);
      buffer = c.in-Ok.ensures.state (buffer_history history) (stands history s).buffer;
      says = subst (λ (l : Limits). SaysVerdict verdict l (buffer_history history) (step_of told)) (sym limits) (c.in-Ok.ensures.verdict (buffer_history history) (stands history s).buffer);
      place_is = c.epoch-epoch.ensures.value ∙ shown_epoch inside.buffer (buffer_history history) running (stands history s).buffer ∙ ap (λ (l : Limits). epoch_number l (buffer_history history)) (sym limits);
    } in
    record {
      stopped = λ e. absurd (not_stopped outcome stepped e);
      ended = λ not. absurd (not (sym (ap (λ (r : ReceiverState). r.buffer.phase) view) ∙ running));
      verdict = on_stepped outcome _ stepped (λ history s.
          subst (λ v. HasVerdict v old.buffer.limits history (tick_of told.us) (input_of told.us told.what)) (sym c.report-answer.ensures.verdict)
          (says_has verdict old.buffer.limits history (tick_of told.us) (input_of told.us told.what)
          (subst (λ (x : ReceiverState). SaysVerdictOn verdict x.buffer.limits (buffer_history history) (tick_of told.us) (input_of told.us told.what)) view
          (c.in-Ok.ensures.verdict (buffer_history history) (stands history s).buffer))));
      made = on_stepped outcome _ stepped (λ history s.
          subst (λ (x : ReceiverState). AnswersAfter (settings_with x.buffer.limits x.reporter) x.reporter.shutter history (step_of told) (result_of outcome)) view
          (subst (λ (l : Limits). AnswersAfter (settings_with l inside.reporter) inside.reporter.shutter history (step_of told) (result_of outcome)) limits
          (c.report-answer.ensures.made history (between history s))));
      pairs = subst (λ (x : ReceiverState). TakesPairs (answer_count (result_of outcome)) x.reporter.shutter c.report-answer.new.reporter.shutter) view c.report-answer.ensures.pairs;
      state = on_stepped outcome (GoesOn old (record { buffer = new; counts = c.count.new.self; recovered = c.recovered_with-self-inside.result; asked = c.asked_with-self-inside.result; numbers = c.take_step.new.self; reporter = c.report-answer.new.reporter }) (step_made told outcome)) stepped (λ history s. record {
        buffer = subst (λ (st : buffer.Step). IsStateAfter new (st ∷ buffer_history history)) (sym (quiet_step told.us told.link (tick_of told.us) told.what (result_of outcome) c.report-answer.ensures.quiet)) (between history s).buffer;
        counted = λ live. record {
          counts = quiet_counts told.us told.link (tick_of told.us) told.what (result_of outcome) c.count.new.self new.limits history c.report-answer.ensures.quiet
              (subst (λ (x : Counts). AreCountsOf x new.limits (step_of told ∷ history)) (sym c.count.ensures.value)
              (counted verdict told.what inside.counts new.limits history told.link (tick_of told.us) told.us (between history s).says
              (subst (λ (l : Limits). AreCountsOf inside.counts l history) (sym limits) ((stands history s).counted (not_failed inside.buffer.phase running)).counts)));
          again = quiet_recovered told.us told.link (tick_of told.us) told.what (result_of outcome) c.recovered_with-self-inside.result new.limits history c.report-answer.ensures.quiet
              (c.recovered_with-self-inside.ensures.value
              ∙ recovered verdict told.what inside.recovered new.limits history told.link (tick_of told.us) told.us (between history s).says
              (subst (λ (l : Limits). inside.recovered ≡ capped (recovered_count l history)) (sym limits) ((stands history s).counted (not_failed inside.buffer.phase running)).again));
          asked = asked_more inside.asked _ c.asked_with-self-inside.result _ _ c.asked_with-self-inside.ensures.value
              (subst (λ (l : Limits). inside.asked ≡ capped (asked_count (settings_with l inside.reporter) history)) (sym limits) ((stands history s).counted (not_failed inside.buffer.phase running)).asked)
              (asked_stepped new.limits inside.reporter c.report-answer.new.reporter history (step_of told) (result_of outcome) c.report-answer.ensures.same (c.report-answer.ensures.made history (between history s)));
          numbers = subst (λ (st : buffer.Step). AreNumbersOf c.take_step.new.self (epochs_of new.limits (st ∷ buffer_history history))) (sym (quiet_step told.us told.link (tick_of told.us) told.what (result_of outcome) c.report-answer.ensures.quiet))
              (subst (λ (n : Numbers). AreNumbersOf n (epochs_of new.limits (buffer_history (step_of told ∷ history)))) (sym c.take_step.ensures.value)
              (numbered verdict told.what inside.numbers new.limits history told.link (tick_of told.us) told.us (not (nat_eq c.epoch.result c.epoch-epoch.result)) c.high-before.result c.epoch-epoch.result c.epoch.result (between history s).says
              (record {
                other = refl;
                place = (between history s).place_is;
                here = c.epoch.ensures.value ∙ ((between history s).buffer live).epoch;
                top = c.high-before.ensures.number ∙ ap number_in ((stands history s).buffer (not_failed inside.buffer.phase running)).highest ∙ ap (λ (l : Limits). number_in (highest_of (accepted_packets l (buffer_history history)))) (sym limits);
              })
              (subst (λ (l : Limits). AreNumbersOf inside.numbers (epochs_of l (buffer_history history))) (sym limits) ((stands history s).counted (not_failed inside.buffer.phase running)).numbers)));
        };
        stayed = λ failed. absurd (never_failed told.what (sym c.in-Ok.ensures.moved.phase ∙ failed));
        reporter = λ open_. c.report-answer.ensures.state history (between history s) open_;
      });
      sink = on_stepped outcome _ stepped (λ history s.
          let b = ap (λ (r : ReceiverState). r.buffer) view in
          subst (λ (x : State). Writes (g.K.Sink.contents c.args.sink.now) (g.K.Sink.contents c.step_buffer.new.sink) (released_bytes x.limits (buffer_history history)) (released_bytes x.limits (buffer_history (step_of told ∷ history)))) b
          (c.in-Ok.ensures.sink (buffer_history history) (subst (λ (x : State). IsStateAfter x (buffer_history history)) (sym b) s.buffer)));
      phase = on_stepped outcome _ stepped c.in-Ok.ensures.moved.phase;
      settings = subst (λ (x : ReceiverState). settings_with new.limits c.report-answer.new.reporter ≡ settings_of x) view (set_as inside.buffer.limits new.limits inside.reporter c.report-answer.new.reporter limits c.report-answer.ensures.same);
      failed = λ e. absurd (not_failing outcome stepped e);
      stays = λ e. absurd (not_failing outcome stepped e);
      part = λ e. absurd (not_failing outcome stepped e);
    }

pub returns-in-Err-clause-work : goal.returns-in-Err-clause-work
returns-in-Err-clause-work g c =
    let told = c.args.told.now in
    let inside = c.self.inside in
    let view = c.self.view_is in
    let b = ap (λ (r : ReceiverState). r.buffer) view in
    let running = open_phase inside.buffer.phase c.ended.result c.ended.ensures c.if-ended.false in
    record {
      stopped = λ e. absurd (fault_not_stopped e);
      ended = λ not. absurd (not (sym (ap (λ (r : ReceiverState). r.buffer.phase) view) ∙ running));
      verdict = tt;
      made = tt;
      pairs = subst (λ (x : ReceiverState). TakesPairs 0 x.reporter.shutter inside.reporter.shutter) view refl;
      state = tt;
      sink = tt;
      phase = tt;
      settings = subst (λ (x : ReceiverState). settings_with c.step_buffer.new.buffer.limits inside.reporter ≡ settings_of x) view (ap (λ (l : Limits). settings_with l inside.reporter) c.in-Err.ensures.limits);
      failed = λ e. c.in-Err.ensures.failed;
      stays = λ e. subst (λ (x : ReceiverState). StaysCounted x (record { buffer = c.step_buffer.new.buffer; counts = inside.counts; recovered = inside.recovered; asked = inside.asked; numbers = inside.numbers; reporter = inside.reporter })) view (record { counts = refl; again = refl; asked = refl; numbers = refl });
      part = λ e history s.
          subst (λ (x : State). WritesPart (g.K.Sink.contents c.args.sink.now) (g.K.Sink.contents c.step_buffer.new.sink) (released_bytes x.limits (buffer_history history)) (released_bytes x.limits (buffer_history (step_of told ∷ history)))) b
          (c.in-Err.ensures.part (buffer_history history) (subst (λ (x : State). IsStateAfter x (buffer_history history)) (sym b) s.buffer));
    }
