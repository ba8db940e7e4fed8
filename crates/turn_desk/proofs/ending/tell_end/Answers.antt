-- The end is one more step of what stood.
use Rattle.std.proofs.Common.{ap, ◌∙◌}
use Rattle.rist_ends.specs.Outcome.{outcome_with}
use Rattle.rist_desk.specs.Made.{end_told}
use Rattle.rist_desk.proofs.DeskLemmas.{Stepped}
use Rattle.turn_desk.specs.Stands.{kept_with, with_end}
use Rattle.turn_desk.proofs.EndLemmas.{end_cause, stands_ended}
use Rattle.turn_desk.proofs.ending.tell_end.Goals as goal

pub returns : goal.returns
returns g c =
    let v = c.args.parts in
    let x = c.step_into-answer.ensures in
    let w = c.step_into-answer.new in
    let contents = g.K.Sink.contents in
    let faults = g.K.Sink.faults in
    let answer = c.step_into-answer.result in
    record {
      ended = λ history old.
          let step : Stepped end_told (outcome_with answer w.outs) (kept_with v.receiver (contents v.sink) (faults v.sink) history) (kept_with w.self (contents w.sink) (faults w.sink) (with_end history answer w.outs)) = record { work = x.work; cause = x.cause } in
          record {
            stands = stands_ended g.N.DeskOrigin.given answer w.outs v.receiver w.self (contents v.sink) (contents w.sink) (faults v.sink) (faults w.sink) history step
                (λ is. let same = x.same is in (same.0, ap contents same.1, ap faults same.1)) old;
            settings = x.work.settings ∙ old.settings;
            cause = end_cause g.N.DeskOrigin.given answer w.outs _ _ old step (λ is. ap faults (x.same is).1);
          };
    }
