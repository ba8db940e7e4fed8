-- One more receiver made its step.
use Rattle.std.proofs.Common.{◌+◌, ◌∙◌, arith}
use Rattle.rist_fan.proofs.FanLemmas.{done_more}
use Rattle.rist_fan.proofs.stepping.step_more.Goals as goal

pub loop-v-preserved : goal.loop-v-preserved
loop-v-preserved g c =
    let i = c.loop-v.invariant in
    let s = c.step_at.ensures in
    record {
      flows = s.flows ∙ i.flows;
      room = s.room ∙ i.room;
      done = λ v d e low. done_more g.K.Sink.contents g.K.Sink.faults c.args.place c.args.told.now c.loop-v.v c.args.more.now c.loop-v.more c.step_at.new.more c.args.came.now c.loop-v.came c.step_at.new.came i.done i.rest i.rooms s.steps s.others s.rooms v d e (omega (arith, low));
      rest = λ v d high. s.others v d (λ same. omega (arith, high, same)) ∙ i.rest v d (omega (arith, high));
      rooms = λ v e high. s.rooms (v + 1) e (λ same. omega (arith, high, same)) ∙ i.rooms v e (omega (arith, high));
      first = λ e. s.rooms 0 e (λ same. omega (arith, same)) ∙ i.first e;
    }
