-- The run may turn to a new epoch, and the arrival is judged in it.
use Rattle.std.proofs.Common.{subst}
use Rattle.std.proofs.lemmas.Result.{on_ok_weaker}
use Rattle.plain_rules.specs.Inside.ReceiverRun.{IsTurned}
use Rattle.plain_rules.proofs.receiver.running.bring.Goals as goal

pub returns-clause-after : goal.returns-clause-after
returns-clause-after c =
    on_ok_weaker c.judge.result
    (λ brings. record {
      turned = c.turn.new.run;
      turns = subst (λ b. IsTurned b c.args.run.now c.turn.new.run) c.opens_epoch-opens.ensures.value c.in_ok-turn.ensures.turned;
      brings = brings;
    })
    c.judge.ensures.after
