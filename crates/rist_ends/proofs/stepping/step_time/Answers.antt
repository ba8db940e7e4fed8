-- Time passes at the effective time, as at its own tick.
use Rattle.receiver_rules.specs.Steps.{TimeOnly}
use Rattle.rist_ends.proofs.SteppingLemmas.{part_told, on_err_always}
use Rattle.rist_ends.proofs.stepping.step_time.Goals as goal

pub returns-in_err-release-clause-part : goal.returns-in_err-release-clause-part
returns-in_err-release-clause-part g c =
    on_err_always c.from_residual.result _ (λ history s.
    part_told c.args.buffer.now history c.args.now c.args.tick c.max-at.result TimeOnly _ _ (record { state = s; running = c.requires.running; clock = c.requires.clock; later = c.max-at.ensures }) (c.in_err-release.ensures.part history s))
