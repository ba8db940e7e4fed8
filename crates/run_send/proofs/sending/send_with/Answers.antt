-- The run's answer and what it left are the line's.
use Rattle.std.proofs.Common.{◌∙◌}
use Rattle.rist_words.specs.Shown.{shown_send}
use Rattle.run_send.proofs.SendLemmas.{refuses_none, sends_as}
use Rattle.run_send.specs.Sent.{no_work}
use Rattle.run_send.proofs.sending.send_with.Goals as goal

pub returns-clause-work : goal.returns-clause-work
returns-clause-work g c =
    λ ran. sends_as _ (shown_send c.args.line.now) c.args.sealer _ c.in-Ok-with.sender _ _ _ _ _ c.send-end.result _ c.pace_of-pace.ensures.value
    (record {
      flow = c.in-Ok-with.ensures.set.0;
      first = c.in-Ok-with.ensures.set.1;
      hold = c.in-Ok-with.ensures.set.2;
      size = c.in-Ok-with.ensures.set.3;
      bonding = c.in-Ok-with.ensures.set.4 ∙ c.bond_of.ensures.value;
      session = c.in-Ok-with.ensures.set.5 ∙ c.session_of-session.ensures.value;
    }) c.requires.count c.send_status.ensures.value (c.send-end.ensures.work (no_work c.args.sealer) c.in-Ok-with.ensures.state)

pub returns-clause-memory : goal.returns-clause-memory
returns-clause-memory g c = λ refused. absurd (refuses_none _ _ c.send_status.ensures.value refused)
