use Rattle.std.proofs.Common.{ap}
use Rattle.made_script.specs.Words.{words_left}
use Rattle.rist_world.proofs.MadeLemmas.{made_run}
use Rattle.rist_world.proofs.made_run.drill_made.Goals as goal

pub returns : goal.returns
returns c = record {
  run = made_run (record { number = c.args.number; count = c.args.count; links = c.args.links; loss = c.args.loss }) _ _ _ _ _ _ _ c.drawn_sealer-near.result c.drawn_sealer-far.result c.drill.result c.requires.count c.in_ok-mover.ensures.script c.made_session-session.ensures.value c.made_sender.ensures.value c.made_receiver.ensures.value (ap words_left c.with-words.ensures.value) c.drawn_sealer-near.ensures.sealer c.drawn_sealer-far.ensures.sealer c.drill.ensures.run;
}
