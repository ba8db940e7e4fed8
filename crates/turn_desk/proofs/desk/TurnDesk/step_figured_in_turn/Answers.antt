-- The pass is still that of its link.
use Rattle.turn_desk.proofs.OwnLemmas.{still_of, as_answered}
use Rattle.turn_desk.proofs.desk.TurnDesk.step_figured_in_turn.Goals as goal

pub returns-clause-own : goal.returns-clause-own
returns-clause-own g c = still_of c.args.self.now g.N.DeskOrigin.given c.args.told.now c.args.outs.now c.step.new.room c.step.result.answer c.args.pass.now c.step.new.pass c.requires.own c.step.ensures.own (as_answered g.N.DeskOrigin.given c.args.pass.now c.step.new.pass c.args.told.now c.args.outs.now c.step.new.room c.step.result c.step.ensures.stepped)
