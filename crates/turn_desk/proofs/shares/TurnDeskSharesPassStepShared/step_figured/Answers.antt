-- The pass has one step more, and the figures are those after it.
use Rattle.rist_ends.specs.Outcome.{outcome_with}
use Rattle.rist_desk.specs.Made.{step_after}
use Rattle.turn_lock.specs.Passes.{entries_with}
use Rattle.turn_desk.proofs.OwnLemmas.{as_answered, due_there, fault_seen, figures_told, owns_more}
use Rattle.turn_desk.proofs.shares.TurnDeskSharesPassStepShared.step_figured.Goals as goal

pub returns-clause-list : goal.returns-clause-list
returns-clause-list g c = owns_more (step_after c.args.told.now (outcome_with c.step_figured_in_turn.result.answer c.step_figured_in_turn.new.outs)) (entries_with c.args.own.now) (entries_with c.step_figured_in_turn.new.pass) c.step_figured_in_turn.ensures.stepped.own

pub returns-clause-due : goal.returns-clause-due
returns-clause-due g c = due_there g.N.DeskOrigin.given c.args.told.now _ c.step_figured_in_turn.new.outs c.step_figured_in_turn.result.answer c.args.own.now c.step_figured_in_turn.new.pass
    (as_answered g.N.DeskOrigin.given c.args.own.now c.step_figured_in_turn.new.pass c.args.told.now _ c.step_figured_in_turn.new.outs c.step_figured_in_turn.result c.step_figured_in_turn.ensures.stepped)

pub returns-clause-broken : goal.returns-clause-broken
returns-clause-broken g c = fault_seen g.N.DeskOrigin.given c.args.told.now _ c.step_figured_in_turn.new.outs c.step_figured_in_turn.result.answer c.args.own.now c.step_figured_in_turn.new.pass (as_answered g.N.DeskOrigin.given c.args.own.now c.step_figured_in_turn.new.pass c.args.told.now _ c.step_figured_in_turn.new.outs c.step_figured_in_turn.result c.step_figured_in_turn.ensures.stepped)

pub returns-clause-figures : goal.returns-clause-figures
returns-clause-figures g c = figures_told g.N.DeskOrigin.given _ c.args.told.now _ c.step_figured_in_turn.new.outs c.step_figured_in_turn.result c.step_figured_in_turn.ensures.stepped.answered
