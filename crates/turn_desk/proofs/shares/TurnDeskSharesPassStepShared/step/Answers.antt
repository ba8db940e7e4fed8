-- The pass has one step more.
use Rattle.rist_ends.specs.Outcome.{outcome_with}
use Rattle.rist_desk.specs.Made.{step_after}
use Rattle.turn_lock.specs.Passes.{entries_with}
use Rattle.turn_desk.proofs.OwnLemmas.{due_there, fault_seen, owns_more}
use Rattle.turn_desk.proofs.shares.TurnDeskSharesPassStepShared.step.Goals as goal

pub returns-clause-list : goal.returns-clause-list
returns-clause-list g c = owns_more (step_after c.args.told.now (outcome_with c.step_in_turn.result c.step_in_turn.new.outs)) (entries_with c.args.own.now) (entries_with c.step_in_turn.new.pass) c.step_in_turn.ensures.stepped.own

pub returns-clause-due : goal.returns-clause-due
returns-clause-due g c = due_there g.N.DeskOrigin.given c.args.told.now _ c.step_in_turn.new.outs c.step_in_turn.result c.args.own.now c.step_in_turn.new.pass c.step_in_turn.ensures.stepped

pub returns-clause-broken : goal.returns-clause-broken
returns-clause-broken g c = fault_seen g.N.DeskOrigin.given c.args.told.now _ c.step_in_turn.new.outs c.step_in_turn.result c.args.own.now c.step_in_turn.new.pass c.step_in_turn.ensures.stepped
