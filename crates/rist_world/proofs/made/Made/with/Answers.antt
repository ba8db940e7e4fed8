use Rattle.rist_world.proofs.ScriptLemmas.{none_given}
use Rattle.rist_world.proofs.made.Made.with.Goals as goal

pub returns-clause-none : goal.returns-clause-none
returns-clause-none c = none_given _ c.with-draws.ensures.slot c.with-draws.ensures.drawn c.in_ok-queue.ensures.items
