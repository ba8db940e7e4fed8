use Rattle.std.proofs.Common.{subst}
use Rattle.made_script.specs.Draws.{Drawn, IsDrawn, draw}
use Rattle.rist_world.specs.Script.{MadeState}
use Rattle.rist_world.proofs.made.Made.turn.Goals as goal

pub returns-clause-drawn : goal.returns-clause-drawn
returns-clause-drawn c = subst (λ (m : MadeState). (drawn : Drawn) → IsDrawn m.draws drawn → IsDrawn c.draw.new.self (draw m.draws.script m.draws.slot c.args.held.now drawn)) c.self.view_is c.in_ok-draw.ensures.drawn
