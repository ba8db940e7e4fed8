use Rattle.made_script.specs.Draws.{DrawsMore, dues_of, new_below}
use Rattle.made_script.proofs.draws.Draws.draw_way.Given as goal

abbrev pub invariant-loop-link : goal.invariant-loop-link
invariant-loop-link l = DrawsMore l.fn.self l.self (new_below l.fn.way l.fn.self.held l.fn.held l.link)
    (λ words. dues_of l.fn.self.script l.fn.self.slot words l.fn.way l.fn.self.held l.fn.held l.link)
