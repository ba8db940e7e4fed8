use Rattle.std.proofs.Common.{◌-◌, ◌≤◌}
use Rattle.made_script.specs.Draws.{DrawsMore, dues_on}
use Rattle.made_script.specs.contracts.draws.Draws.{the_view}
use Rattle.made_script.proofs.draws.Draws.draw_link.Given as goal

abbrev pub invariant-loop-place : goal.invariant-loop-place
invariant-loop-place l = (l.place - l.fn.first ≤ l.fn.held - l.fn.first)
    × DrawsMore l.fn.self (the_view l.self-inside) (l.place - l.fn.first)
    (λ words. dues_on l.fn.self.script l.fn.self.slot words l.fn.way l.fn.link l.fn.first (l.place - l.fn.first))
