-- What the parts leave is what the line does.
use Rattle.run_fan.proofs.DoesFanLemmas.{does_fan}
use Rattle.run_fan.proofs.fanning.fan_unwatched.Goals as goal

pub returns-clause-does : goal.returns-clause-does
returns-clause-does g c =
    let e = c.fan_into_sinks.ensures in
    does_fan _ _ _ _ _ _ (g.H.Host.shelf c.args.host.now) (g.H.Host.shelf c.fan_into_sinks.new.host) c.fan_into_sinks.result
    c.requires.range e.ends e.opened e.fanned e.unfanned e.around e.order e.links_opened e.links_tried e.random
