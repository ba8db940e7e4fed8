-- What the parts leave is what the line does.
use Rattle.run_split.proofs.DoesSplitLemmas.{does_split}
use Rattle.run_split.proofs.splitting.split_line.Goals as goal

pub returns-clause-does : goal.returns-clause-does
returns-clause-does g c =
    let e = c.split_into_sinks.ensures in
    does_split _ _ _ _ _ (g.H.Host.shelf c.args.host.now) (g.H.Host.shelf c.split_into_sinks.new.host) c.split_into_sinks.result
    c.requires.range e.ends e.opened e.splits e.unsplit e.around e.order
