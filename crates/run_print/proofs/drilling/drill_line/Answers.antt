-- What the parts leave is what the line does.
use Rattle.run_print.proofs.PrintLemmas.{does_print}
use Rattle.run_print.proofs.drilling.drill_line.Goals as goal

pub returns-clause-does : goal.returns-clause-does
returns-clause-does g c =
    let e = c.write_summary.ensures in
    does_print _ _ _ _ _ (g.H.Host.shelf c.args.host.now) (g.H.Host.shelf c.write_summary.new.host) c.write_summary.result
    e.ends e.opened e.printed e.unprinted e.around e.others
