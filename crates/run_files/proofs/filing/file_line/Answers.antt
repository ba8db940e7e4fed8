-- What the parts leave is what the line does.
use Rattle.run_files.proofs.DoesFilesLemmas.{does_files}
use Rattle.run_files.proofs.filing.file_line.Goals as goal

pub returns-clause-does : goal.returns-clause-does
returns-clause-does g c =
    let e = c.work_over_files.ensures in
    does_files _ _ _ _ _ (g.H.Host.shelf c.args.host.now) (g.H.Host.shelf c.work_over_files.new.host) c.work_over_files.result
    c.requires.range e.ends e.opened e.others e.order e.ran e.closed e.memory
