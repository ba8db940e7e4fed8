use Rattle.rist_reporter.proofs.LengthLemmas.{gained_app}
use Rattle.rist_reporter.proofs.requests.put_ranges.Goals as goal

pub returns-clause-length : goal.returns-clause-length
returns-clause-length c = gained_app _ _ _ 0 _ _ c.in-Ok.ensures.ok
