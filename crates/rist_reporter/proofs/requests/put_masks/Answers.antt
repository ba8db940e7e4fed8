use Rattle.rist_reporter.proofs.LengthLemmas.{gained_feedback}
use Rattle.rist_reporter.proofs.requests.put_masks.Goals as goal

pub returns-clause-length : goal.returns-clause-length
returns-clause-length c = gained_feedback _ _ _ 205 1 _ _ _ c.in-Ok.ensures.ok
