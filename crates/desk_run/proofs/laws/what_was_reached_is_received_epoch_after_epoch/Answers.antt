use Rattle.desk_run.proofs.EndLemmas.{whole_by_epochs}
use Rattle.desk_run.proofs.laws.what_was_reached_is_received_epoch_after_epoch.Goals as goal

pub returns : goal.returns
returns c given streams run steps kept contents octets whole told is some steady are = whole_by_epochs given streams run steps kept contents octets whole told is some steady are
