-- The release set of the rules, over the steps that were kept.
use Rattle.desk_run.proofs.EndLemmas.{whole_is_exact}
use Rattle.desk_run.proofs.laws.what_was_reached_is_received.Goals as goal

pub returns : goal.returns
returns c given p run steps kept contents octets whole told is some steady stays honest = whole_is_exact given p run steps kept contents octets whole told is some steady stays honest
