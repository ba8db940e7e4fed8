-- Number by number, epoch by epoch.
use Rattle.session_figures.proofs.LawLemmas.{sent_is}
use Rattle.session_figures.proofs.laws.what_was_sent_came_or_is_missing.Goals as goal

pub returns : goal.returns
returns c limits history over = sent_is limits history over
