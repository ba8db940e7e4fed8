use Rattle.receiver_rules.proofs.SentLemmas.{newest_in_window}
use Rattle.receiver_rules.proofs.laws.without_drift_windows_are_fixed.Goals as goal

pub returns : goal.returns
returns c = newest_in_window
