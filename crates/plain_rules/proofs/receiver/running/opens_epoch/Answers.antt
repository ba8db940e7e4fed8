-- What is known of the newest epoch tells whether an arrival opens one.
use Rattle.std.proofs.Common.{◌∙◌}
use Rattle.receiver_rules.specs.Epochs.{epochs_of}
use Rattle.receiver_rules.specs.Seen.{seen}
use Rattle.plain_rules.proofs.RunLemmas.{opens_shown}
use Rattle.plain_rules.proofs.receiver.running.opens_epoch.Goals as goal

pub returns-clause-shows : goal.returns-clause-shows
returns-clause-shows c = λ history s. c.is_opening.ensures ∙ opens_shown c.args.limits.now c.args.run.now (epochs_of c.args.limits.now history) c.args.t (seen c.args.arrival.now) s.epochs
