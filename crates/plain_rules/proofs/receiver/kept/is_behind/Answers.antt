use Rattle.std.proofs.Common.{◌∙◌}
use Rattle.receiver_rules.specs.Seen.{moment_of}
use Rattle.plain_rules.proofs.KeptLemmas.{behind_plain}
use Rattle.plain_rules.proofs.receiver.kept.is_behind.Goals as goal

pub returns : goal.returns
returns c = c.is_any_ahead.ensures ∙ behind_plain (moment_of c.args.until) c.args.number c.args.kept.now
