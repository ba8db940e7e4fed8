use Rattle.std.proofs.Common.{◌∙◌}
use Rattle.receiver_rules.specs.Seen.{moment_of}
use Rattle.plain_rules.proofs.KeptLemmas.{out_plain}
use Rattle.plain_rules.proofs.receiver.kept.is_out.Goals as goal

pub returns : goal.returns
returns c = c.is_any_due.ensures ∙ out_plain (moment_of c.args.until) c.args.number c.args.kept.now
