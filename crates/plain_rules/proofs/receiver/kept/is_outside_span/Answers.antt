use Rattle.std.proofs.Common.{◌∙◌}
use Rattle.receiver_rules.specs.Seen.{moment_of}
use Rattle.plain_rules.proofs.KeptLemmas.{span_plain}
use Rattle.plain_rules.proofs.receiver.kept.is_outside_span.Goals as goal

pub returns : goal.returns
returns c = c.is_any_far.ensures ∙ span_plain c.args.limits.now (moment_of c.args.until) c.args.number c.args.kept.now
