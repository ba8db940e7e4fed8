use Rattle.std.proofs.Common.{◌∙◌}
use Rattle.plain_rules.proofs.KeptLemmas.{twice_plain}
use Rattle.plain_rules.proofs.receiver.kept.is_twice.Goals as goal

pub returns : goal.returns
returns c = c.is_any_same.ensures ∙ twice_plain c.args.number c.args.kept.now
