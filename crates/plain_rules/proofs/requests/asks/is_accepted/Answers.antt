use Rattle.std.proofs.Common.{◌∙◌}
use Rattle.plain_rules.proofs.KeptLemmas.{twice_plain}
use Rattle.plain_rules.proofs.requests.asks.is_accepted.Goals as goal

pub returns : goal.returns
returns c = c.is_any.ensures ∙ twice_plain c.args.number c.args.kept.now
