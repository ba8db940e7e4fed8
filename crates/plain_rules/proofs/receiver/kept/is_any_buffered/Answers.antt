use Rattle.std.proofs.Common.{◌∙◌}
use Rattle.receiver_rules.specs.Packets.{At}
use Rattle.plain_rules.proofs.KeptLemmas.{waiting_plain}
use Rattle.plain_rules.proofs.receiver.kept.is_any_buffered.Goals as goal

pub returns : goal.returns
returns c = c.is_any_waiting.ensures ∙ waiting_plain (At c.args.t) c.args.kept.now
