use Rattle.std.proofs.Common.{◌∙◌}
use Rattle.receiver_rules.specs.Seen.{seen}
use Rattle.plain_rules.specs.Receiver.Kept.{kept_packets}
use Rattle.plain_rules.proofs.KeptLemmas.{judged_plain}
use Rattle.plain_rules.proofs.receiver.kept.judge_arrival.Goals as goal

pub returns : goal.returns
returns c = c.judge.ensures ∙ judged_plain c.args.limits.now c.args.anchor.now c.args.clock.now.base (kept_packets c.args.kept.now) c.args.t (seen c.args.arrival.now) c.args.place.now c.requires.place
