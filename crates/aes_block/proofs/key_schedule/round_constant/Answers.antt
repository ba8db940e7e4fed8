use Rattle.std.proofs.Common.{◌∙◌}
use Rattle.aes_block.proofs.ScheduleLemmas.{constant_is}
use Rattle.aes_block.proofs.key_schedule.round_constant.Goals as goal

pub returns : goal.returns
returns c = c.constant_at.ensures ∙ constant_is c.args.place c.requires
