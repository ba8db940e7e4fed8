use Rattle.keepalive_msg.proofs.MessageLemmas.{reading-spelled}
use Rattle.keepalive_msg.proofs.laws.what_is_spelled_is_read.Goals as goal

pub returns : goal.returns
returns c = reading-spelled
