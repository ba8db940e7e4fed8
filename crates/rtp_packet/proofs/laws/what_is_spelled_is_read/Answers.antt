use Rattle.rtp_packet.proofs.WholeLemmas.{reading-spelled}
use Rattle.rtp_packet.proofs.laws.what_is_spelled_is_read.Goals as goal

pub returns : goal.returns
returns c = reading-spelled
