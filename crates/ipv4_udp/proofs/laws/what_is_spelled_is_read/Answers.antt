use Rattle.ipv4_udp.proofs.WholeLemmas.{reading-spelled}
use Rattle.ipv4_udp.proofs.laws.what_is_spelled_is_read.Goals as goal

pub returns : goal.returns
returns c = reading-spelled
