use Rattle.ipv4_udp.proofs.WholeLemmas.{one-spelled}
use Rattle.ipv4_udp.proofs.laws.one_datagram_is_spelled.Goals as goal

pub returns : goal.returns
returns c = one-spelled
