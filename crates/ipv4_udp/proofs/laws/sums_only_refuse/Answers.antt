use Rattle.ipv4_udp.proofs.WholeLemmas.{sums-refuse}
use Rattle.ipv4_udp.proofs.laws.sums_only_refuse.Goals as goal

pub returns : goal.returns
returns c = sums-refuse
