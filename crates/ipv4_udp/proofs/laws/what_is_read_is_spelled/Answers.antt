use Rattle.octet_fields.proofs.OctetLemmas.{AreOctets-from_all}
use Rattle.ipv4_udp.proofs.WholeLemmas.{reading-spells}
use Rattle.ipv4_udp.proofs.laws.what_is_read_is_spelled.Goals as goal

pub returns : goal.returns
returns c = λ sums datagram octets all e. reading-spells sums datagram octets (AreOctets-from_all octets all) e
