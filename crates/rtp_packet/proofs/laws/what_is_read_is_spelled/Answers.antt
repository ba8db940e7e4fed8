use Rattle.octet_fields.proofs.OctetLemmas.{AreOctets-from_all}
use Rattle.rtp_packet.proofs.WholeLemmas.{reading-spells}
use Rattle.rtp_packet.proofs.laws.what_is_read_is_spelled.Goals as goal

pub returns : goal.returns
returns c = λ octets value all e. reading-spells octets value (AreOctets-from_all octets all) e
