use Rattle.octet_fields.proofs.OctetLemmas.{AreOctets-from_all}
use Rattle.keepalive_msg.proofs.MessageLemmas.{reading-spells}
use Rattle.keepalive_msg.proofs.laws.what_is_read_is_spelled.Goals as goal

pub returns : goal.returns
returns c = λ octets value all e. reading-spells octets value (AreOctets-from_all octets all) e
