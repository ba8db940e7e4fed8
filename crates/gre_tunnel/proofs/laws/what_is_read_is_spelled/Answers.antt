use Rattle.octet_fields.proofs.OctetLemmas.{AreOctets-from_all}
use Rattle.gre_tunnel.proofs.HeaderLemmas.{reading-spells}
use Rattle.gre_tunnel.proofs.laws.what_is_read_is_spelled.Goals as goal

pub returns : goal.returns
returns c = λ octets value all e. reading-spells octets value (AreOctets-from_all octets all) e
