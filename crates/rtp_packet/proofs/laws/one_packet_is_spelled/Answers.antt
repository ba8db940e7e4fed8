use Rattle.std.proofs.Common.{sym, ◌∙◌}
use Rattle.rtp_packet.proofs.WholeLemmas.{packet-spelled}
use Rattle.rtp_packet.proofs.laws.one_packet_is_spelled.Goals as goal

pub returns : goal.returns
returns c = λ p q octets first second. sym (packet-spelled p octets first) ∙ packet-spelled q octets second
