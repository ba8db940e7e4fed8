use Rattle.std.proofs.Common.{false}
use Rattle.rtcp_compound.proofs.PacketLemmas.{padded_fits}
use Rattle.rtcp_compound.proofs.packet.packet_of.Goals as goal

pub body_of-requires-clause-padded : goal.body_of-requires-clause-padded
body_of-requires-clause-padded c = padded_fits false _ c.requires
