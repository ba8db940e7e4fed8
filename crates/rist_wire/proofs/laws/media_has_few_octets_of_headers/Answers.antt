use Rattle.rist_wire.proofs.MediaLemmas.{length-datagram, length-reduced}
use Rattle.rist_wire.proofs.laws.media_has_few_octets_of_headers.Goals as goal

pub returns : goal.returns
returns c = record { reduced = length-reduced; either = length-datagram }
