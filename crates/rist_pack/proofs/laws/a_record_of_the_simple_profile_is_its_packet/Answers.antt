use Rattle.rist_pack.proofs.LawLemmas.{simple-record}
use Rattle.rist_pack.proofs.laws.a_record_of_the_simple_profile_is_its_packet.Goals as goal

pub returns : goal.returns
returns c = simple-record
