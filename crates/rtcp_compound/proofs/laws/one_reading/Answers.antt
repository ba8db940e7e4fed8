use Rattle.rtcp_compound.proofs.CompoundLaws.{one_list}
use Rattle.rtcp_compound.proofs.laws.one_reading.Goals as goal

pub returns : goal.returns
returns c = one_list
