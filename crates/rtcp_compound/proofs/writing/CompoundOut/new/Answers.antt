use Rattle.std.proofs.Common.{refl, []}
use Rattle.rtcp_compound.proofs.CompoundLemmas.{packets_none}
use Rattle.rtcp_compound.proofs.WritingLemmas.{same_written}
use Rattle.rtcp_compound.proofs.writing.CompoundOut.new.Goals as goal

pub returns : goal.returns
returns c = same_written _ _ _ _ refl (packets_none [] refl)
