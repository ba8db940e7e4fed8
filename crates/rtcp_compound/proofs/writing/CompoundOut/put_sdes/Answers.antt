use Rattle.rtcp_compound.proofs.PutLemmas.{named}
use Rattle.rtcp_compound.proofs.writing.CompoundOut.put_sdes.Goals as goal

pub put-requires-clause-body : goal.put-requires-clause-body
put-requires-clause-body c = named c.args.ssrc
