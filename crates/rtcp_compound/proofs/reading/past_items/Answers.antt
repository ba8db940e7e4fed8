use Rattle.std.proofs.Common.{refl}
use Rattle.rtcp_compound.proofs.ChunkLemmas.{item_stepped}
use Rattle.rtcp_compound.proofs.reading.past_items.Goals as goal

pub loop-rest-preserved : goal.loop-rest-preserved
loop-rest-preserved c = item_stepped c.loop-rest.rest.now _ _ c.if-rest-lt2.false c.if-rest-eq0.false refl c.if-rest-end.false c.loop-rest.invariant
