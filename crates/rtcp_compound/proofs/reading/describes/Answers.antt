use Rattle.rtcp_compound.proofs.ChunkLemmas.{chunk_missing, chunks_done, chunk_stepped}
use Rattle.rtcp_compound.proofs.reading.describes.Goals as goal

pub returns-in-None : goal.returns-in-None
returns-in-None c = chunk_missing c.args.count c.loop.counter c.loop.rest.now _ c.loop-test.true c.in-None.ensures c.loop.invariant

pub returns : goal.returns
returns c = chunks_done c.args.count c.loop.counter c.loop.rest.now _ c.loop-test.false c.loop.invariant

pub loop-preserved : goal.loop-preserved
loop-preserved c = chunk_stepped c.args.count c.loop.counter c.loop.rest.now c.in-Some.next.now _ c.loop-test.true c.in-Some.ensures c.loop.invariant
