use Rattle.std.proofs.Common.{refl}
use Rattle.rtcp_compound.specs.Writing.{rr_octets}
use Rattle.rtcp_compound.proofs.PutLemmas.{rr_content, ok_as}
use Rattle.rtcp_compound.proofs.writing.CompoundOut.put_rr.Goals as goal

pub returns-clause-ok : goal.returns-clause-ok
returns-clause-ok c =
    let s = rr_octets c.args.ssrc in
    ok_as c.put.result c.put.new.self c.args.self.now _ _ s s (rr_content c.args.ssrc c.ranges.ssrc.fits) refl c.put.ensures.ok
