use Rattle.std.proofs.Common.{refl}
use Rattle.rtcp_compound.specs.Writing.{sr_octets}
use Rattle.rtcp_compound.proofs.PutLemmas.{sr_content, ok_as}
use Rattle.rtcp_compound.proofs.writing.CompoundOut.put_sr.Goals as goal

pub returns-clause-ok : goal.returns-clause-ok
returns-clause-ok c =
    let s = sr_octets c.args.ssrc c.args.seconds c.args.fraction c.args.rtp_time c.args.packets c.args.octets in
    ok_as c.put.result c.put.new.self c.args.self.now _ _ s s
    (sr_content c.args.ssrc c.args.seconds c.args.fraction c.args.rtp_time c.args.packets c.args.octets c.ranges.ssrc.fits c.ranges.seconds.fits c.ranges.fraction.fits c.ranges.rtp_time.fits c.ranges.packets.fits c.ranges.octets.fits)
    refl c.put.ensures.ok
