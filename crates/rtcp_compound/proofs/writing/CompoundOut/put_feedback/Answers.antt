use Rattle.std.proofs.Common.{refl}
use Rattle.rtcp_compound.specs.Writing.{feedback_octets}
use Rattle.rtcp_compound.proofs.PutLemmas.{feedback_content, ok_as}
use Rattle.rtcp_compound.proofs.writing.CompoundOut.put_feedback.Goals as goal

pub returns-clause-ok : goal.returns-clause-ok
returns-clause-ok c =
    let s = feedback_octets c.args.kind c.args.format c.args.sender c.args.media c.args.words.now in
    ok_as c.put.result c.put.new.self c.args.self.now _ _ s s (feedback_content c.args.kind c.args.format c.args.sender c.args.media c.args.words.now c.requires.kind c.ranges.sender.fits c.ranges.media.fits) refl c.put.ensures.ok
