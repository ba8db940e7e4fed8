use Rattle.std.proofs.Common.{refl, rules}
use Rattle.rtcp_compound.specs.Writing.{app_octets}
use Rattle.rtcp_compound.proofs.PutLemmas.{app_content, ok_as}
use Rattle.rtcp_compound.proofs.writing.CompoundOut.put_app.Goals as goal

pub returns-clause-ok : goal.returns-clause-ok
returns-clause-ok c =
    let s = app_octets c.args.subtype c.args.ssrc c.args.name c.args.words.now in
    ok_as c.put.result c.put.new.self c.args.self.now _ _ s s (app_content c.args.subtype c.args.ssrc c.args.name c.args.words.now (search rules) c.ranges.ssrc.fits) refl c.put.ensures.ok
