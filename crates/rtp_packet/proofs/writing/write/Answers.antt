use Rattle.std.proofs.Common.{ap, ◌∙◌}
use Rattle.rtp_packet.specs.Reading.{extension_shown}
use Rattle.rtp_packet.specs.Writing.{header_octets}
use Rattle.rtp_packet.proofs.WritingLemmas.{is_some-shown, spelling-written, reading-written}
use Rattle.rtp_packet.proofs.writing.write.Goals as goal

pub returns-clause-octets : goal.returns-clause-octets
returns-clause-octets c =
    spelling-written c.args.head.now (extension_shown c.args.extension) c.args.payload.now _ _ _
    c.put_at.ensures.octets c.put_extension-at.ensures.octets
    (c.put_header.ensures.octets ∙ ap (header_octets c.args.head.now) (c.is_some.ensures ∙ is_some-shown c.args.extension))

pub returns-clause-read_back : goal.returns-clause-read_back
returns-clause-read_back c =
    reading-written c.args.head.now c.args.extension c.args.payload.now _ c.put_header.ensures.fits
    c.put_extension-at.ensures.fits c.requires.extension c.requires.payload (returns-clause-octets c)
