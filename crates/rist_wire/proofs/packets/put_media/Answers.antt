use Rattle.std.proofs.Common.{ℕ, ◌+◌, ◌%◌, Option, Some, Ok, ap, ◌∙◌}
use Rattle.std.specs.Prelude.{Result}
use Rattle.rist_ext.specs.declared.ext_word.ExtWord.{ExtWord}
use Rattle.rist_ext.specs.declared.ext_word.ExtBad.{ExtBad}
use Rattle.rtp_packet.specs.declared.bad.RtpBad.{RtpBad}
use Rattle.rtp_packet.specs.Reading.{RtpValue, value_of}
use Rattle.rtp_packet.specs.Writing.{packet_with}
use Rattle.rist_wire.specs.Writing.{media_out}
use Rattle.rist_wire.proofs.MediaLemmas.{packet-item}
use Rattle.rist_wire.proofs.packets.put_media.Goals as goal

pub returns-clause-item : goal.returns-clause-item
returns-clause-item c = λ tunnel.
    let told = λ (upper : Option ℕ). let word : Result ExtWord ExtBad = Ok (record { strip = c.args.strip; upper = upper }) in word in
    let made = λ (again : ℕ). let value : Result RtpValue RtpBad = Ok (value_of (packet_with (record { number = c.args.number % 65536; stamp = c.args.stamp; ssrc = c.args.flow + again }) (Some (0x5249, c.write-octets.result)) c.args.payload.now)) in value in
    packet-item tunnel c.args.width (media_out c.args.flow c.args.again c.args.number c.args.stamp c.args.strip c.args.payload.now) c.write-octets.result _
    c.requires.flow c.requires.whole (c.write-octets.ensures.read_back ∙ ap told c.upper_for.ensures.value) (c.write-2.ensures.read_back ∙ ap made c.from.ensures)
