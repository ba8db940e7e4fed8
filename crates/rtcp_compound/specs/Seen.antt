-- What a contract sees of a packet that was read.
use Rattle.rtcp_compound.specs.Compound.{Content, sender_report, receiver_report, description, goodbye, application}
use Rattle.rtcp_compound.specs.Compound.{feedback, other}
use Rattle.rtcp_compound.specs.declared.packet.Packet.{Packet}
use Rattle.rtcp_compound.specs.declared.packet.Packet.TheVariants.{Sr, Rr, Sdes, Bye, App, Feedback, Other}

-- the content of the packet, without where its octets lie
abbrev pub seen : Packet → Content
seen (Sr ssrc seconds fraction rtp_time packets octets blocks) =
    sender_report ssrc seconds fraction rtp_time packets octets blocks.now
seen (Rr ssrc blocks) = receiver_report ssrc blocks.now
seen (Sdes count chunks) = description count chunks.now
seen (Bye count rest) = goodbye count rest.now
seen (App subtype ssrc name words) = application subtype ssrc name words.now
seen (Feedback kind format sender media words) = feedback kind format sender media words.now
seen (Other kind count body) = other kind count body.now
