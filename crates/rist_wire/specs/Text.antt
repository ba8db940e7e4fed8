-- What is printed for each test that fails, and where it failed.
use Rattle.std.specs.Prelude.{ℕ, List, codes}
use Rattle.gre_tunnel.specs.Text.{text_of as gre_text_of}
use Rattle.ipv4_udp.specs.Text.{text_of as ip_text_of}
use Rattle.keepalive_msg.specs.Text.{text_of as keepalive_text_of}
use Rattle.rtp_packet.specs.Text.{text_of as rtp_text_of}
use Rattle.rtcp_compound.specs.Text.{text_of as rtcp_text_of}
use Rattle.rist_ext.specs.Text.{text_of as extension_text_of}
use Rattle.ts_nulls.specs.Text.{text_of as nulls_text_of}
use Rattle.rist_wire.specs.declared.bad.WireBad.{WireBad}
use Rattle.rist_wire.specs.declared.bad.WireBad.TheVariants.{Channel, Gre, Sealed, Clear, Keepalive, Stub, Ip, Port}
use Rattle.rist_wire.specs.declared.bad.WireBad.TheVariants.{Rtp, Rtcp, Ext, Nulls}

-- the text of the test that fails
abbrev pub text_of : WireBad → List ℕ
text_of Channel = codes "wire channel"
text_of (Gre bad) = gre_text_of bad
text_of Sealed = codes "wire sealed"
text_of Clear = codes "wire clear"
text_of (Keepalive bad) = keepalive_text_of bad
text_of Stub = codes "wire stub"
text_of (Ip bad) = ip_text_of bad
text_of Port = codes "wire port"
text_of (Rtp bad) = rtp_text_of bad
text_of (Rtcp bad) = rtcp_text_of bad.why
text_of (Ext bad) = extension_text_of bad
text_of (Nulls bad) = nulls_text_of bad

-- the offset of the RTCP packet in its compound; 0 for every other test
abbrev pub place_of : WireBad → ℕ
place_of (Rtcp bad) = bad.place
place_of Channel = 0
place_of (Gre bad) = 0
place_of Sealed = 0
place_of Clear = 0
place_of (Keepalive bad) = 0
place_of Stub = 0
place_of (Ip bad) = 0
place_of Port = 0
place_of (Rtp bad) = 0
place_of (Ext bad) = 0
place_of (Nulls bad) = 0
