-- The item of a datagram in a session, or the first test that fails.
use Rattle.std.specs.Prelude.{ℕ, List, Result, Ok, Err}
use Rattle.link_channels.specs.declared.channel.Channel.{Channel}
use Rattle.link_channels.specs.declared.channel.Channel.TheVariants.{Media as OnMedia, Control as OnControl}
use Rattle.link_channels.specs.declared.channel.Channel.TheVariants.{Tunnel as OnTunnel}
use Rattle.gre_tunnel.specs.declared.tunnel.Tunnel.{Tunnel}
use Rattle.gre_tunnel.specs.Reading.{reading_of as gre_reading_of}
use Rattle.link_channels.specs.declared.profile.Profile.{Profile}
use Rattle.link_channels.specs.declared.profile.Profile.TheVariants.{Simple, Main}
use Rattle.rist_wire.specs.declared.session.Session.{Session}
use Rattle.rist_wire.specs.declared.bad.WireBad.{WireBad}
use Rattle.rist_wire.specs.declared.bad.WireBad.TheVariants.{Channel as BadChannel}
use Rattle.rist_wire.specs.declared.item.Item.{Item}
use Rattle.rist_wire.specs.declared.item.Kind.TheVariants.{Media as MediaKind, Control as ControlKind}
use Rattle.rist_wire.specs.Messages.{Message, item_by}
use Rattle.rist_wire.specs.Tunnel.{tunnel_message, plain_datagram}

-- The message of a datagram: RTP and RTCP each on its own channel in the Simple Profile, and all in the
-- tunnel in the Main Profile.
abbrev pub message_on : Profile → Channel → Session → List ℕ → Result Message WireBad
message_on Simple OnMedia session octets = Ok (record { kind = MediaKind; octets = octets })
message_on Simple OnControl session octets = Ok (record { kind = ControlKind; octets = octets })
message_on Simple OnTunnel session octets = Err BadChannel
message_on Main OnMedia session octets = Err BadChannel
message_on Main OnControl session octets = Err BadChannel
message_on Main OnTunnel session octets = tunnel_message session octets (gre_reading_of octets)

-- the message of a datagram of the session
unfoldable pub message_of : Session → Channel → List ℕ → Result Message WireBad
message_of session channel octets = message_on session.profile channel session octets

-- the datagram with its text deciphered, which only the tunnel enciphers
abbrev pub plain_on : Profile → Channel → Session → List ℕ → List ℕ
plain_on Simple channel session octets = octets
plain_on Main OnMedia session octets = octets
plain_on Main OnControl session octets = octets
plain_on Main OnTunnel session octets = plain_datagram session octets (gre_reading_of octets)

-- the datagram as it stands after it was taken: deciphered exactly where its header is read with a key in a
-- session with a passphrase
unfoldable pub plain_of : Session → Channel → List ℕ → List ℕ
plain_of session channel octets = plain_on session.profile channel session octets

-- the item of a message, where there is one
abbrev pub item_in : Tunnel → Result Message WireBad → Result Item WireBad
item_in tunnel (Ok message) = item_by tunnel message.kind message.octets
item_in tunnel (Err bad) = Err bad

-- the item of a datagram, or the first test that fails
unfoldable pub item_of : Session → Channel → List ℕ → Result Item WireBad
item_of session channel octets = item_in session.tunnel (message_of session channel octets)
