-- The datagrams of media that are written.
use Rattle.std.specs.Prelude.{◌≡◌, ℕ, ◌%◌, ◌^◌, ◌<◌, ◌≤◌, List, length, true, Option, IfSome}
use Rattle.link_channels.specs.declared.channel.Channel.{Channel}
use Rattle.psk_seal.specs.declared.sealer.Pair.{Pair}
use Rattle.link_channels.specs.declared.bounds.TheConstants.{MAX_PAYLOAD}
use Rattle.ts_nulls.specs.Shape.{IsShape}
use Rattle.rist_wire.specs.declared.item.Kind.TheVariants.{Media as MediaKind}
use Rattle.rist_wire.specs.declared.session.Session.{Session}
use Rattle.rist_wire.specs.Media.{can_restore}
use Rattle.rist_wire.specs.Writing.{MediaOut}
use Rattle.rist_wire.specs.Packets.{media_octets}
use Rattle.rist_wire.specs.Datagrams.{channel_of, datagram_of}

-- each field fits its bits, the flow is even, and what was deleted from the payload can be put back
pub record IsMediaOut (media : MediaOut) : Type 0 where
  pub even : media.flow % 2 ≡ 0
  pub flow : media.flow < 2 ^ 32
  pub stamp : media.stamp < 2 ^ 32
  pub strip : IfSome media.strip (λ shape. IsShape shape.units shape.nulls)
  pub payload : length media.payload ≤ MAX_PAYLOAD
  pub whole : can_restore media.strip media.payload ≡ true

-- on which channel media goes
abbrev pub media_channel : Session → Channel
media_channel session = channel_of session MediaKind

-- the datagram of media, under a pair where it is enciphered
abbrev pub media_datagram : Session → Option Pair → MediaOut → List ℕ
media_datagram session pair media = datagram_of session pair MediaKind (media_octets session.width media)
