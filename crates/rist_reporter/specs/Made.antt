-- What was made, and what it says where it is opened in its session.
use Rattle.std.specs.Prelude.{◌≡◌, ℕ, List, Ok}
use Rattle.link_channels.specs.declared.channel.Channel.{Channel}
use Rattle.keepalive_msg.specs.Reading.{value_of}
use Rattle.keepalive_msg.specs.Writing.{message_of}
use Rattle.rist_wire.specs.declared.session.Session.{Session}
use Rattle.rist_wire.specs.declared.item.Item.{Item}
use Rattle.rist_wire.specs.declared.item.Item.TheVariants as items
use Rattle.rist_wire.specs.Item.{item_of}
use Rattle.rist_reporter.specs.Control.{Datagram, Compound, Alive}

-- a datagram that was made, and the channel on which it goes
pub record OutOf : Type 0 where
  pub channel : Channel
  pub octets : List ℕ

-- the item that a datagram is read as
abbrev pub item_of_datagram : Datagram → Item
item_of_datagram (Compound packets) = items.Control packets
item_of_datagram (Alive ssrc) = items.Keepalive (value_of (message_of ssrc))

-- opened in the session, these octets are the datagram
abbrev pub IsOpened : Session → OutOf → Datagram → Type 0
IsOpened session out datagram = item_of session out.channel out.octets ≡ Ok (item_of_datagram datagram)
