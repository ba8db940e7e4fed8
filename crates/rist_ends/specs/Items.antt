-- What a datagram's item brings to a receiver.
use Rattle.std.specs.Prelude.{ℕ, Result, Ok, Err}
use Rattle.rist_wire.specs.declared.bad.WireBad.{WireBad}
use Rattle.rist_wire.specs.declared.item.Item.{Item}
use Rattle.rist_wire.specs.declared.item.Item.TheVariants as items
use Rattle.rist_wire.specs.Media.{MediaValue, content_of}
use Rattle.receiver_rules.specs.Steps.{Arrival}
use Rattle.request_rules.specs.Steps.{Input, Media, Keepalive, Refused, control_input}

-- media with its null packets restored
abbrev pub arrival_of : MediaValue → Arrival
arrival_of media =
    record {
      flow = media.flow;
      again = media.again;
      width = media.width;
      word = media.word;
      timestamp = media.stamp;
      payload = content_of media;
    }

-- what is told of a datagram that came at a moment in microseconds: the item that it is, or that it is refused
abbrev pub input_read : ℕ → Result Item WireBad → Input
input_read us (Ok (items.Media media)) = Media (arrival_of media)
input_read us (Ok (items.Control packets)) = control_input us packets
input_read us (Ok (items.Keepalive keepalive)) = Keepalive
input_read us (Err bad) = Refused
