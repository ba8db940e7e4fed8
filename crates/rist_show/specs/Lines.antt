-- The line of a record of a capture (this profile): a JSON object (RFC 8259) without blanks, its members in the order
-- of their names, and a line feed.
use Rattle.std.specs.Prelude.{ℕ, List, [], ◌∷◌, ◌++◌, length, map, flat_map, codes, None, Result, Ok, Err}
use Rattle.std.specs.Int.{w32, to_be_bytes}
use Rattle.hex.specs.Hex.{encode_lower}
use Rattle.serde_json.specs.Data.{Data, boolean, number, unsigned, string, array, object, item, no_items, member}
use Rattle.serde_json.specs.Data.{no_members}
use Rattle.serde_json.specs.View.{items_of}
use Rattle.serde_json.specs.Written.{compact_text}
use Rattle.link_channels.specs.declared.channel.Channel.{Channel}
use Rattle.link_channels.specs.declared.channel.Channel.TheVariants.{Media, Control, Tunnel}
use Rattle.seq_unwrap.specs.declared.width.Width.{Width}
use Rattle.seq_unwrap.specs.declared.width.Width.TheVariants.{W16, W32}
use Rattle.capture_file.specs.Capture.{Record}
use Rattle.keepalive_msg.specs.declared.keepalive.Keepalive.{Keepalive}
use Rattle.rtcp_compound.specs.Compound.{Content, kind_of}
use Rattle.rist_nack.specs.Asked.{asks_in}
use Rattle.rist_nack.specs.declared.ask.Ask.{Ask}
use Rattle.rist_wire.specs.declared.session.Session.{Session}
use Rattle.rist_wire.specs.declared.bad.WireBad.{WireBad}
use Rattle.rist_wire.specs.declared.item.Item.{Item}
use Rattle.rist_wire.specs.declared.item.Item.TheVariants as items
use Rattle.rist_wire.specs.Media.{MediaValue, content_of}
use Rattle.rist_wire.specs.Item.{item_of}
use Rattle.rist_wire.specs.Text.{text_of, place_of}

-- where and when a datagram came: its time in microseconds, its channel and its link
pub record Origin : Type 0 where
  pub at : ℕ
  pub channel : Channel
  pub link : ℕ

-- ---- values

-- a whole number, which JSON writes without sign and fraction
abbrev pub natural : ℕ → Data
natural n = number (unsigned n)

-- octets as lower-case hexadecimal digits, two each
abbrev pub digits : List ℕ → Data
digits octets = string (encode_lower octets)

-- the word of a channel
abbrev pub channel_name : Channel → List ℕ
channel_name Media = codes "media"
channel_name Control = codes "control"
channel_name Tunnel = codes "tunnel"

-- how many bits of the number were sent
abbrev pub bits_of : Width → ℕ
bits_of W16 = 16
bits_of W32 = 32

-- the first number that is asked for, and how many more
abbrev pub ask_data : Ask → Data
ask_data ask = array (item (natural ask.first) (item (natural ask.more) no_items))

-- what a compound asks for, of all flows, in order
abbrev pub asks_data : List Content → Data
asks_data packets = array (items_of (map ask_data (asks_in None packets)))

-- the types of its packets, in order
abbrev pub types_data : List Content → Data
types_data packets = array (items_of (map (λ p. natural (kind_of p)) packets))

-- ---- objects

-- `length` is that of the payload with its null packets in their places, and `number` the bits that were sent
abbrev pub media_data : Origin → MediaValue → Data
media_data o media =
    object (member (codes "again") (boolean media.again)
    (member (codes "at") (natural o.at)
    (member (codes "channel") (string (channel_name o.channel))
    (member (codes "flow") (digits (to_be_bytes w32 media.flow))
    (member (codes "item") (string (codes "media"))
    (member (codes "length") (natural (length (content_of media)))
    (member (codes "link") (natural o.link)
    (member (codes "number") (natural media.word)
    (member (codes "stamp") (natural media.stamp)
    (member (codes "width") (natural (bits_of media.width)) no_members))))))))))

-- what a compound asks for, and the types of its packets
abbrev pub control_data : Origin → List Content → Data
control_data o packets =
    object (member (codes "asks") (asks_data packets)
    (member (codes "at") (natural o.at)
    (member (codes "channel") (string (channel_name o.channel))
    (member (codes "item") (string (codes "control"))
    (member (codes "link") (natural o.link)
    (member (codes "packets") (types_data packets) no_members))))))

-- `text` is how many octets of text there are
abbrev pub keepalive_data : Origin → Keepalive → Data
keepalive_data o keepalive =
    object (member (codes "at") (natural o.at)
    (member (codes "capabilities") (natural keepalive.capabilities)
    (member (codes "channel") (string (channel_name o.channel))
    (member (codes "item") (string (codes "keepalive"))
    (member (codes "link") (natural o.link)
    (member (codes "mac") (digits keepalive.mac)
    (member (codes "text") (natural keepalive.text) no_members)))))))

-- the first test that fails, and where
abbrev pub refusal_data : Origin → WireBad → Data
refusal_data o bad =
    object (member (codes "at") (natural o.at)
    (member (codes "channel") (string (channel_name o.channel))
    (member (codes "item") (string (codes "refused"))
    (member (codes "link") (natural o.link)
    (member (codes "place") (natural (place_of bad))
    (member (codes "why") (string (text_of bad)) no_members))))))

-- the object of an item, or of the test that fails
abbrev pub data_by : Origin → Result Item WireBad → Data
data_by o (Ok (items.Media media)) = media_data o media
data_by o (Ok (items.Control packets)) = control_data o packets
data_by o (Ok (items.Keepalive keepalive)) = keepalive_data o keepalive
data_by o (Err bad) = refusal_data o bad

-- ---- lines

-- an object as text, and a line feed
abbrev pub line_by : Origin → Result Item WireBad → List ℕ
line_by o found = compact_text (data_by o found) ++ 10 ∷ []

-- where and when a record's datagram came
abbrev pub origin_of : Record → Origin
origin_of r = record { at = r.us; channel = r.channel; link = r.link }

-- the line of a record: what its datagram is in the session
unfoldable pub line_of : Session → Record → List ℕ
line_of session r = line_by (origin_of r) (item_of session r.channel r.octets)

-- the lines of the records of a capture
abbrev pub lines : Session → List Record → List ℕ
lines session rs = flat_map (line_of session) rs
