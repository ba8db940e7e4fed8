-- What became of what was sent, in numbers.
use Rattle.std.specs.Prelude.{ℕ, ◌+◌, List, [], ◌∷◌, length, Bool, false, not, ◌&&◌, ◌==◌, Option, None, Some}
use Rattle.std.specs.Prelude.{is_some, unwrap_or, Result, Ok, Err}
use Rattle.std.specs.List.{list_any, sum_by, count_by, range_with_len}
use Rattle.outside_net.specs.Links.{Datagram}
use Rattle.rist_wire.specs.declared.session.Session.{Session}
use Rattle.rist_wire.specs.declared.bad.WireBad.{WireBad}
use Rattle.rist_wire.specs.declared.item.Item.{Item}
use Rattle.rist_wire.specs.declared.item.Item.TheVariants as items
use Rattle.rist_wire.specs.Item.{item_of}
use Rattle.sender_rules.specs.declared.send_bad.SendBad.{SendBad}
use Rattle.sender_rules.specs.declared.send_bad.SendBad.TheVariants.{Spent, LinksDown}
use Rattle.rist_sender.specs.History.{Event, Called, Sent, Wrote, Renewed}
use Rattle.world_rules.specs.World.{Setup, Course, Carried, links_of, forward_on, forward_at}

-- ---- media

-- of media, whether it says that it is a retransmission; nothing of what is no media
abbrev pub media_read : Result Item WireBad → Option Bool
media_read (Ok (items.Media media)) = Some media.again
media_read (Ok (items.Control packets)) = None
media_read (Ok (items.Keepalive keepalive)) = None
media_read (Err bad) = None

-- the same of a datagram, as it reads where it is opened in a session
abbrev pub media_of : Session → Datagram → Option Bool
media_of session d = media_read (item_of session d.channel d.octets)

-- and of one that is there
abbrev pub media_if : Session → Option Datagram → Option Bool
media_if session None = None
media_if session (Some d) = media_of session d

-- ---- what the sender did

-- how many payloads were sent, over all flows
abbrev pub sent_count : List Event → ℕ
sent_count [] = 0
sent_count (Called micros ∷ before) = sent_count before
sent_count (Sent packet ∷ before) = sent_count before + 1
sent_count (Wrote write ∷ before) = sent_count before
sent_count (Renewed flow first ∷ before) = sent_count before

-- how many payloads a call of the sender with this answer sent
abbrev pub sent_by : Result Unit SendBad → ℕ
sent_by (Ok done) = 1
sent_by (Err Spent) = 0
sent_by (Err LinksDown) = 1

-- at how many places of all links that a sender has put datagrams on a test holds
abbrev pub place_count : Setup → Course → (ℕ → ℕ → Bool) → ℕ
place_count setup course test =
    sum_by (λ link. count_by (test link) (range_with_len 0 (length (forward_on setup course link))))
    (range_with_len 0 (links_of setup))

-- the datagram that the sender put at a place of a link is a retransmission
abbrev pub is_resent : Setup → Course → ℕ → ℕ → Bool
is_resent setup course link place = unwrap_or (media_if setup.session (forward_at setup course link place)) false

-- how many retransmissions it put
abbrev pub resent_count : Setup → Course → ℕ
resent_count setup course = place_count setup course (is_resent setup course)

-- ---- what came to the receiver

-- how often media came to the receiver: what comes again is counted again
abbrev pub carried_count : Setup → List Carried → ℕ
carried_count setup carried = count_by (λ (c : Carried). is_some (media_of setup.session c.datagram)) carried

-- the datagram at a place of a link came to the receiver, once or more often
abbrev pub was_carried : List Carried → ℕ → ℕ → Bool
was_carried carried link place = list_any (λ (c : Carried). c.link == link && c.place == place) carried

-- the datagram that the sender put at a place of a link is media, and never came to the receiver
abbrev pub is_lost : Setup → Course → ℕ → ℕ → Bool
is_lost setup course link place =
    is_some (media_if setup.session (forward_at setup course link place)) && not (was_carried course.carried link place)

-- how much media never came to the receiver
abbrev pub lost_count : Setup → Course → ℕ
lost_count setup course = place_count setup course (is_lost setup course)
