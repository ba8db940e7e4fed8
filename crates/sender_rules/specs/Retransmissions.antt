-- Which packets are sent again for the sequence numbers that a compound asks for (RFC 4585, section 6.2.1, and VSF
-- TR-06-1 for requests; the bounds are this profile's).
use Rattle.std.specs.Prelude.{ℕ, List, [], ◌∷◌, take, not, ◌==◌}
use Rattle.std.specs.List.{filter, filter_map}
use Rattle.link_channels.specs.Intervals.{has_passed_since}
use Rattle.seq_unwrap.specs.declared.width.Width.{Width}
use Rattle.sender_rules.specs.declared.bounds.TheConstants.{MAX_LOOKED_AT, MAX_SENT_AGAIN}
use Rattle.sender_rules.specs.Sendings.{Packet, Sending, last_sent_again}
use Rattle.sender_rules.specs.Stored.{stored_packets, packet_for}

-- a sequence number that is asked for: how many bits it has, and these bits
pub record AskedNumber : Type 0 where
  pub width : Width
  pub word : ℕ

-- packets each once, at its first place
abbrev pub each_once : List Packet → List Packet
each_once [] = []
each_once (packet ∷ packets) = packet ∷ filter (λ other. not (other.number == packet.number)) (each_once packets)

-- the stored packets that are asked for, each once, in the order of the requests
abbrev pub requested_packets : ℕ → List Sending → List AskedNumber → List Packet
requested_packets size history asked =
    each_once (filter_map (λ n. packet_for (stored_packets size history) n.width n.word) (take MAX_LOOKED_AT asked))

-- the packets that are sent again at a tick: those requested, but for those that were sent again within the hold time
abbrev pub packets_to_send_again : ℕ → ℕ → List Sending → ℕ → List AskedNumber → List Packet
packets_to_send_again size hold history tick asked =
    take MAX_SENT_AGAIN (filter (λ packet. has_passed_since hold tick (last_sent_again history packet.number))
    (requested_packets size history asked))
