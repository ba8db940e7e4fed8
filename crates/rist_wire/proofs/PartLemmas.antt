-- Where the message of a datagram lies.
use Rattle.std.proofs.Common.{◌≡◌, ℕ, ◌+◌, ◌-◌, ◌≤◌, List, length, take, drop, Ok, sym, ap, ◌∙◌, length-drop, arith}
use Rattle.std.proofs.Math.Seq.{take-length}
use Rattle.std.proofs.lemmas.List.{drop-drop}
use Rattle.ipv4_udp.specs.declared.ip.Sums.TheVariants.{Test}
use Rattle.ipv4_udp.specs.declared.place.IpPlace.{IpPlace}
use Rattle.ipv4_udp.specs.Reading.{reading_of as ip_reading_of}
use Rattle.ipv4_udp.specs.Place.{IsPlaceOf}
use Rattle.rist_wire.specs.declared.item.Kind.{Kind}
use Rattle.rist_wire.specs.Tunnel.{message_with, kind_at, datagram_kind, datagram_message, full_message}

-- a slice to the end
pub slice-end : (from : ℕ) (octets : List ℕ) → take (length octets - from) (drop from octets) ≡ drop from octets
slice-end from octets = ap (λ n. take n (drop from octets)) (sym (length-drop from octets)) ∙ take-length (drop from octets)

pub part-message : (port from : ℕ) (octets : List ℕ) (kind : Kind) → Ok kind ≡ datagram_kind port (take (length octets - from) (drop from octets))
    → Ok (record { kind = kind; octets = take (length octets - (from + 4)) (drop (from + 4) octets) }) ≡ datagram_message port (drop from octets)
part-message port from octets kind e =
    let behind : take (length octets - (from + 4)) (drop (from + 4) octets) ≡ drop 4 (drop from octets) = slice-end (from + 4) octets ∙ sym (drop-drop 4 from octets) in
    let known : Ok kind ≡ datagram_kind port (drop from octets) = e ∙ ap (λ x. datagram_kind port x) (slice-end from octets) in
    ap (λ x. message_with x (Ok kind)) behind ∙ ap (λ x. message_with (drop 4 (drop from octets)) x) known

-- a full datagram from a place on
pub full-is : (port from : ℕ) (octets : List ℕ) (kind : Kind) (place : IpPlace) → IsPlaceOf Test (take (length octets - from) (drop from octets)) place
    → Ok kind ≡ kind_at port place.to_port
    → Ok (record { kind = kind; octets = take (from + place.end - (from + place.from)) (drop (from + place.from) octets) })
    ≡ full_message port (ip_reading_of Test (drop from octets))
full-is port from octets kind place is e =
    let all = slice-end from octets in
    let read = ap (ip_reading_of Test) (sym all) ∙ is.read in
    let count : from + place.end - (from + place.from) ≡ place.end - place.from = omega (arith, is.order) in
    let data-is : take (from + place.end - (from + place.from)) (drop (from + place.from) octets) ≡ is.datagram.payload =
    (λ i. take (count i) (sym (drop-drop place.from from octets) i))
    ∙ ap (λ (x : List ℕ). take (place.end - place.from) (drop place.from x)) (sym all) ∙ is.payload in
    (λ i. message_with (data-is i) ((e ∙ ap (kind_at port) is.to_port) i)) ∙ ap (full_message port) (sym read)

pub full-within : (from : ℕ) (octets : List ℕ) (place : IpPlace) → from ≤ length octets → IsPlaceOf Test (take (length octets - from) (drop from octets)) place
    → from + place.end ≤ length octets
full-within from octets place le is = omega (arith, is.within, ap length (slice-end from octets), length-drop from octets)
