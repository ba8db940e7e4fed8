-- The data of a datagram stand behind its two headers.
use Rattle.std.proofs.Common.{◌≡◌, ℕ, ◌+◌, ◌-◌, ◌≤◌, List, length, take, drop, Ok, sym, ap, ◌∙◌, arith}
use Rattle.std.proofs.lemmas.List.{length-take, length-drop, drop-drop, drop-take, take-take}
use Rattle.ipv4_udp.specs.declared.ip.Sums.{Sums}
use Rattle.ipv4_udp.specs.declared.place.IpPlace.{IpPlace}
use Rattle.ipv4_udp.specs.Ip.{Datagram}
use Rattle.ipv4_udp.specs.Reading.{address_at, header_len, total_len, udp_in, udp_len, reading_of}
use Rattle.ipv4_udp.specs.Place.{IsPlaceOf}
use Rattle.ipv4_udp.proofs.UdpLemmas.{udp-ok}
use Rattle.ipv4_udp.proofs.HeaderLemmas.{header-ok}

pub place-is : (sums : Sums) (octets : List ℕ) (datagram : Datagram) (place : IpPlace) → reading_of sums octets ≡ Ok datagram
    → place.to_port ≡ datagram.to_port → place.from ≡ header_len octets + 8 → place.end ≡ place.from + length datagram.payload
    → IsPlaceOf sums octets place
place-is sums octets datagram place read port from end =
    let header = header-ok sums octets datagram read in
    let udp : List ℕ = udp_in octets in
    let udp-good = udp-ok sums (address_at 12 octets) (address_at 16 octets) udp datagram header.1 in
    let room : ℕ = total_len octets - header_len octets in
    let behind : List ℕ = drop (header_len octets) octets in
    let size : length udp ≡ room = omega (arith, length-take room behind, length-drop (header_len octets) octets, header.0.whole) in
    let rest : ℕ = room - 8 in
    let split : room ≡ 8 + rest = omega (arith, udp-good.0.short, size) in
    let data-is : drop 8 udp ≡ take rest (drop (header_len octets + 8) octets) =
    ap (λ (n : ℕ). drop 8 (take n behind)) split ∙ drop-take 8 rest behind ∙ ap (take rest) (drop-drop 8 (header_len octets) octets) in
    let payload-is : take (udp_len udp - 8) (drop 8 udp) ≡ datagram.payload = ap (λ (d : Datagram). d.payload) udp-good.1 in
    let len : length datagram.payload ≡ udp_len udp - 8 =
    sym (ap length payload-is) ∙ (omega (arith, length-take (udp_len udp - 8) (drop 8 udp), length-drop 8 udp, udp-good.0.within)) in
    let count : place.end - place.from ≡ udp_len udp - 8 = omega (arith, end, len) in
    record {
      datagram = datagram;
      read = read;
      to_port = port;
      order = omega (arith, end);
      within = omega (arith, end, from, len, size, udp-good.0.within, udp-good.0.least, header.0.total, header.0.whole);
      payload =
          (λ i. take (count i) (drop (from i) octets))
          ∙ sym (take-take (udp_len udp - 8) rest (drop (header_len octets + 8) octets) (omega (arith, udp-good.0.within, size)))
          ∙ ap (take (udp_len udp - 8)) (sym data-is) ∙ payload-is;
    }

pub some-octets : (sums : Sums) (octets : List ℕ) (datagram : Datagram) → reading_of sums octets ≡ Ok datagram → 1 ≤ length octets
some-octets sums octets datagram read = let header = header-ok sums octets datagram read in omega (arith, header.0.fixed)
