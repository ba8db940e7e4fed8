-- Where the data of a datagram lie.
use Rattle.std.specs.Prelude.{◌≡◌, ℕ, ◌-◌, ◌≤◌, List, length, take, drop, Ok}
use Rattle.ipv4_udp.specs.declared.ip.Sums.{Sums}
use Rattle.ipv4_udp.specs.declared.place.IpPlace.{IpPlace}
use Rattle.ipv4_udp.specs.Ip.{Datagram}
use Rattle.ipv4_udp.specs.Reading.{reading_of}

-- a datagram is read of the octets, and its data stand between these places
pub record IsPlaceOf (sums : Sums) (octets : List ℕ) (place : IpPlace) : Type 0 where
  pub datagram : Datagram
  pub read : reading_of sums octets ≡ Ok datagram
  pub to_port : place.to_port ≡ datagram.to_port
  pub order : place.from ≤ place.end
  pub within : place.end ≤ length octets
  pub payload : take (place.end - place.from) (drop place.from octets) ≡ datagram.payload
