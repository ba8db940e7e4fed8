use Rattle.std.proofs.Common.{ap, ◌+◌, ℕ, List, length}
use Rattle.ipv4_udp.proofs.PlaceLemmas.{place-is, some-octets}
use Rattle.ipv4_udp.proofs.place.place_of.Goals as goal

pub returns : goal.returns
returns c =
    let read = c.requires.read in record {
      place = place-is c.args.sums c.args.octets.now c.args.ip.now _ read c.to_port.ensures.value
          (c.headers_len-from.ensures.value (some-octets c.args.sums c.args.octets.now c.args.ip.now read))
          (ap (λ (l : List ℕ). c.headers_len-from.result + length l) c.payload.ensures.value);
    }
