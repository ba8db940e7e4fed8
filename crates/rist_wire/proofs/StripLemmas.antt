-- What is sent of a payload of octets is octets.
use Rattle.std.proofs.Common.{◌≡◌, ℕ, zero, suc, ◌<◌, Bool, true, false, cond, List, [], length, take, drop, Option, Some, None, subst, arith}
use Rattle.std.specs.Prelude.{All}
use Rattle.std.specs.List.{flat_map}
use Rattle.std.proofs.lemmas.Grind.{get_or_default_zero}
use Rattle.std.proofs.lemmas.Option.{cond_some}
use Rattle.octet_fields.proofs.OctetLemmas.{AreOctets, AreOctets-from_all, AreOctets-take, AreOctets-drop}
use Rattle.ipv4_udp.proofs.SumLemmas.{AreOctets-both}
use Rattle.ts_nulls.specs.Shape.{Shape}
use Rattle.ts_nulls.specs.Packets.{packet_len, packets_in, packets_of, is_null}
use Rattle.ts_nulls.specs.Nulls.{kept, shape_of, can_strip, stripping_by, stripping_of}

all-of : (octets : List ℕ) → AreOctets octets → All (λ octet. octet < 256) octets
all-of octets are i d inside = rw (get_or_default_zero octets i d inside) (are i)

one-kept : (b : Bool) (packet : List ℕ) → AreOctets packet → AreOctets (cond b [] packet)
one-kept true packet are i = omega arith
one-kept false packet are i = are i

all-kept : (size count : ℕ) (octets : List ℕ) → AreOctets octets → AreOctets (flat_map kept (packets_of size count octets))
all-kept size zero octets are i = omega arith
all-kept size (suc count) octets are i =
    AreOctets-both (kept (take size octets)) (flat_map kept (packets_of size count (drop size octets)))
    (one-kept (is_null (take size octets)) (take size octets) (AreOctets-take size octets are))
    (all-kept size count (drop size octets) (AreOctets-drop size octets are)) i

stripped-by : (found : Option (Bool × ℕ)) (payload sent : List ℕ) (shape : Shape) → AreOctets payload → stripping_by found payload ≡ Some (shape, sent) → AreOctets sent
stripped-by None payload sent shape are e = absurd cc
stripped-by (Some (long, count)) payload sent shape are e =
    let packets : List (List ℕ) = packets_of (packet_len long) count payload in
    let test = cond_some (can_strip packets) (shape_of long count packets, flat_map kept packets) (shape, sent) e in
    subst (λ (told : Shape × List ℕ). AreOctets told.1) test.1 (all-kept (packet_len long) count payload are)

pub stripped-are : (payload sent : List ℕ) (shape : Shape) → stripping_of payload ≡ Some (shape, sent)
    → All (λ octet. octet < 256) payload → All (λ octet. octet < 256) sent
unfolding stripping_of
stripped-are payload sent shape e are = all-of sent (stripped-by (packets_in (length payload)) payload sent shape (AreOctets-from_all payload are) e)
