-- What was stripped is restored, packet by packet.
use Rattle.std.proofs.Common.{◌≡◌, ℕ, zero, suc, ◌+◌, ◌-◌, ◌*◌, ◌/◌, ◌%◌, ◌^◌, ◌<◌, ◌≤◌, Bool, true, false, cond, List, [], ◌∷◌, ◌++◌, length, take, drop, map, refl, sym, ap, subst, ◌∙◌, arith}
use Rattle.std.specs.Prelude.{◌==◌, ◌&&◌, nat_lt, Option, Some, None, Ok}
use Rattle.std.specs.List.{flat_map, list_all, list_any, AllByRecursion}
use Rattle.std.specs.Int.{bit_at}
use Rattle.std.proofs.lemmas.Bool.{eq-eqb, ne_eqb, eqb-true, ltb-true, and_parts, or_parts}
use Rattle.std.proofs.lemmas.List.{take_at, drop_at, length-append, length-take, length-drop}
use Rattle.std.proofs.lemmas.Nat.{div-add-mod'}
use Rattle.std.proofs.lemmas.Nat.Bits.{bit_at_cat_high}
use Rattle.std.proofs.lemmas.Option.{cond_some, some_pair_parts}
use Rattle.std.proofs.Math.Nat.{pow-suc}
use Rattle.std.proofs.Math.ListN.{take-append-drop}
use Rattle.ts_nulls.specs.Shape.{Shape, IsShape}
use Rattle.ts_nulls.specs.Packets.{packet_len, are_whole, packets_in, packets_of, begins_packet, is_null, null_packet}
use Rattle.ts_nulls.specs.Nulls.{kept, blanked, null_bits, null_flags, shape_of, can_strip, stripping_by, stripping_of, blanking_by, blanking_of, restored, kept_count, restoring_of}
use Rattle.ts_nulls.proofs.StripLemmas.{null_bits-below, null_bits-clear, length-packets_of}
use Rattle.ts_nulls.proofs.RestoreLemmas.{restoring-good}

-- ---- the payload's packets

whole-at : (len size : ℕ) → 0 < size → are_whole len size ≡ true → (size * (len / size) ≡ len) × (1 ≤ len / size) × (len / size ≤ 7)
whole-at len size some whole =
    let one = and_parts (len % size == 0) (nat_lt 0 (len / size) && nat_lt (len / size) 8) whole in
    let two = and_parts (nat_lt 0 (len / size)) (nat_lt (len / size) 8) one.1 in
    (omega (arith, div-add-mod' len size, eqb-true (len % size) 0 one.0), omega (arith, ltb-true 0 (len / size) two.0), omega (arith, ltb-true (len / size) 8 two.1))

record IsCut (long : Bool) (count len : ℕ) : Type 0 where
  whole : packet_len long * count ≡ len
  some : 1 ≤ count
  few : count ≤ 7

abbrev found-as : Bool → ℕ → Option (Bool × ℕ)
found-as long count = Some (long, count)

cut-at : (a b : Bool) (x y len : ℕ) (long : Bool) (count : ℕ) → (a ≡ true → (188 * x ≡ len) × (1 ≤ x) × (x ≤ 7)) → (b ≡ true → (204 * y ≡ len) × (1 ≤ y) × (y ≤ 7))
    → cond a (found-as false x) (cond b (found-as true y) None) ≡ found-as long count → IsCut long count len
cut-at true b x y len long count first second e =
    let same = some_pair_parts false long x count e in
    let part = first refl in
    record { whole = (λ i. packet_len (sym same.0 i) * sym same.1 i) ∙ part.0; some = omega (arith, same.1, part.1); few = omega (arith, same.1, part.2) }
cut-at false true x y len long count first second e =
    let same = some_pair_parts true long y count e in
    let part = second refl in
    record { whole = (λ i. packet_len (sym same.0 i) * sym same.1 i) ∙ part.0; some = omega (arith, same.1, part.1); few = omega (arith, same.1, part.2) }
cut-at false false x y len long count first second e = absurd cc

cut-in : (len : ℕ) (long : Bool) (count : ℕ) → packets_in len ≡ Some (long, count) → IsCut long count len
cut-in len long count e =
    cut-at (are_whole len 188) (are_whole len 204) (len / 188) (len / 204) len long count (whole-at len 188 (omega arith)) (whole-at len 204 (omega arith)) e

-- each packet has the size
lens : (size count : ℕ) (octets : List ℕ) → size * count ≤ length octets → AllByRecursion (λ p. length p ≡ size) (packets_of size count octets)
lens size zero octets le = tt
lens size (suc count) octets le =
    (omega (arith, length-take size octets, le), lens size count (drop size octets) (omega (arith, length-drop size octets, le)))

-- ---- the flags

top-bit : (b : Bool) (a p n : ℕ) → a * 2 ^ suc p + (cond b (2 ^ p) 0 + n) ≡ (2 * a + cond b 1 0) * 2 ^ p + n
top-bit true a p n = omega (arith, ap (λ (x : ℕ). a * x) (pow-suc 2 p))
top-bit false a p n = omega (arith, ap (λ (x : ℕ). a * x) (pow-suc 2 p))

top-flag : (b : Bool) (a : ℕ) → (bit_at (2 * a + cond b 1 0) 0 == 1) ≡ b
top-flag true a = eq-eqb _ _ (omega arith)
top-flag false a = ne_eqb _ _ (λ e. omega (arith, e))

flags-bits : (packets : List (List ℕ)) (places a : ℕ) → length packets ≤ places
    → null_flags places (length packets) (a * 2 ^ places + null_bits places packets) ≡ map is_null packets
flags-bits [] zero a le = refl
flags-bits [] (suc places) a le = refl
flags-bits (packet ∷ packets) zero a le = absurd (omega (arith, le))
flags-bits (packet ∷ packets) (suc places) a le =
    let b : Bool = is_null packet in
    let high : ℕ = 2 * a + cond b 1 0 in
    let low : ℕ = null_bits places packets in
    let same = top-bit b a places low in
    let zero-is : places - places ≡ 0 = omega arith in
    let flag : (bit_at (high * 2 ^ places + low) places == 1) ≡ b =
    ap (λ (n : ℕ). n == 1) (bit_at_cat_high high places low places (null_bits-below places packets) (omega arith) ∙ ap (bit_at high) zero-is) ∙ top-flag b a in
    ap (λ (n : ℕ). (bit_at n places == 1) ∷ null_flags places (length packets) n) same ∙ (λ i. flag i ∷ flags-bits packets places high (omega (arith, le)) i)

-- ---- the round trip

next-made : (b : Bool) (size : ℕ) (null packet rest : List ℕ) → length packet ≡ size
    → cond b null (take size (cond b [] packet ++ rest)) ≡ cond b null packet
next-made true size null packet rest len = refl
next-made false size null packet rest len = take_at packet rest size len

next-rest : (b : Bool) (size : ℕ) (packet rest : List ℕ) → length packet ≡ size
    → cond b (cond b [] packet ++ rest) (drop size (cond b [] packet ++ rest)) ≡ rest
next-rest true size packet rest len = refl
next-rest false size packet rest len = drop_at packet rest size len

one-restored : (long b : Bool) (flags : List Bool) (octets : List ℕ)
    → restored long (b ∷ flags) octets ≡ cond b (null_packet long) (take (packet_len long) octets) ++ restored long flags (cond b octets (drop (packet_len long) octets))
one-restored long true flags octets = refl
one-restored long false flags octets = refl

round-trip : (long : Bool) (packets : List (List ℕ)) → AllByRecursion (λ p. length p ≡ packet_len long) packets
    → restored long (map is_null packets) (flat_map kept packets) ≡ flat_map (blanked long) packets
round-trip long [] are = refl
round-trip long (packet ∷ packets) are =
    let rest : List ℕ = flat_map kept packets in
    one-restored long (is_null packet) (map is_null packets) (kept packet ++ rest)
    ∙ (λ i. next-made (is_null packet) (packet_len long) (null_packet long) packet rest are.0 i ++ restored long (map is_null packets) (next-rest (is_null packet) (packet_len long) packet rest are.0 i))
    ∙ ap (λ (x : List ℕ). blanked long packet ++ x) (round-trip long packets are.1)

one-kept : (b : Bool) (size n : ℕ) (packet : List ℕ) (flags : List Bool) → length packet ≡ size → length (cond b [] packet) + size * kept_count flags ≡ size * kept_count (b ∷ flags)
one-kept true size n packet flags len = omega arith
one-kept false size n packet flags len = omega (arith, len)

kept-len : (size : ℕ) (packets : List (List ℕ)) → AllByRecursion (λ p. length p ≡ size) packets
    → length (flat_map kept packets) ≡ size * kept_count (map is_null packets)
kept-len size [] are = omega arith
kept-len size (packet ∷ packets) are =
    length-append (kept packet) (flat_map kept packets) ∙ ap (λ (n : ℕ). length (kept packet) + n) (kept-len size packets are.1)
    ∙ one-kept (is_null packet) size 0 packet (map is_null packets) are.0

by-packets : (found : Option (Bool × ℕ)) (payload sent : List ℕ) (shape : Shape) → packets_in (length payload) ≡ found
    → stripping_by found payload ≡ Some (shape, sent) → restoring_of shape sent ≡ Ok (blanking_by found payload)
by-packets None payload sent shape f e = absurd cc
by-packets (Some (long, count)) payload sent shape f e =
    let cut = cut-in (length payload) long count f in
    let packets : List (List ℕ) = packets_of (packet_len long) count payload in
    let are = lens (packet_len long) count payload (omega (arith, cut.whole)) in
    let len = length-packets_of (packet_len long) count payload in
    let test = cond_some (can_strip packets) (shape_of long count packets, flat_map kept packets) (shape, sent) e in
    let begins = (and_parts (list_all begins_packet packets) (list_any is_null packets) test.0).0 in
    let bits : 0 * 2 ^ 7 + null_bits 7 packets ≡ null_bits 7 packets = omega arith in
    let flags : null_flags 7 count (null_bits 7 packets) ≡ map is_null packets =
    (λ i. null_flags 7 (sym len i) (sym bits i)) ∙ flags-bits packets 7 0 (omega (arith, len, cut.few)) in
    let good = restoring-good count (null_bits 7 packets) (packet_len long) (kept_count (null_flags 7 count (null_bits 7 packets))) long (flat_map kept packets) (flat_map (blanked long) packets)
    refl refl (kept-len (packet_len long) packets are ∙ ap (λ (l : List Bool). packet_len long * kept_count l) (sym flags))
    (sym (round-trip long packets are) ∙ ap (λ (l : List Bool). restored long l (flat_map kept packets)) (sym flags)) in
    (λ i. restoring_of (sym test.1 i).0 (sym test.1 i).1) ∙ sym good ∙ (λ i. Ok (cond (sym begins i) (flat_map (blanked long) packets) payload))

pub restoring-stripped : (payload sent : List ℕ) (shape : Shape) → stripping_of payload ≡ Some (shape, sent) → restoring_of shape sent ≡ Ok (blanking_of payload)
unfolding stripping_of blanking_of
restoring-stripped payload sent shape e = by-packets (packets_in (length payload)) payload sent shape refl e

-- ---- what is told of a payload, and what stays as it is

part-within : (b : Bool) (packet : List ℕ) (size : ℕ) → length packet ≡ size → length (cond b [] packet) ≤ size
part-within true packet size long = omega arith
part-within false packet size long = omega (arith, long)

kept-within : (size : ℕ) (packets : List (List ℕ)) → AllByRecursion (λ p. length p ≡ size) packets
    → length (flat_map kept packets) ≤ size * length packets
kept-within size [] are = omega arith
kept-within size (packet ∷ packets) are =
    omega (arith, length-append (kept packet) (flat_map kept packets), part-within (is_null packet) packet size are.0, kept-within size packets are.1)

told-by : (found : Option (Bool × ℕ)) (payload sent : List ℕ) (shape : Shape) → packets_in (length payload) ≡ found
    → stripping_by found payload ≡ Some (shape, sent) → IsShape shape.units shape.nulls × (length sent ≤ length payload)
told-by None payload sent shape f e = absurd cc
told-by (Some (long, count)) payload sent shape f e =
    let cut = cut-in (length payload) long count f in
    let packets : List (List ℕ) = packets_of (packet_len long) count payload in
    let are = lens (packet_len long) count payload (omega (arith, cut.whole)) in
    let size = length-packets_of (packet_len long) count payload in
    let test = cond_some (can_strip packets) (shape_of long count packets, flat_map kept packets) (shape, sent) e in
    let legal : IsShape count (null_bits 7 packets) = record {
      some = cut.some;
      few = cut.few;
      below = null_bits-below 7 packets;
      clear = null_bits-clear packets count size cut.few;
    } in
    let all : packet_len long * length packets ≡ length payload = ap (λ (n : ℕ). packet_len long * n) size ∙ cut.whole in
    let less : length (flat_map kept packets) ≤ length payload = omega (arith, kept-within (packet_len long) packets are, all) in
    subst (λ (told : Shape × List ℕ). IsShape told.0.units told.0.nulls × (length told.1 ≤ length payload)) test.1 (legal, less)

pub told-stripped : (payload sent : List ℕ) (shape : Shape) → stripping_of payload ≡ Some (shape, sent)
    → IsShape shape.units shape.nulls × (length sent ≤ length payload)
unfolding stripping_of
told-stripped payload sent shape e = told-by (packets_in (length payload)) payload sent shape refl e

none-left : (octets : List ℕ) → length octets ≡ 0 → [] ≡ octets
none-left [] none = refl
none-left (x ∷ octets) none = absurd (omega (arith, none))

unblanked : (long : Bool) (size count : ℕ) (octets : List ℕ) → size * count ≡ length octets → list_any is_null (packets_of size count octets) ≡ false
    → flat_map (blanked long) (packets_of size count octets) ≡ octets
unblanked long size zero octets whole none = none-left octets (omega (arith, whole))
unblanked long size (suc count) octets whole none =
    let parts = or_parts (is_null (take size octets)) (list_any is_null (packets_of size count (drop size octets))) none in
    let rest : size * count ≡ length (drop size octets) = omega (arith, whole, length-drop size octets) in
    (λ i. cond (parts.0 i) (null_packet long) (take size octets) ++ unblanked long size count (drop size octets) rest parts.1 i)
    ∙ take-append-drop size octets

stays-if : (all any : Bool) (told : Shape × List ℕ) (made payload : List ℕ) → cond (all && any) (Some told) None ≡ None
    → (any ≡ false → made ≡ payload) → cond all made payload ≡ payload
stays-if true true told made payload none same = absurd cc
stays-if true false told made payload none same = same refl
stays-if false any told made payload none same = refl

stays-by : (found : Option (Bool × ℕ)) (payload : List ℕ) → packets_in (length payload) ≡ found → stripping_by found payload ≡ None
    → blanking_by found payload ≡ payload
stays-by None payload f e = refl
stays-by (Some (long, count)) payload f e =
    let packets : List (List ℕ) = packets_of (packet_len long) count payload in
    stays-if (list_all begins_packet packets) (list_any is_null packets) (shape_of long count packets, flat_map kept packets) (flat_map (blanked long) packets) payload
    e (unblanked long (packet_len long) count payload (cut-in (length payload) long count f).whole)

pub stays-unstripped : (payload : List ℕ) → stripping_of payload ≡ None → blanking_of payload ≡ payload
unfolding stripping_of blanking_of
stays-unstripped payload e = stays-by (packets_in (length payload)) payload refl e
