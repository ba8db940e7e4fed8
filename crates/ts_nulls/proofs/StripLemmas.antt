-- A loop over the packets of a payload.
use Rattle.std.proofs.Common.{◌≡◌, ℕ, zero, suc, ◌+◌, ◌-◌, ◌*◌, ◌/◌, ◌%◌, ◌^◌, ◌<◌, ◌≤◌, Bool, true, false, cond, List, [], ◌∷◌, ◌++◌, length, take, drop, refl, sym, ap, subst, ◌∙◌, append_assoc, arith}
use Rattle.std.specs.Prelude.{◌&&◌, ◌||◌, ◌==◌, not, Option, Some, None}
use Rattle.std.specs.List.{flat_map, list_all, list_any}
use Rattle.std.proofs.lemmas.Bool.{ne_eqb}
use Rattle.ts_nulls.specs.Shape.{Shape}
use Rattle.std.proofs.lemmas.List.{append-nil, length-drop, length-take}
use Rattle.std.proofs.lemmas.Nat.{pow_pos, pow-add, mod_low}
use Rattle.std.proofs.Math.Nat.{pow-suc}
use Rattle.ts_nulls.specs.Packets.{packet_len, packets_in, packets_of, begins_packet, is_null}
use Rattle.ts_nulls.specs.Nulls.{kept, null_bits, shape_of, stripping_by, stripping_of}

-- So far of a payload, with so many packets and places of bits left: what the whole gives is what was made
-- and what the rest gives.
pub record Goes (size count left places nulls len : ℕ) (rest payload out : List ℕ) : Type 0 where
  pub whole : size * left ≡ length rest
  pub begins : list_all begins_packet (packets_of size left rest) ≡ list_all begins_packet (packets_of size count payload)
  pub bits : nulls + null_bits places (packets_of size left rest) ≡ null_bits 7 (packets_of size count payload)
  pub made : take len out ++ flat_map kept (packets_of size left rest) ≡ flat_map kept (packets_of size count payload)
  pub within : len + length rest ≤ length payload

pub Goes-begin : (size count : ℕ) (payload out : List ℕ) → size * count ≡ length payload → Goes size count count 7 0 0 payload payload out
Goes-begin size count payload out whole = record {
  whole = whole;
  begins = refl;
  bits = omega arith;
  made = refl;
  within = omega arith;
}

-- the same with the counts that stand behind them
pub Goes-at : (size count left places nulls len : ℕ) (rest payload out : List ℕ) (l p : ℕ) → Goes size count left places nulls len rest payload out
    → left ≡ l → places ≡ p → Goes size count l p nulls len rest payload out
Goes-at size count left places nulls len rest payload out l p g e f =
    subst (λ (n : ℕ). Goes size count n p nulls len rest payload out) e (subst (λ (m : ℕ). Goes size count left m nulls len rest payload out) f g)

pub Goes-room : (size count left places nulls len : ℕ) (rest payload out : List ℕ) → Goes size count (suc left) places nulls len rest payload out
    → size ≤ length rest
Goes-room size count left places nulls len rest payload out g = omega (arith, g.whole)

bit-below : (b : Bool) (places n : ℕ) → n < 2 ^ places → cond b (2 ^ places) 0 + n < 2 ^ suc places
bit-below true places n h = omega (arith, pow-suc 2 places)
bit-below false places n h = omega (arith, pow-suc 2 places)

pub null_bits-below : (places : ℕ) (packets : List (List ℕ)) → null_bits places packets < 2 ^ places
null_bits-below zero packets = omega arith
null_bits-below (suc places) [] = pow_pos (suc places)
null_bits-below (suc places) (packet ∷ packets) = bit-below (is_null packet) places (null_bits places packets) (null_bits-below places packets)

-- the bits so far are below 128
pub Goes-fits : (size count left places nulls bit len : ℕ) (rest payload out : List ℕ) → Goes size count (suc left) (suc places) nulls len rest payload out
    → bit ≡ cond (is_null (take size rest)) (2 ^ places) 0 → nulls + bit < 128
Goes-fits size count left places nulls bit len rest payload out g e =
    omega (arith, g.bits, e, null_bits-below 7 (packets_of size count payload))

pub Goes-stop : (size count left places nulls len : ℕ) (rest payload out : List ℕ) → Goes size count (suc left) places nulls len rest payload out
    → begins_packet (take size rest) ≡ false → false ≡ list_all begins_packet (packets_of size count payload)
Goes-stop size count left places nulls len rest payload out g other =
    (λ i. sym other i && list_all begins_packet (packets_of size left (drop size rest))) ∙ g.begins

pub Goes-next : (size count left places nulls bit len end : ℕ) (rest payload out new : List ℕ) → Goes size count (suc left) (suc places) nulls len rest payload out
    → begins_packet (take size rest) ≡ true → bit ≡ cond (is_null (take size rest)) (2 ^ places) 0
    → take end new ≡ take len out ++ kept (take size rest) → end ≤ len + length (take size rest)
    → Goes size count left places (nulls + bit) end (drop size rest) payload new
Goes-next size count left places nulls bit len end rest payload out new g right e f le = record {
  whole = omega (arith, g.whole, length-drop size rest);
  begins = (λ i. sym right i && list_all begins_packet (packets_of size left (drop size rest))) ∙ g.begins;
  bits = omega (arith, g.bits, e);
  made = ap (λ (x : List ℕ). x ++ flat_map kept (packets_of size left (drop size rest))) f
      ∙ append_assoc (take len out) (kept (take size rest)) (flat_map kept (packets_of size left (drop size rest))) ∙ g.made;
  within = omega (arith, g.within, le, g.whole, length-drop size rest, length-take size rest);
}

no-bits : (places : ℕ) → null_bits places [] ≡ 0
no-bits zero = refl
no-bits (suc places) = refl

-- nothing is left
pub record Ended (size count nulls len : ℕ) (payload out : List ℕ) : Type 0 where
  pub begins : true ≡ list_all begins_packet (packets_of size count payload)
  pub bits : nulls ≡ null_bits 7 (packets_of size count payload)
  pub made : take len out ≡ flat_map kept (packets_of size count payload)

pub Goes-end : (size count places nulls len : ℕ) (rest payload out : List ℕ) → Goes size count 0 places nulls len rest payload out
    → Ended size count nulls len payload out
Goes-end size count places nulls len rest payload out g = record {
  begins = g.begins;
  bits = omega (arith, g.bits, no-bits places);
  made = sym (append-nil (take len out)) ∙ g.made;
}

-- a payload is at most seven packets of 204 octets
pub payload-within : (long : Bool) (count len : ℕ) → packet_len long * count ≡ len → count ≤ 7 → len ≤ 1428
payload-within true count len e few = omega arith
payload-within false count len e few = omega arith

pub bit-shifted : (place : ℕ) → place < 7 → 64 / 2 ^ place ≡ 2 ^ (6 - place)
bit-shifted zero lt = refl
bit-shifted (suc zero) lt = refl
bit-shifted (suc (suc zero)) lt = refl
bit-shifted (suc (suc (suc zero))) lt = refl
bit-shifted (suc (suc (suc (suc zero)))) lt = refl
bit-shifted (suc (suc (suc (suc (suc zero))))) lt = refl
bit-shifted (suc (suc (suc (suc (suc (suc zero)))))) lt = refl
bit-shifted (suc (suc (suc (suc (suc (suc (suc place))))))) lt = absurd (omega (arith, lt))

-- ---- the whole payload
pub length-packets_of : (size count : ℕ) (octets : List ℕ) → length (packets_of size count octets) ≡ count
length-packets_of size zero octets = refl
length-packets_of size (suc count) octets = ap suc (length-packets_of size count (drop size octets))

bit-multiple : (b : Bool) (n k p m : ℕ) → p ≡ n + k → (cond b (2 ^ p) 0 + m * 2 ^ k) ≡ (cond b (2 ^ n) 0 + m) * 2 ^ k
bit-multiple true n k p m e = ap (λ (x : ℕ). 2 ^ x + m * 2 ^ k) e ∙ (let h = pow-add 2 n k in omega (arith, h))
bit-multiple false n k p m e = omega arith

-- the bits are a multiple of the bit of the last packet
null_bits-multiple : (packets : List (List ℕ)) (places k : ℕ) → places ≡ length packets + k → (m : ℕ) × (null_bits places packets ≡ m * 2 ^ k)
null_bits-multiple [] places k e = (0, no-bits places ∙ omega arith)
null_bits-multiple (packet ∷ packets) zero k e = absurd (omega (arith, e))
null_bits-multiple (packet ∷ packets) (suc places) k e =
    let p : places ≡ length packets + k = omega (arith, e) in
    let rest = null_bits-multiple packets places k p in (
      cond (is_null packet) (2 ^ length packets) 0 + rest.0,
      ap (λ (n : ℕ). cond (is_null packet) (2 ^ places) 0 + n) rest.1 ∙ bit-multiple (is_null packet) (length packets) k places rest.0 p,
    )

pub null_bits-clear : (packets : List (List ℕ)) (count : ℕ) → length packets ≡ count → count ≤ 7 → null_bits 7 packets % 2 ^ (7 - count) ≡ 0
null_bits-clear packets count len few =
    let m = null_bits-multiple packets 7 (7 - count) (omega (arith, len)) in
    ap (λ (n : ℕ). n % 2 ^ (7 - count)) (m.1 ∙ (let h : m.0 * 2 ^ (7 - count) ≡ m.0 * 2 ^ (7 - count) + 0 = omega arith in h)) ∙ mod_low m.0 (7 - count) 0 (pow_pos (7 - count))

any-bit : (b c : Bool) (p n : ℕ) → (n == 0) ≡ not c → (cond b (2 ^ p) 0 + n == 0) ≡ not (b || c)
any-bit true c p n h = let some = pow_pos p in ne_eqb _ _ (λ e. omega (arith, e, some))
any-bit false c p n h = ap (λ (m : ℕ). m == 0) (let z : 0 + n ≡ n = omega arith in z) ∙ h

-- the bits are 0 where no packet is null
null_bits-any : (packets : List (List ℕ)) (places : ℕ) → length packets ≤ places → (null_bits places packets == 0) ≡ not (list_any is_null packets)
null_bits-any [] places le = ap (λ (n : ℕ). n == 0) (no-bits places)
null_bits-any (packet ∷ packets) zero le = absurd (omega (arith, le))
null_bits-any (packet ∷ packets) (suc places) le =
    any-bit (is_null packet) (list_any is_null packets) places (null_bits places packets) (null_bits-any packets places (omega (arith, le)))

-- a payload whose packets are known
pub record Cut (long : Bool) (count : ℕ) (payload : List ℕ) : Type 0 where
  pub found : Some (long, count) ≡ packets_in (length payload)
  pub few : count ≤ 7

pub stripping-none : (payload : List ℕ) → None ≡ packets_in (length payload) → None ≡ stripping_of payload
unfolding stripping_of
stripping-none payload e = ap (λ (o : Option (Bool × ℕ)). stripping_by o payload) e

pub stripping-stops : (long : Bool) (count : ℕ) (payload : List ℕ) → Cut long count payload
    → false ≡ list_all begins_packet (packets_of (packet_len long) count payload) → None ≡ stripping_of payload
unfolding stripping_of
stripping-stops long count payload cut stop =
    let packets : List (List ℕ) = packets_of (packet_len long) count payload in
    (λ i. cond (stop i && list_any is_null packets) (Some (shape_of long count packets, flat_map kept packets)) None)
    ∙ ap (λ (o : Option (Bool × ℕ)). stripping_by o payload) cut.found

pub stripping-at : (long : Bool) (count : ℕ) (payload : List ℕ) → Cut long count payload
    → true ≡ list_all begins_packet (packets_of (packet_len long) count payload)
    → stripping_of payload ≡ cond (null_bits 7 (packets_of (packet_len long) count payload) == 0) None
    (Some (shape_of long count (packets_of (packet_len long) count payload), flat_map kept (packets_of (packet_len long) count payload)))
unfolding stripping_of
stripping-at long count payload cut begins =
    let packets : List (List ℕ) = packets_of (packet_len long) count payload in
    let any = null_bits-any packets 7 (omega (arith, length-packets_of (packet_len long) count payload, cut.few)) in
    ap (λ (o : Option (Bool × ℕ)). stripping_by o payload) (sym cut.found)
    ∙ (λ i. cond (sym begins i && list_any is_null packets) (Some (shape_of long count packets, flat_map kept packets)) None)
    ∙ turned (list_any is_null packets) (Some (shape_of long count packets, flat_map kept packets))
    ∙ (λ i. cond (sym any i) None (Some (shape_of long count packets, flat_map kept packets)))
  where
    turned : (b : Bool) (o : Option (Shape × List ℕ)) → cond b o None ≡ cond (not b) None o
    turned true o = refl
    turned false o = refl

pub stripping-zero : (long : Bool) (count size nulls : ℕ) (payload : List ℕ) → Cut long count payload → size ≡ packet_len long
    → true ≡ list_all begins_packet (packets_of size count payload) → nulls ≡ null_bits 7 (packets_of size count payload) → nulls ≡ 0
    → None ≡ stripping_of payload
stripping-zero long count size nulls payload cut len begins bits zero-is =
    let same = ap (λ (n : ℕ). packets_of n count payload) len in
    let none : null_bits 7 (packets_of (packet_len long) count payload) ≡ 0 = sym (ap (null_bits 7) same) ∙ sym bits ∙ zero-is in
    sym (stripping-at long count payload cut (begins ∙ ap (list_all begins_packet) same)
    ∙ (λ i. cond (none i == 0) None (Some (shape_of long count (packets_of (packet_len long) count payload), flat_map kept (packets_of (packet_len long) count payload)))))

pub stripping-some : (long : Bool) (count size nulls : ℕ) (payload made : List ℕ) → Cut long count payload → size ≡ packet_len long
    → true ≡ list_all begins_packet (packets_of size count payload) → nulls ≡ null_bits 7 (packets_of size count payload) → (nulls ≡ 0 → ⊥)
    → made ≡ flat_map kept (packets_of size count payload)
    → Some (record { units = count; long = long; nulls = nulls }, made) ≡ stripping_of payload
stripping-some long count size nulls payload made cut len begins bits some is =
    let same = ap (λ (n : ℕ). packets_of n count payload) len in
    let are : nulls ≡ null_bits 7 (packets_of (packet_len long) count payload) = bits ∙ ap (null_bits 7) same in
    let test : (null_bits 7 (packets_of (packet_len long) count payload) == 0) ≡ false = ne_eqb _ _ (λ e. some (are ∙ e)) in
    let all = is ∙ ap (flat_map kept) same in
    sym (stripping-at long count payload cut (begins ∙ ap (list_all begins_packet) same)
    ∙ (λ i. cond (test i) None (Some (shape_of long count (packets_of (packet_len long) count payload), flat_map kept (packets_of (packet_len long) count payload))))
    ∙ (λ i. Some (record { units = count; long = long; nulls = sym are i }, sym all i)))
