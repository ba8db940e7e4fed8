-- How many packets a payload had follows from those that are left and from the bits.
use Rattle.std.proofs.Common.{◌≡◌, ℕ, zero, suc, ◌+◌, ◌-◌, ◌*◌, ◌/◌, ◌%◌, ◌^◌, ◌<◌, ◌≤◌, Bool, true, false, cond, List, ◌∷◌, length, count_ones, Option, Some, None, Ok, refl, sym, ap, ◌∙◌, arith}
use Rattle.std.specs.Prelude.{◌==◌, ◌||◌, ◌&&◌, not, is_some, is_ok, IfSome, nat_lt, option_map}
use Rattle.std.specs.Int.{w16, bit_at, from_bool, to_be_bytes}
use Rattle.std.specs.Int.Count.{ones-ones}
use Rattle.std.proofs.lemmas.Bool.{eq-eqb, ne_eqb, le-ltb, lt-ltb}
use Rattle.std.proofs.lemmas.Nat.{ones_cat, ones_le_self, shr_split, pow_pos}
use Rattle.octet_fields.proofs.FlagLemmas.{from_bool-most, flag-is, bit-is, high_flag-says}
use Rattle.ts_nulls.specs.Packets.{packet_len}
use Rattle.ts_nulls.specs.Shape.{Shape, IsShape}
use Rattle.ts_nulls.specs.Nulls.{null_flags, kept_count, flags_of, stripping_of}
use Rattle.ts_nulls.proofs.LawLemmas.{restoring-stripped, told-stripped}
use Rattle.ts_nulls.proofs.RestoreLemmas.{restoring-whole}
use Rattle.rist_ext.specs.Extension.{upper_of}
use Rattle.rist_ext.specs.Reading.{units_in, has_strip, word_in}
use Rattle.rist_ext.specs.Counted.{nulls_by, shape_by, shape_left, word_with, uncounted, uncounted_last, counted_reading_of}
use Rattle.rist_ext.proofs.WordLemmas.{upper-spelled}

-- ---- set bits
small : (r : ℕ) → r < 2 → count_ones r ≡ r
small zero lt = omega (arith, ones_le_self 0)
small (suc zero) lt = ones-ones 1
small (suc (suc r)) lt = absurd (omega (arith, lt))

one-more : (n : ℕ) → count_ones n ≡ count_ones (n / 2) + n % 2
one-more n =
    let cut : n ≡ n / 2 * 2 ^ 1 + n % 2 = omega arith in
    ap count_ones cut ∙ ones_cat 1 (n / 2) (n % 2) (omega arith) ∙ ap (λ r. count_ones (n / 2) + r) (small (n % 2) (omega arith))

-- those of seven bits
seven : (n : ℕ) → n < 128 → count_ones n
    ≡ bit_at n 6 + bit_at n 5 + bit_at n 4 + bit_at n 3 + bit_at n 2 + bit_at n 1 + bit_at n 0
seven n lt =
    let none : count_ones (n / 2 / 2 / 2 / 2 / 2 / 2 / 2) ≡ 0 =
    ap count_ones (let h : n / 2 / 2 / 2 / 2 / 2 / 2 / 2 ≡ 0 = omega (arith, lt) in h) ∙ small 0 (omega arith) in
    omega (
      arith,
      none,
      one-more n,
      one-more (n / 2),
      one-more (n / 2 / 2),
      one-more (n / 2 / 2 / 2),
      one-more (n / 2 / 2 / 2 / 2),
      one-more (n / 2 / 2 / 2 / 2 / 2),
      one-more (n / 2 / 2 / 2 / 2 / 2 / 2),
    )

-- those of the first places
high_ones : ℕ → ℕ → ℕ → ℕ
high_ones zero count bits = 0
high_ones (suc places) zero bits = 0
high_ones (suc places) (suc count) bits = bit_at bits places + high_ones places count bits

next : (flag : Bool) (flags : List Bool) → kept_count (flag ∷ flags) ≡ cond flag 0 1 + kept_count flags
next true flags = omega arith
next false flags = refl

one-of : (flag : Bool) (bit : ℕ) → bit ≡ from_bool flag → cond flag 0 1 + bit ≡ 1
one-of true bit e = omega (arith, e)
one-of false bit e = omega (arith, e)

-- each packet is kept, or its bit is set
each : (places count bits : ℕ) → count ≤ places → kept_count (null_flags places count bits) + high_ones places count bits ≡ count
unfolding high_ones
each zero zero bits le = refl
each zero (suc count) bits le = absurd (omega (arith, le))
each (suc places) zero bits le = refl
each (suc places) (suc count) bits le =
    omega (
      arith,
      next (bit_at bits places == 1) (null_flags places count bits),
      one-of (bit_at bits places == 1) (bit_at bits places) (bit-is bits places _ refl),
      each places count bits (omega (arith, le)),
    )

counts : (units bits : ℕ) → IsShape units bits → kept_count (null_flags 7 units bits) + count_ones bits ≡ units
unfolding high_ones
counts zero bits s = absurd (omega (arith, s.some))
counts (suc zero) bits s = omega (arith, each 7 1 bits (omega arith), seven bits s.below, s.below, s.clear)
counts (suc (suc zero)) bits s = omega (arith, each 7 2 bits (omega arith), seven bits s.below, s.below, s.clear)
counts (suc (suc (suc zero))) bits s = omega (arith, each 7 3 bits (omega arith), seven bits s.below, s.below, s.clear)
counts (suc (suc (suc (suc zero)))) bits s = omega (arith, each 7 4 bits (omega arith), seven bits s.below, s.below, s.clear)
counts (suc (suc (suc (suc (suc zero))))) bits s = omega (arith, each 7 5 bits (omega arith), seven bits s.below, s.below, s.clear)
counts (suc (suc (suc (suc (suc (suc zero)))))) bits s = omega (arith, each 7 6 bits (omega arith), seven bits s.below, s.below, s.clear)
counts (suc (suc (suc (suc (suc (suc (suc zero))))))) bits s = omega (arith, each 7 7 bits (omega arith), seven bits s.below, s.below, s.clear)
counts (suc (suc (suc (suc (suc (suc (suc (suc units)))))))) bits s = absurd (omega (arith, s.few))

-- ---- packets that are left
packets-left : (long : Bool) (kept : ℕ) → (packet_len long * kept % packet_len long ≡ 0) × (packet_len long * kept / packet_len long ≡ kept)
packets-left true kept = (omega arith, omega arith)
packets-left false kept = (omega arith, omega arith)

-- a payload whose packets are counted so is read by its shape
shape-of : (shape : Shape) (bits left : ℕ) → IsShape shape.units shape.nulls → count_ones bits ≡ count_ones shape.nulls
    → left ≡ packet_len shape.long * kept_count (flags_of shape) → nulls_by shape.units bits ≡ Some shape.nulls
    → shape_left shape.long bits left ≡ Some shape
shape-of shape bits left s same len by =
    let parts = packets-left shape.long (kept_count (flags_of shape)) in
    let whole : left % packet_len shape.long ≡ 0 = ap (λ (n : ℕ). n % packet_len shape.long) len ∙ parts.0 in
    let units : left / packet_len shape.long + count_ones bits ≡ shape.units =
    (λ i. (ap (λ (n : ℕ). n / packet_len shape.long) len ∙ parts.1) i + same i) ∙ counts shape.units shape.nulls s in
    (λ i. cond (not (eq-eqb (left % packet_len shape.long) 0 whole i)) None (shape_by shape.long (units i) bits))
    ∙ (λ i. cond (ne_eqb shape.units 0 (λ e. omega (arith, e, s.some)) i || le-ltb 7 shape.units s.few i) None (option_map (λ nulls. record { units = shape.units; long = shape.long; nulls = nulls }) (by i)))

-- ---- the octets
first-says : (wide : Bool) → (has_strip (128 + 64 * from_bool wide) ≡ true) × (units_in (128 + 64 * from_bool wide) ≡ 0)
    × ((bit_at (128 + 64 * from_bool wide) 6 == 1) ≡ wide)
first-says wide =
    let most = from_bool-most wide in
    (flag-is _ true (omega (arith, most)), omega (arith, most), flag-is _ wide (omega (arith, most)))

uncounted-read : (shape : Shape) (upper : Option ℕ) (bits left : ℕ) → bits < 128 → IfSome upper (λ u. u < 2 ^ 16)
    → shape_left shape.long bits left ≡ Some shape
    → counted_reading_of left 0x5249 ((128 + 64 * from_bool (is_some upper)) ∷ (128 * from_bool shape.long + bits) ∷ to_be_bytes w16 (upper_of upper 0))
    ≡ Ok (record { strip = Some shape; upper = upper })
unfolding counted_reading_of
uncounted-read shape upper bits left below fits by =
    let first : ℕ = 128 + 64 * from_bool (is_some upper) in
    let octets : List ℕ = first ∷ (128 * from_bool shape.long + bits) ∷ to_be_bytes w16 (upper_of upper 0) in
    let says = first-says (is_some upper) in
    let low = high_flag-says shape.long bits below in
    let up = upper-spelled upper first 0 says.2 fits in
    (λ i. cond (says.0 i && eq-eqb (units_in first) 0 says.1 i) (word_with octets (shape_left (low.0 i) (low.1 i) left)) (Ok (word_in octets)))
    ∙ ap (word_with octets) by
    ∙ (λ i. Ok (record { strip = Some shape; upper = up i }))

pub size-first : (payload kept : List ℕ) (shape : Shape) (upper : Option ℕ) → stripping_of payload ≡ Some (shape, kept) → IfSome upper (λ u. u < 2 ^ 16)
    → counted_reading_of (length kept) 0x5249 (uncounted shape upper) ≡ Ok (record { strip = Some shape; upper = upper })
size-first payload kept shape upper e fits =
    let s = (told-stripped payload kept shape e).0 in
    let len = restoring-whole shape kept (ap is_ok (restoring-stripped payload kept shape e)) in
    let by : nulls_by shape.units shape.nulls ≡ Some shape.nulls =
    λ i. cond (eq-eqb (shape.nulls % 2 ^ (7 - shape.units)) 0 s.clear i) (Some shape.nulls)
    (cond (nat_lt shape.nulls (2 ^ shape.units)) (Some (shape.nulls * 2 ^ (7 - shape.units))) None) in
    uncounted-read shape upper shape.nulls (length kept) s.below fits (shape-of shape shape.nulls (length kept) s refl len by)

-- bits in the last places
last-below : (units nulls : ℕ) → 1 ≤ units → units ≤ 7 → nulls < 128 → (nulls / 2 ^ (7 - units) < 2 ^ units) × (nulls / 2 ^ (7 - units) < 128)
last-below zero nulls some few below = absurd (omega (arith, some))
last-below (suc zero) nulls some few below = (omega (arith, below), omega (arith, below))
last-below (suc (suc zero)) nulls some few below = (omega (arith, below), omega (arith, below))
last-below (suc (suc (suc zero))) nulls some few below = (omega (arith, below), omega (arith, below))
last-below (suc (suc (suc (suc zero)))) nulls some few below = (omega (arith, below), omega (arith, below))
last-below (suc (suc (suc (suc (suc zero))))) nulls some few below = (omega (arith, below), omega (arith, below))
last-below (suc (suc (suc (suc (suc (suc zero)))))) nulls some few below = (omega (arith, below), omega (arith, below))
last-below (suc (suc (suc (suc (suc (suc (suc zero))))))) nulls some few below = (omega (arith, below), omega (arith, below))
last-below (suc (suc (suc (suc (suc (suc (suc (suc units)))))))) nulls some few below = absurd (omega (arith, few))

pub size-last : (payload kept : List ℕ) (shape : Shape) (upper : Option ℕ) → stripping_of payload ≡ Some (shape, kept) → IfSome upper (λ u. u < 2 ^ 16)
    → (shape.nulls / 2 ^ (7 - shape.units) % 2 ^ (7 - shape.units) ≡ 0 → ⊥)
    → counted_reading_of (length kept) 0x5249 (uncounted_last shape upper) ≡ Ok (record { strip = Some shape; upper = upper })
size-last payload kept shape upper e fits other =
    let s = (told-stripped payload kept shape e).0 in
    let len = restoring-whole shape kept (ap is_ok (restoring-stripped payload kept shape e)) in
    let places : ℕ = 7 - shape.units in
    let bits : ℕ = shape.nulls / 2 ^ places in
    let below = last-below shape.units shape.nulls s.some s.few s.below in
    let back : bits * 2 ^ places ≡ shape.nulls = omega (arith, shr_split shape.nulls places, s.clear) in
    let same : count_ones bits ≡ count_ones shape.nulls =
    sym (ap count_ones (let h : shape.nulls ≡ bits * 2 ^ places + 0 = omega (arith, back) in h) ∙ ones_cat places bits 0 (pow_pos places)
    ∙ (let h : count_ones bits + count_ones 0 ≡ count_ones bits = omega (arith, small 0 (omega arith)) in h)) in
    let by : nulls_by shape.units bits ≡ Some shape.nulls =
    (λ i. cond (ne_eqb (bits % 2 ^ places) 0 other i) (Some bits) (cond (lt-ltb bits (2 ^ shape.units) below.0 i) (Some (bits * 2 ^ places)) None))
    ∙ ap (λ (n : ℕ). Some n) back in
    uncounted-read shape upper bits (length kept) below.1 fits (shape-of shape bits (length kept) s same len by)
