-- A round row by row is the round column by column.
use Rattle.std.proofs.Common.{◌≡◌, ℕ, List, [], ◌∷◌, ◌++◌, map, length, get_or, bit_xor, refl, sym, ap, subst, ◌∙◌, w8, Fits}
use Rattle.std.specs.Int.Bits.{xor_assoc}
use Rattle.std.proofs.lemmas.Nat.{xor_lt}
use Rattle.std.proofs.lemmas.List.{length-map}
use Rattle.std.proofs.lemmas.Simd.{length-zip2, pick_l_whole, map-map}
use lib.Lanes.{zip2, pick_l, Each1}
use Rattle.aes_block.specs.Field.{times_x, partial_product, product, square, product_of_squares, inverse, affine_image, sub_byte}
use Rattle.aes_block.specs.State.{add_round_key, mix_columns, shift_rows, sub_bytes}
use Rattle.aes_block.specs.Inside.Mix.{by_lanes, columns_of, from_row_0, from_row_1, from_row_2, from_row_3, picked, thrice}
use Rattle.aes_block.specs.Inside.Rounds.{lane_round, once, twice}
use Rattle.aes_block.specs.Inside.Tower.{tower, untower, upper, lower}
use Rattle.aes_block.proofs.LaneLemmas.{map_same}
use Rattle.aes_block.proofs.MixLemmas.{lane_fits, spread}
use Rattle.aes_block.proofs.TowerLemmas.{fit, round_is, untower_lanes, untower_mixed}

-- the octets that ShiftRows brings to each lane, row by row
abbrev pub shifted_rows : List ℕ
shifted_rows = 0 ∷ 1 ∷ 2 ∷ 3 ∷ 5 ∷ 6 ∷ 7 ∷ 4 ∷ 10 ∷ 11 ∷ 8 ∷ 9 ∷ 15 ∷ 12 ∷ 13 ∷ 14 ∷ []

-- the next row's
abbrev next : List ℕ
next = 4 ∷ 5 ∷ 6 ∷ 7 ∷ 8 ∷ 9 ∷ 10 ∷ 11 ∷ 12 ∷ 13 ∷ 14 ∷ 15 ∷ 0 ∷ 1 ∷ 2 ∷ 3 ∷ []

-- the row's before
abbrev before : List ℕ
before = 12 ∷ 13 ∷ 14 ∷ 15 ∷ 0 ∷ 1 ∷ 2 ∷ 3 ∷ 4 ∷ 5 ∷ 6 ∷ 7 ∷ 8 ∷ 9 ∷ 10 ∷ 11 ∷ []

abbrev both : List ℕ → List ℕ → List ℕ
both o d = zip2 bit_xor d (picked o next)

-- the sum that a round makes
abbrev pub rows_mixed : List ℕ → List ℕ → List ℕ → List ℕ
rows_mixed o d k = zip2 bit_xor (zip2 bit_xor (zip2 bit_xor (both o d) (picked (both o d) next)) (picked o before)) k

regroup : (A b B c d k : ℕ) → bit_xor (bit_xor (bit_xor (bit_xor A b) (bit_xor B c)) d) k ≡ bit_xor (bit_xor (bit_xor (bit_xor A (bit_xor b B)) c) d) k
regroup A b B c d k =
    ap (λ (y : ℕ). bit_xor (bit_xor y d) k) (sym (xor_assoc (bit_xor A b) B c) ∙ ap (λ (y : ℕ). bit_xor y c) (xor_assoc A b B))

rows_core : (F D : ℕ → ℕ) (t k : List ℕ)
    → columns_of (rows_mixed (map F (picked (spread t) shifted_rows)) (map D (picked (spread t) shifted_rows)) (spread k))
    ≡ zip2 bit_xor (by_lanes (map F (columns_of (spread t))) (map D (columns_of (spread t)))) (columns_of (spread k))
rows_core F D t k =
    let e0 = regroup (D (get_or t 0 0)) (F (get_or t 5 0)) (D (get_or t 5 0)) (F (get_or t 10 0)) (F (get_or t 15 0)) (get_or k 0 0) in
    let e1 = regroup (D (get_or t 5 0)) (F (get_or t 10 0)) (D (get_or t 10 0)) (F (get_or t 15 0)) (F (get_or t 0 0)) (get_or k 4 0) in
    let e2 = regroup (D (get_or t 10 0)) (F (get_or t 15 0)) (D (get_or t 15 0)) (F (get_or t 0 0)) (F (get_or t 5 0)) (get_or k 8 0) in
    let e3 = regroup (D (get_or t 15 0)) (F (get_or t 0 0)) (D (get_or t 0 0)) (F (get_or t 5 0)) (F (get_or t 10 0)) (get_or k 12 0) in
    let e4 = regroup (D (get_or t 1 0)) (F (get_or t 6 0)) (D (get_or t 6 0)) (F (get_or t 11 0)) (F (get_or t 12 0)) (get_or k 1 0) in
    let e5 = regroup (D (get_or t 6 0)) (F (get_or t 11 0)) (D (get_or t 11 0)) (F (get_or t 12 0)) (F (get_or t 1 0)) (get_or k 5 0) in
    let e6 = regroup (D (get_or t 11 0)) (F (get_or t 12 0)) (D (get_or t 12 0)) (F (get_or t 1 0)) (F (get_or t 6 0)) (get_or k 9 0) in
    let e7 = regroup (D (get_or t 12 0)) (F (get_or t 1 0)) (D (get_or t 1 0)) (F (get_or t 6 0)) (F (get_or t 11 0)) (get_or k 13 0) in
    let e8 = regroup (D (get_or t 2 0)) (F (get_or t 7 0)) (D (get_or t 7 0)) (F (get_or t 8 0)) (F (get_or t 13 0)) (get_or k 2 0) in
    let e9 = regroup (D (get_or t 7 0)) (F (get_or t 8 0)) (D (get_or t 8 0)) (F (get_or t 13 0)) (F (get_or t 2 0)) (get_or k 6 0) in
    let e10 = regroup (D (get_or t 8 0)) (F (get_or t 13 0)) (D (get_or t 13 0)) (F (get_or t 2 0)) (F (get_or t 7 0)) (get_or k 10 0) in
    let e11 = regroup (D (get_or t 13 0)) (F (get_or t 2 0)) (D (get_or t 2 0)) (F (get_or t 7 0)) (F (get_or t 8 0)) (get_or k 14 0) in
    let e12 = regroup (D (get_or t 3 0)) (F (get_or t 4 0)) (D (get_or t 4 0)) (F (get_or t 9 0)) (F (get_or t 14 0)) (get_or k 3 0) in
    let e13 = regroup (D (get_or t 4 0)) (F (get_or t 9 0)) (D (get_or t 9 0)) (F (get_or t 14 0)) (F (get_or t 3 0)) (get_or k 7 0) in
    let e14 = regroup (D (get_or t 9 0)) (F (get_or t 14 0)) (D (get_or t 14 0)) (F (get_or t 3 0)) (F (get_or t 4 0)) (get_or k 11 0) in
    let e15 = regroup (D (get_or t 14 0)) (F (get_or t 3 0)) (D (get_or t 3 0)) (F (get_or t 4 0)) (F (get_or t 9 0)) (get_or k 15 0) in
    λ i. e0 i ∷ e1 i ∷ e2 i ∷ e3 i ∷ e4 i ∷ e5 i ∷ e6 i ∷ e7 i ∷ e8 i ∷ e9 i ∷ e10 i ∷ e11 i ∷ e12 i ∷ e13 i ∷ e14 i ∷ e15 i ∷ []

pub rows_round : (t k o d : List ℕ) → length t ≡ 16 → length k ≡ 16
    → o ≡ map once (picked t shifted_rows) → d ≡ map twice (picked t shifted_rows)
    → rows_mixed o d k ≡ columns_of (lane_round (columns_of t) (columns_of k))
rows_round t k o d long full e f =
    let at = pick_l_whole 0 t 16 long in
    let bt = pick_l_whole 0 k 16 full in
    (λ i. rows_mixed (e i) (f i) k)
    ∙ sym (λ i. rows_mixed (map once (picked (at i) shifted_rows)) (map twice (picked (at i) shifted_rows)) (bt i))
    ∙ ap columns_of (rows_core once twice t k)
    ∙ (λ i. columns_of (lane_round (columns_of (at i)) (columns_of (bt i))))

pub both_fit : (s t : List ℕ) → Each1 (Fits w8) s → Each1 (Fits w8) t → Each1 (Fits w8) (s ++ t)
both_fit [] t f g = g
both_fit (x ∷ s) t f g = (f.0, both_fit s t f.1 g)

pub pick_fits : (s places : List ℕ) → Each1 (Fits w8) s → Each1 (Fits w8) (pick_l 0 s places)
pick_fits s [] f = tt
pick_fits s (k ∷ ks) f = (record { fits = lane_fits s k f }, pick_fits s ks f)

pub picked_fits : (s places : List ℕ) → Each1 (Fits w8) s → Each1 (Fits w8) (picked s places)
picked_fits s places f = pick_fits (s ++ s) places (both_fit s s f f)

pub sum_fits : (s t : List ℕ) → Each1 (Fits w8) s → Each1 (Fits w8) t → Each1 (Fits w8) (zip2 bit_xor s t)
sum_fits [] t f g = tt
sum_fits (x ∷ s) [] f g = tt
sum_fits (x ∷ s) (y ∷ t) f g = (record { fits = xor_lt 8 x y f.0.fits g.0.fits }, sum_fits s t f.1 g.1)

mixed_fits : (o d : List ℕ) → Each1 (Fits w8) o → Each1 (Fits w8) d → Each1 (Fits w8) (by_lanes o d)
mixed_fits o d f g =
    let a = picked_fits d from_row_0 g in
    let b = picked_fits (thrice o d) from_row_1 (sum_fits o d f g) in
    let ab = zip2 bit_xor (picked d from_row_0) (picked (thrice o d) from_row_1) in
    let ab_fits = sum_fits (picked d from_row_0) (picked (thrice o d) from_row_1) a b in
    let abc_fits = sum_fits ab (picked o from_row_2) ab_fits (picked_fits o from_row_2 f) in
    sum_fits (zip2 bit_xor ab (picked o from_row_2)) (picked o from_row_3) abc_fits (picked_fits o from_row_3 f)

once_fits : (t : List ℕ) → Each1 (Fits w8) t → Each1 (Fits w8) (map once t)
unfolding upper lower once
once_fits t f = fit once t f tt

twice_fits : (t : List ℕ) → Each1 (Fits w8) t → Each1 (Fits w8) (map twice t)
unfolding upper lower twice
twice_fits t f = fit twice t f tt

pub round_fits : (t k : List ℕ) → Each1 (Fits w8) t → Each1 (Fits w8) k → Each1 (Fits w8) (lane_round t k)
round_fits t k f g = sum_fits (by_lanes (map once t) (map twice t)) k (mixed_fits (map once t) (map twice t) (once_fits t f) (twice_fits t f)) g

once_is : (t : List ℕ) → Each1 (Fits w8) t → map untower (map once t) ≡ map (λ y. bit_xor (sub_byte (untower y)) 99) t
unfolding times_x partial_product product square product_of_squares inverse affine_image sub_byte untower upper lower once
once_is t f = map-map untower once t ∙ map_same (λ x. untower (once x)) (λ y. bit_xor (sub_byte (untower y)) 99) t f tt

twice_is : (t : List ℕ) → Each1 (Fits w8) t → map untower (map twice t) ≡ map (λ y. bit_xor (product 2 (sub_byte (untower y))) 198) t
unfolding times_x partial_product product square product_of_squares inverse affine_image sub_byte untower upper lower twice
twice_is t f = map-map untower twice t ∙ map_same (λ x. untower (twice x)) (λ y. bit_xor (product 2 (sub_byte (untower y))) 198) t f tt

-- what a round over the field of 16 elements stands for
pub lane_round_is : (t k : List ℕ) → length t ≡ 16 → Each1 (Fits w8) t → Each1 (Fits w8) k
    → map untower (lane_round t k) ≡ add_round_key (mix_columns (shift_rows (sub_bytes (map untower t)))) (map (λ y. bit_xor (untower y) 99) k)
lane_round_is t k long f g =
    let o = map once t in
    let d = map twice t in
    let m = by_lanes o d in
    round_is t k (map untower o) (map untower d) (map untower m) (map untower (lane_round t k)) long f
    (once_is t f) (twice_is t f)
    (untower_mixed o d (length-map t once ∙ long) (length-map t twice ∙ long) (once_fits t f) (twice_fits t f))
    (untower_lanes m k (mixed_fits o d (once_fits t f) (twice_fits t f)) g)

-- row by row and back
pub back_in_columns : (t v : List ℕ) → length t ≡ 16 → v ≡ columns_of t → columns_of v ≡ t
back_in_columns t v long e = ap columns_of e ∙ subst (λ (x : List ℕ). columns_of (columns_of x) ≡ x) (pick_l_whole 0 t 16 long) refl

-- the octets that ShiftRows brings to each place of a state, of lanes row by row
abbrev pub back_in_place : List ℕ
back_in_place = 0 ∷ 5 ∷ 10 ∷ 15 ∷ 1 ∷ 6 ∷ 11 ∷ 12 ∷ 2 ∷ 7 ∷ 8 ∷ 13 ∷ 3 ∷ 4 ∷ 9 ∷ 14 ∷ []

-- ShiftRows, from row by row to column by column
pub shifted_back : (g : ℕ → ℕ) (t : List ℕ) → length t ≡ 16 → map g (picked t back_in_place) ≡ shift_rows (map g (columns_of t))
shifted_back g t long =
    subst (λ (x : List ℕ). map g (picked x back_in_place) ≡ shift_rows (map g (columns_of x))) (pick_l_whole 0 t 16 long) refl

-- how long a key's sum with a vector is, over the field of 16 elements
pub towered_length : (a b s t : List ℕ) → length a ≡ 16 → length b ≡ 16 → s ≡ zip2 bit_xor a b → t ≡ map tower s → length t ≡ 16
towered_length a b s t long full e f =
    ap length f ∙ length-map s tower ∙ ap length e ∙ length-zip2 bit_xor a b (long ∙ sym full) ∙ long
