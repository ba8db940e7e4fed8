-- Sums over the field of 16 elements stand for sums, and the constant of the S-box goes through MixColumns.
use Rattle.std.proofs.Common.{◌≡◌, ℕ, ◌/◌, ◌%◌, ◌<◌, List, [], ◌∷◌, map, length, get_or, bit_xor, refl, sym, ap, subst, ◌∙◌, arith, w8, Fits, T, Bool, eqb, ltb, ltb-true, eqb→eq}
use Rattle.std.specs.Int.Bits.{xor_assoc}
use Rattle.std.proofs.lemmas.Nat.{xor_comm, xor_lt, xor_mod, xor_shr}
use Rattle.std.proofs.lemmas.List.{length-map}
use Rattle.std.proofs.lemmas.Simd.{pick_l_whole, map-map}
use lib.Lanes.{zip2, Each1}
use Rattle.aes_block.specs.Field.{times_x, partial_product, product, square, product_of_squares, inverse, affine_image, sub_byte}
use Rattle.aes_block.specs.State.{add_round_key, mix_columns, shift_rows, sub_bytes}
use Rattle.aes_block.specs.Inside.Mix.{by_lanes}
use Rattle.aes_block.specs.Inside.Tower.{untower, back_low, back_high}
use Rattle.aes_block.proofs.LaneLemmas.{all_below, every_below, is_true}
use Rattle.aes_block.proofs.MixLemmas.{swap, lane_fits, spread, mixed_is}

middle_four : (p q r s : ℕ) → bit_xor (bit_xor p q) (bit_xor r s) ≡ bit_xor (bit_xor p r) (bit_xor q s)
middle_four p q r s = sym (xor_assoc (bit_xor p q) r s) ∙ ap (λ (y : ℕ). bit_xor y s) (swap p q r) ∙ xor_assoc (bit_xor p r) q s

abbrev is_sum : List ℕ → ℕ → ℕ → Bool
is_sum t x y = eqb (get_or t (bit_xor x y) 0) (bit_xor (get_or t x 0) (get_or t y 0))

sum_in : (t : List ℕ) → T (all_below (λ x. all_below (is_sum t x) 16) 16) → (x y : ℕ) → x < 16 → y < 16
    → get_or t (bit_xor x y) 0 ≡ bit_xor (get_or t x 0) (get_or t y 0)
sum_in t all x y X Y = eqb→eq _ _ (every_below (is_sum t x) 16 (every_below (λ x. all_below (is_sum t x) 16) 16 all x X) y Y)

pub untower_sum : (a b : ℕ) → a < 256 → b < 256 → untower (bit_xor a b) ≡ bit_xor (untower a) (untower b)
unfolding untower
untower_sum a b A B =
    let low = ap (λ (y : ℕ). get_or back_low y 0) (xor_mod a b 4) ∙ sum_in back_low tt (a % 16) (b % 16) (omega arith) (omega arith) in
    let high = ap (λ (y : ℕ). get_or back_high y 0) (xor_shr a b 4) ∙ sum_in back_high tt (a / 16) (b / 16) (omega arith) (omega arith) in
    (λ i. bit_xor (low i) (high i)) ∙ middle_four (get_or back_low (a % 16) 0) (get_or back_low (b % 16) 0) (get_or back_high (a / 16) 0) (get_or back_high (b / 16) 0)

-- of two vectors
pub untower_lanes : (xs ys : List ℕ) → Each1 (Fits w8) xs → Each1 (Fits w8) ys → map untower (zip2 bit_xor xs ys) ≡ zip2 bit_xor (map untower xs) (map untower ys)
untower_lanes [] ys f g = refl
untower_lanes (x ∷ xs) [] f g = refl
untower_lanes (x ∷ xs) (y ∷ ys) f g =
    let here = untower_sum x y f.0.fits g.0.fits in
    let rest = untower_lanes xs ys f.1 g.1 in
    λ i. here i ∷ rest i

of_five : (X n l N m : ℕ) → X < 256 → n < 256 → l < 256 → N < 256 → m < 256
    → untower (bit_xor (bit_xor (bit_xor X (bit_xor n N)) m) l) ≡ bit_xor (bit_xor (bit_xor (untower X) (bit_xor (untower n) (untower N))) (untower m)) (untower l)
of_five X n l N m A B C D E =
    let inner = xor_lt 8 n N B D in
    let one = xor_lt 8 X (bit_xor n N) A inner in
    let two = xor_lt 8 (bit_xor X (bit_xor n N)) m one E in
    untower_sum (bit_xor (bit_xor X (bit_xor n N)) m) l two C
    ∙ ap (λ (y : ℕ). bit_xor y (untower l)) (untower_sum (bit_xor X (bit_xor n N)) m one E)
    ∙ ap (λ (y : ℕ). bit_xor (bit_xor y (untower m)) (untower l)) (untower_sum X (bit_xor n N) A inner)
    ∙ ap (λ (y : ℕ). bit_xor (bit_xor (bit_xor (untower X) y) (untower m)) (untower l)) (untower_sum n N B D)

with_constants : (X n l N m : ℕ)
    → bit_xor (bit_xor (bit_xor (bit_xor X 198) (bit_xor (bit_xor n 99) (bit_xor N 198))) (bit_xor m 99)) (bit_xor l 99) ≡ bit_xor (bit_xor (bit_xor (bit_xor X (bit_xor n N)) m) l) 99
with_constants X n l N m =
    let p = bit_xor X (bit_xor n N) in
    let first : bit_xor (bit_xor n 99) (bit_xor N 198) ≡ bit_xor (bit_xor n N) 165 = middle_four n 99 N 198 in
    let second : bit_xor (bit_xor X 198) (bit_xor (bit_xor n N) 165) ≡ bit_xor p 99 = middle_four X 198 (bit_xor n N) 165 in
    let third : bit_xor (bit_xor p 99) (bit_xor m 99) ≡ bit_xor (bit_xor p m) 0 = middle_four p 99 m 99 in
    ap (λ (y : ℕ). bit_xor (bit_xor (bit_xor (bit_xor X 198) y) (bit_xor m 99)) (bit_xor l 99)) first
    ∙ ap (λ (y : ℕ). bit_xor (bit_xor y (bit_xor m 99)) (bit_xor l 99)) second
    ∙ ap (λ (y : ℕ). bit_xor y (bit_xor l 99)) third
    ∙ middle_four (bit_xor p m) 0 l 99

spread_untower : (s t : List ℕ) → Each1 (Fits w8) s → Each1 (Fits w8) t
    → map untower (by_lanes (spread s) (spread t)) ≡ by_lanes (map untower (spread s)) (map untower (spread t))
spread_untower s t f g =
    let e0 = of_five (get_or t 0 0) (get_or s 5 0) (get_or s 15 0) (get_or t 5 0) (get_or s 10 0) (lane_fits t 0 g) (lane_fits s 5 f) (lane_fits s 15 f) (lane_fits t 5 g) (lane_fits s 10 f) in
    let e1 = of_five (get_or t 5 0) (get_or s 10 0) (get_or s 0 0) (get_or t 10 0) (get_or s 15 0) (lane_fits t 5 g) (lane_fits s 10 f) (lane_fits s 0 f) (lane_fits t 10 g) (lane_fits s 15 f) in
    let e2 = of_five (get_or t 10 0) (get_or s 15 0) (get_or s 5 0) (get_or t 15 0) (get_or s 0 0) (lane_fits t 10 g) (lane_fits s 15 f) (lane_fits s 5 f) (lane_fits t 15 g) (lane_fits s 0 f) in
    let e3 = of_five (get_or t 15 0) (get_or s 0 0) (get_or s 10 0) (get_or t 0 0) (get_or s 5 0) (lane_fits t 15 g) (lane_fits s 0 f) (lane_fits s 10 f) (lane_fits t 0 g) (lane_fits s 5 f) in
    let e4 = of_five (get_or t 4 0) (get_or s 9 0) (get_or s 3 0) (get_or t 9 0) (get_or s 14 0) (lane_fits t 4 g) (lane_fits s 9 f) (lane_fits s 3 f) (lane_fits t 9 g) (lane_fits s 14 f) in
    let e5 = of_five (get_or t 9 0) (get_or s 14 0) (get_or s 4 0) (get_or t 14 0) (get_or s 3 0) (lane_fits t 9 g) (lane_fits s 14 f) (lane_fits s 4 f) (lane_fits t 14 g) (lane_fits s 3 f) in
    let e6 = of_five (get_or t 14 0) (get_or s 3 0) (get_or s 9 0) (get_or t 3 0) (get_or s 4 0) (lane_fits t 14 g) (lane_fits s 3 f) (lane_fits s 9 f) (lane_fits t 3 g) (lane_fits s 4 f) in
    let e7 = of_five (get_or t 3 0) (get_or s 4 0) (get_or s 14 0) (get_or t 4 0) (get_or s 9 0) (lane_fits t 3 g) (lane_fits s 4 f) (lane_fits s 14 f) (lane_fits t 4 g) (lane_fits s 9 f) in
    let e8 = of_five (get_or t 8 0) (get_or s 13 0) (get_or s 7 0) (get_or t 13 0) (get_or s 2 0) (lane_fits t 8 g) (lane_fits s 13 f) (lane_fits s 7 f) (lane_fits t 13 g) (lane_fits s 2 f) in
    let e9 = of_five (get_or t 13 0) (get_or s 2 0) (get_or s 8 0) (get_or t 2 0) (get_or s 7 0) (lane_fits t 13 g) (lane_fits s 2 f) (lane_fits s 8 f) (lane_fits t 2 g) (lane_fits s 7 f) in
    let e10 = of_five (get_or t 2 0) (get_or s 7 0) (get_or s 13 0) (get_or t 7 0) (get_or s 8 0) (lane_fits t 2 g) (lane_fits s 7 f) (lane_fits s 13 f) (lane_fits t 7 g) (lane_fits s 8 f) in
    let e11 = of_five (get_or t 7 0) (get_or s 8 0) (get_or s 2 0) (get_or t 8 0) (get_or s 13 0) (lane_fits t 7 g) (lane_fits s 8 f) (lane_fits s 2 f) (lane_fits t 8 g) (lane_fits s 13 f) in
    let e12 = of_five (get_or t 12 0) (get_or s 1 0) (get_or s 11 0) (get_or t 1 0) (get_or s 6 0) (lane_fits t 12 g) (lane_fits s 1 f) (lane_fits s 11 f) (lane_fits t 1 g) (lane_fits s 6 f) in
    let e13 = of_five (get_or t 1 0) (get_or s 6 0) (get_or s 12 0) (get_or t 6 0) (get_or s 11 0) (lane_fits t 1 g) (lane_fits s 6 f) (lane_fits s 12 f) (lane_fits t 6 g) (lane_fits s 11 f) in
    let e14 = of_five (get_or t 6 0) (get_or s 11 0) (get_or s 1 0) (get_or t 11 0) (get_or s 12 0) (lane_fits t 6 g) (lane_fits s 11 f) (lane_fits s 1 f) (lane_fits t 11 g) (lane_fits s 12 f) in
    let e15 = of_five (get_or t 11 0) (get_or s 12 0) (get_or s 6 0) (get_or t 12 0) (get_or s 1 0) (lane_fits t 11 g) (lane_fits s 12 f) (lane_fits s 6 f) (lane_fits t 12 g) (lane_fits s 1 f) in
    λ i. e0 i ∷ e1 i ∷ e2 i ∷ e3 i ∷ e4 i ∷ e5 i ∷ e6 i ∷ e7 i ∷ e8 i ∷ e9 i ∷ e10 i ∷ e11 i ∷ e12 i ∷ e13 i ∷ e14 i ∷ e15 i ∷ []

pub untower_mixed : (s t : List ℕ) → length s ≡ 16 → length t ≡ 16 → Each1 (Fits w8) s → Each1 (Fits w8) t
    → map untower (by_lanes s t) ≡ by_lanes (map untower s) (map untower t)
untower_mixed s t long full f g =
    let at = pick_l_whole 0 s 16 long in
    let bt = pick_l_whole 0 t 16 full in
    sym (λ i. map untower (by_lanes (at i) (bt i))) ∙ spread_untower s t f g ∙ (λ i. by_lanes (map untower (at i)) (map untower (bt i)))

spread_constants : (s t : List ℕ)
    → by_lanes (map (λ x. bit_xor x 99) (spread s)) (map (λ x. bit_xor x 198) (spread t)) ≡ map (λ x. bit_xor x 99) (by_lanes (spread s) (spread t))
spread_constants s t =
    let e0 = with_constants (get_or t 0 0) (get_or s 5 0) (get_or s 15 0) (get_or t 5 0) (get_or s 10 0) in
    let e1 = with_constants (get_or t 5 0) (get_or s 10 0) (get_or s 0 0) (get_or t 10 0) (get_or s 15 0) in
    let e2 = with_constants (get_or t 10 0) (get_or s 15 0) (get_or s 5 0) (get_or t 15 0) (get_or s 0 0) in
    let e3 = with_constants (get_or t 15 0) (get_or s 0 0) (get_or s 10 0) (get_or t 0 0) (get_or s 5 0) in
    let e4 = with_constants (get_or t 4 0) (get_or s 9 0) (get_or s 3 0) (get_or t 9 0) (get_or s 14 0) in
    let e5 = with_constants (get_or t 9 0) (get_or s 14 0) (get_or s 4 0) (get_or t 14 0) (get_or s 3 0) in
    let e6 = with_constants (get_or t 14 0) (get_or s 3 0) (get_or s 9 0) (get_or t 3 0) (get_or s 4 0) in
    let e7 = with_constants (get_or t 3 0) (get_or s 4 0) (get_or s 14 0) (get_or t 4 0) (get_or s 9 0) in
    let e8 = with_constants (get_or t 8 0) (get_or s 13 0) (get_or s 7 0) (get_or t 13 0) (get_or s 2 0) in
    let e9 = with_constants (get_or t 13 0) (get_or s 2 0) (get_or s 8 0) (get_or t 2 0) (get_or s 7 0) in
    let e10 = with_constants (get_or t 2 0) (get_or s 7 0) (get_or s 13 0) (get_or t 7 0) (get_or s 8 0) in
    let e11 = with_constants (get_or t 7 0) (get_or s 8 0) (get_or s 2 0) (get_or t 8 0) (get_or s 13 0) in
    let e12 = with_constants (get_or t 12 0) (get_or s 1 0) (get_or s 11 0) (get_or t 1 0) (get_or s 6 0) in
    let e13 = with_constants (get_or t 1 0) (get_or s 6 0) (get_or s 12 0) (get_or t 6 0) (get_or s 11 0) in
    let e14 = with_constants (get_or t 6 0) (get_or s 11 0) (get_or s 1 0) (get_or t 11 0) (get_or s 12 0) in
    let e15 = with_constants (get_or t 11 0) (get_or s 12 0) (get_or s 6 0) (get_or t 12 0) (get_or s 1 0) in
    λ i. e0 i ∷ e1 i ∷ e2 i ∷ e3 i ∷ e4 i ∷ e5 i ∷ e6 i ∷ e7 i ∷ e8 i ∷ e9 i ∷ e10 i ∷ e11 i ∷ e12 i ∷ e13 i ∷ e14 i ∷ e15 i ∷ []

mixed_constants : (s t : List ℕ) → length s ≡ 16 → length t ≡ 16
    → by_lanes (map (λ x. bit_xor x 99) s) (map (λ x. bit_xor x 198) t) ≡ map (λ x. bit_xor x 99) (by_lanes s t)
mixed_constants s t long full =
    let at = pick_l_whole 0 s 16 long in
    let bt = pick_l_whole 0 t 16 full in
    sym (λ i. by_lanes (map (λ x. bit_xor x 99) (at i)) (map (λ x. bit_xor x 198) (bt i))) ∙ spread_constants s t
    ∙ (λ i. map (λ x. bit_xor x 99) (by_lanes (at i) (bt i)))

-- the constant goes over to the key
moved : (xs ys : List ℕ) → zip2 bit_xor (map (λ x. bit_xor x 99) xs) ys ≡ zip2 bit_xor xs (map (λ x. bit_xor x 99) ys)
moved [] ys = refl
moved (x ∷ xs) [] = refl
moved (x ∷ xs) (y ∷ ys) =
    let here : bit_xor (bit_xor x 99) y ≡ bit_xor x (bit_xor y 99) = xor_assoc x 99 y ∙ ap (bit_xor x) (xor_comm 99 y) in
    let rest = moved xs ys in
    λ i. here i ∷ rest i

pub fit : (g : ℕ → ℕ) (v : List ℕ) → Each1 (Fits w8) v → T (all_below (λ x. ltb (g x) 256) 256) → Each1 (Fits w8) (map g v)
fit g [] h all = tt
fit g (x ∷ xs) h all =
    let low : g x < 256 = ltb-true _ _ (is_true _ (every_below (λ x. ltb (g x) 256) 256 all x h.0.fits)) in
    (record { fits = low }, fit g xs h.1 all)

state_fits : (t : List ℕ) → Each1 (Fits w8) t → Each1 (Fits w8) (sub_bytes (map untower t))
unfolding times_x partial_product product square product_of_squares inverse affine_image sub_byte untower
state_fits t f = subst (Each1 (Fits w8)) (sym (map-map sub_byte untower t)) (fit (λ y. sub_byte (untower y)) t f tt)

pub round_is : (t key once twice m r : List ℕ) → length t ≡ 16 → Each1 (Fits w8) t
    → once ≡ map (λ y. bit_xor (sub_byte (untower y)) 99) t
    → twice ≡ map (λ y. bit_xor (product 2 (sub_byte (untower y))) 198) t
    → m ≡ by_lanes once twice
    → r ≡ zip2 bit_xor m (map untower key)
    → r ≡ add_round_key (mix_columns (shift_rows (sub_bytes (map untower t)))) (map (λ y. bit_xor (untower y) 99) key)
round_is t key once twice m r long f e_once e_twice e_m e_r =
    let s = sub_bytes (map untower t) in
    let full : length s ≡ 16 = length-map (map untower t) sub_byte ∙ length-map t untower ∙ long in
    let doubled : length (map (product 2) s) ≡ 16 = length-map s (product 2) ∙ full in
    let one = map-map sub_byte untower t in
    let is_once : once ≡ map (λ x. bit_xor x 99) s =
    e_once ∙ sym (ap (map (λ x. bit_xor x 99)) one ∙ map-map (λ x. bit_xor x 99) (λ y. sub_byte (untower y)) t) in
    let is_twice : twice ≡ map (λ x. bit_xor x 198) (map (product 2) s) =
    e_twice ∙ sym (ap (λ (l : List ℕ). map (λ x. bit_xor x 198) (map (product 2) l)) one
    ∙ ap (map (λ x. bit_xor x 198)) (map-map (product 2) (λ y. sub_byte (untower y)) t)
    ∙ map-map (λ x. bit_xor x 198) (λ y. product 2 (sub_byte (untower y))) t) in
    let mix = mix_columns (shift_rows s) in
    let is_m : m ≡ map (λ x. bit_xor x 99) mix =
    e_m ∙ (λ i. by_lanes (is_once i) (is_twice i)) ∙ mixed_constants s (map (product 2) s) full doubled
    ∙ ap (map (λ x. bit_xor x 99)) (mixed_is s (map (product 2) s) full (state_fits t f) refl) in
    e_r ∙ ap (λ (x : List ℕ). zip2 bit_xor x (map untower key)) is_m ∙ moved mix (map untower key)
    ∙ ap (zip2 bit_xor mix) (map-map (λ x. bit_xor x 99) untower key)
