-- MixColumns by lanes: each row's sum, in the order in which the lanes add it, is the definition's.
use Rattle.std.proofs.Common.{◌≡◌, ℕ, zero, suc, ◌<◌, List, [], ◌∷◌, map, length, get_or, bit_xor, sym, ap, subst, ◌∙◌, arith, w8, Fits, eqb, eqb→eq}
use Rattle.std.specs.Int.Bits.{xor_assoc}
use Rattle.std.specs.List.{range_with_len}
use Rattle.std.proofs.lemmas.Nat.{xor_comm}
use Rattle.std.proofs.lemmas.Simd.{pick_l_whole}
use lib.Lanes.{pick_l, Each1}
use Rattle.aes_block.specs.Field.{times_x, partial_product, product}
use Rattle.aes_block.specs.State.{mix_columns, shift_rows, sum_of_four}
use Rattle.aes_block.specs.Inside.Mix.{by_lanes}
use Rattle.aes_block.proofs.LaneLemmas.{every_below}

pub swap : (x y z : ℕ) → bit_xor (bit_xor x y) z ≡ bit_xor (bit_xor x z) y
swap x y z = xor_assoc x y z ∙ ap (bit_xor x) (xor_comm y z) ∙ sym (xor_assoc x z y)

row_0 : (a b c d A B C D : ℕ) → bit_xor (bit_xor (bit_xor A (bit_xor b B)) c) d ≡ bit_xor (bit_xor (bit_xor A (bit_xor B b)) c) d
row_0 a b c d A B C D =
    ap (λ (y : ℕ). bit_xor (bit_xor y c) d) (sym (xor_assoc A b B))
    ∙ ap (λ (y : ℕ). bit_xor (bit_xor y c) d) (swap A b B)
    ∙ ap (λ (y : ℕ). bit_xor (bit_xor y c) d) (xor_assoc A B b)

row_1 : (a b c d A B C D : ℕ) → bit_xor (bit_xor (bit_xor B (bit_xor c C)) d) a ≡ bit_xor (bit_xor (bit_xor a B) (bit_xor C c)) d
row_1 a b c d A B C D =
    ap (λ (y : ℕ). bit_xor (bit_xor y d) a) (sym (xor_assoc B c C))
    ∙ swap (bit_xor (bit_xor B c) C) d a
    ∙ ap (λ (y : ℕ). bit_xor y d) (swap (bit_xor B c) C a)
    ∙ ap (λ (y : ℕ). bit_xor (bit_xor y C) d) (swap B c a)
    ∙ ap (λ (y : ℕ). bit_xor (bit_xor (bit_xor y c) C) d) (xor_comm B a)
    ∙ ap (λ (y : ℕ). bit_xor y d) (swap (bit_xor a B) c C)
    ∙ ap (λ (y : ℕ). bit_xor y d) (xor_assoc (bit_xor a B) C c)

row_2 : (a b c d A B C D : ℕ) → bit_xor (bit_xor (bit_xor C (bit_xor d D)) a) b ≡ bit_xor (bit_xor (bit_xor a b) C) (bit_xor D d)
row_2 a b c d A B C D =
    ap (λ (y : ℕ). bit_xor (bit_xor y a) b) (sym (xor_assoc C d D))
    ∙ ap (λ (y : ℕ). bit_xor y b) (swap (bit_xor C d) D a)
    ∙ ap (λ (y : ℕ). bit_xor (bit_xor y D) b) (swap C d a)
    ∙ ap (λ (y : ℕ). bit_xor (bit_xor (bit_xor y d) D) b) (xor_comm C a)
    ∙ swap (bit_xor (bit_xor a C) d) D b
    ∙ ap (λ (y : ℕ). bit_xor y D) (swap (bit_xor a C) d b)
    ∙ ap (λ (y : ℕ). bit_xor (bit_xor y d) D) (swap a C b)
    ∙ swap (bit_xor (bit_xor a b) C) d D
    ∙ xor_assoc (bit_xor (bit_xor a b) C) D d

row_3 : (a b c d A B C D : ℕ) → bit_xor (bit_xor (bit_xor D (bit_xor a A)) b) c ≡ bit_xor (bit_xor (bit_xor (bit_xor A a) b) c) D
row_3 a b c d A B C D =
    ap (λ (y : ℕ). bit_xor (bit_xor y b) c) (sym (xor_assoc D a A))
    ∙ ap (λ (y : ℕ). bit_xor (bit_xor y b) c) (swap D a A)
    ∙ ap (λ (y : ℕ). bit_xor (bit_xor (bit_xor y a) b) c) (xor_comm D A)
    ∙ ap (λ (y : ℕ). bit_xor (bit_xor y b) c) (swap A D a)
    ∙ ap (λ (y : ℕ). bit_xor y c) (swap (bit_xor A a) D b)
    ∙ swap (bit_xor (bit_xor A a) b) D c

three_below : (b : ℕ) → b < 256 → product 3 b ≡ bit_xor (product 2 b) b
unfolding times_x partial_product product
three_below b low = eqb→eq _ _ (every_below (λ x. eqb (product 3 x) (bit_xor (product 2 x) x)) 256 tt b low)

pub lane_fits : (v : List ℕ) (i : ℕ) → Each1 (Fits w8) v → get_or v i 0 < 256
lane_fits [] i h = omega arith
lane_fits (x ∷ xs) zero h = h.0.fits
lane_fits (x ∷ xs) (suc i) h = lane_fits xs i h.1

element_0 : (a b c d : ℕ) → b < 256 → bit_xor (bit_xor (bit_xor (product 2 a) (bit_xor b (product 2 b))) c) d ≡ sum_of_four (product 2 a) (product 3 b) c d
element_0 a b c d fits =
    row_0 a b c d (product 2 a) (product 2 b) (product 2 c) (product 2 d) ∙ ap (λ (y : ℕ). sum_of_four (product 2 a) y c d) (sym (three_below b fits))

element_1 : (a b c d : ℕ) → c < 256 → bit_xor (bit_xor (bit_xor (product 2 b) (bit_xor c (product 2 c))) d) a ≡ sum_of_four a (product 2 b) (product 3 c) d
element_1 a b c d fits =
    row_1 a b c d (product 2 a) (product 2 b) (product 2 c) (product 2 d) ∙ ap (λ (y : ℕ). sum_of_four a (product 2 b) y d) (sym (three_below c fits))

element_2 : (a b c d : ℕ) → d < 256 → bit_xor (bit_xor (bit_xor (product 2 c) (bit_xor d (product 2 d))) a) b ≡ sum_of_four a b (product 2 c) (product 3 d)
element_2 a b c d fits =
    row_2 a b c d (product 2 a) (product 2 b) (product 2 c) (product 2 d) ∙ ap (λ (y : ℕ). sum_of_four a b (product 2 c) y) (sym (three_below d fits))

element_3 : (a b c d : ℕ) → a < 256 → bit_xor (bit_xor (bit_xor (product 2 d) (bit_xor a (product 2 a))) b) c ≡ sum_of_four (product 3 a) b c (product 2 d)
element_3 a b c d fits =
    row_3 a b c d (product 2 a) (product 2 b) (product 2 c) (product 2 d) ∙ ap (λ (y : ℕ). sum_of_four y b c (product 2 d)) (sym (three_below a fits))

abbrev pub spread : List ℕ → List ℕ
spread s = pick_l 0 s (range_with_len 0 16)

core : (s : List ℕ) → Each1 (Fits w8) s → by_lanes (spread s) (map (product 2) (spread s)) ≡ mix_columns (shift_rows (spread s))
core s fits =
    let e0 = element_0 (get_or s 0 0) (get_or s 5 0) (get_or s 10 0) (get_or s 15 0) (lane_fits s 5 fits) in
    let e1 = element_1 (get_or s 0 0) (get_or s 5 0) (get_or s 10 0) (get_or s 15 0) (lane_fits s 10 fits) in
    let e2 = element_2 (get_or s 0 0) (get_or s 5 0) (get_or s 10 0) (get_or s 15 0) (lane_fits s 15 fits) in
    let e3 = element_3 (get_or s 0 0) (get_or s 5 0) (get_or s 10 0) (get_or s 15 0) (lane_fits s 0 fits) in
    let e4 = element_0 (get_or s 4 0) (get_or s 9 0) (get_or s 14 0) (get_or s 3 0) (lane_fits s 9 fits) in
    let e5 = element_1 (get_or s 4 0) (get_or s 9 0) (get_or s 14 0) (get_or s 3 0) (lane_fits s 14 fits) in
    let e6 = element_2 (get_or s 4 0) (get_or s 9 0) (get_or s 14 0) (get_or s 3 0) (lane_fits s 3 fits) in
    let e7 = element_3 (get_or s 4 0) (get_or s 9 0) (get_or s 14 0) (get_or s 3 0) (lane_fits s 4 fits) in
    let e8 = element_0 (get_or s 8 0) (get_or s 13 0) (get_or s 2 0) (get_or s 7 0) (lane_fits s 13 fits) in
    let e9 = element_1 (get_or s 8 0) (get_or s 13 0) (get_or s 2 0) (get_or s 7 0) (lane_fits s 2 fits) in
    let e10 = element_2 (get_or s 8 0) (get_or s 13 0) (get_or s 2 0) (get_or s 7 0) (lane_fits s 7 fits) in
    let e11 = element_3 (get_or s 8 0) (get_or s 13 0) (get_or s 2 0) (get_or s 7 0) (lane_fits s 8 fits) in
    let e12 = element_0 (get_or s 12 0) (get_or s 1 0) (get_or s 6 0) (get_or s 11 0) (lane_fits s 1 fits) in
    let e13 = element_1 (get_or s 12 0) (get_or s 1 0) (get_or s 6 0) (get_or s 11 0) (lane_fits s 6 fits) in
    let e14 = element_2 (get_or s 12 0) (get_or s 1 0) (get_or s 6 0) (get_or s 11 0) (lane_fits s 11 fits) in
    let e15 = element_3 (get_or s 12 0) (get_or s 1 0) (get_or s 6 0) (get_or s 11 0) (lane_fits s 12 fits) in
    λ i. e0 i ∷ e1 i ∷ e2 i ∷ e3 i ∷ e4 i ∷ e5 i ∷ e6 i ∷ e7 i ∷ e8 i ∷ e9 i ∷ e10 i ∷ e11 i ∷ e12 i ∷ e13 i ∷ e14 i ∷ e15 i ∷ []

pub mixed_is : (s t : List ℕ) → length s ≡ 16 → Each1 (Fits w8) s → t ≡ map (product 2) s → by_lanes s t ≡ mix_columns (shift_rows s)
mixed_is s t long fits e =
    ap (by_lanes s) e ∙ subst (λ (x : List ℕ). by_lanes x (map (product 2) x) ≡ mix_columns (shift_rows x)) (pick_l_whole 0 s 16 long) (core s fits)
