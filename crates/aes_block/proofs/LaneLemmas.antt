-- Vectors that are computed lane by lane from one vector.
use Rattle.std.proofs.Common.{◌≡◌, ℕ, zero, suc, ◌+◌, ◌-◌, ◌*◌, ◌/◌, ◌<◌, Bool, true, false, ◌&&◌, cond, T, eqb, leb, List, [], ◌∷◌, map, length, get_or, replicate, bit_xor, refl, sym, ap, subst, ◌∙◌, inl, inr, arith, w8, Fits, eqb→eq, eq-zero-or-pos}
use Rattle.std.proofs.lemmas.List.{get_or-map, length-map, ext_get_or}
use Rattle.std.proofs.lemmas.Simd.{Each1-weaker, SwzOk, SwzOk-from_Each1, swz_l, length-swz_l, get_or-swz_l, map-map, zip2_of_maps, zip2_splat}
use lib.Ieee.Fits.{and_l, and_r}
use lib.Lanes.{zip2, Each1}
use Rattle.aes_block.specs.Inside.Tables.{is_index, read}
use Rattle.aes_block.specs.Inside.Tower.{tower, untower}

abbrev pub all_below : (ℕ → Bool) → ℕ → Bool
all_below p zero = true
all_below p (suc n) = p n && all_below p n

pub every_below : (p : ℕ → Bool) (n : ℕ) → T (all_below p n) → (i : ℕ) → i < n → T (p i)
every_below p zero h i l = absurd (omega arith)
every_below p (suc n) h i l =
    elim (eq-zero-or-pos (n - i)) [
      | inl z ↦ let e : n ≡ i = omega arith in subst (λ x. T (p x)) e (and_l _ _ h)
      | inr g ↦ every_below p n (and_r (p n) _ h) i (omega arith)
    ]

holds : (b : Bool) → b ≡ true → T b
holds b e = subst T (sym e) tt

pub is_true : (b : Bool) → T b → b ≡ true
is_true true t = refl
is_true false t = absurd t

-- a table may be read at each lane of js, which was computed from v
pub places : (g : ℕ → ℕ) (v js : List ℕ) → Each1 (Fits w8) v → js ≡ map g v → T (all_below (λ x. is_index (g x)) 256) → Each1 (λ j. is_index j ≡ true) js
places g v js fits e all = subst (Each1 (λ j. is_index j ≡ true)) (sym e) (go v fits)
  where
    go : (v : List ℕ) → Each1 (Fits w8) v → Each1 (λ j. is_index j ≡ true) (map g v)
    go [] h = tt
    go (x ∷ xs) h = (is_true _ (every_below (λ x. is_index (g x)) 256 all x h.0.fits), go xs h.1)

-- two functions that agree on octets agree on lanes
pub map_same : (f g : ℕ → ℕ) (v : List ℕ) → Each1 (Fits w8) v → T (all_below (λ x. eqb (f x) (g x)) 256) → map f v ≡ map g v
map_same f g [] h all = refl
map_same f g (x ∷ xs) h all =
    let here : f x ≡ g x = eqb→eq _ _ (every_below (λ x. eqb (f x) (g x)) 256 all x h.0.fits) in
    let rest = map_same f g xs h.1 all in
    λ i. here i ∷ rest i

pub looked_up : (t : List ℕ) (g : ℕ → ℕ) (v : List ℕ) {js r : List ℕ} → r ≡ map (read t) js → js ≡ map g v → r ≡ map (λ x. read t (g x)) v
looked_up t g v e h = e ∙ ap (map (read t)) h ∙ map-map (read t) g v

pub summed : (g h : ℕ → ℕ) (v : List ℕ) {xs ys r : List ℕ} → r ≡ zip2 bit_xor xs ys → xs ≡ map g v → ys ≡ map h v → r ≡ map (λ x. bit_xor (g x) (h x)) v
summed g h v e p q = e ∙ zip2_of_maps bit_xor g h v p q

pub with_constant : (g : ℕ → ℕ) (v xs : List ℕ) (n : ℕ) → length v ≡ 16 → xs ≡ map g v → zip2 bit_xor xs (replicate 16 n) ≡ map (λ x. bit_xor (g x) n) v
with_constant g v xs n long e =
    zip2_splat bit_xor xs 16 n (ap length e ∙ length-map v g ∙ long) ∙ ap (map (λ x. bit_xor x n)) e ∙ map-map (λ x. bit_xor x n) g v

pub places_ok : (at : List ℕ) → length at ≡ 16 → Each1 (λ j. is_index j ≡ true) at → SwzOk w8 16 16 0 at
places_ok at long h =
    SwzOk-from_Each1 w8 16 1 16 0 at refl (omega arith) (Each1-weaker (λ j. is_index j ≡ true) _ (λ j e. holds (is_index j) e) at h)

pub swz_read : (t at : List ℕ) → length at ≡ 16 → swz_l w8 16 t 0 at ≡ map (read t) at
swz_read t at long =
    ext_get_or 0 _ _ (length-swz_l w8 16 t 0 at ∙ sym (length-map at (read t))) (λ i h.
    let lt : i < length at = omega (arith, length-swz_l w8 16 t 0 at) in
    let j = get_or at i 0 in
    let place : 16 * ((0 + i) / 16) + j ≡ j = omega arith in
    get_or-swz_l w8 16 t 0 at i lt ∙ ap (λ (k : ℕ). cond (leb 128 j) 0 (get_or t k 0)) place ∙ sym (get_or-map (read t) at i 0 0 lt))

map_id : (v : List ℕ) → map (λ x. x) v ≡ v
map_id [] = refl
map_id (x ∷ xs) = let rest = map_id xs in λ i. x ∷ rest i

-- there and back
pub back : (v : List ℕ) → Each1 (Fits w8) v → map untower (map tower v) ≡ v
unfolding tower untower
back v fits = map-map untower tower v ∙ map_same (λ x. untower (tower x)) (λ x. x) v fits tt ∙ map_id v

pub key_back : (v t r : List ℕ) → length v ≡ 16 → Each1 (Fits w8) v → t ≡ zip2 bit_xor v (replicate 16 99) → r ≡ map tower t → map (λ y. bit_xor (untower y) 99) r ≡ v
unfolding tower untower
key_back v t r long fits e h =
    let f = λ (x : ℕ). bit_xor x 99 in
    let is_t : t ≡ map f v = e ∙ zip2_splat bit_xor v 16 99 long in
    let is_r : r ≡ map (λ x. tower (f x)) v = h ∙ ap (map tower) is_t ∙ map-map tower f v in
    let g = λ (y : ℕ). bit_xor (untower y) 99 in
    ap (map g) is_r ∙ map-map g (λ x. tower (f x)) v ∙ map_same (λ x. g (tower (f x))) (λ x. x) v fits tt ∙ map_id v
