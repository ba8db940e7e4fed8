-- What the blocks of a row share of the first two rounds, and the share of the last octet.
use Rattle.std.proofs.Common.{◌≡◌, ℕ, ◌<◌, List, [], ◌∷◌, ◌++◌, length, map, take, get_or, replicate, bit_xor, refl, sym, ap, subst, ◌∙◌, arith, w8, Fits}
use Rattle.std.specs.Int.Bits.{xor_assoc}
use Rattle.std.proofs.lemmas.Nat.{xor_comm}
use Rattle.std.proofs.lemmas.Simd.{pick_l_whole}
use lib.Lanes.{zip2, pick_l, Each1}
use Rattle.aes_block.specs.Cipher.{expanded_key, round_key, state_after}
use Rattle.aes_block.specs.Inside.Keys.{unprepared}
use Rattle.aes_block.specs.Inside.Mix.{across, by_lanes, columns_of, picked}
use Rattle.aes_block.specs.Inside.Rounds.{lane_round, octets_of, once, twice}
use Rattle.aes_block.specs.Inside.Rows.{after_two, first_column, IsPrefix, spread_column}
use Rattle.aes_block.specs.Inside.Tower.{tower, untower, upper, lower}
use Rattle.aes_block.proofs.LaneLemmas.{back}
use Rattle.aes_block.proofs.MixLemmas.{spread, swap}
use Rattle.aes_block.proofs.RoundLemmas.{begun, gone_on}
use Rattle.aes_block.proofs.RowLemmas.{both_fit, lane_round_is, pick_fits, picked_fits, round_fits, sum_fits, towered_length}
use Rattle.aes_block.proofs.TowerLemmas.{fit}

-- the lanes at these places, where those from 16 on are 0
abbrev pub cleared : List ℕ → List ℕ → List ℕ
cleared s places = pick_l 0 (s ++ replicate 16 0) places

-- all lanes but the last
abbrev pub but_last : List ℕ
but_last = 0 ∷ 1 ∷ 2 ∷ 3 ∷ 4 ∷ 5 ∷ 6 ∷ 7 ∷ 8 ∷ 9 ∷ 10 ∷ 11 ∷ 12 ∷ 13 ∷ 14 ∷ 16 ∷ []

-- all lanes but the first column's, row by row
abbrev pub but_column : List ℕ
but_column = 16 ∷ 1 ∷ 2 ∷ 3 ∷ 16 ∷ 5 ∷ 6 ∷ 7 ∷ 16 ∷ 9 ∷ 10 ∷ 11 ∷ 16 ∷ 13 ∷ 14 ∷ 15 ∷ []

-- and column by column
abbrev but_four : List ℕ
but_four = 16 ∷ 16 ∷ 16 ∷ 16 ∷ 4 ∷ 5 ∷ 6 ∷ 7 ∷ 8 ∷ 9 ∷ 10 ∷ 11 ∷ 12 ∷ 13 ∷ 14 ∷ 15 ∷ []

-- the first column's, four times
abbrev pub column_lanes : List ℕ
column_lanes = 0 ∷ 4 ∷ 8 ∷ 12 ∷ 0 ∷ 4 ∷ 8 ∷ 12 ∷ 0 ∷ 4 ∷ 8 ∷ 12 ∷ 0 ∷ 4 ∷ 8 ∷ 12 ∷ []

xor_zero_r : (a : ℕ) → bit_xor a 0 ≡ a
xor_zero_r a = xor_comm a 0

in_last : (P k u f : ℕ) → f ≡ 0 → bit_xor (bit_xor P u) k ≡ bit_xor (bit_xor (bit_xor (bit_xor P f) k) u) 0
in_last P k u f z =
    swap P u k
    ∙ ap (λ (y : ℕ). bit_xor (bit_xor y k) u) (sym (xor_zero_r P) ∙ ap (bit_xor P) (sym z))
    ∙ sym (xor_zero_r (bit_xor (bit_xor (bit_xor P f) k) u))

in_third : (P d k u f : ℕ) → f ≡ 0 → bit_xor (bit_xor (bit_xor P u) d) k ≡ bit_xor (bit_xor (bit_xor (bit_xor (bit_xor P f) d) k) u) 0
in_third P d k u f z =
    ap (λ (y : ℕ). bit_xor y k) (swap P u d) ∙ swap (bit_xor P d) u k
    ∙ ap (λ (y : ℕ). bit_xor (bit_xor (bit_xor y d) k) u) (sym (xor_zero_r P) ∙ ap (bit_xor P) (sym z))
    ∙ sym (xor_zero_r (bit_xor (bit_xor (bit_xor (bit_xor P f) d) k) u))

moved_out : (A v c d k : ℕ) → bit_xor (bit_xor (bit_xor (bit_xor A v) c) d) k ≡ bit_xor (bit_xor (bit_xor (bit_xor A c) d) k) v
moved_out A v c d k =
    ap (λ (y : ℕ). bit_xor (bit_xor y d) k) (swap A v c) ∙ ap (λ (y : ℕ). bit_xor y k) (swap (bit_xor A c) v d)
    ∙ swap (bit_xor (bit_xor A c) d) v k

in_second : (A c d k u w f g : ℕ) → f ≡ 0 → g ≡ 0
    → bit_xor (bit_xor (bit_xor (bit_xor A (bit_xor u w)) c) d) k
    ≡ bit_xor (bit_xor (bit_xor (bit_xor (bit_xor (bit_xor A (bit_xor f g)) c) d) k) u) w
in_second A c d k u w f g z y =
    let rest = λ (a : ℕ). bit_xor (bit_xor (bit_xor a c) d) k in
    let none : A ≡ bit_xor A (bit_xor f g) = sym (xor_zero_r A) ∙ sym (λ i. bit_xor A (bit_xor (z i) (y i))) in
    moved_out A (bit_xor u w) c d k ∙ sym (xor_assoc (rest A) u w) ∙ ap (λ (a : ℕ). bit_xor (bit_xor (rest a) u) w) none

in_first : (q c d k w g : ℕ) → g ≡ 0
    → bit_xor (bit_xor (bit_xor (bit_xor w q) c) d) k
    ≡ bit_xor (bit_xor (bit_xor (bit_xor (bit_xor (bit_xor g q) c) d) k) 0) w
in_first q c d k w g y =
    let rest = λ (a : ℕ). bit_xor (bit_xor (bit_xor a c) d) k in
    ap rest (xor_comm w q) ∙ moved_out q w c d k
    ∙ ap (λ (a : ℕ). bit_xor a w) (sym (xor_zero_r (rest q)))
    ∙ ap (λ (a : ℕ). bit_xor (bit_xor (rest (bit_xor a q)) 0) w) (sym y)

abbrev one_round : (F D : ℕ → ℕ) → List ℕ → List ℕ → List ℕ
one_round F D t k = zip2 bit_xor (by_lanes (map F t) (map D t)) k

-- a state whose last octet is x
abbrev with_last : List ℕ → ℕ → List ℕ
with_last t x = take 15 t ++ x ∷ []

-- what comes of it, from what comes of the state where that octet is 0
abbrev overlaid : (F D : ℕ → ℕ) → List ℕ → ℕ → List ℕ
overlaid F D c x =
    bit_xor (bit_xor (get_or c 0 0) (F x)) 0 ∷ bit_xor (bit_xor (get_or c 1 0) (F x)) 0
    ∷ bit_xor (bit_xor (get_or c 2 0) (F x)) (D x) ∷ bit_xor (bit_xor (get_or c 3 0) 0) (D x)
    ∷ get_or c 4 0 ∷ get_or c 5 0 ∷ get_or c 6 0 ∷ get_or c 7 0 ∷ get_or c 8 0 ∷ get_or c 9 0 ∷ get_or c 10 0 ∷ get_or c 11 0 ∷ get_or c 12 0 ∷ get_or c 13 0 ∷ get_or c 14 0 ∷ get_or c 15 0 ∷ []

-- the share of the first column's octets
abbrev shared : (F D : ℕ → ℕ) → List ℕ → ℕ → ℕ → ℕ → ℕ → List ℕ
shared F D second a b c d =
    zip2 bit_xor (zip2 bit_xor second
    (0 ∷ F d ∷ F c ∷ F b ∷ F a ∷ F d ∷ F c ∷ 0 ∷ F a ∷ F d ∷ 0 ∷ F b ∷ F a ∷ 0 ∷ F c ∷ F b ∷ []))
    (D a ∷ 0 ∷ 0 ∷ D b ∷ 0 ∷ 0 ∷ D c ∷ D b ∷ 0 ∷ D d ∷ D c ∷ 0 ∷ D a ∷ D d ∷ 0 ∷ 0 ∷ [])

module _ (F D : ℕ → ℕ) (once_0 : F 0 ≡ 0) (twice_0 : D 0 ≡ 0) where
  first_core : (t k : List ℕ) (x : ℕ)
      → one_round F D (with_last (spread t) x) (spread k) ≡ overlaid F D (one_round F D (cleared (spread t) but_last) (spread k)) x
  first_core t k x =
      let e0 = in_last (bit_xor (bit_xor (D (get_or t 0 0)) (bit_xor (F (get_or t 5 0)) (D (get_or t 5 0)))) (F (get_or t 10 0))) (get_or k 0 0) (F x) (F 0) once_0 in
      let e1 = in_third (bit_xor (D (get_or t 5 0)) (bit_xor (F (get_or t 10 0)) (D (get_or t 10 0)))) (F (get_or t 0 0)) (get_or k 1 0) (F x) (F 0) once_0 in
      let e2 = in_second (D (get_or t 10 0)) (F (get_or t 0 0)) (F (get_or t 5 0)) (get_or k 2 0) (F x) (D x) (F 0) (D 0) once_0 twice_0 in
      let e3 = in_first (bit_xor (F (get_or t 0 0)) (D (get_or t 0 0))) (F (get_or t 5 0)) (F (get_or t 10 0)) (get_or k 3 0) (D x) (D 0) twice_0 in
      λ i. e0 i ∷ e1 i ∷ e2 i ∷ e3 i ∷ bit_xor (bit_xor (bit_xor (bit_xor (D (get_or t 4 0)) (bit_xor (F (get_or t 9 0)) (D (get_or t 9 0)))) (F (get_or t 14 0))) (F (get_or t 3 0))) (get_or k 4 0) ∷ bit_xor (bit_xor (bit_xor (bit_xor (D (get_or t 9 0)) (bit_xor (F (get_or t 14 0)) (D (get_or t 14 0)))) (F (get_or t 3 0))) (F (get_or t 4 0))) (get_or k 5 0) ∷ bit_xor (bit_xor (bit_xor (bit_xor (D (get_or t 14 0)) (bit_xor (F (get_or t 3 0)) (D (get_or t 3 0)))) (F (get_or t 4 0))) (F (get_or t 9 0))) (get_or k 6 0) ∷ bit_xor (bit_xor (bit_xor (bit_xor (D (get_or t 3 0)) (bit_xor (F (get_or t 4 0)) (D (get_or t 4 0)))) (F (get_or t 9 0))) (F (get_or t 14 0))) (get_or k 7 0) ∷ bit_xor (bit_xor (bit_xor (bit_xor (D (get_or t 8 0)) (bit_xor (F (get_or t 13 0)) (D (get_or t 13 0)))) (F (get_or t 2 0))) (F (get_or t 7 0))) (get_or k 8 0) ∷ bit_xor (bit_xor (bit_xor (bit_xor (D (get_or t 13 0)) (bit_xor (F (get_or t 2 0)) (D (get_or t 2 0)))) (F (get_or t 7 0))) (F (get_or t 8 0))) (get_or k 9 0) ∷ bit_xor (bit_xor (bit_xor (bit_xor (D (get_or t 2 0)) (bit_xor (F (get_or t 7 0)) (D (get_or t 7 0)))) (F (get_or t 8 0))) (F (get_or t 13 0))) (get_or k 10 0) ∷ bit_xor (bit_xor (bit_xor (bit_xor (D (get_or t 7 0)) (bit_xor (F (get_or t 8 0)) (D (get_or t 8 0)))) (F (get_or t 13 0))) (F (get_or t 2 0))) (get_or k 11 0) ∷ bit_xor (bit_xor (bit_xor (bit_xor (D (get_or t 12 0)) (bit_xor (F (get_or t 1 0)) (D (get_or t 1 0)))) (F (get_or t 6 0))) (F (get_or t 11 0))) (get_or k 12 0) ∷ bit_xor (bit_xor (bit_xor (bit_xor (D (get_or t 1 0)) (bit_xor (F (get_or t 6 0)) (D (get_or t 6 0)))) (F (get_or t 11 0))) (F (get_or t 12 0))) (get_or k 13 0) ∷ bit_xor (bit_xor (bit_xor (bit_xor (D (get_or t 6 0)) (bit_xor (F (get_or t 11 0)) (D (get_or t 11 0)))) (F (get_or t 12 0))) (F (get_or t 1 0))) (get_or k 14 0) ∷ bit_xor (bit_xor (bit_xor (bit_xor (D (get_or t 11 0)) (bit_xor (F (get_or t 12 0)) (D (get_or t 12 0)))) (F (get_or t 1 0))) (F (get_or t 6 0))) (get_or k 15 0) ∷ []

  second_core : (t k : List ℕ)
      → one_round F D (spread t) (spread k)
      ≡ columns_of (shared F D (columns_of (one_round F D (cleared (spread t) but_four) (spread k))) (get_or t 0 0) (get_or t 1 0) (get_or t 2 0) (get_or t 3 0))
  second_core t k =
      let e0 = in_first (bit_xor (F (get_or t 5 0)) (D (get_or t 5 0))) (F (get_or t 10 0)) (F (get_or t 15 0)) (get_or k 0 0) (D (get_or t 0 0)) (D 0) twice_0 in
      let e1 = in_last (bit_xor (bit_xor (D (get_or t 5 0)) (bit_xor (F (get_or t 10 0)) (D (get_or t 10 0)))) (F (get_or t 15 0))) (get_or k 1 0) (F (get_or t 0 0)) (F 0) once_0 in
      let e2 = in_third (bit_xor (D (get_or t 10 0)) (bit_xor (F (get_or t 15 0)) (D (get_or t 15 0)))) (F (get_or t 5 0)) (get_or k 2 0) (F (get_or t 0 0)) (F 0) once_0 in
      let e3 = in_second (D (get_or t 15 0)) (F (get_or t 5 0)) (F (get_or t 10 0)) (get_or k 3 0) (F (get_or t 0 0)) (D (get_or t 0 0)) (F 0) (D 0) once_0 twice_0 in
      let e4 = in_last (bit_xor (bit_xor (D (get_or t 4 0)) (bit_xor (F (get_or t 9 0)) (D (get_or t 9 0)))) (F (get_or t 14 0))) (get_or k 4 0) (F (get_or t 3 0)) (F 0) once_0 in
      let e5 = in_third (bit_xor (D (get_or t 9 0)) (bit_xor (F (get_or t 14 0)) (D (get_or t 14 0)))) (F (get_or t 4 0)) (get_or k 5 0) (F (get_or t 3 0)) (F 0) once_0 in
      let e6 = in_second (D (get_or t 14 0)) (F (get_or t 4 0)) (F (get_or t 9 0)) (get_or k 6 0) (F (get_or t 3 0)) (D (get_or t 3 0)) (F 0) (D 0) once_0 twice_0 in
      let e7 = in_first (bit_xor (F (get_or t 4 0)) (D (get_or t 4 0))) (F (get_or t 9 0)) (F (get_or t 14 0)) (get_or k 7 0) (D (get_or t 3 0)) (D 0) twice_0 in
      let e8 = in_third (bit_xor (D (get_or t 8 0)) (bit_xor (F (get_or t 13 0)) (D (get_or t 13 0)))) (F (get_or t 7 0)) (get_or k 8 0) (F (get_or t 2 0)) (F 0) once_0 in
      let e9 = in_second (D (get_or t 13 0)) (F (get_or t 7 0)) (F (get_or t 8 0)) (get_or k 9 0) (F (get_or t 2 0)) (D (get_or t 2 0)) (F 0) (D 0) once_0 twice_0 in
      let e10 = in_first (bit_xor (F (get_or t 7 0)) (D (get_or t 7 0))) (F (get_or t 8 0)) (F (get_or t 13 0)) (get_or k 10 0) (D (get_or t 2 0)) (D 0) twice_0 in
      let e11 = in_last (bit_xor (bit_xor (D (get_or t 7 0)) (bit_xor (F (get_or t 8 0)) (D (get_or t 8 0)))) (F (get_or t 13 0))) (get_or k 11 0) (F (get_or t 2 0)) (F 0) once_0 in
      let e12 = in_second (D (get_or t 12 0)) (F (get_or t 6 0)) (F (get_or t 11 0)) (get_or k 12 0) (F (get_or t 1 0)) (D (get_or t 1 0)) (F 0) (D 0) once_0 twice_0 in
      let e13 = in_first (bit_xor (F (get_or t 6 0)) (D (get_or t 6 0))) (F (get_or t 11 0)) (F (get_or t 12 0)) (get_or k 13 0) (D (get_or t 1 0)) (D 0) twice_0 in
      let e14 = in_last (bit_xor (bit_xor (D (get_or t 6 0)) (bit_xor (F (get_or t 11 0)) (D (get_or t 11 0)))) (F (get_or t 12 0))) (get_or k 14 0) (F (get_or t 1 0)) (F 0) once_0 in
      let e15 = in_third (bit_xor (D (get_or t 11 0)) (bit_xor (F (get_or t 12 0)) (D (get_or t 12 0)))) (F (get_or t 6 0)) (get_or k 15 0) (F (get_or t 1 0)) (F 0) once_0 in
      λ i. e0 i ∷ e1 i ∷ e2 i ∷ e3 i ∷ e4 i ∷ e5 i ∷ e6 i ∷ e7 i ∷ e8 i ∷ e9 i ∷ e10 i ∷ e11 i ∷ e12 i ∷ e13 i ∷ e14 i ∷ e15 i ∷ []

zero_once : once 0 ≡ 0
unfolding upper lower once
zero_once = refl

zero_twice : twice 0 ≡ 0
unfolding upper lower twice
zero_twice = refl

-- what the last octet is before the first round
abbrev begun_last : List ℕ → ℕ → ℕ
begun_last k0 last = tower (bit_xor last (get_or k0 15 0))

-- the state after two rounds from what is kept
abbrev kept : ℕ → List ℕ → List ℕ → List ℕ
kept x c1 c2 = spread_column c2 (first_column x x x x (get_or c1 0 0) (get_or c1 4 0) (get_or c1 8 0) (get_or c1 12 0))

abbrev first_kept : (t k1 : List ℕ) → List ℕ
first_kept t k1 = lane_round (cleared t but_last) k1

abbrev second_kept : (t k1 k2 : List ℕ) → List ℕ
second_kept t k1 k2 = lane_round (columns_of (cleared (columns_of (first_kept t k1)) but_column)) k2

abbrev begun_state : List ℕ → List ℕ → List ℕ
begun_state block k0 = map tower (zip2 bit_xor block k0)

row_core : (block k0 p1 p2 : List ℕ) (last : ℕ)
    → let t = begun_state (spread block) (spread k0) in
    columns_of (kept (begun_last k0 last) (columns_of (first_kept t (columns_of p1))) (columns_of (second_kept t (columns_of p1) (columns_of p2))))
    ≡ lane_round (lane_round (begun_state (with_last (spread block) last) (spread k0)) (columns_of p1)) (columns_of p2)
row_core block k0 p1 p2 last =
    let t = begun_state (spread block) (spread k0) in
    let x = begun_last k0 last in
    let k1 = columns_of p1 in
    let k2 = columns_of p2 in
    let s = overlaid once twice (first_kept t k1) x in
    sym (ap (λ (v : List ℕ). lane_round v k2) (first_core once twice zero_once zero_twice t k1 x)
    ∙ second_core once twice zero_once zero_twice s k2)

with_last_fits : (t : List ℕ) (x : ℕ) → length t ≡ 16 → Each1 (Fits w8) t → x < 256 → Each1 (Fits w8) (with_last t x)
with_last_fits t x long f low =
    let picks : pick_l 0 (t ++ x ∷ []) but_last ≡ with_last t x =
    subst (λ (v : List ℕ). pick_l 0 (v ++ x ∷ []) but_last ≡ with_last v x) (pick_l_whole 0 t 16 long) refl in
    subst (Each1 (Fits w8)) picks (pick_fits (t ++ x ∷ []) but_last (both_fit t (x ∷ []) f (record { fits = low }, tt)))

with_last_long : (t : List ℕ) (x : ℕ) → length t ≡ 16 → length (with_last t x) ≡ 16
with_last_long t x long = subst (λ (v : List ℕ). length (with_last v x) ≡ 16) (pick_l_whole 0 t 16 long) refl

tower_fits : (t : List ℕ) → Each1 (Fits w8) t → Each1 (Fits w8) (map tower t)
unfolding tower
tower_fits t f = fit tower t f tt

-- two rounds over the field of 16 elements are the standard's
two_rounds : (key block k0 p1 p2 : List ℕ) → length block ≡ 16 → length k0 ≡ 16
    → Each1 (Fits w8) block → Each1 (Fits w8) k0 → Each1 (Fits w8) p1 → Each1 (Fits w8) p2
    → k0 ≡ round_key (expanded_key key) 0 → unprepared p1 ≡ round_key (expanded_key key) 1 → unprepared p2 ≡ round_key (expanded_key key) 2
    → map untower (lane_round (lane_round (begun_state block k0) (columns_of p1)) (columns_of p2)) ≡ state_after (expanded_key key) 2 block
two_rounds key block k0 p1 p2 long full f f0 f1 f2 e0 e1 e2 =
    let sum = zip2 bit_xor block k0 in
    let fits = sum_fits block k0 f f0 in
    let s0 = begun_state block k0 in
    let s0_fits = tower_fits sum fits in
    let s0_long = towered_length block k0 sum s0 long full refl refl in
    let k1 = columns_of p1 in
    let k1_fits = picked_fits p1 across f1 in
    let s1 = lane_round s0 k1 in
    let s2 = lane_round s1 (columns_of p2) in
    let at_0 = begun key block (map untower s0) k0 (back sum fits) e0 in
    let at_1 = gone_on key block (map untower s0) (map untower s1) (unprepared p1) 1 (omega arith) (lane_round_is s0 k1 s0_long s0_fits k1_fits) e1 at_0 in
    gone_on key block (map untower s1) (map untower s2) (unprepared p2) 2 (omega arith)
    (lane_round_is s1 (columns_of p2) refl (round_fits s0 k1 s0_fits k1_fits) (picked_fits p2 across f2)) e2 at_1

-- the last octet's lanes of a key
abbrev pub fifteens : List ℕ
fifteens = 15 ∷ 15 ∷ 15 ∷ 15 ∷ 15 ∷ 15 ∷ 15 ∷ 15 ∷ 15 ∷ 15 ∷ 15 ∷ 15 ∷ 15 ∷ 15 ∷ 15 ∷ 15 ∷ []

start_at : (k : List ℕ) → length k ≡ 16 → picked k fifteens ≡ replicate 16 (get_or k 15 0)
start_at k long = subst (λ (v : List ℕ). picked v fifteens ≡ replicate 16 (get_or v 15 0)) (pick_l_whole 0 k 16 long) refl

abbrev four_of : List ℕ → List ℕ
four_of c = get_or c 0 0 ∷ get_or c 4 0 ∷ get_or c 8 0 ∷ get_or c 12 0 ∷ []

first_at : (c : List ℕ) → length c ≡ 16 → picked c column_lanes ≡ four_of c ++ four_of c ++ four_of c ++ four_of c
first_at c long = subst (λ (v : List ℕ). picked v column_lanes ≡ four_of v ++ four_of v ++ four_of v ++ four_of v) (pick_l_whole 0 c 16 long) refl

module _ (key block k0 p1 p2 b c1 c2 : List ℕ) (long : length block ≡ 16) (full : length k0 ≡ 16)
    (f : Each1 (Fits w8) block) (f0 : Each1 (Fits w8) k0) (f1 : Each1 (Fits w8) p1) (f2 : Each1 (Fits w8) p2)
    (e0 : k0 ≡ round_key (expanded_key key) 0) (e1 : unprepared p1 ≡ round_key (expanded_key key) 1) (e2 : unprepared p2 ≡ round_key (expanded_key key) 2)
    (is_b : b ≡ columns_of (begun_state block k0))
    (is_1 : c1 ≡ columns_of (lane_round (columns_of (cleared b but_last)) (columns_of p1)))
    (is_2 : c2 ≡ columns_of (lane_round (columns_of (cleared c1 but_column)) (columns_of p2))) where
  leads : (last : ℕ) → last < 256 → octets_of (kept (begun_last k0 last) c1 c2) ≡ state_after (expanded_key key) 2 (with_last block last)
  leads last low =
      let at = pick_l_whole 0 block 16 long in
      let bt = pick_l_whole 0 k0 16 full in
      let k1 = columns_of p1 in
      let k2 = columns_of p2 in
      let t = begun_state (spread block) (spread k0) in
      let q_b : b ≡ columns_of t = is_b ∙ sym (λ i. columns_of (begun_state (at i) (bt i))) in
      let q_1 : c1 ≡ columns_of (first_kept t k1) = is_1 ∙ (λ i. columns_of (lane_round (columns_of (cleared (q_b i) but_last)) k1)) in
      let q_2 : c2 ≡ columns_of (second_kept t k1 k2) = is_2 ∙ (λ i. columns_of (lane_round (columns_of (cleared (q_1 i) but_column)) k2)) in
      (λ i. octets_of (kept (begun_last k0 last) (q_1 i) (q_2 i)))
      ∙ ap (map untower) (row_core block k0 p1 p2 last)
      ∙ (λ i. map untower (lane_round (lane_round (begun_state (with_last (at i) last) (bt i)) k1) k2))
      ∙ two_rounds key (with_last block last) k0 p1 p2 (with_last_long block last long) full (with_last_fits block last long f low) f0 f1 f2 e0 e1 e2

  pub is_prefix : IsPrefix key block (picked k0 fifteens) (picked c1 column_lanes) c2
  is_prefix =
      let st = start_at k0 full in
      let fi = first_at c1 (ap length is_1) in
      record {
        start_long = refl;
        first_long = refl;
        at_0 = λ last low. (λ i. octets_of (after_two (st i) (fi i) c2 0 last)) ∙ leads last low;
        at_4 = λ last low. (λ i. octets_of (after_two (st i) (fi i) c2 4 last)) ∙ leads last low;
        at_8 = λ last low. (λ i. octets_of (after_two (st i) (fi i) c2 8 last)) ∙ leads last low;
        at_12 = λ last low. (λ i. octets_of (after_two (st i) (fi i) c2 12 last)) ∙ leads last low;
      }
