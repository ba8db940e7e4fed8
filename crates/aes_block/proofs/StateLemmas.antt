-- The states of four blocks of a row, each from its four lanes.
use Rattle.std.proofs.Common.{◌≡◌, ℕ, ◌+◌, ◌%◌, ◌<◌, List, [], ◌∷◌, length, map, bit_xor, sym, ap, ◌∙◌, arith}
use Rattle.std.proofs.lemmas.Simd.{pick_l_whole}
use lib.Lanes.{zip2}
use Rattle.aes_block.specs.Inside.Rounds.{once, twice}
use Rattle.aes_block.specs.Inside.Rows.{after_two}
use Rattle.aes_block.specs.Inside.Tower.{tower}
use Rattle.aes_block.proofs.MixLemmas.{spread}
use Rattle.aes_block.proofs.PrefixLemmas.{cleared}

-- Four blocks of a row: the lanes that their columns take
abbrev column_once : List ℕ
column_once = 0 ∷ 1 ∷ 2 ∷ 16 ∷ 4 ∷ 5 ∷ 6 ∷ 16 ∷ 8 ∷ 9 ∷ 10 ∷ 16 ∷ 12 ∷ 13 ∷ 14 ∷ 16 ∷ []

abbrev column_twice : List ℕ
column_twice = 16 ∷ 16 ∷ 2 ∷ 3 ∷ 16 ∷ 16 ∷ 6 ∷ 7 ∷ 16 ∷ 16 ∷ 10 ∷ 11 ∷ 16 ∷ 16 ∷ 14 ∷ 15 ∷ []

abbrev pub columns_from : (first o d : List ℕ) → List ℕ
columns_from first o d = zip2 bit_xor (zip2 bit_xor first (cleared o column_once)) (cleared d column_twice)

abbrev pub four_times : (a b c d : ℕ) → List ℕ
four_times a b c d = a ∷ a ∷ a ∷ a ∷ b ∷ b ∷ b ∷ b ∷ c ∷ c ∷ c ∷ c ∷ d ∷ d ∷ d ∷ d ∷ []

-- the vectors behind a row's states
abbrev columns_at : (start first : List ℕ) → (a b c d : ℕ) → List ℕ
columns_at start first a b c d =
    let x = map tower (zip2 bit_xor (four_times a b c d) start) in columns_from first (map once x) (map twice x)

module _ (start first second lasts x o d columns o2 d2 : List ℕ) (n0 n1 n2 n3 : ℕ)
    (long : length start ≡ 16) (full : length first ≡ 16) (is_lasts : lasts ≡ four_times n0 n1 n2 n3)
    (is_x : x ≡ map tower (zip2 bit_xor lasts start)) (is_o : o ≡ map once x) (is_d : d ≡ map twice x)
    (is_columns : columns ≡ columns_from first o d) (is_o2 : o2 ≡ map once columns) (is_d2 : d2 ≡ map twice columns) where
  abbrev state_from : (places places2 : List ℕ) → List ℕ → List ℕ → List ℕ
  state_from places places2 o d = zip2 bit_xor (zip2 bit_xor second (cleared o places)) (cleared d places2)

  made_columns : columns ≡ columns_at start first n0 n1 n2 n3
  made_columns =
      is_columns ∙ (λ i. columns_from first (is_o i) (is_d i))
      ∙ ap (λ (v : List ℕ). columns_from first (map once v) (map twice v)) (is_x ∙ ap (λ (l : List ℕ). map tower (zip2 bit_xor l start)) is_lasts)

  -- by whole lists
  made : (places places2 : List ℕ) → state_from places places2 o2 d2
      ≡ state_from places places2 (map once (columns_at (spread start) (spread first) n0 n1 n2 n3)) (map twice (columns_at (spread start) (spread first) n0 n1 n2 n3))
  made places places2 =
      let at = pick_l_whole 0 start 16 long in
      let bt = pick_l_whole 0 first 16 full in
      (λ i. state_from places places2 (is_o2 i) (is_d2 i))
      ∙ ap (λ (v : List ℕ). state_from places places2 (map once v) (map twice v)) (made_columns ∙ sym (λ i. columns_at (at i) (bt i) n0 n1 n2 n3))

  abbrev once_0 : List ℕ
  once_0 = 16 ∷ 3 ∷ 2 ∷ 1 ∷ 0 ∷ 3 ∷ 2 ∷ 16 ∷ 0 ∷ 3 ∷ 16 ∷ 1 ∷ 0 ∷ 16 ∷ 2 ∷ 1 ∷ []

  abbrev twice_0 : List ℕ
  twice_0 = 0 ∷ 16 ∷ 16 ∷ 1 ∷ 16 ∷ 16 ∷ 2 ∷ 1 ∷ 16 ∷ 3 ∷ 2 ∷ 16 ∷ 0 ∷ 3 ∷ 16 ∷ 16 ∷ []

  pub state_0 : state_from once_0 twice_0 o2 d2 ≡ after_two start first second 0 n0
  state_0 = made once_0 twice_0

  abbrev once_4 : List ℕ
  once_4 = 16 ∷ 7 ∷ 6 ∷ 5 ∷ 4 ∷ 7 ∷ 6 ∷ 16 ∷ 4 ∷ 7 ∷ 16 ∷ 5 ∷ 4 ∷ 16 ∷ 6 ∷ 5 ∷ []

  abbrev twice_4 : List ℕ
  twice_4 = 4 ∷ 16 ∷ 16 ∷ 5 ∷ 16 ∷ 16 ∷ 6 ∷ 5 ∷ 16 ∷ 7 ∷ 6 ∷ 16 ∷ 4 ∷ 7 ∷ 16 ∷ 16 ∷ []

  pub state_4 : state_from once_4 twice_4 o2 d2 ≡ after_two start first second 4 n1
  state_4 = made once_4 twice_4

  abbrev once_8 : List ℕ
  once_8 = 16 ∷ 11 ∷ 10 ∷ 9 ∷ 8 ∷ 11 ∷ 10 ∷ 16 ∷ 8 ∷ 11 ∷ 16 ∷ 9 ∷ 8 ∷ 16 ∷ 10 ∷ 9 ∷ []

  abbrev twice_8 : List ℕ
  twice_8 = 8 ∷ 16 ∷ 16 ∷ 9 ∷ 16 ∷ 16 ∷ 10 ∷ 9 ∷ 16 ∷ 11 ∷ 10 ∷ 16 ∷ 8 ∷ 11 ∷ 16 ∷ 16 ∷ []

  pub state_8 : state_from once_8 twice_8 o2 d2 ≡ after_two start first second 8 n2
  state_8 = made once_8 twice_8

  abbrev once_12 : List ℕ
  once_12 = 16 ∷ 15 ∷ 14 ∷ 13 ∷ 12 ∷ 15 ∷ 14 ∷ 16 ∷ 12 ∷ 15 ∷ 16 ∷ 13 ∷ 12 ∷ 16 ∷ 14 ∷ 13 ∷ []

  abbrev twice_12 : List ℕ
  twice_12 = 12 ∷ 16 ∷ 16 ∷ 13 ∷ 16 ∷ 16 ∷ 14 ∷ 13 ∷ 16 ∷ 15 ∷ 14 ∷ 16 ∷ 12 ∷ 15 ∷ 16 ∷ 16 ∷ []

  pub state_12 : state_from once_12 twice_12 o2 d2 ≡ after_two start first second 12 n3
  state_12 = made once_12 twice_12

-- the last octets don't go past 255
pub wrapped : (n : ℕ) → n + 3 < 256
    → four_times ((n + 0) % 256) ((n + 1) % 256) ((n + 2) % 256) ((n + 3) % 256) ≡ four_times n (n + 1) (n + 2) (n + 3)
wrapped n low =
    let a : (n + 0) % 256 ≡ n = omega arith in
    let b : (n + 1) % 256 ≡ n + 1 = omega arith in
    let c : (n + 2) % 256 ≡ n + 2 = omega arith in
    let d : (n + 3) % 256 ≡ n + 3 = omega arith in
    λ i. four_times (a i) (b i) (c i) (d i)
