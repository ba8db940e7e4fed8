-- The words of a key, and one more word of its schedule.
use Rattle.std.proofs.Common.{◌≡◌, ℕ, zero, suc, ◌+◌, ◌-◌, ◌*◌, ◌/◌, ◌<◌, ◌≤◌, List, [], ◌∷◌, ◌++◌, length, map, take, drop, set, get_or, bit_xor, refl, ap, sym, ◌∙◌, arith}
use Rattle.std.specs.List.{range_with_len}
use Rattle.std.specs.Simd.Lanes.{zip2}
use Rattle.std.proofs.lemmas.List.{get_or-map, get_or-take, length-take-le, map-append, take_more, take_more_set}
use Rattle.std.proofs.lemmas.List.FromFn.{get_or-map-range_with_len}
use Rattle.aes_block.specs.Field.{times_x}
use Rattle.aes_block.specs.Schedule.{power_of_x, step_word, next_word, words_of, schedule}
use Rattle.aes_block.specs.Inside.Words.{word_octets}
use Rattle.aes_block.specs.declared.key_schedule.TheConstants.{ROUND_CONSTANTS}
use Rattle.aes_block.proofs.WordLemmas.{word_octets-bit_xor}

constants_are : ROUND_CONSTANTS ≡ map power_of_x (range_with_len 0 10)
unfolding times_x power_of_x
constants_are = refl

pub constant_is : (k : ℕ) → k < 10 → get_or ROUND_CONSTANTS k 0 ≡ power_of_x k
constant_is k low = ap (λ (t : List ℕ). get_or t k 0) constants_are ∙ get_or-map-range_with_len power_of_x 0 10 k k 0 low (omega arith)

pub length-words_of : (key : List ℕ) → length (words_of key) ≡ length key / 4
length-words_of [] = refl
length-words_of (a ∷ []) = refl
length-words_of (a ∷ b ∷ []) = refl
length-words_of (a ∷ b ∷ c ∷ []) = refl
length-words_of (a ∷ b ∷ c ∷ d ∷ key) = let e = length-words_of key in omega arith

-- word n of a key
pub get_or-words_of : (n : ℕ) (key : List ℕ) → 4 * n + 4 ≤ length key → get_or (words_of key) n [] ≡ take 4 (drop (4 * n) key)
get_or-words_of zero (a ∷ b ∷ c ∷ d ∷ key) fits = refl
get_or-words_of (suc n) (a ∷ b ∷ c ∷ d ∷ key) fits =
    let more : 4 * suc n ≡ suc (suc (suc (suc (4 * n)))) = omega arith in
    get_or-words_of n key (omega arith) ∙ sym (ap (λ (k : ℕ). take 4 (drop k (a ∷ b ∷ c ∷ d ∷ key))) more)
get_or-words_of n [] fits = absurd (omega arith)
get_or-words_of n (a ∷ []) fits = absurd (omega arith)
get_or-words_of n (a ∷ b ∷ []) fits = absurd (omega arith)
get_or-words_of n (a ∷ b ∷ c ∷ []) fits = absurd (omega arith)

-- one more word of a key
pub words_more : (key words : List ℕ) (n w : ℕ) → n < length key / 4 → n < length words
    → map word_octets (take n words) ≡ take n (words_of key) → word_octets w ≡ take 4 (drop (4 * n) key)
    → map word_octets (take (n + 1) (set words n w)) ≡ take (n + 1) (words_of key)
words_more key words n w low fits so_far is =
    ap (map word_octets) (take_more_set words n w fits) ∙ map-append word_octets (take n words) (w ∷ [])
    ∙ (λ j. so_far j ++ (is ∙ sym (get_or-words_of n key (omega arith))) j ∷ [])
    ∙ sym (take_more (words_of key) n [] (omega (arith, length-words_of key)))

-- word k of the words that stand first in a list
pub get_or-first_words : (words : List ℕ) (n k : ℕ) → k < n → n ≤ length words
    → get_or (map word_octets (take n words)) k [] ≡ word_octets (get_or words k 0)
get_or-first_words words n k low fits =
    get_or-map word_octets (take n words) k 0 [] (omega (arith, length-take-le n words fits)) ∙ ap word_octets (get_or-take n words k 0 low)

-- one more word of a schedule
pub schedule_more : (key words : List ℕ) (i x : ℕ) → 4 ≤ length key / 4 → length key / 4 ≤ i → i < length words
    → map word_octets (take i words) ≡ schedule key (i - length key / 4)
    → word_octets x ≡ step_word (length key / 4) i (word_octets (get_or words (i - 1) 0))
    → map word_octets (take (i + 1) (set words i (bit_xor (get_or words (i - length key / 4) 0) x)))
    ≡ schedule key (i + 1 - length key / 4)
unfolding schedule
schedule_more key words i x least within fits so_far stepped =
    let k = length key / 4 in
    let n = i - k in
    let y = bit_xor (get_or words (i - k) 0) x in
    let w = schedule key n in
    let next : i + 1 - k ≡ suc n = omega arith in
    let place : k + n ≡ i = omega arith in
    let far : get_or w (i - k) [] ≡ word_octets (get_or words (i - k) 0) =
    ap (λ (v : List (List ℕ)). get_or v (i - k) []) (sym so_far) ∙ get_or-first_words words i (i - k) (omega arith) (omega arith) in
    let near : get_or w (i - 1) [] ≡ word_octets (get_or words (i - 1) 0) =
    ap (λ (v : List (List ℕ)). get_or v (i - 1) []) (sym so_far) ∙ get_or-first_words words i (i - 1) (omega arith) (omega arith) in
    let made : word_octets y ≡ next_word k i w =
    word_octets-bit_xor (get_or words (i - k) 0) x
    ∙ (λ j. zip2 bit_xor (sym far j) ((stepped ∙ ap (step_word k i) (sym near)) j)) in
    ap (map word_octets) (take_more_set words i y fits) ∙ map-append word_octets (take i words) (y ∷ [])
    ∙ (λ j. so_far j ++ made j ∷ []) ∙ sym (ap (λ (m : ℕ). w ++ next_word k m w ∷ []) place) ∙ sym (ap (schedule key) next)
