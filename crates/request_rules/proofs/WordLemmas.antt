-- Words that name rising numbers, one number after another.
use Rattle.std.proofs.Common.{◌≡◌, ℕ, zero, suc, ◌+◌, ◌-◌, ◌*◌, ◌/◌, ◌%◌, ◌^◌, ◌<◌, ◌≤◌, Bool, true, false, cond, not, List, [], ◌∷◌, ◌++◌, map, take, Option, Some, None, refl, sym, ap, ◌∙◌, arith, append_assoc, lit≤}
use Rattle.std.specs.Prelude.{◌==◌, if◌then◌else◌}
use Rattle.std.specs.List.{filter, range_with_len, sum_by}
use Rattle.std.proofs.lemmas.Bool.{le-leb, leb-true, ne_eqb, eqb-true}
use Rattle.std.proofs.lemmas.List.{map-append}
use Rattle.std.proofs.lemmas.List.Elements.{filter-append}
use Rattle.std.proofs.Math.Nat.{pow-succ', add-mul-mod_self_left, add-mul-div_left, div-add-mod}
use Rattle.std.proofs.Math.Pow.{pow_mono}
use Rattle.std.proofs.lemmas.Nat.{pow_pos}
use Rattle.rist_nack.specs.Requests.{set_places}
use Rattle.std.proofs.lemmas.Grind.{common_steps}
use Rattle.std.proofs.lemmas.List.Sums.{sum_by-append, sum_by-cons}
use Rattle.request_rules.specs.declared.policy.NackKind.{NackKind}
use Rattle.request_rules.specs.declared.policy.NackKind.TheVariants.{Range, Mask}
use Rattle.request_rules.specs.declared.word.AskWord.{AskWord}
use Rattle.request_rules.specs.Words.{masked_numbers, run_with, runs_of, is_masked, mask_word, mask_words, words_for, numbers_in, asked_numbers, IsRisingIn}
use Rattle.request_rules.specs.Building.{word_of, extended, last_with, last_takes, with_number, takes, IsAbove, IsAboveLast}

pub rising_le : (low high : ℕ) (xs : List ℕ) → IsRisingIn low high xs → low ≤ high
rising_le low high [] h = h
rising_le low high (x ∷ xs) h = omega (arith, h.0, rising_le (x + 1) high xs h.1)

-- ---- runs

-- one more number behind runs
abbrev add_run : List AskWord → ℕ → List AskWord
add_run [] x = word_of x ∷ []
add_run (w ∷ []) x = if x == w.first + w.second + 1 then record { first = w.first; second = w.second + 1 } ∷ [] else w ∷ word_of x ∷ []
add_run (w ∷ v ∷ ws) x = w ∷ add_run (v ∷ ws) x

joined : (y x : ℕ) (w : AskWord) (c : Bool) → (w.first == y + 1) ≡ true
    → run_with y (cond c (record { first = w.first; second = w.second + 1 } ∷ []) (w ∷ word_of x ∷ []))
    ≡ cond c (record { first = y; second = w.second + 1 + 1 } ∷ []) (record { first = y; second = w.second + 1 } ∷ word_of x ∷ [])
joined y x w true e = rw e refl
joined y x w false e = rw e refl

apart : (y x : ℕ) (w : AskWord) (c : Bool) → (w.first == y + 1) ≡ false
    → run_with y (cond c (record { first = w.first; second = w.second + 1 } ∷ []) (w ∷ word_of x ∷ []))
    ≡ word_of y ∷ cond c (record { first = w.first; second = w.second + 1 } ∷ []) (w ∷ word_of x ∷ [])
apart y x w true e = rw e refl
apart y x w false e = rw e refl

same_test : (x a b : ℕ) → a ≡ b → (x == a) ≡ (x == b)
same_test x a b e = ap (λ n. x == n) e

run_add : (y x : ℕ) (ws : List AskWord) → run_with y (add_run ws x) ≡ add_run (run_with y ws) x
run_add y x [] = only (x == y + 1) (x == y + 0 + 1) (same_test x (y + 1) (y + 0 + 1) (omega arith)) refl
  where
    only : (b c : Bool) → b ≡ c → (x == y + 1) ≡ b
        → cond (x == y + 1) (record { first = y; second = 0 + 1 } ∷ []) (word_of y ∷ word_of x ∷ []) ≡ cond c (record { first = y; second = 0 + 1 } ∷ []) (word_of y ∷ word_of x ∷ [])
    only b c e f = ap (λ d. cond d (record { first = y; second = 0 + 1 } ∷ []) (word_of y ∷ word_of x ∷ [])) (f ∙ e)
run_add y x (w ∷ []) =
    elim (w.first == y + 1) as (λ c. (w.first == y + 1) ≡ c → run_with y (add_run (w ∷ []) x) ≡ add_run (cond c (record { first = y; second = w.second + 1 } ∷ []) (word_of y ∷ w ∷ [])) x) [
      | true ↦ λ e. joined y x w (x == w.first + w.second + 1) e
          ∙ ap (λ b. cond b (record { first = y; second = w.second + 1 + 1 } ∷ []) (record { first = y; second = w.second + 1 } ∷ word_of x ∷ []))
          (same_test x (w.first + w.second + 1) (y + (w.second + 1) + 1) (omega (arith, eqb-true (w.first) (y + 1) e)))
      | false ↦ λ e. apart y x w (x == w.first + w.second + 1) e
    ] refl
run_add y x (w ∷ v ∷ ws) =
    elim (w.first == y + 1) as (λ c. cond c (record { first = y; second = w.second + 1 } ∷ add_run (v ∷ ws) x) (word_of y ∷ w ∷ add_run (v ∷ ws) x)
    ≡ add_run (cond c (record { first = y; second = w.second + 1 } ∷ v ∷ ws) (word_of y ∷ w ∷ v ∷ ws)) x) [ true ↦ refl | false ↦ refl ]

runs-snoc : (xs : List ℕ) (x : ℕ) → runs_of (xs ++ x ∷ []) ≡ add_run (runs_of xs) x
runs-snoc [] x = refl
runs-snoc (y ∷ ys) x = ap (run_with y) (runs-snoc ys x) ∙ run_add y x (runs_of ys)

-- each run begins from low on, ends below x, and no run begins where the one before ends
abbrev AreRuns : ℕ → ℕ → List AskWord → Type 0
AreRuns low x [] = Unit {0}
AreRuns low x (w ∷ ws) = (low ≤ w.first) × (w.first + w.second < x) × AreRuns (w.first + w.second + 1) x ws

runs_lower : (low lower x : ℕ) (ws : List AskWord) → lower ≤ low → AreRuns low x ws → AreRuns lower x ws
runs_lower low lower x [] le h = tt
runs_lower low lower x (w ∷ ws) le h = (omega (arith, h.0), h.1, h.2)

runs_with : (low y x : ℕ) (ws : List AskWord) → low ≤ y → y < x → AreRuns (y + 1) x ws → AreRuns low x (run_with y ws)
runs_with low y x [] le lt h = (le, omega arith, tt)
runs_with low y x (w ∷ ws) le lt h =
    elim (w.first == y + 1) as (λ c. (w.first == y + 1) ≡ c → AreRuns low x (cond c (record { first = y; second = w.second + 1 } ∷ ws) (word_of y ∷ w ∷ ws))) [
      | true ↦ λ e. (le, omega (arith, eqb-true (w.first) (y + 1) e, h.1), runs_lower (w.first + w.second + 1) (y + (w.second + 1) + 1) x ws (omega (arith, eqb-true (w.first) (y + 1) e)) h.2)
      | false ↦ λ e. (le, omega arith, (omega (arith, h.0), h.1, h.2))
    ] refl

pub runs_are : (low x : ℕ) (xs : List ℕ) → IsRisingIn low x xs → AreRuns low x (runs_of xs)
runs_are low x [] h = tt
runs_are low x (y ∷ ys) h = runs_with low y x (runs_of ys) h.0 (omega (arith, rising_le (y + 1) x ys h.1)) (runs_are (y + 1) x ys h.1)

take_none : (n : ℕ) → ◌≡◌ {A = List AskWord} (take n []) []
take_none zero = refl
take_none (suc n) = refl

-- the last run, cut off after so many
last_run : (n x : ℕ) (w : AskWord) (c : Bool) → take (suc n) (cond c (record { first = w.first; second = w.second + 1 } ∷ []) (w ∷ word_of x ∷ []))
    ≡ last_with n w x (cond c (Some (record { first = w.first; second = w.second + 1 })) None)
last_run n x w true = ap (λ l. record { first = w.first; second = w.second + 1 } ∷ l) (take_none n)
last_run zero x w false = refl
last_run (suc n) x w false = ap (λ l. w ∷ word_of x ∷ l) (take_none n)

-- of runs that are cut off after so many
take-add : (low x n : ℕ) (ws : List AskWord) → AreRuns low x ws → take n (add_run ws x) ≡ with_number Range n (take n ws) x
take-add low x zero ws h = refl
take-add low x (suc n) [] h = ap (λ l. word_of x ∷ l) (take_none n)
take-add low x (suc n) (w ∷ []) h = last_run n x w (x == w.first + w.second + 1) ∙ ap (λ l. with_number Range (suc n) (w ∷ l) x) (sym (take_none n))
take-add low x (suc zero) (w ∷ v ∷ ws) h = rw (ne_eqb x (w.first + w.second + 1) (λ e. omega (arith, e, h.2.0, h.2.1))) refl
take-add low x (suc (suc n)) (w ∷ v ∷ ws) h = ap (λ l. w ∷ l) (take-add (w.first + w.second + 1) x (suc n) (v ∷ ws) h.2)

-- ---- masks

masks_none : (n : ℕ) → mask_words n [] ≡ []
masks_none zero = refl
masks_none (suc n) = refl

-- with a number that the last word can't name
behind : (n x : ℕ) (w : AskWord) (ws : List AskWord) → extended Mask w x ≡ None → with_number Mask (suc n) (w ∷ ws) x ≡ w ∷ with_number Mask n ws x
behind zero x w [] e = ap (λ o. last_with 0 w x o) e
behind (suc n) x w [] e = ap (λ o. last_with (suc n) w x o) e
behind zero x w (v ∷ ws) e = refl
behind (suc n) x w (v ∷ ws) e = refl

-- numbers that are all near, or all far
all_masked : (y low x : ℕ) (ys : List ℕ) → IsRisingIn low x ys → x ≤ y + 16 → (filter (is_masked y) ys ≡ ys) × (filter (λ z. not (is_masked y z)) ys ≡ [])
all_masked y low x [] h le = (refl, refl)
all_masked y low x (z ∷ zs) h le =
    let near : is_masked y z ≡ true = le-leb z (y + 16) (omega (arith, rising_le (z + 1) x zs h.1)) in
    let rest = all_masked y (z + 1) x zs h.1 le in
    (rw near (ap (λ l. z ∷ l) rest.0), rw near rest.1)

pub rising-filter : (f : ℕ → Bool) (low x : ℕ) (ys : List ℕ) → IsRisingIn low x ys → IsRisingIn low x (filter f ys)
rising-filter f low x [] h = h
rising-filter f low x (z ∷ zs) h =
    elim (f z) as (λ c. IsRisingIn low x (cond c (z ∷ filter f zs) (filter f zs))) [
      | true ↦ (h.0, rising-filter f (z + 1) x zs h.1)
      | false ↦ rising_lower (z + 1) low x (filter f zs) (omega (arith, h.0)) (rising-filter f (z + 1) x zs h.1)
    ]
  where
    rising_lower : (low lower x : ℕ) (ys : List ℕ) → lower ≤ low → IsRisingIn low x ys → IsRisingIn lower x ys
    rising_lower low lower x [] le h = omega (arith, h)
    rising_lower low lower x (z ∷ zs) le h = (omega (arith, h.0), h.1)

sum_one : (f : ℕ → ℕ) (x : ℕ) → sum_by f (x ∷ []) ≡ f x
sum_one f x = grind (arith, common_steps)

append_none : (xs : List ℕ) → xs ++ [] ≡ xs
append_none [] = refl
append_none (x ∷ xs) = ap (λ l. x ∷ l) (append_none xs)

masks-snoc : (n low x : ℕ) (xs : List ℕ) → IsRisingIn low x xs → mask_words n (xs ++ x ∷ []) ≡ with_number Mask n (mask_words n xs) x
masks-snoc zero low x xs h = refl
masks-snoc (suc n) low x [] h = ap (λ l. word_of x ∷ l) (masks_none n)
masks-snoc (suc n) low x (y ∷ ys) h =
    elim (is_masked y x) as (λ c. is_masked y x ≡ c → mask_words (suc n) (y ∷ (ys ++ x ∷ [])) ≡ with_number Mask (suc n) (mask_words (suc n) (y ∷ ys)) x) [
      | true ↦ λ e. near e
      | false ↦ λ e. far (masks-snoc n (y + 1) x (filter (λ z. not (is_masked y z)) ys) (rising-filter (λ z. not (is_masked y z)) (y + 1) x ys h.1)) e
    ] refl
  where
    near : is_masked y x ≡ true → mask_words (suc n) (y ∷ (ys ++ x ∷ [])) ≡ with_number Mask (suc n) (mask_words (suc n) (y ∷ ys)) x
    near e =
        let all = all_masked y (y + 1) x ys h.1 (leb-true x (y + 16) e) in
        let none : filter (λ z. not (is_masked y z)) (ys ++ x ∷ []) ≡ [] = filter-append (λ z. not (is_masked y z)) ys (x ∷ []) ∙ ap (λ l. l ++ filter (λ z. not (is_masked y z)) (x ∷ [])) all.1 ∙ rw e refl in
        let one : filter (is_masked y) (ys ++ x ∷ []) ≡ filter (is_masked y) ys ++ x ∷ [] = filter-append (is_masked y) ys (x ∷ []) ∙ ap (λ l. filter (is_masked y) ys ++ l) (rw e refl) in
        let total : sum_by (λ z. 2 ^ (z - y - 1)) (filter (is_masked y) (ys ++ x ∷ [])) ≡ sum_by (λ z. 2 ^ (z - y - 1)) (filter (is_masked y) ys) + 2 ^ (x - y - 1) =
        ap (sum_by (λ z. 2 ^ (z - y - 1))) one ∙ sum_by-append (λ z. 2 ^ (z - y - 1)) (filter (is_masked y) ys) (x ∷ []) ∙ ap (λ k. sum_by (λ z. 2 ^ (z - y - 1)) (filter (is_masked y) ys) + k) (sum_one (λ z. 2 ^ (z - y - 1)) x) in
        ap (λ l. mask_word y (ys ++ x ∷ []) ∷ mask_words n l) none ∙ ap (λ l. mask_word y (ys ++ x ∷ []) ∷ l) (masks_none n)
        ∙ ap (λ k. record { first = y; second = k } ∷ []) total
        ∙ sym (ap (λ l. with_number Mask (suc n) (mask_word y ys ∷ l) x) (ap (mask_words n) all.1 ∙ masks_none n)
        ∙ ap (λ b. last_with n (mask_word y ys) x (cond b (Some (record { first = y; second = sum_by (λ z. 2 ^ (z - y - 1)) (filter (is_masked y) ys) + 2 ^ (x - y - 1) })) None)) e)

    far : mask_words n (filter (λ z. not (is_masked y z)) ys ++ x ∷ []) ≡ with_number Mask n (mask_words n (filter (λ z. not (is_masked y z)) ys)) x → is_masked y x ≡ false → mask_words (suc n) (y ∷ (ys ++ x ∷ [])) ≡ with_number Mask (suc n) (mask_words (suc n) (y ∷ ys)) x
    far known e =
        let more : filter (λ z. not (is_masked y z)) (ys ++ x ∷ []) ≡ filter (λ z. not (is_masked y z)) ys ++ x ∷ [] =
        filter-append (λ z. not (is_masked y z)) ys (x ∷ []) ∙ ap (λ l. filter (λ z. not (is_masked y z)) ys ++ l) (rw e refl) in
        let same : filter (is_masked y) (ys ++ x ∷ []) ≡ filter (is_masked y) ys =
        filter-append (is_masked y) ys (x ∷ []) ∙ ap (λ l. filter (is_masked y) ys ++ l) (rw e refl) ∙ append_none (filter (is_masked y) ys) in
        ap (λ l. mask_word y (ys ++ x ∷ []) ∷ mask_words n l) more
        ∙ ap (λ l. record { first = y; second = sum_by (λ z. 2 ^ (z - y - 1)) l } ∷ mask_words n (filter (λ z. not (is_masked y z)) ys ++ x ∷ [])) same
        ∙ ap (λ l. mask_word y ys ∷ l) known
        ∙ sym (behind n x (mask_word y ys) (mask_words n (filter (λ z. not (is_masked y z)) ys))
        (ap (λ b. cond b (Some (record { first = y; second = sum_by (λ z. 2 ^ (z - y - 1)) (filter (is_masked y) ys) + 2 ^ (x - y - 1) })) None) e))

-- ---- both

-- the words for rising numbers and one more are those for the numbers, with one more
pub words-snoc : (kind : NackKind) (low x : ℕ) (xs : List ℕ) → IsRisingIn low x xs → words_for kind 64 (xs ++ x ∷ []) ≡ with_number kind 64 (words_for kind 64 xs) x
words-snoc Range low x xs h = ap (take 64) (runs-snoc xs x) ∙ take-add low x 64 (runs_of xs) (runs_are low x xs h)
words-snoc Mask low x xs h = masks-snoc 64 low x xs h

-- ---- the numbers that words name

pub range-snoc : (a n : ℕ) → range_with_len a (n + 1) ≡ range_with_len a n ++ (a + n) ∷ []
range-snoc a n = ap (λ k. range_with_len a k) (plus_suc n) ∙ by_suc a n
  where
    plus_suc : (n : ℕ) → n + 1 ≡ suc n
    plus_suc n = omega arith

    by_suc : (a n : ℕ) → range_with_len a (suc n) ≡ range_with_len a n ++ (a + n) ∷ []
    by_suc a zero = ap (λ k. k ∷ []) (omega arith)
    by_suc a (suc n) = ap (λ l. a ∷ l) (by_suc (a + 1) n ∙ ap (λ k. range_with_len (a + 1) n ++ k ∷ []) (omega arith))

places_none : (n p : ℕ) → set_places n 0 p ≡ []
places_none zero p = refl
places_none (suc n) p = places_none n (p + 1)

halves : (k : ℕ) → 2 ^ suc k ≡ 2 * 2 ^ k
halves k = pow-succ' 2 k

-- one more bit above all others
places-more : (n k m p : ℕ) → m < 2 ^ k → k < n → set_places n (m + 2 ^ k) p ≡ set_places n m p ++ (p + k) ∷ []
places-more zero k m p lt in_n = absurd (omega arith)
places-more (suc n) zero m p lt in_n =
    let none : m ≡ 0 = omega (arith, lt) in
    ap (λ j. set_places (suc n) (j + 1) p) none ∙ ap (λ l. p ∷ l) (places_none n (p + 1)) ∙ ap (λ k. k ∷ []) (omega arith)
    ∙ ap (λ l. l ++ (p + 0) ∷ []) (sym (places_none (suc n) p)) ∙ ap (λ j. set_places (suc n) j p ++ (p + 0) ∷ []) (sym none)
places-more (suc n) (suc k) m p lt in_n =
    let rest : (m + 2 ^ suc k) % 2 ≡ m % 2 = ap (λ j. (m + j) % 2) (halves k) ∙ add-mul-mod_self_left m 2 (2 ^ k) in
    let half : (m + 2 ^ suc k) / 2 ≡ m / 2 + 2 ^ k = ap (λ j. (m + j) / 2) (halves k) ∙ add-mul-div_left m (2 ^ k) (lit≤ tt) in
    let less : m / 2 < 2 ^ k = omega (arith, lt, halves k, div-add-mod m 2) in
    ap (λ r. cond (r == 1) (p ∷ set_places n ((m + 2 ^ suc k) / 2) (p + 1)) (set_places n ((m + 2 ^ suc k) / 2) (p + 1))) rest
    ∙ ap (λ h. cond (m % 2 == 1) (p ∷ set_places n h (p + 1)) (set_places n h (p + 1))) half
    ∙ ap (λ l. cond (m % 2 == 1) (p ∷ l) l) (places-more n k (m / 2) (p + 1) less (omega (arith, in_n)) ∙ ap (λ j. set_places n (m / 2) (p + 1) ++ j ∷ []) (omega arith))
    ∙ either (m % 2 == 1)
  where
    either : (c : Bool) → cond c (p ∷ (set_places n (m / 2) (p + 1) ++ (p + suc k) ∷ [])) (set_places n (m / 2) (p + 1) ++ (p + suc k) ∷ [])
        ≡ cond c (p ∷ set_places n (m / 2) (p + 1)) (set_places n (m / 2) (p + 1)) ++ (p + suc k) ∷ []
    either true = refl
    either false = refl

places_map : (first n k m x : ℕ) → m < 2 ^ k → k < n → first + 1 + k ≡ x
    → map (λ i. first + i) (set_places n (m + 2 ^ k) 1) ≡ map (λ i. first + i) (set_places n m 1) ++ x ∷ []
places_map first n k m x lt in_n e =
    ap (map (λ i. first + i)) (places-more n k m 1 lt in_n) ∙ map-append (λ i. first + i) (set_places n m 1) ((1 + k) ∷ [])
    ∙ ap (λ z. map (λ i. first + i) (set_places n m 1) ++ z ∷ []) (omega (arith, e))

masked-more : (first k m x : ℕ) → first + 1 + k ≡ x → k < 16 → m < 2 ^ k → masked_numbers first (m + 2 ^ k) ≡ masked_numbers first m ++ x ∷ []
unfolding masked_numbers
masked-more first k m x e lt below = ap (λ l. first ∷ l) (places_map first 16 k m x below lt e)

-- a word for one number names it
alone : (kind : NackKind) (x : ℕ) → asked_numbers kind (word_of x ∷ []) ≡ x ∷ []
unfolding masked_numbers
alone Range x = refl
alone Mask x = refl

-- a longer word names one more number
longer_names : (kind : NackKind) (w v : AskWord) (x : ℕ) → IsAbove kind w x → extended kind w x ≡ Some v → numbers_in kind v ≡ numbers_in kind w ++ x ∷ []
longer_names Range w v x h e =
    elim (x == w.first + w.second + 1) as (λ c. (x == w.first + w.second + 1) ≡ c → cond c (Some (record { first = w.first; second = w.second + 1 })) None ≡ Some v → numbers_in Range v ≡ numbers_in Range w ++ x ∷ []) [
      | true ↦ λ f g. next f (Some_inj g)
      | false ↦ λ f g. absurd cc
    ] refl e
  where
    Some_inj : {a b : AskWord} → Some a ≡ Some b → a ≡ b
    Some_inj g = cc

    next : (x == w.first + w.second + 1) ≡ true → record { first = w.first; second = w.second + 1 } ≡ v → numbers_in Range v ≡ numbers_in Range w ++ x ∷ []
    next f g = ap (numbers_in Range) (sym g) ∙ range-snoc w.first (w.second + 1) ∙ ap (λ k. range_with_len w.first (w.second + 1) ++ k ∷ []) (omega (arith, eqb-true x (w.first + w.second + 1) f))
longer_names Mask w v x h e =
    elim (is_masked w.first x) as (λ c. is_masked w.first x ≡ c → cond c (Some (record { first = w.first; second = w.second + 2 ^ (x - w.first - 1) })) None ≡ Some v → numbers_in Mask v ≡ numbers_in Mask w ++ x ∷ []) [
      | true ↦ λ f g. ap (numbers_in Mask) (sym (inside g)) ∙ masked-more w.first (x - w.first - 1) w.second x (omega (arith, h.first)) (omega (arith, leb-true x (w.first + 16) f)) (h.mask refl)
      | false ↦ λ f g. absurd cc
    ] refl e
  where
    inside : {a b : AskWord} → Some a ≡ Some b → a ≡ b
    inside g = cc

-- the words with one more number name it, where there is room for it
pub named : (kind : NackKind) (most : ℕ) (ws : List AskWord) (x : ℕ) → IsAboveLast kind ws x
    → asked_numbers kind (with_number kind most ws x) ≡ asked_numbers kind ws ++ (if takes kind most ws x then x ∷ [] else [])
named kind zero ws x h = sym (append_none (asked_numbers kind ws))
named kind (suc most) [] x h = alone kind x
named kind (suc most) (w ∷ []) x h = by_last (extended kind w x) refl most
  where
    by_last : (o : Option AskWord) → extended kind w x ≡ o → (room : ℕ)
        → asked_numbers kind (last_with room w x o) ≡ asked_numbers kind (w ∷ []) ++ (if last_takes room o then x ∷ [] else [])
    by_last (Some v) e room = append_none (numbers_in kind v) ∙ longer_names kind w v x h e ∙ ap (λ l. l ++ x ∷ []) (sym (append_none (numbers_in kind w)))
    by_last None e zero = sym (append_none (asked_numbers kind (w ∷ [])))
    by_last None e (suc room) = ap (λ l. numbers_in kind w ++ l) (alone kind x) ∙ ap (λ l. l ++ x ∷ []) (sym (append_none (numbers_in kind w)))
named kind (suc most) (w ∷ v ∷ ws) x h =
    ap (λ l. numbers_in kind w ++ l) (named kind most (v ∷ ws) x h) ∙ sym (append_assoc (numbers_in kind w) (asked_numbers kind (v ∷ ws)) (if takes kind most (v ∷ ws) x then x ∷ [] else []))

-- ---- the last word is below

above-cons : (kind : NackKind) (w : AskWord) (ws : List AskWord) (x : ℕ) → IsAbove kind w x → IsAboveLast kind ws x → IsAboveLast kind (w ∷ ws) x
above-cons kind w [] x h g = h
above-cons kind w (v ∷ ws) x h g = g

runs_above : (n low x : ℕ) (ws : List AskWord) → x ≤ low + 65535 → AreRuns low x ws → IsAboveLast Range (take n ws) x
runs_above zero low x ws near h = tt
runs_above (suc n) low x [] near h = tt
runs_above (suc n) low x (w ∷ ws) near h =
    above-cons Range w (take n ws) x
    (record { first = omega (arith, h.1); range = λ e. h.1; mask = λ e. absurd cc; near = omega (arith, h.0, near) })
    (runs_above n (w.first + w.second + 1) x ws (omega (arith, h.0, near)) h.2)

bits_below : (y low x : ℕ) (zs : List ℕ) → y < low → IsRisingIn low x zs → sum_by (λ z. 2 ^ (z - y - 1)) zs + 2 ^ (low - y - 1) ≤ 2 ^ (x - y - 1)
bits_below y low x [] lt h = let le = pow_mono {i = low - y - 1} {j = x - y - 1} (omega (arith, h)) in omega (arith, le)
bits_below y low x (z ∷ zs) lt h =
    let rest = bits_below y (z + 1) x zs (omega (arith, lt, h.0)) h.1 in
    let twice : 2 ^ (z + 1 - y - 1) ≡ 2 * 2 ^ (z - y - 1) = ap (λ k. 2 ^ k) (next_place (omega (arith, lt, h.0))) ∙ halves (z - y - 1) in
    let less : 2 ^ (low - y - 1) ≤ 2 ^ (z - y - 1) = pow_mono {i = low - y - 1} {j = z - y - 1} (omega (arith, lt, h.0)) in
    omega (arith, rest, twice, less, sum_by-cons (λ k. 2 ^ (k - y - 1)) z zs)
  where
    next_place : y < z → z + 1 - y - 1 ≡ suc (z - y - 1)
    next_place l = omega (arith, l)

masks_above : (n low x : ℕ) (xs : List ℕ) → x ≤ low + 65535 → IsRisingIn low x xs → IsAboveLast Mask (mask_words n xs) x
masks_above zero low x xs near h = tt
masks_above (suc n) low x [] near h = tt
masks_above (suc n) low x (y ∷ ys) near h =
    let lt : y < x = omega (arith, rising_le (y + 1) x ys h.1) in
    let below = bits_below y (y + 1) x (filter (is_masked y) ys) (omega arith) (rising-filter (is_masked y) (y + 1) x ys h.1) in
    above-cons Mask (mask_word y ys) (mask_words n (filter (λ z. not (is_masked y z)) ys)) x
    (record { first = lt; range = λ e. absurd cc; mask = λ e. omega (arith, below, pow_pos (y + 1 - y - 1)); near = omega (arith, h.0, near) })
    (masks_above n (y + 1) x (filter (λ z. not (is_masked y z)) ys) (omega (arith, h.0, near)) (rising-filter (λ z. not (is_masked y z)) (y + 1) x ys h.1))

pub words_above : (kind : NackKind) (low x : ℕ) (xs : List ℕ) → x ≤ low + 65535 → IsRisingIn low x xs → IsAboveLast kind (words_for kind 64 xs) x
words_above Range low x xs near h = runs_above 64 low x (runs_of xs) near (runs_are low x xs h)
words_above Mask low x xs near h = masks_above 64 low x xs near h
