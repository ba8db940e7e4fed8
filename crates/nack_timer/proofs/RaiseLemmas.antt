-- What a ring keeps of numbers that are found missing.
use Rattle.std.proofs.Common.{◌≡◌, ℕ, zero, suc, ◌+◌, ◌-◌, ◌<◌, ◌≤◌, ◌^◌, max, List, [], ◌∷◌, ◌++◌, length, map, drop, Option, Some, None, refl, sym, ap, subst, ◌∙◌, arith, length-append, length-drop, append_assoc}
use Rattle.std.specs.List.{range_with_len}
use Rattle.std.proofs.lemmas.List.{map-append}
use Rattle.circular_buffer.specs.Buffer.{keep_last}
use Rattle.request_rules.proofs.WordLemmas.{range-snoc}
use Rattle.nack_timer.specs.declared.entry.Missing.{Missing}
use Rattle.nack_timer.specs.State.{AreRising, high_or}
use Rattle.nack_timer.specs.Inside.Sound.{AreSmall, IsSoundTimer}
use Rattle.request_rules.specs.declared.policy.Policy.{Policy}
use Rattle.nack_timer.specs.Inside.Raise.{new_entry, new_entries, found_between}
use Rattle.nack_timer.proofs.PassLemmas.{append_nil, small_append}

drop-append : {X : Type 0} (k : ℕ) (xs ys : List X) → k ≤ length xs → drop k (xs ++ ys) ≡ drop k xs ++ ys
drop-append zero xs ys le = refl
drop-append (suc k) [] ys le = absurd (omega (arith, le))
drop-append (suc k) (x ∷ xs) ys le = drop-append k xs ys (omega (arith, le))

drop_none : {X : Type 0} (j : ℕ) → ◌≡◌ {A = List X} (drop j []) []
drop_none zero = refl
drop_none (suc j) = refl

drop-drop : {X : Type 0} (j k : ℕ) (xs : List X) → drop j (drop k xs) ≡ drop (k + j) xs
drop-drop j zero xs = ap (λ n. drop n xs) (plain j)
  where
    plain : (j : ℕ) → j ≡ zero + j
    plain j = omega arith
drop-drop j (suc k) [] = drop_none j ∙ sym (drop_none (suc k + j))
drop-drop j (suc k) (x ∷ xs) = drop-drop j k xs ∙ ap (λ n. drop n (x ∷ xs)) (next j k)
  where
    next : (j k : ℕ) → suc (k + j) ≡ suc k + j
    next j k = omega arith

kept_few : (capacity : ℕ) (xs : List Missing) → length xs ≤ capacity → keep_last capacity xs ≡ xs
kept_few capacity xs le = let k : length xs - capacity ≡ 0 = omega (arith, le) in ap (λ n. drop n xs) k

kept_twice : (capacity : ℕ) (xs ys : List Missing) → keep_last capacity (keep_last capacity xs ++ ys) ≡ keep_last capacity (xs ++ ys)
kept_twice capacity xs ys =
    let k = length xs - capacity in
    let j = length (drop k xs ++ ys) - capacity in
    let sum : k + j ≡ length (xs ++ ys) - capacity = omega (arith, length-append (drop k xs) ys, length-append xs ys, length-drop k xs) in
    ap (drop j) (sym (drop-append k xs ys (omega arith))) ∙ drop-drop j k (xs ++ ys) ∙ ap (λ n. drop n (xs ++ ys)) sum

pub noted_none : (at low capacity : ℕ) (items : List Missing) → length items ≤ capacity → items ≡ keep_last capacity (items ++ new_entries at low (low - low))
noted_none at low capacity items le =
    let k : low - low ≡ 0 = omega arith in
    sym (ap (λ n. keep_last capacity (items ++ new_entries at low n)) k ∙ ap (keep_last capacity) (append_nil items) ∙ kept_few capacity items le)

pub noted_more : (at low x capacity : ℕ) (all items items' : List Missing) → low ≤ x → items ≡ keep_last capacity (all ++ new_entries at low (x - low)) → items' ≡ keep_last capacity (items ++ new_entry at x ∷ [])
    → items' ≡ keep_last capacity (all ++ new_entries at low (x + 1 - low))
noted_more at low x capacity all items items' le is is' =
    let k : x + 1 - low ≡ x - low + 1 = omega (arith, le) in
    let y : low + (x - low) ≡ x = omega (arith, le) in
    let more : new_entries at low (x + 1 - low) ≡ new_entries at low (x - low) ++ new_entry at x ∷ [] =
    ap (new_entries at low) k ∙ ap (map (new_entry at)) (range-snoc low (x - low) ∙ ap (λ z. range_with_len low (x - low) ++ z ∷ []) y) ∙ map-append (new_entry at) (range_with_len low (x - low)) (x ∷ []) in
    is' ∙ ap (λ l. keep_last capacity (l ++ new_entry at x ∷ [])) is ∙ kept_twice capacity (all ++ new_entries at low (x - low)) (new_entry at x ∷ [])
    ∙ ap (keep_last capacity) (append_assoc all (new_entries at low (x - low)) (new_entry at x ∷ []) ∙ ap (λ l. all ++ l) (sym more))

pub few_kept : (capacity : ℕ) (xs : List Missing) → length (keep_last capacity xs) ≤ capacity
few_kept capacity xs = omega (arith, length-drop (length xs - capacity) xs)

-- ---- what holds of the timer

rising_lower : (low lower high : ℕ) (es : List Missing) → lower ≤ low → AreRising low high es → AreRising lower high es
rising_lower low lower high [] le h = tt
rising_lower low lower high (e ∷ es) le h = (omega (arith, le, h.0), h.1, h.2)

pub rising_higher : (low high higher : ℕ) (es : List Missing) → high ≤ higher → AreRising low high es → AreRising low higher es
rising_higher low high higher [] le h = tt
rising_higher low high higher (e ∷ es) le h = (h.0, omega (arith, le, h.1), rising_higher (e.number + 1) high higher es le h.2)

rising_append : (low mid from high : ℕ) (xs ys : List Missing) → low ≤ mid → mid ≤ from → mid ≤ high → AreRising low mid xs → AreRising from high ys → AreRising low high (xs ++ ys)
rising_append low mid from high [] ys a b c h g = rising_lower from low high ys (omega (arith, a, b)) g
rising_append low mid from high (x ∷ xs) ys a b c h g = (h.0, omega (arith, h.1, c), rising_append (x.number + 1) mid from high xs ys (omega (arith, h.1)) b c h.2 g)

rising_new : (at low high n : ℕ) → low + n ≤ high → AreRising low high (new_entries at low n)
rising_new at low high zero le = tt
rising_new at low high (suc n) le = (omega arith, omega (arith, le), rising_new at (low + 1) high n (omega (arith, le)))

pub rising_drop : (k low high : ℕ) (es : List Missing) → AreRising low high es → AreRising 0 high (drop k es)
rising_drop zero low high es h = rising_lower low 0 high es (omega arith) h
rising_drop (suc k) low high [] h = tt
rising_drop (suc k) low high (e ∷ es) h = rising_drop k (e.number + 1) high es h.2

small_new : (at low n : ℕ) → at < 2 ^ 61 → AreSmall (new_entries at low n)
small_new at low zero lt = tt
small_new at low (suc n) lt = (record { found = lt; last = λ u e. absurd cc }, small_new at (low + 1) n lt)

small_drop : (k : ℕ) (es : List Missing) → AreSmall es → AreSmall (drop k es)
small_drop zero es h = h
small_drop (suc k) [] h = tt
small_drop (suc k) (e ∷ es) h = small_drop k es h.1

pub rising_found : (old : Option ℕ) (span at high : ℕ) (es : List Missing) → high_or old ≤ high → AreRising 0 (high_or old) es → AreRising 0 high (es ++ found_between old span at high)
rising_found None span at high es le h = subst (AreRising 0 high) (sym (append_nil es)) (rising_higher 0 0 high es le h)
rising_found (Some old) span at high es le h = none_or_more (high - max (old + 1) (high + 1 - span)) refl
  where
    none_or_more : (n : ℕ) → high - max (old + 1) (high + 1 - span) ≡ n → AreRising 0 high (es ++ new_entries at (max (old + 1) (high + 1 - span)) n)
    none_or_more zero e = subst (AreRising 0 high) (sym (append_nil es)) (rising_higher 0 old high es le h)
    none_or_more (suc n) e =
        rising_append 0 old (max (old + 1) (high + 1 - span)) high es (new_entries at (max (old + 1) (high + 1 - span)) (suc n)) (omega arith) (omega arith) le h
        (rising_new at (max (old + 1) (high + 1 - span)) high (suc n) (omega (arith, e)))

small_found : (old : Option ℕ) (span at high : ℕ) → at < 2 ^ 61 → AreSmall (found_between old span at high)
small_found None span at high lt = tt
small_found (Some old) span at high lt = small_new at (max (old + 1) (high + 1 - span)) (high - max (old + 1) (high + 1 - span)) lt

pub sound_raised : (policy : Policy) (span at high : ℕ) (old : Option ℕ) (es : List Missing) → IsSoundTimer policy span old es → high_or old ≤ high → high < 2 ^ 62 → at < 2 ^ 61
    → IsSoundTimer policy span (Some high) (keep_last span (es ++ found_between old span at high))
sound_raised policy span at high old es s le lt now = record {
  reorder = s.reorder;
  least = s.least;
  tries = s.tries;
  some = s.some;
  few = s.few;
  room = few_kept span (es ++ found_between old span at high);
  rising = rising_drop (length (es ++ found_between old span at high) - span) 0 high (es ++ found_between old span at high) (rising_found old span at high es le s.rising);
  below = lt;
  small = small_drop (length (es ++ found_between old span at high) - span) (es ++ found_between old span at high) (small_append es (found_between old span at high) s.small (small_found old span at high now));
}
