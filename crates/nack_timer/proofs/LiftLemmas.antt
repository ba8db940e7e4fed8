-- From the state of a timer to the histories that it stands for.
use Rattle.std.proofs.Common.{◌≡◌, ℕ, zero, suc, ◌+◌, ◌<◌, ◌≤◌, max, Bool, true, false, cond, not, ◌&&◌, ◌||◌, List, [], ◌∷◌, ◌++◌, Some, option_map, refl, sym, ap, subst, ◌∙◌, arith}
use Rattle.std.specs.Prelude.{nat_le, nat_lt, ◌==◌, if◌then◌else◌}
use Rattle.std.specs.List.{filter, list_any, range_with_len}
use Rattle.std.proofs.lemmas.Bool.{leb-true, le-leb, lt-ltb, eq-eqb, ne_eqb, eqb-true, eqb-false, and_parts, and_from}
use Rattle.receiver_rules.specs.declared.anchor.Highest.{Highest}
use Rattle.receiver_rules.specs.Packets.{Packet, highest_of}
use Rattle.receiver_rules.specs.Steps.{tick_of}
use Rattle.request_rules.specs.declared.policy.Policy.{Policy}
use Rattle.request_rules.specs.Missing.{is_passed}
use Rattle.request_rules.specs.Requests.{Request, request_times, has_passed, is_due}
use Rattle.link_channels.specs.Intervals.{has_passed_since}
use Rattle.request_rules.specs.Missing.{is_below_highest}
use Rattle.request_rules.specs.declared.word.AskWord.{AskWord}
use Rattle.request_rules.proofs.KeptLemmas.{passed_since, passed_highest}
use Rattle.nack_timer.specs.declared.entry.Missing.{Missing}
use Rattle.nack_timer.specs.State.{AreRising}
use Rattle.nack_timer.specs.Inside.Pass.{is_live, is_due_entry, words_after, entry_after, entries_of}
use Rattle.nack_timer.specs.TimerAfter.{has_entry, IsEntryOf, AreEntriesOf}
use Rattle.nack_timer.proofs.PassLemmas.{same_number}
use Rattle.nack_timer.proofs.DueLemmas.{due_in}

-- ---- rising numbers with the same members

abbrev pub has : List ℕ → ℕ → Bool
has xs x = list_any (λ y. y == x) xs

abbrev pub Rises : ℕ → List ℕ → Type 0
Rises low [] = Unit {0}
Rises low (x ∷ xs) = (low ≤ x) × Rises (x + 1) xs

rises_lower : (low lower : ℕ) (xs : List ℕ) → lower ≤ low → Rises low xs → Rises lower xs
rises_lower low lower [] le h = tt
rises_lower low lower (x ∷ xs) le h = (omega (arith, le, h.0), h.1)

not_below : (low x : ℕ) (xs : List ℕ) → Rises low xs → x < low → has xs x ≡ false
not_below low x [] h lt = refl
not_below low x (y ∷ ys) h lt = rw (ne_eqb y x (λ e. omega (arith, e, h.0, lt))) (not_below (y + 1) x ys h.1 (omega (arith, lt, h.0)))

has_first : (x : ℕ) (xs : List ℕ) → has (x ∷ xs) x ≡ true
has_first x xs = rw (eq-eqb x x refl) refl

first_low : (low x y : ℕ) (xs ys : List ℕ) → Rises low (x ∷ xs) → Rises low (y ∷ ys) → ((z : ℕ) → has (x ∷ xs) z ≡ has (y ∷ ys) z) → x < y → ⊥
first_low low x y xs ys h g same lt =
    let none : has (y ∷ ys) x ≡ false = not_below y x (y ∷ ys) (omega arith, g.1) lt in
    let wrong : true ≡ false = sym (has_first x xs) ∙ same x ∙ none in cc

same_tail : (low x : ℕ) (xs ys : List ℕ) → Rises (x + 1) xs → Rises (x + 1) ys → ((z : ℕ) → has (x ∷ xs) z ≡ has (x ∷ ys) z) → (z : ℕ) → has xs z ≡ has ys z
same_tail low x xs ys h g same z =
    elim (x == z) as (λ c. (x == z) ≡ c → has xs z ≡ has ys z) [
      | true ↦ λ e. let is = eqb-true x z e in not_below (x + 1) z xs h (omega (arith, is)) ∙ sym (not_below (x + 1) z ys g (omega (arith, is)))
      | false ↦ λ e. ap (λ b. b || has xs z) (sym e) ∙ same z ∙ ap (λ b. b || has ys z) e
    ] refl

pub same_list : (low : ℕ) (xs ys : List ℕ) → Rises low xs → Rises low ys → ((z : ℕ) → has xs z ≡ has ys z) → xs ≡ ys
same_list low [] [] h g same = refl
same_list low [] (y ∷ ys) h g same = let wrong : false ≡ true = same y ∙ has_first y ys in absurd cc
same_list low (x ∷ xs) [] h g same = let wrong : true ≡ false = sym (has_first x xs) ∙ same x in absurd cc
same_list low (x ∷ xs) (y ∷ ys) h g same =
    let below = first_low low x y xs ys h g same in
    let above = first_low low y x ys xs g h (λ z. sym (same z)) in
    let is : x ≡ y = omega (arith, below, above) in
    let ys_rise = subst (λ n. Rises (n + 1) ys) (sym is) g.1 in
    let tails = same_list (x + 1) xs ys h.1 ys_rise (same_tail low x xs ys h.1 ys_rise (λ z. same z ∙ ap (λ n. has (n ∷ ys) z) (sym is))) in
    ap (λ l. x ∷ l) tails ∙ ap (λ n. n ∷ ys) is

pub both_ways : (a b : Bool) → (a ≡ true → b ≡ true) → (b ≡ true → a ≡ true) → a ≡ b
both_ways true b f g = sym (f refl)
both_ways false true f g = g refl
both_ways false false f g = refl

-- ---- the numbers of live entries

abbrev pub live_numbers : ℕ → List Packet → List Missing → List ℕ
live_numbers low held [] = []
live_numbers low held (e ∷ es) = (if is_live low held e then e.number ∷ [] else []) ++ live_numbers low held es

pub live_rises : (low : ℕ) (held : List Packet) (from high : ℕ) (es : List Missing) → AreRising from high es → Rises from (live_numbers low held es)
live_rises low held from high [] h = tt
live_rises low held from high (e ∷ es) h =
    elim (is_live low held e) as (λ c. Rises from ((if c then e.number ∷ [] else []) ++ live_numbers low held es)) [
      | true ↦ (h.0, live_rises low held (e.number + 1) high es h.2)
      | false ↦ rises_lower (e.number + 1) from (live_numbers low held es) (omega (arith, h.0)) (live_rises low held (e.number + 1) high es h.2)
    ]

abbrev pub is_held : List Packet → ℕ → Bool
is_held held x = list_any (λ p. p.number == x) held

-- what a live number is
pub record IsLiveNumber (low high : ℕ) (held : List Packet) (x : ℕ) : Type 0 where
  pub since : low ≤ x
  pub below : x < high
  pub new : is_held held x ≡ false

not_true : (b : Bool) → not b ≡ true → b ≡ false
not_true true e = cc
not_true false e = refl

pub live_to : (low : ℕ) (held : List Packet) (from high x : ℕ) (es : List Missing) → AreRising from high es → has (live_numbers low held es) x ≡ true → IsLiveNumber low high held x
live_to low held from high x [] h e = absurd cc
live_to low held from high x (m ∷ ms) h e =
    elim (is_live low held m) as (λ c. is_live low held m ≡ c → has ((if c then m.number ∷ [] else []) ++ live_numbers low held ms) x ≡ true → IsLiveNumber low high held x) [
      | true ↦ λ live. elim (m.number == x) as (λ c. (m.number == x) ≡ c → (c || has (live_numbers low held ms) x) ≡ true → IsLiveNumber low high held x) [
        | true ↦ λ g f.
            let is = eqb-true m.number x g in
            let parts = and_parts (nat_le low m.number) (not (is_held held m.number)) live in
            record { since = omega (arith, is, leb-true low m.number parts.0); below = omega (arith, is, h.1); new = ap (is_held held) (sym is) ∙ not_true (is_held held m.number) parts.1 }
        | false ↦ λ g f. live_to low held (m.number + 1) high x ms h.2 f
      ] refl
      | false ↦ λ live f. live_to low held (m.number + 1) high x ms h.2 f
    ] refl e

pub live_from : (low : ℕ) (held : List Packet) (x : ℕ) (es : List Missing) → has_entry es x ≡ true → low ≤ x → is_held held x ≡ false → has (live_numbers low held es) x ≡ true
live_from low held x [] e le new = absurd cc
live_from low held x (m ∷ ms) e le new =
    elim (m.number == x) as (λ c. (m.number == x) ≡ c → (c || has_entry ms x) ≡ true → has (live_numbers low held (m ∷ ms)) x ≡ true) [
      | true ↦ λ g f.
          let is = eqb-true m.number x g in
          let live : is_live low held m ≡ true = and_from (nat_le low m.number) (not (is_held held m.number)) (le-leb low m.number (omega (arith, is, le))) (ap not (ap (is_held held) is ∙ new)) in
          rw live (rw g refl)
      | false ↦ λ g f. in_rest (is_live low held m) (live_from low held x ms f le new)
    ] refl e
  where
    in_rest : (c : Bool) → has (live_numbers low held ms) x ≡ true → has ((if c then m.number ∷ [] else []) ++ live_numbers low held ms) x ≡ true
    in_rest true h = rw h (or_true (m.number == x))
      where
        or_true : (b : Bool) → (b || true) ≡ true
        or_true true = refl
        or_true false = refl
    in_rest false h = h

-- ---- the numbers of a range

pub range_rises : (f : ℕ → Bool) (low n : ℕ) → Rises low (filter f (range_with_len low n))
range_rises f low zero = tt
range_rises f low (suc n) =
    elim (f low) as (λ c. Rises low (cond c (low ∷ filter f (range_with_len (low + 1) n)) (filter f (range_with_len (low + 1) n)))) [
      | true ↦ (omega arith, range_rises f (low + 1) n)
      | false ↦ rises_lower (low + 1) low (filter f (range_with_len (low + 1) n)) (omega arith) (range_rises f (low + 1) n)
    ]

-- what a number of a range that passes a test is
pub record IsInRange (f : ℕ → Bool) (low n x : ℕ) : Type 0 where
  pub since : low ≤ x
  pub below : x < low + n
  pub passes : f x ≡ true

pub range_to : (f : ℕ → Bool) (low n x : ℕ) → has (filter f (range_with_len low n)) x ≡ true → IsInRange f low n x
range_to f low zero x e = absurd cc
range_to f low (suc n) x e =
    elim (f low) as (λ c. f low ≡ c → has (cond c (low ∷ filter f (range_with_len (low + 1) n)) (filter f (range_with_len (low + 1) n))) x ≡ true → IsInRange f low (suc n) x) [
      | true ↦ λ passes. elim (low == x) as (λ c. (low == x) ≡ c → (c || has (filter f (range_with_len (low + 1) n)) x) ≡ true → IsInRange f low (suc n) x) [
        | true ↦ λ g h. let is = eqb-true low x g in record { since = omega (arith, is); below = omega (arith, is); passes = ap f (sym is) ∙ passes }
        | false ↦ λ g h. wider (range_to f (low + 1) n x h)
      ] refl
      | false ↦ λ passes h. wider (range_to f (low + 1) n x h)
    ] refl e
  where
    wider : IsInRange f (low + 1) n x → IsInRange f low (suc n) x
    wider r = record { since = omega (arith, r.since); below = omega (arith, r.below); passes = r.passes }

pub range_from : (f : ℕ → Bool) (low n x : ℕ) → low ≤ x → x < low + n → f x ≡ true → has (filter f (range_with_len low n)) x ≡ true
range_from f low zero x le lt passes = absurd (omega (arith, le, lt))
range_from f low (suc n) x le lt passes =
    elim (low == x) as (λ c. (low == x) ≡ c → has (filter f (range_with_len low (suc n))) x ≡ true) [
      | true ↦ λ g. let here : f low ≡ true = ap f (eqb-true low x g) ∙ passes in rw here (rw g refl)
      | false ↦ λ g. in_rest (f low) (range_from f (low + 1) n x (above g) (omega (arith, lt)) passes)
    ] refl
  where
    above : (low == x) ≡ false → low + 1 ≤ x
    above g = omega (arith, le, eqb-false low x g)

    or_true : (b : Bool) → (b || true) ≡ true
    or_true true = refl
    or_true false = refl

    in_rest : (c : Bool) → has (filter f (range_with_len (low + 1) n)) x ≡ true → has (cond c (low ∷ filter f (range_with_len (low + 1) n)) (filter f (range_with_len (low + 1) n))) x ≡ true
    in_rest true h = rw h (or_true (low == x))
    in_rest false h = h

-- ---- entries

pub has_left : (policy : Policy) (rtt t low : ℕ) (held : List Packet) (words : List AskWord) (es : List Missing) (x : ℕ) → has_entry (entries_of policy rtt t low held words es) x ≡ has (live_numbers low held es) x
has_left policy rtt t low held words [] x = refl
has_left policy rtt t low held words (e ∷ es) x =
    let next = if is_live low held e then words_after policy rtt t words e else words in
    let rest = has_left policy rtt t low held next es x in
    elim (is_live low held e) as (λ c. has_entry (entries_of policy rtt t low held next es) x ≡ has (live_numbers low held es) x
    → has_entry ((if c then entry_after policy rtt t words e ∷ [] else []) ++ entries_of policy rtt t low held next es) x ≡ has ((if c then e.number ∷ [] else []) ++ live_numbers low held es) x) [
      | true ↦ λ r. ap (λ n. (n == x) || has_entry (entries_of policy rtt t low held next es) x) (same_number policy rtt t words e) ∙ ap (λ b. (e.number == x) || b) r
      | false ↦ λ r. r
    ] rest

-- an entry is due where its number is
entry_due : (policy : Policy) (rtt micros t : ℕ) (found : ℕ → ℕ) (requests : List Request) (e : Missing) → rtt ≡ tick_of micros → IsEntryOf found requests e
    → is_due_entry policy rtt t e ≡ is_due policy micros t (found e.number) (request_times requests e.number)
entry_due policy rtt micros t found requests e is h =
    ap (λ f. nat_le (f + policy.reorder_tolerance) t && (has_passed_since (max rtt policy.retry_interval) t e.last && nat_lt e.count policy.retry_limit)) h.since
    ∙ ap (λ r. nat_le (found e.number + policy.reorder_tolerance) t && (has_passed_since (max r policy.retry_interval) t e.last && nat_lt e.count policy.retry_limit)) is
    ∙ ap (λ b. nat_le (found e.number + policy.reorder_tolerance) t && (b && nat_lt e.count policy.retry_limit)) (passed_since (max (tick_of micros) policy.retry_interval) t (request_times requests e.number) e.last h.times.newest)
    ∙ ap (λ n. nat_le (found e.number + policy.reorder_tolerance) t && (has_passed (max (tick_of micros) policy.retry_interval) t (request_times requests e.number) && nat_lt n policy.retry_limit)) h.times.count_is

pub due_is : (policy : Policy) (rtt micros t low : ℕ) (held : List Packet) (found : ℕ → ℕ) (requests : List Request) (es : List Missing) → rtt ≡ tick_of micros → AreEntriesOf found requests es
    → due_in policy rtt t low held es ≡ filter (λ x. is_due policy micros t (found x) (request_times requests x)) (live_numbers low held es)
due_is policy rtt micros t low held found requests [] is h = refl
due_is policy rtt micros t low held found requests (e ∷ es) is h =
    let rest = due_is policy rtt micros t low held found requests es is h.1 in
    ap (λ b. (if is_live low held e && b then e.number ∷ [] else []) ++ due_in policy rtt t low held es) (entry_due policy rtt micros t found requests e is h.0)
    ∙ ap (λ l. (if is_live low held e && is_due policy micros t (found e.number) (request_times requests e.number) then e.number ∷ [] else []) ++ l) rest
    ∙ cases (is_live low held e)
  where
    cases : (c : Bool) → (if c && is_due policy micros t (found e.number) (request_times requests e.number) then e.number ∷ [] else []) ++ filter (λ x. is_due policy micros t (found x) (request_times requests x)) (live_numbers low held es)
        ≡ filter (λ x. is_due policy micros t (found x) (request_times requests x)) ((if c then e.number ∷ [] else []) ++ live_numbers low held es)
    cases true = by_due (is_due policy micros t (found e.number) (request_times requests e.number))
      where
        by_due : (d : Bool) → (if d then e.number ∷ [] else []) ++ filter (λ x. is_due policy micros t (found x) (request_times requests x)) (live_numbers low held es)
            ≡ cond d (e.number ∷ filter (λ x. is_due policy micros t (found x) (request_times requests x)) (live_numbers low held es)) (filter (λ x. is_due policy micros t (found x) (request_times requests x)) (live_numbers low held es))
        by_due true = refl
        by_due false = refl
    cases false = refl

pub entries_found : (found found' : ℕ → ℕ) (requests : List Request) (from high : ℕ) (es : List Missing) → AreRising from high es → ((x : ℕ) → x < high → found' x ≡ found x) → AreEntriesOf found requests es → AreEntriesOf found' requests es
entries_found found found' requests from high [] order same h = tt
entries_found found found' requests from high (e ∷ es) order same h =
    (record { since = h.0.since ∙ sym (same e.number order.1); times = h.0.times }, entries_found found found' requests (e.number + 1) high es order.2 same h.1)

pub passed_below : (ps : List Packet) (h : Highest) (x : ℕ) → highest_of ps ≡ Some h → x < h.number → is_passed ps x ≡ true
passed_below ps h x e lt = sym (passed_highest ps x) ∙ ap (λ o. is_below_highest (option_map (λ g. g.number) o) x) e ∙ lt-ltb x h.number lt
