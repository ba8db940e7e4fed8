-- What a search among the places finds.
use Rattle.std.proofs.Common.{◌≡◌, ℕ, zero, suc, ◌+◌, ◌-◌, ◌^◌, ◌<◌, ◌≤◌, ◌%◌, Bool, true, false, ◌||◌, List, [], ◌∷◌, Option, Some, None, length, map, refl, sym, ◌∙◌, ap, subst, arith, inl, inr}
use Rattle.std.specs.Prelude.{nat_lt, ◌==◌, slice_index, IfSome, IfNone}
use Rattle.std.specs.Option.{ForSome, option_map}
use Rattle.std.proofs.lemmas.Bool.{cases_lt, or_parts, ltb-false}
use Rattle.std.proofs.lemmas.Bool.Decides.{nat_tests}
use Rattle.std.proofs.lemmas.List.{get_or-map, get_or_past, length-map}
use Rattle.std.specs.List.{list_any}
use Rattle.deadline_index.specs.Places.{IsFirstBy, IsNoneFrom}
use Rattle.receiver_rules.specs.Packets.{Packet, IsRising}
use Rattle.receiver_rules.proofs.PacketLemmas.{any-insert}
use Rattle.reorder_buffer.specs.Inside.Ring.{packet_of, packets_in, tick_of, first_number}
use Rattle.reorder_buffer.specs.Inside.Around.{IsAround}
use Rattle.reorder_buffer.specs.declared.places.Standing.{Standing}
use Rattle.reorder_buffer.specs.declared.ring.Held.{Held}
use Rattle.reorder_buffer.proofs.PlaceLemmas.{stands_from, stands_wrapped}
use Rattle.reorder_buffer.proofs.RingLemmas.{place_at}

-- where a packet stands, in the order of the places
above_start : (low : ℕ) (places : List (Option Held)) (ticks : List ℕ) (k : ℕ) (held : Held) → IsAround low places ticks → place_at places k ≡ Some held → low % length places ≤ k → held.number ≡ low + (k - low % length places)
above_start low places ticks k held a at side =
    let stands = (a.placed k held at).stands in
    let n = stands_from (length places) low held.number (omega (arith, a.some)) (a.from k held at) (a.below k held at) (omega arith) in
    omega arith

below_start : (low : ℕ) (places : List (Option Held)) (ticks : List ℕ) (k : ℕ) (held : Held) → IsAround low places ticks → place_at places k ≡ Some held → k < low % length places → held.number ≡ low + (k + length places - low % length places)
below_start low places ticks k held a at side =
    let stands = (a.placed k held at).stands in
    let n = stands_wrapped (length places) low held.number (omega (arith, a.some)) (a.from k held at) (a.below k held at) (omega arith) in
    omega arith

-- a packet stands within the places
pub inside : (places : List (Option Held)) (k : ℕ) (held : Held) → place_at places k ≡ Some held → k < length places
inside places k held at =
    elim (cases_lt k (length places)) [
      | inl h ↦ h
      | inr past ↦ absurd (none_some (sym (get_or_past places k None past) ∙ at))
    ]
  where
    none_some : None ≡ Some held → ⊥
    none_some e = cc

-- what the index has for a place
tick_is : (places : List (Option Held)) (ticks : List ℕ) (k : ℕ) → ticks ≡ map tick_of places → k < length places → slice_index ticks k ≡ tick_of (place_at places k)
tick_is places ticks k e h = ap (λ xs. slice_index xs k) e ∙ get_or-map tick_of places k None 0 h

tick_held : (places : List (Option Held)) (ticks : List ℕ) (k : ℕ) (held : Held) → ticks ≡ map tick_of places → place_at places k ≡ Some held → slice_index ticks k ≡ held.deadline
tick_held places ticks k held e at = tick_is places ticks k e (inside places k held at) ∙ ap tick_of at

long : (low : ℕ) (places : List (Option Held)) (ticks : List ℕ) → IsAround low places ticks → length ticks ≡ length places
long low places ticks a = ap length a.indexed ∙ length-map places tick_of

-- a place whose tick is early holds a packet
holds : (o : Option Held) (tick : ℕ) → tick < 2 ^ 64 - 1 → tick_of o ≤ tick → (held : Held) × (o ≡ Some held)
holds None tick h l = absurd (omega arith)
holds (Some held) tick h l = (held, refl)

-- ---- the lowest

pub none_in : (f : ℕ → Bool) (xs : List (Option Held)) (bs : List (List ℕ)) → ((k : ℕ) (held : Held) → place_at xs k ≡ Some held → f held.number ≡ false) → list_any (λ p. f p.number) (packets_in xs bs) ≡ false
none_in f [] bs h = refl
none_in f (x ∷ xs) [] h = refl
none_in f (None ∷ xs) (b ∷ bs) h = none_in f xs bs (λ k. h (suc k))
none_in f (Some held ∷ xs) (b ∷ bs) h =
    any-insert (λ p. f p.number) (packet_of held b) (packets_in xs bs)
    ∙ ap (λ c. c || list_any (λ p. f p.number) (packets_in xs bs)) (h zero held refl)
    ∙ none_in f xs bs (λ k. h (suc k))

pub some_in : (f : ℕ → Bool) (i : ℕ) (held : Held) (xs : List (Option Held)) (bs : List (List ℕ)) → length bs ≡ length xs → place_at xs i ≡ Some held → f held.number ≡ true → list_any (λ p. f p.number) (packets_in xs bs) ≡ true
some_in f i held [] bs l at h = absurd (none_some at)
  where
    none_some : None ≡ Some held → ⊥
    none_some e = cc
some_in f i held (x ∷ xs) [] l at h = absurd (omega (arith, l))
some_in f zero held (None ∷ xs) (b ∷ bs) l at h = absurd (none_some at)
  where
    none_some : None ≡ Some held → ⊥
    none_some e = cc
some_in f zero held (Some other ∷ xs) (b ∷ bs) l at h =
    any-insert (λ p. f p.number) (packet_of other b) (packets_in xs bs)
    ∙ ap (λ (o : Held). f o.number || list_any (λ p. f p.number) (packets_in xs bs)) (some_same at)
    ∙ ap (λ c. c || list_any (λ p. f p.number) (packets_in xs bs)) h
  where
    some_same : Some other ≡ Some held → other ≡ held
    some_same e = cc
some_in f (suc i) held (None ∷ xs) (b ∷ bs) l at h = some_in f i held xs bs (omega (arith, l)) at h
some_in f (suc i) held (Some other ∷ xs) (b ∷ bs) l at h =
    any-insert (λ p. f p.number) (packet_of other b) (packets_in xs bs)
    ∙ ap (λ c. f other.number || c) (some_in f i held xs bs (omega (arith, l)) at h)
    ∙ or_true _
  where
    or_true : (c : Bool) → (c || true) ≡ true
    or_true true = refl
    or_true false = refl

pub rising_any : (low n : ℕ) (ps : List Packet) → IsRising low ps → list_any (λ p. p.number == n) ps ≡ true → low ≤ n
rising_any low n [] r h = cc
rising_any low n (p ∷ ps) r h =
    elim (p.number == n) as (λ c. (p.number == n) ≡ c → low ≤ n) [
      | true ↦ λ e. let is : p.number ≡ n = grind (arith, nat_tests) in omega (arith, r.0)
      | false ↦ λ e. let rest = rising_any (p.number + 1) n ps r.1 (sym (ap (λ c. c || list_any (λ p. p.number == n) ps) e) ∙ h) in omega (arith, r.0)
    ] refl

-- a number that is there, and no lower one is
pub first_is : (n : ℕ) (ps : List Packet) → IsRising 0 ps → list_any (λ p. p.number == n) ps ≡ true → list_any (λ p. nat_lt p.number n) ps ≡ false → Some n ≡ first_number ps
first_is n [] r there none = cc
first_is n (p ∷ ps) r there none =
    let parts = or_parts (nat_lt p.number n) (list_any (λ q. nat_lt q.number n) ps) none in
    let low : n ≤ p.number = ltb-false _ _ parts.0 in
    elim (p.number == n) as (λ c. (p.number == n) ≡ c → Some n ≡ Some p.number) [
      | true ↦ λ e. let is : n ≡ p.number = grind (arith, nat_tests) in ap Some is
      | false ↦ λ e. let rest = rising_any (p.number + 1) n ps r.1 (sym (ap (λ c. c || list_any (λ q. q.number == n) ps) e) ∙ there) in absurd (omega arith)
    ] refl

lowest_is : (place : ℕ) (held : Held) (places : List (Option Held)) (blocks : List (List ℕ)) → length blocks ≡ length places → IsRising 0 (packets_in places blocks) → place_at places place ≡ Some held
    → ((k : ℕ) (other : Held) → place_at places k ≡ Some other → held.number ≤ other.number) → option_map (λ (h : Held). h.number) (place_at places place) ≡ first_number (packets_in places blocks)
lowest_is place held places blocks sized rising there low =
    ap (option_map (λ (h : Held). h.number)) there
    ∙ first_is held.number (packets_in places blocks) rising
    (some_in (λ n. n == held.number) place held places blocks sized there (grind (arith, nat_tests)))
    (none_in (λ n. nat_lt n held.number) places blocks (λ k other is. let le = low k other is in grind (arith, nat_tests)))

-- every packet's deadline comes
tick_low : (low : ℕ) (places : List (Option Held)) (ticks : List ℕ) (k : ℕ) (held : Held) → IsAround low places ticks → place_at places k ≡ Some held → slice_index ticks k ≤ 2 ^ 64 - 2
tick_low low places ticks k held a at = let d = (a.placed k held at).deadline in omega (arith, tick_held places ticks k held a.indexed at)

pub lowest_straight : (low place : ℕ) (places : List (Option Held)) (ticks : List ℕ) (blocks : List (List ℕ)) → IsAround low places ticks → length blocks ≡ length places → IsRising 0 (packets_in places blocks)
    → IsFirstBy ticks (low % length places) (2 ^ 64 - 2) place → option_map (λ (h : Held). h.number) (place_at places place) ≡ first_number (packets_in places blocks)
lowest_straight low place places ticks blocks a sized rising first =
    let there : place < length places = omega (arith, first.there, long low places ticks a) in
    let found = holds (place_at places place) (2 ^ 64 - 2) (omega arith) (omega (arith, first.due, tick_is places ticks place a.indexed there)) in
    let n = above_start low places ticks place found.0 a found.1 first.from in
    lowest_is place found.0 places blocks sized rising found.1 (λ k other is.
    elim (cases_lt k (low % length places)) [
      | inl under ↦ let m = below_start low places ticks k other a is under in omega arith
      | inr above ↦
          let m = above_start low places ticks k other a is above in
          elim (cases_lt k place) [
            | inl before ↦ absurd (let late = first.first k above before in omega (arith, tick_low low places ticks k other a is))
            | inr behind ↦ omega arith
          ]
    ])

stands_at : (o : Option Held) (n : ℕ) → option_map (λ (h : Held). h.number) o ≡ Some n → (held : Held) × (o ≡ Some held)
stands_at None n e = absurd (none_some e)
  where
    none_some : ◌≡◌ {A = Option ℕ} None (Some n) → ⊥
    none_some e = cc
stands_at (Some held) n e = (held, refl)

-- a packet that stands at the place of the number below which none is has that number
pub lowest_here : (low number : ℕ) (places : List (Option Held)) (ticks : List ℕ) (blocks : List (List ℕ)) → IsAround low places ticks → length blocks ≡ length places → IsRising 0 (packets_in places blocks)
    → option_map (λ (h : Held). h.number) (place_at places (low % length places)) ≡ Some number → Some number ≡ first_number (packets_in places blocks)
lowest_here low number places ticks blocks a sized rising here =
    let start = low % length places in
    let found : (held : Held) × (place_at places start ≡ Some held) = stands_at (place_at places start) number here in
    sym here ∙ lowest_straight low start places ticks blocks a sized rising (record {
      from = omega arith;
      there = omega (arith, inside places start found.0 found.1, long low places ticks a);
      due = tick_low low places ticks start found.0 a found.1;
      first = λ k least before. absurd (omega (arith, least, before));
    })

pub lowest_wrapped : (low place : ℕ) (places : List (Option Held)) (ticks : List ℕ) (blocks : List (List ℕ)) → IsAround low places ticks → length blocks ≡ length places → IsRising 0 (packets_in places blocks)
    → IsNoneFrom ticks (low % length places) (2 ^ 64 - 2) → IsFirstBy ticks 0 (2 ^ 64 - 2) place → option_map (λ (h : Held). h.number) (place_at places place) ≡ first_number (packets_in places blocks)
lowest_wrapped low place places ticks blocks a sized rising none first =
    let there : place < length places = omega (arith, first.there, long low places ticks a) in
    let found = holds (place_at places place) (2 ^ 64 - 2) (omega arith) (omega (arith, first.due, tick_is places ticks place a.indexed there)) in
    let side : place < low % length places = elim (cases_lt place (low % length places)) [
      | inl under ↦ under
      | inr above ↦ absurd (let late = none place above first.there in omega (arith, first.due))
    ] in
    let n = below_start low places ticks place found.0 a found.1 side in
    lowest_is place found.0 places blocks sized rising found.1 (λ k other is.
    let k_in = inside places k other is in
    elim (cases_lt k (low % length places)) [
      | inl under ↦
          let m = below_start low places ticks k other a is under in
          elim (cases_lt k place) [
            | inl before ↦ absurd (let late = first.first k (omega arith) before in omega (arith, tick_low low places ticks k other a is))
            | inr behind ↦ omega arith
          ]
      | inr above ↦ absurd (let late = none k above (omega (arith, long low places ticks a)) in omega (arith, tick_low low places ticks k other a is))
    ])

pub lowest_none : (low : ℕ) (places : List (Option Held)) (ticks : List ℕ) (blocks : List (List ℕ)) → IsAround low places ticks → IsNoneFrom ticks 0 (2 ^ 64 - 2) → None ≡ first_number (packets_in places blocks)
lowest_none low places ticks blocks a none =
    empty (packets_in places blocks) (none_in (λ n. true) places blocks (λ k other is.
    let k_in = inside places k other is in
    absurd (let late = none k (omega arith) (omega (arith, long low places ticks a)) in omega (arith, tick_low low places ticks k other a is))))
  where
    empty : (ps : List Packet) → list_any (λ p. true) ps ≡ false → None ≡ first_number ps
    empty [] h = refl
    empty (p ∷ ps) h = cc

pub same_some : {x y : ℕ} → Some x ≡ Some y → x ≡ y
same_some e = cc

-- what is found at a place stands at that of its number
pub found_place : (low place : ℕ) (places : List (Option Held)) (ticks : List ℕ) (found : Option Standing) → IsAround low places ticks
    → option_map (λ (s : Standing). s.number) found ≡ option_map (λ (h : Held). h.number) (place_at places place) → ForSome found (λ s. s.place ≡ place) → ForSome found (λ s. s.place ≡ s.number % length places)
found_place low place places ticks found a same there s is =
    let held : (held : Held) × (place_at places place ≡ Some held) = stands_at (place_at places place) s.number (sym same ∙ ap (option_map (λ (s : Standing). s.number)) is) in
    let number : held.0.number ≡ s.number = same_some (sym (ap (option_map (λ (h : Held). h.number)) held.1) ∙ sym same ∙ ap (option_map (λ (s : Standing). s.number)) is) in
    there s is ∙ sym (a.placed place held.0 held.1).stands ∙ ap (λ n. n % length places) number

-- ---- what an answer is

pub of_some : (P : ℕ → Type 0) (r : Option ℕ) (x : ℕ) → r ≡ Some x → IfSome r P → P x
of_some P (Some y) x e p = subst P (same_some e) p
of_some P None x e p = absurd (none_some e)
  where
    none_some : {x : ℕ} → None ≡ Some x → ⊥
    none_some e = cc

pub of_none : (P : Type 0) (r : Option ℕ) → r ≡ None → IfNone r P → P
of_none P None e p = p
of_none P (Some y) e p = absurd (some_none e)
  where
    some_none : {x : ℕ} → Some x ≡ None → ⊥
    some_none e = cc
