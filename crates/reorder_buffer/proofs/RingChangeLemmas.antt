-- A packet is put into a ring, and the first is taken out.
use Rattle.std.proofs.Common.{◌≡◌, ◌≢◌, ℕ, zero, suc, ◌+◌, ◌-◌, ◌^◌, ◌<◌, ◌≤◌, ◌%◌, ℤ, pos, max, Bool, true, false, cond, List, [], ◌∷◌, Option, Some, None, length, map, take, replicate, refl, sym, ◌∙◌, ap, subst, arith, inl, inr}
use Rattle.std.specs.Prelude.{nat_lt, nat_le, ◌==◌, int_lt, slice_index_or, slice_set, unwrap_or}
use Rattle.std.specs.Option.{ForSome, option_map}
use lib.IntN.{negsuc, nat_abs}
use Rattle.std.proofs.lemmas.Bool.{cases_eq, cases_lt, leb-false}
use Rattle.std.proofs.lemmas.Bool.Decides.{nat_tests}
use Rattle.std.proofs.lemmas.List.{length-set, set-set, set-get_or, get_or-set_same, get_or-set_other, map-set, get_or_read, length-replicate}
use Rattle.std.proofs.lemmas.Nat.{mod_below}
use Rattle.std.proofs.lemmas.Int.{ints}
use Rattle.std.specs.List.{list_any}
use Rattle.receiver_rules.specs.declared.bounds.TheConstants.{MAX_SPAN}
use Rattle.receiver_rules.specs.Packets.{Packet, distance, insert_by_number, IsRising}
use Rattle.receiver_rules.specs.Seen.{packet_at}
use Rattle.receiver_rules.proofs.PacketLemmas.{any-insert, rising-insert, rising_lower}
use Rattle.reorder_buffer.specs.Inside.Span.{IsWithin}
use Rattle.reorder_buffer.specs.Inside.Ring.{packet_of, packets_in, tick_of, first_number, last_number, ends_of, ends_and, ends_from, IsPlaced, IsRing, IsStanding}
use Rattle.reorder_buffer.specs.Inside.Around.{IsAround}
use Rattle.reorder_buffer.specs.declared.places.Standing.{Standing}
use Rattle.reorder_buffer.specs.declared.ring.Held.{Held}
use Rattle.reorder_buffer.specs.declared.ring.Ends.{Ends}
use Rattle.reorder_buffer.proofs.PlaceLemmas.{same_place}
use Rattle.reorder_buffer.proofs.RingLemmas.{place_at, has_number, put_at, has_at, length-insert, few_in}
use Rattle.reorder_buffer.proofs.SpanLemmas.{within-insert, ends-insert, below_any}
use Rattle.reorder_buffer.proofs.ReleaseLemmas.{within-tail}
use Rattle.reorder_buffer.proofs.AroundLemmas.{none_in, some_in, rising_any, inside}

-- ---- numbers and places

-- a number can stand at its own place alone
pub only_place : (places : List (Option Held)) (n : ℕ) → ((k : ℕ) (held : Held) → place_at places k ≡ Some held → IsPlaced (length places) k held) → (k : ℕ) → has_number (place_at places k) n ≡ true → k ≡ n % length places
only_place places n placed k h =
    elim (place_at places k) as (λ o. place_at places k ≡ o → has_number o n ≡ true → k ≡ n % length places) [
      | None ↦ λ e f. cc
      | Some held ↦ λ e f.
          let is : held.number ≡ n = grind (arith, nat_tests) in
          sym (placed k held e).stands ∙ ap (λ m. m % length places) is
    ] refl h

-- the place of a new number that is near is free
pub free_place : (places : List (Option Held)) (blocks : List (List ℕ)) (ticks : List ℕ) (ends : Option Ends) (count n : ℕ) → IsRing places blocks ticks ends count
    → list_any (λ p. p.number == n) (packets_in places blocks) ≡ false → list_any (λ p. nat_le (length places) (distance p.number n)) (packets_in places blocks) ≡ false → place_at places (n % length places) ≡ None
free_place places blocks ticks ends count n r new near =
    elim (place_at places (n % length places)) as (λ o. place_at places (n % length places) ≡ o → o ≡ None) [
      | None ↦ λ e. refl
      | Some held ↦ λ e.
          let far : nat_le (length places) (distance held.number n) ≡ false = not_some (λ m. nat_le (length places) (distance m n)) held e near in
          let other : (held.number == n) ≡ false = not_some (λ m. m == n) held e new in
          let stands = (r.placed (n % length places) held e).stands in
          absurd (apart held.number stands (leb-false _ _ far) other)
    ] refl
  where
    not_some : (f : ℕ → Bool) (held : Held) → place_at places (n % length places) ≡ Some held → list_any (λ p. f p.number) (packets_in places blocks) ≡ false → f held.number ≡ false
    not_some f held e none = elim (f held.number) as (λ c. f held.number ≡ c → c ≡ false) [
      | true ↦ λ t. let found = some_in f (n % length places) held places blocks r.sized e t in cc
      | false ↦ λ t. refl
    ] refl

    apart : (m : ℕ) → m % length places ≡ n % length places → distance m n < length places → (m == n) ≡ false → ⊥
    apart m e near other =
        elim (cases_lt m n) [
          | inl under ↦ let is = same_place (length places) m n (omega (arith, r.some)) e (omega arith) (omega arith) in omega arith
          | inr above ↦ let is = same_place (length places) n m (omega (arith, r.some)) (sym e) above (omega arith) in grind (arith, nat_tests)
        ]

-- ---- what stands around the lowest number

pub ring_around : (places : List (Option Held)) (blocks : List (List ℕ)) (ticks : List ℕ) (ends : Option Ends) (count : ℕ) (e : Ends) → IsRing places blocks ticks ends count → ends ≡ Some e → IsAround e.low places ticks
ring_around places blocks ticks ends count e r is = record {
  some = r.some;
  indexed = r.indexed;
  placed = r.placed;
  from = λ k held at. (span held.number (member k held at) (packets_in places blocks) refl (sym r.bounded ∙ is)).0;
  below = λ k held at. (span held.number (member k held at) (packets_in places blocks) refl (sym r.bounded ∙ is)).1;
}
  where
    member : (k : ℕ) (held : Held) → place_at places k ≡ Some held → list_any (λ p. p.number == held.number) (packets_in places blocks) ≡ true
    member k held at = some_in (λ m. m == held.number) k held places blocks r.sized at (grind (arith, nat_tests))

    span : (n : ℕ) → list_any (λ p. p.number == n) (packets_in places blocks) ≡ true → (ps : List Packet) → packets_in places blocks ≡ ps → ends_of ps ≡ Some e → (e.low ≤ n) × (n < e.low + length places)
    span n m [] same b = absurd (none_some b)
      where
        none_some : None ≡ Some e → ⊥
        none_some e = cc
    span n m (p ∷ ps) same b =
        let low : p.number ≡ e.low = first_same b in
        let rising : IsRising 0 (p ∷ ps) = subst (IsRising 0) same r.rising in
        let within : IsWithin (length places) (p ∷ ps) = subst (IsWithin (length places)) same r.within in
        let there : list_any (λ q. q.number == n) (p ∷ ps) ≡ true = ap (list_any (λ q. q.number == n)) (sym same) ∙ m in
        let from = rising_any p.number n (p ∷ ps) (omega arith, rising.1) there in
        let below = below_any (p.number + length places) n (p ∷ ps) (let some = r.some in omega arith, within) there in
        (omega arith, omega arith)
      where
        first_same : ends_of (p ∷ ps) ≡ Some e → p.number ≡ e.low
        first_same b = cc

-- ---- one more packet

pub ring_put : (places : List (Option Held)) (blocks : List (List ℕ)) (ticks : List ℕ) (ends : Option Ends) (count : ℕ) (held : Held) (block : List ℕ) → IsRing places blocks ticks ends count
    → IsPlaced (length places) (held.number % length places) held → list_any (λ p. p.number == held.number) (packets_in places blocks) ≡ false
    → list_any (λ p. nat_le (length places) (distance p.number held.number)) (packets_in places blocks) ≡ false
    → (packets_in (slice_set places (held.number % length places) (Some held)) (slice_set blocks (held.number % length places) block) ≡ insert_by_number (packet_of held block) (packets_in places blocks))
    × IsRing (slice_set places (held.number % length places) (Some held)) (slice_set blocks (held.number % length places) block) (slice_set ticks (held.number % length places) held.deadline) (Some (ends_and ends held.number)) (count + 1)
ring_put places blocks ticks ends count held block r placed new near = (
  put,
  record {
    some = let s = r.some in omega (arith, length-set places i (Some held));
    few = let s = r.few in omega (arith, length-set places i (Some held));
    sized = length-set blocks i block ∙ r.sized ∙ sym (length-set places i (Some held));
    placed = λ k other at. subst (λ n. IsPlaced n k other) (sym (length-set places i (Some held))) (stands k other at);
    indexed = ap (λ xs. slice_set xs i held.deadline) r.indexed ∙ sym (map-set tick_of places i (Some held));
    bounded = ap (λ o. Some (ends_and o held.number)) r.bounded ∙ sym (ap ends_of put ∙ ends-insert (packet_of held block) (packets_in places blocks) r.rising);
    high = λ x e. high ends r.high x e;
    counted = sym (ap length put ∙ length-insert (packet_of held block) (packets_in places blocks) ∙ ap (λ n. n + 1) (sym r.counted));
    rising = subst (IsRising 0) (sym put) (rising-insert 0 (packet_of held block) (packets_in places blocks) (omega arith) new r.rising);
    within = subst (λ n. IsWithin n (packets_in (slice_set places i (Some held)) (slice_set blocks i block))) (sym (length-set places i (Some held)))
        (subst (IsWithin (length places)) (sym put) (within-insert (length places) (packet_of held block) (packets_in places blocks) r.some near r.within));
  },
)
  where
    i : ℕ
    i = held.number % length places

    low : i < length places
    low = mod_below held.number (length places) (omega (arith, r.some))

    put : packets_in (slice_set places i (Some held)) (slice_set blocks i block) ≡ insert_by_number (packet_of held block) (packets_in places blocks)
    put = put_at i held block places blocks r.sized low (free_place places blocks ticks ends count held.number r new near) new

    high : (o : Option Ends) → ForSome o (λ e. e.high < 2 ^ 62) → (x : Ends) → Some (ends_and o held.number) ≡ Some x → x.high < 2 ^ 62
    high None h x e = let same : held.number ≡ x.high = cc in let n = placed.number in omega arith
    high (Some old) h x e = let same : max old.high held.number ≡ x.high = cc in let n = placed.number in let o = h old refl in omega arith

    stands : (k : ℕ) (other : Held) → place_at (slice_set places i (Some held)) k ≡ Some other → IsPlaced (length places) k other
    stands k other at =
        elim (cases_eq k i) [
          | inl same ↦
              let is : held ≡ other = some_same (sym (ap (place_at (slice_set places i (Some held))) same ∙ get_or-set_same places i (Some held) None low) ∙ at) in
              subst (λ n. IsPlaced (length places) n other) (sym same) (subst (IsPlaced (length places) i) is placed)
          | inr apart ↦ r.placed k other (sym (get_or-set_other places i k (Some held) None apart) ∙ at)
        ]
      where
        some_same : Some held ≡ Some other → held ≡ other
        some_same e = cc

-- where the lowest number stands with one more
pub standing_put : (places : List (Option Held)) (blocks : List (List ℕ)) (ticks : List ℕ) (ends : Option Ends) (first count : ℕ) (after i stands number : ℕ) (held : Held) (block : List ℕ) → IsStanding places blocks ticks ends first count
    → IsRing (slice_set places i (Some held)) (slice_set blocks i block) (slice_set ticks i after) (Some (ends_and ends number)) (count + 1) → i ≡ number % length places
    → ((capacity : ℕ) → i ≡ number % capacity → ForSome ends (λ e. first ≡ e.low % capacity) → stands ≡ (ends_and ends number).low % capacity)
    → IsStanding (slice_set places i (Some held)) (slice_set blocks i block) (slice_set ticks i after) (Some (ends_and ends number)) stands (count + 1)
standing_put places blocks ticks ends first count after i stands number held block s r at f =
    let is : stands ≡ (ends_and ends number).low % length places = f (length places) at s.stands in
    let low : (ends_and ends number).low % length places < length places = mod_below (ends_and ends number).low (length places) (omega (arith, s.ring.some)) in
    record {
      ring = r;
      inside = omega (arith, length-set places i (Some held));
      stands = λ e same. is ∙ ap (λ n. (ends_and ends number).low % n) (sym (length-set places i (Some held))) ∙ ap (λ (x : Ends). x.low % length (slice_set places i (Some held))) (some_same same);
    }
  where
    some_same : {x y : Ends} → Some x ≡ Some y → x ≡ y
    some_same e = cc

-- ---- the first packet taken out

front : (p : Packet) (ps : List Packet) → IsRising 0 (insert_by_number p ps) → first_number (insert_by_number p ps) ≡ Some p.number → insert_by_number p ps ≡ p ∷ ps
front p [] r f = refl
front p (q ∷ qs) r f =
    elim (nat_lt p.number q.number) as (λ c. nat_lt p.number q.number ≡ c → IsRising 0 (cond c (p ∷ q ∷ qs) (q ∷ insert_by_number p qs)) → first_number (cond c (p ∷ q ∷ qs) (q ∷ insert_by_number p qs)) ≡ Some p.number → cond c (p ∷ q ∷ qs) (q ∷ insert_by_number p qs) ≡ p ∷ q ∷ qs) [
      | true ↦ λ e r f. refl
      | false ↦ λ e r f.
          let same : q.number ≡ p.number = some_same f in
          let there : list_any (λ k. k.number == p.number) (insert_by_number p qs) ≡ true = any-insert (λ k. k.number == p.number) p qs ∙ grind (arith, nat_tests) in
          let above = rising_any (q.number + 1) p.number (insert_by_number p qs) r.1 there in
          absurd (omega arith)
    ] refl r f
  where
    some_same : {x y : ℕ} → Some x ≡ Some y → x ≡ y
    some_same e = cc

-- what is there once a place is free
still : (places : List (Option Held)) (i k : ℕ) (other : Held) → i < length places → place_at (slice_set places i None) k ≡ Some other → (k ≢ i) × (place_at places k ≡ Some other)
still places i k other low at =
    elim (cases_eq k i) [
      | inl same ↦ absurd (none_some (sym (ap (place_at (slice_set places i None)) same ∙ get_or-set_same places i None None low) ∙ at))
      | inr apart ↦ (apart, sym (get_or-set_other places i k None None apart) ∙ at)
    ]
  where
    none_some : None ≡ Some other → ⊥
    none_some e = cc

-- the first packet is the one at its place, and the others are left
pub taken_first : (places : List (Option Held)) (blocks : List (List ℕ)) (ticks : List ℕ) (ends : Option Ends) (count i : ℕ) (held : Held) → IsRing places blocks ticks ends count → i < length places
    → place_at places i ≡ Some held → first_number (packets_in places blocks) ≡ Some held.number → packets_in places blocks ≡ packet_of held (slice_index_or blocks i []) ∷ packets_in (slice_set places i None) blocks
taken_first places blocks ticks ends count i held r low at first =
    sym back ∙ front p rest (subst (IsRising 0) (sym back) r.rising) (ap first_number back ∙ first)
  where
    rest : List Packet
    rest = packets_in (slice_set places i None) blocks

    p : Packet
    p = packet_of held (slice_index_or blocks i [])

    none : list_any (λ q. q.number == held.number) rest ≡ false
    none = none_in (λ n. n == held.number) (slice_set places i None) blocks (λ k other is.
        let s = still places i k other low is in
        elim (other.number == held.number) as (λ c. (other.number == held.number) ≡ c → c ≡ false) [
          | true ↦ λ e.
              let same : other.number ≡ held.number = grind (arith, nat_tests) in
              absurd (s.0 (sym (r.placed k other s.1).stands ∙ ap (λ m. m % length places) same ∙ (r.placed i held at).stands))
          | false ↦ λ e. refl
        ] refl)

    back : insert_by_number p rest ≡ packets_in places blocks
    back =
        sym (put_at i held (slice_index_or blocks i []) (slice_set places i None) blocks (r.sized ∙ sym (length-set places i None)) (omega (arith, low, length-set places i None)) (get_or-set_same places i None None low) none)
        ∙ ap (λ xs. packets_in xs (slice_set blocks i (slice_index_or blocks i []))) (set-set places i None (Some held) ∙ ap (slice_set places i) (sym at) ∙ set-get_or places i None)
        ∙ ap (packets_in places) (set-get_or blocks i [])

pub dropped_around : (low : ℕ) (places : List (Option Held)) (ticks : List ℕ) (i : ℕ) → i < length places → IsAround low places ticks → IsAround low (slice_set places i None) (slice_set ticks i (2 ^ 64 - 1))
dropped_around low places ticks i inside a = record {
  some = let s = a.some in omega (arith, length-set places i None);
  indexed = ap (λ xs. slice_set xs i (2 ^ 64 - 1)) a.indexed ∙ sym (map-set tick_of places i None);
  placed = λ k other at. subst (λ n. IsPlaced n k other) (sym (length-set places i None)) (a.placed k other (still places i k other inside at).1);
  from = λ k other at. a.from k other (still places i k other inside at).1;
  below = λ k other at. let b = a.below k other (still places i k other inside at).1 in omega (arith, length-set places i None);
}

-- the others are above the lowest
pub raised_around : (low : ℕ) (places : List (Option Held)) (ticks : List ℕ) (i : ℕ) → i < length places → i ≡ low % length places → IsAround low places ticks
    → IsAround (low + 1) (slice_set places i None) (slice_set ticks i (2 ^ 64 - 1))
raised_around low places ticks i inside is a =
    let d = dropped_around low places ticks i inside a in
    record {
      some = d.some;
      indexed = d.indexed;
      placed = d.placed;
      from = λ k other at.
          let s = still places i k other inside at in
          elim (cases_lt low other.number) [
            | inl above ↦ let h : low < other.number = above in omega arith
            | inr under ↦
                let same : other.number ≡ low = let f = a.from k other s.1 in omega arith in
                absurd (s.0 (sym (a.placed k other s.1).stands ∙ ap (λ n. n % length places) same ∙ sym is))
          ];
      below = λ k other at. let b = d.below k other at in omega arith;
    }

-- the ends of what is left
left_ends : (p : Packet) (ps : List Packet) (e : Ends) → ends_of (p ∷ ps) ≡ Some e → ends_from (first_number ps) e.high ≡ ends_of ps
left_ends p [] e b = refl
left_ends p (q ∷ qs) e b = (λ i. Some (record { low = q.number; high = sym (high b) i }))
  where
    high : ends_of (p ∷ q ∷ qs) ≡ Some e → last_number q.number qs ≡ e.high
    high b = cc

-- the packet at the place of the lowest number, and the others
pub record IsTaken (places : List (Option Held)) (blocks : List (List ℕ)) (i : ℕ) : Type 0 where
  pub held : Held
  pub there : place_at places i ≡ Some held
  pub whole : packets_in places blocks ≡ packet_of held (slice_index_or blocks i []) ∷ packets_in (slice_set places i None) blocks

pub ring_taken : (places : List (Option Held)) (blocks : List (List ℕ)) (ticks : List ℕ) (ends : Option Ends) (count i : ℕ) (e : Ends) → IsRing places blocks ticks ends count → ends ≡ Some e → i ≡ e.low % length places → IsTaken places blocks i
ring_taken places blocks ticks ends count i e r is at =
    taken (place_at places i) refl (ap (λ k. has_number (place_at places k) e.low) at ∙ sym (has_at (e.low % length places) e.low places blocks r.sized (only_place places e.low r.placed)) ∙ member (packets_in places blocks) (sym r.bounded ∙ is))
  where
    member : (ps : List Packet) → ends_of ps ≡ Some e → list_any (λ p. p.number == e.low) ps ≡ true
    member [] b = cc
    member (p ∷ ps) b = let low : p.number ≡ e.low = first_same b in grind (arith, nat_tests)
      where
        first_same : ends_of (p ∷ ps) ≡ Some e → p.number ≡ e.low
        first_same b = cc

    first : (ps : List Packet) → ends_of ps ≡ Some e → first_number ps ≡ Some e.low
    first [] b = cc
    first (q ∷ qs) b = cc

    low : i < length places
    low = subst (λ k. k < length places) (sym at) (mod_below e.low (length places) (omega (arith, r.some)))

    taken : (o : Option Held) → place_at places i ≡ o → has_number o e.low ≡ true → IsTaken places blocks i
    taken None there has = absurd (false_true has)
      where
        false_true : false ≡ true → ⊥
        false_true e = cc
    taken (Some held) there has =
        let same : held.number ≡ e.low = grind (arith, nat_tests) in
        record {
          held = held;
          there = there;
          whole = taken_first places blocks ticks ends count i held r low there (first (packets_in places blocks) (sym r.bounded ∙ is) ∙ ap Some (sym same));
        }

pub ring_dropped : (places : List (Option Held)) (blocks : List (List ℕ)) (ticks : List ℕ) (ends : Option Ends) (count i : ℕ) (e : Ends) (found : Option ℕ) → IsRing places blocks ticks ends count → ends ≡ Some e → i ≡ e.low % length places
    → (length blocks ≡ length (slice_set places i None) → IsRising 0 (packets_in (slice_set places i None) blocks) → found ≡ first_number (packets_in (slice_set places i None) blocks))
    → IsRing (slice_set places i None) blocks (slice_set ticks i (2 ^ 64 - 1)) (ends_from found e.high) (count - 1)
ring_dropped places blocks ticks ends count i e found r is at f =
    record {
      some = a.some;
      few = let s = r.few in omega (arith, length-set places i None);
      sized = sized;
      placed = a.placed;
      indexed = a.indexed;
      bounded = ap (λ o. ends_from o e.high) (f sized below) ∙ left_ends p rest e (ap ends_of (sym t.whole) ∙ sym r.bounded ∙ is);
      high = high found;
      counted = let n = r.counted ∙ ap length t.whole in omega arith;
      rising = below;
      within = subst (λ n. IsWithin n rest) (sym (length-set places i None)) (within-tail (length places) (p.number + 1) p.number rest (omega arith) rising.1 (subst (IsWithin (length places)) t.whole r.within));
    }
  where
    t : IsTaken places blocks i
    t = ring_taken places blocks ticks ends count i e r is at

    low : i < length places
    low = subst (λ k. k < length places) (sym at) (mod_below e.low (length places) (omega (arith, r.some)))

    a : IsAround e.low (slice_set places i None) (slice_set ticks i (2 ^ 64 - 1))
    a = dropped_around e.low places ticks i low (ring_around places blocks ticks ends count e r is)

    rest : List Packet
    rest = packets_in (slice_set places i None) blocks

    p : Packet
    p = packet_of t.held (slice_index_or blocks i [])

    sized : length blocks ≡ length (slice_set places i None)
    sized = r.sized ∙ sym (length-set places i None)

    rising : IsRising 0 (p ∷ rest)
    rising = subst (IsRising 0) t.whole r.rising

    below : IsRising 0 rest
    below = rising_lower 0 (p.number + 1) rest (omega arith) rising.1

    high : (o : Option ℕ) → ForSome (ends_from o e.high) (λ e. e.high < 2 ^ 62)
    high None x f = absurd (none_some f)
      where
        none_some : None ≡ Some x → ⊥
        none_some e = cc
    high (Some n) x f = let same : e.high ≡ x.high = cc in let old = r.high e is in omega arith

-- where the lowest number stands that is left
pub standing_dropped : (places : List (Option Held)) (blocks : List (List ℕ)) (ticks : List ℕ) (ends : Option Ends) (first count high : ℕ) (found : Option Standing) → IsStanding places blocks ticks ends first count
    → IsRing (slice_set places first None) blocks (slice_set ticks first (2 ^ 64 - 1)) (ends_from (option_map (λ (s : Standing). s.number) found) high) (count - 1)
    → ForSome found (λ s. s.place ≡ s.number % length (slice_set places first None))
    → IsStanding (slice_set places first None) blocks (slice_set ticks first (2 ^ 64 - 1)) (ends_from (option_map (λ (s : Standing). s.number) found) high) (unwrap_or (option_map (λ (s : Standing). s.place) found) first) (count - 1)
standing_dropped places blocks ticks ends first count high found s r place =
    record {
      ring = r;
      inside = within found place;
      stands = λ e same. at found place e same;
    }
  where
    within : (o : Option Standing) → ForSome o (λ s. s.place ≡ s.number % length (slice_set places first None)) → unwrap_or (option_map (λ (s : Standing). s.place) o) first < length (slice_set places first None)
    within None place = omega (arith, length-set places first None, s.inside)
    within (Some x) place = let low = mod_below x.number (length (slice_set places first None)) r.some in omega (arith, place x refl)

    at : (o : Option Standing) → ForSome o (λ s. s.place ≡ s.number % length (slice_set places first None))
        → ForSome (ends_from (option_map (λ (s : Standing). s.number) o) high) (λ e. unwrap_or (option_map (λ (s : Standing). s.place) o) first ≡ e.low % length (slice_set places first None))
    at None place e same = absurd (none_some same)
      where
        none_some : None ≡ Some e → ⊥
        none_some e = cc
    at (Some x) place e same = let low : x.number ≡ e.low = cc in place x refl ∙ ap (λ n. n % length (slice_set places first None)) low

-- ---- no packets

packets_none : (n : ℕ) (bs : List (List ℕ)) → packets_in (replicate n None) bs ≡ []
packets_none zero bs = refl
packets_none (suc n) [] = refl
packets_none (suc n) (b ∷ bs) = packets_none n bs

nowhere : (n k : ℕ) (held : Held) → place_at (replicate n None) k ≡ Some held → ⊥
nowhere zero k held e = cc
nowhere (suc n) zero held e = cc
nowhere (suc n) (suc k) held e = nowhere n k held e

none_due : (n : ℕ) → replicate n (2 ^ 64 - 1) ≡ map tick_of (replicate n None)
none_due zero = refl
none_due (suc n) = ap (λ xs. (2 ^ 64 - 1) ∷ xs) (none_due n)

pub ring_none : (n : ℕ) (places : List (Option Held)) (blocks : List (List ℕ)) (ticks : List ℕ) → 1 ≤ n → n ≤ MAX_SPAN → places ≡ replicate n None → length blocks ≡ n → ticks ≡ replicate n (2 ^ 64 - 1)
    → (packets_in places blocks ≡ []) × IsRing places blocks ticks None 0
ring_none n places blocks ticks some few p b t = (
  none,
  record {
    some = omega (arith, long);
    few = omega (arith, long);
    sized = b ∙ sym long;
    placed = λ k held at. absurd (nowhere n k held (sym (ap (λ xs. place_at xs k) p) ∙ at));
    indexed = t ∙ none_due n ∙ ap (map tick_of) (sym p);
    bounded = sym (ap ends_of none);
    high = λ x e. absurd (none_some e);
    counted = sym (ap length none);
    rising = subst (IsRising 0) (sym none) tt;
    within = subst (IsWithin (length places)) (sym none) tt;
  },
)
  where
    none : packets_in places blocks ≡ []
    none = ap (λ xs. packets_in xs blocks) p ∙ packets_none n blocks

    long : length places ≡ n
    long = ap length p ∙ length-replicate n None

    none_some : {x : Ends} → None ≡ Some x → ⊥
    none_some e = cc

pub standing_none : (n : ℕ) (places : List (Option Held)) (blocks : List (List ℕ)) (ticks : List ℕ) → 1 ≤ n → places ≡ replicate n None → IsRing places blocks ticks None 0 → IsStanding places blocks ticks None 0 0
standing_none n places blocks ticks some p r = record {
  ring = r;
  inside = omega (arith, r.some);
  stands = λ e is. absurd (none_some is);
}
  where
    none_some : {x : Ends} → None ≡ Some x → ⊥
    none_some e = cc

-- ---- what the code has

pub read_place : (places : List (Option Held)) (i : ℕ) (x : Option Held) → i < length places → x ≡ slice_index_or places i x → place_at places i ≡ x
read_place places i x low e = sym (get_or_read places i x low e None)

pub abs_pos : (d : ℤ) → int_lt d (pos 0) ≡ false → pos (nat_abs d) ≡ d
abs_pos (pos n) h = refl
abs_pos (negsuc n) h = cc

pub put_packet : (number timestamp n length : ℕ) (d : ℤ) (block payload : List ℕ) → pos n ≡ d → take length block ≡ payload
    → packet_of (record { number = number; timestamp = timestamp; deadline = n; length = length }) block ≡ packet_at (record { number = number; timestamp = timestamp; deadline = d }) payload
put_packet number timestamp n length d block payload e f = (λ i. record { number = number; timestamp = timestamp; deadline = e i; payload = f i })

pub ring_put_at : (places : List (Option Held)) (blocks : List (List ℕ)) (ticks : List ℕ) (ends : Option Ends) (count i : ℕ) (held : Held) (block : List ℕ) → IsRing places blocks ticks ends count
    → i ≡ held.number % length places → held.number < 2 ^ 62 → held.deadline < 2 ^ 62 → held.length ≤ 1500 → list_any (λ p. p.number == held.number) (packets_in places blocks) ≡ false
    → list_any (λ p. nat_le (length places) (distance p.number held.number)) (packets_in places blocks) ≡ false
    → (packets_in (slice_set places i (Some held)) (slice_set blocks i block) ≡ insert_by_number (packet_of held block) (packets_in places blocks))
    × IsRing (slice_set places i (Some held)) (slice_set blocks i block) (slice_set ticks i held.deadline) (Some (ends_and ends held.number)) (count + 1)
ring_put_at places blocks ticks ends count i held block r at number deadline length' new near =
    subst (λ k. (packets_in (slice_set places k (Some held)) (slice_set blocks k block) ≡ insert_by_number (packet_of held block) (packets_in places blocks))
    × IsRing (slice_set places k (Some held)) (slice_set blocks k block) (slice_set ticks k held.deadline) (Some (ends_and ends held.number)) (count + 1)) (sym at)
    (ring_put places blocks ticks ends count held block r (record { stands = refl; number = number; deadline = deadline; length = length' }) new near)

pub few_count : (places : List (Option Held)) (blocks : List (List ℕ)) (ticks : List ℕ) (ends : Option Ends) (count : ℕ) → IsRing places blocks ticks ends count → count ≤ MAX_SPAN
few_count places blocks ticks ends count r = let few = few_in places blocks in let n = r.counted in let s = r.few in omega arith

pub some_held : {x y : Held} → Some x ≡ Some y → x ≡ y
some_held e = cc

pub not_there : {x : Held} → None ≡ Some x → ⊥
not_there e = cc

pub below_soon : (d : ℕ) → int_lt (pos d) (pos (2 ^ 62)) ≡ true → d < 2 ^ 62
below_soon d h = grind (arith, ints)
