-- Facts about lists of packets: tests, the floor, and the order of numbers.
use Rattle.std.proofs.Common.{◌≡◌, ℕ, ◌+◌, ◌<◌, ◌≤◌, max, Bool, true, false, cond, not, ◌||◌, ◌&&◌, List, [], ◌∷◌, ◌++◌, refl, sym, ◌∙◌, ap, arith}
use Rattle.std.specs.Prelude.{nat_lt, nat_le, ◌==◌}
use Rattle.std.proofs.lemmas.Int.{ints}
use Rattle.std.proofs.lemmas.Bool.{ltb-true, ltb-false, lt-ltb, eqb-false, or_parts}
use Rattle.std.specs.List.{filter, list_any}
use Rattle.receiver_rules.specs.Packets.{Packet, Moment, At, Ever, is_past_deadline, is_played_out, is_buffered, is_behind_playout, playout_floor, insert_by_number, by_number, IsRising, is_below, is_from}

-- ---- tests

pub any_same : (f g : Packet → Bool) → ((q : Packet) → f q ≡ g q) → (ps : List Packet) → list_any f ps ≡ list_any g ps
any_same f g h [] = refl
any_same f g h (p ∷ ps) = ap (λ b. b || list_any f ps) (h p) ∙ ap (λ b. g p || b) (any_same f g h ps)

pub filter_same : (f g : Packet → Bool) → ((q : Packet) → f q ≡ g q) → (ps : List Packet) → filter f ps ≡ filter g ps
filter_same f g h [] = refl
filter_same f g h (p ∷ ps) = ap (λ b. cond b (p ∷ filter f ps) (filter f ps)) (h p) ∙ ap (λ qs. cond (g p) (p ∷ qs) qs) (filter_same f g h ps)

pub any-filter : (f g : Packet → Bool) (ps : List Packet) → list_any f (filter g ps) ≡ list_any (λ q. g q && f q) ps
any-filter f g [] = refl
any-filter f g (p ∷ ps) = grind (arith, any-filter f g ps)

pub any-insert : (f : Packet → Bool) (p : Packet) (ps : List Packet) → list_any f (insert_by_number p ps) ≡ (f p || list_any f ps)
any-insert f p [] = refl
any-insert f p (q ∷ qs) = grind (arith, any-insert f p qs)

pub any-by_number : (f : Packet → Bool) (ps : List Packet) → list_any f (by_number ps) ≡ list_any f ps
any-by_number f [] = refl
any-by_number f (p ∷ ps) = any-insert f p (by_number ps) ∙ ap (λ b. f p || b) (any-by_number f ps)

-- what passes both tests, one after the other
pub filter-filter : (f g h : Packet → Bool) → ((q : Packet) → h q ≡ (g q && f q)) → (ps : List Packet) → filter f (filter g ps) ≡ filter h ps
filter-filter f g h e [] = refl
filter-filter f g h e (p ∷ ps) = grind (arith, e p, filter-filter f g h e ps)

-- ---- the floor

-- a packet is out exactly where its number is below the floor
pub is_played_out-floor : (accepted : List Packet) (m : Moment) (p : Packet) → is_played_out accepted m p ≡ nat_lt p.number (playout_floor accepted m)
is_played_out-floor [] m p = grind arith
is_played_out-floor (k ∷ accepted) m p = grind (arith, is_played_out-floor accepted m p)

-- a number that some out number reaches is below the floor
reached : (floor n : ℕ) (m : Moment) (ps : List Packet) → playout_floor ps m ≤ floor → n < playout_floor ps m → list_any (λ k. nat_lt k.number floor && nat_le n k.number) ps ≡ true
reached floor n m [] low h = grind arith
reached floor n m (p ∷ ps) low h = grind (arith, reached floor n m ps)

unreached : (floor n : ℕ) (ps : List Packet) → floor ≤ n → list_any (λ k. nat_lt k.number floor && nat_le n k.number) ps ≡ false
unreached floor n [] h = refl
unreached floor n (p ∷ ps) h = grind (arith, unreached floor n ps h)

reaches : (floor n : ℕ) (m : Moment) (ps : List Packet) → playout_floor ps m ≡ floor → list_any (λ k. nat_lt k.number floor && nat_le n k.number) ps ≡ nat_lt n floor
reaches floor n m ps e = grind (arith, reached floor n m ps, unreached floor n ps)

-- behind is below the floor
pub is_behind_playout-floor : (accepted : List Packet) (m : Moment) (p : Packet) → is_behind_playout accepted m p ≡ nat_lt p.number (playout_floor accepted m)
is_behind_playout-floor accepted m p =
    any_same _ _ (λ k. ap (λ b. b && nat_le p.number k.number) (is_played_out-floor accepted m k)) accepted
    ∙ reaches (playout_floor accepted m) p.number m accepted refl

-- ---- the order

-- numbers do not fall, from low on
abbrev pub IsOrderedFrom : ℕ → List Packet → Type 0
IsOrderedFrom low [] = Unit {0}
IsOrderedFrom low (p ∷ ps) = (low ≤ p.number) × IsOrderedFrom p.number ps

ordered_lower : (low high : ℕ) (ps : List Packet) → low ≤ high → IsOrderedFrom high ps → IsOrderedFrom low ps
ordered_lower low high [] h o = tt
ordered_lower low high (p ∷ ps) h o = (omega (arith, o.0), o.1)

ordered-insert : (low : ℕ) (p : Packet) (ps : List Packet) → low ≤ p.number → IsOrderedFrom low ps → IsOrderedFrom low (insert_by_number p ps)
ordered-insert low p [] h o = (h, tt)
ordered-insert low p (q ∷ qs) h o =
    elim (nat_lt p.number q.number) as (λ b. nat_lt p.number q.number ≡ b → IsOrderedFrom low (cond b (p ∷ q ∷ qs) (q ∷ insert_by_number p qs))) [
      | true ↦ λ e. (h, (omega (arith, ltb-true _ _ e), o.1))
      | false ↦ λ e. (o.0, ordered-insert q.number p qs (ltb-false _ _ e) o.1)
    ] refl

pub ordered-by_number : (ps : List Packet) → IsOrderedFrom 0 (by_number ps)
ordered-by_number [] = tt
ordered-by_number (p ∷ ps) = ordered-insert 0 p (by_number ps) (omega arith) (ordered-by_number ps)

-- in front of numbers that are all higher
insert_front : (p : Packet) (low : ℕ) (ps : List Packet) → p.number < low → IsOrderedFrom low ps → insert_by_number p ps ≡ p ∷ ps
insert_front p low [] h o = refl
insert_front p low (q ∷ qs) h o = ap (λ b. cond b (p ∷ q ∷ qs) (q ∷ insert_by_number p qs)) (lt-ltb _ _ (omega (arith, o.0)))

ordered-filter : (f : Packet → Bool) (low : ℕ) (ps : List Packet) → IsOrderedFrom low ps → IsOrderedFrom low (filter f ps)
ordered-filter f low [] o = tt
ordered-filter f low (p ∷ ps) o =
    elim (f p) as (λ b. IsOrderedFrom low (cond b (p ∷ filter f ps) (filter f ps))) [
      | true ↦ (o.0, ordered-filter f p.number ps o.1)
      | false ↦ ordered_lower low p.number (filter f ps) o.0 (ordered-filter f p.number ps o.1)
    ]

-- a packet that passes the test goes to its place among those that pass
pub filter-insert : (f : Packet → Bool) (p : Packet) (low : ℕ) (ps : List Packet) → f p ≡ true → IsOrderedFrom low ps → filter f (insert_by_number p ps) ≡ insert_by_number p (filter f ps)
filter-insert f p low [] h o = ap (λ b. cond b (p ∷ []) []) h
filter-insert f p low (q ∷ qs) h o =
    elim (nat_lt p.number q.number) as (λ b. nat_lt p.number q.number ≡ b → filter f (cond b (p ∷ q ∷ qs) (q ∷ insert_by_number p qs)) ≡ insert_by_number p (filter f (q ∷ qs))) [
      | true ↦ λ e. ap (λ b. cond b (p ∷ filter f (q ∷ qs)) (filter f (q ∷ qs))) h ∙ sym (insert_front p q.number (filter f (q ∷ qs)) (ltb-true _ _ e) (ordered-filter f q.number (q ∷ qs) (omega arith, o.1)))
      | false ↦ λ e.
          elim (f q) as (λ c. cond c (q ∷ filter f (insert_by_number p qs)) (filter f (insert_by_number p qs)) ≡ insert_by_number p (cond c (q ∷ filter f qs) (filter f qs))) [
            | true ↦ ap (λ ps. q ∷ ps) (filter-insert f p q.number qs h o.1) ∙ sym (ap (λ b. cond b (p ∷ q ∷ filter f qs) (q ∷ insert_by_number p (filter f qs))) e)
            | false ↦ filter-insert f p q.number qs h o.1
          ]
    ] refl

-- ---- one more packet, whose deadline is still to come

pub out-cons : (p : Packet) (accepted : List Packet) (m : Moment) → is_past_deadline m p ≡ false → (q : Packet) → is_buffered (p ∷ accepted) m q ≡ is_buffered accepted m q
out-cons p accepted m h q = grind (arith, h)

-- what is buffered after one more is kept
pub buffered-cons : (p : Packet) (accepted : List Packet) (m : Moment) → is_past_deadline m p ≡ false → is_buffered accepted m p ≡ true → filter (is_buffered (p ∷ accepted) m) (by_number (p ∷ accepted)) ≡ insert_by_number p (filter (is_buffered accepted m) (by_number accepted))
buffered-cons p accepted m h held =
    filter_same _ _ (out-cons p accepted m h) (insert_by_number p (by_number accepted))
    ∙ filter-insert (is_buffered accepted m) p 0 (by_number accepted) held (ordered-by_number accepted)

-- ---- a later moment

-- what is past at the one is past at the other
abbrev pub IsLater : Moment → Moment → Type 0
IsLater m later = (p : Packet) → is_past_deadline m p ≡ true → is_past_deadline later p ≡ true

pub floor_rises : (m later : Moment) → IsLater m later → (ps : List Packet) → playout_floor ps m ≤ playout_floor ps later
floor_rises m later h [] = omega arith
floor_rises m later h (p ∷ ps) = grind (arith, h p, floor_rises m later h ps)

pub floor-filter : (floor : ℕ) (m : Moment) (ps : List Packet) → max floor (playout_floor (filter (is_from floor) ps) m) ≡ max floor (playout_floor ps m)
floor-filter floor m [] = refl
floor-filter floor m (p ∷ ps) = grind (arith, floor-filter floor m ps)

pub floor-insert : (m : Moment) (p : Packet) (ps : List Packet) → playout_floor (insert_by_number p ps) m ≡ playout_floor (p ∷ ps) m
floor-insert m p [] = refl
floor-insert m p (q ∷ qs) = grind (arith, floor-insert m p qs)

floor-by_number : (m : Moment) (ps : List Packet) → playout_floor (by_number ps) m ≡ playout_floor ps m
floor-by_number m [] = refl
floor-by_number m (p ∷ ps) = floor-insert m p (by_number ps) ∙ ap (λ n. cond (is_past_deadline m p) (max (p.number + 1) n) n) (floor-by_number m ps)

pub is_buffered-floor : (accepted : List Packet) (m : Moment) (p : Packet) → is_buffered accepted m p ≡ is_from (playout_floor accepted m) p
is_buffered-floor accepted m p = ap not (is_played_out-floor accepted m p)

-- the floor at a later moment is that of what was buffered
pub floor_later : (m later : Moment) → IsLater m later → (accepted : List Packet) → playout_floor accepted later ≡ max (playout_floor accepted m) (playout_floor (filter (is_buffered accepted m) (by_number accepted)) later)
floor_later m later h accepted =
    let rises = floor_rises m later h accepted in
    let same : playout_floor (filter (is_buffered accepted m) (by_number accepted)) later ≡ playout_floor (filter (is_from (playout_floor accepted m)) (by_number accepted)) later = ap (λ ps. playout_floor ps later) (filter_same _ _ (is_buffered-floor accepted m) (by_number accepted)) in
    grind (arith, floor-filter (playout_floor accepted m) later (by_number accepted), floor-by_number later accepted, same, rises)

-- what is still buffered at a later moment
pub buffered_later : (m later : Moment) → IsLater m later → (accepted : List Packet) → filter (is_buffered accepted later) (by_number accepted) ≡ filter (is_from (playout_floor accepted later)) (filter (is_buffered accepted m) (by_number accepted))
buffered_later m later h accepted =
    let rises = floor_rises m later h accepted in
    sym (filter-filter _ _ _ (λ q. grind (arith, is_buffered-floor accepted m q, is_buffered-floor accepted later q, rises)) (by_number accepted))

-- ---- numbers in order, cut at a number

none_below : (floor low : ℕ) (ps : List Packet) → floor ≤ low → IsOrderedFrom low ps → filter (is_below floor) ps ≡ []
none_below floor low [] h o = refl
none_below floor low (p ∷ ps) h o = grind (arith, o.0, none_below floor p.number ps (omega (arith, o.0)) o.1)

all_from : (floor low : ℕ) (ps : List Packet) → floor ≤ low → IsOrderedFrom low ps → filter (is_from floor) ps ≡ ps
all_from floor low [] h o = refl
all_from floor low (p ∷ ps) h o = grind (arith, o.0, all_from floor p.number ps (omega (arith, o.0)) o.1)

cut : (floor later low : ℕ) (ps : List Packet) → floor ≤ later → IsOrderedFrom low ps → filter (is_below later) ps ≡ filter (is_below floor) ps ++ filter (is_below later) (filter (is_from floor) ps)
cut floor later low [] h o = refl
cut floor later low (p ∷ ps) h o =
    elim (nat_lt p.number floor) as (λ b. nat_lt p.number floor ≡ b → cond (nat_lt p.number later) (p ∷ filter (is_below later) ps) (filter (is_below later) ps) ≡ cond b (p ∷ filter (is_below floor) ps) (filter (is_below floor) ps) ++ filter (is_below later) (cond (not b) (p ∷ filter (is_from floor) ps) (filter (is_from floor) ps))) [
      | true ↦ λ e. ap (λ b. cond b (p ∷ filter (is_below later) ps) (filter (is_below later) ps)) (lt-ltb _ _ (let l : p.number < floor = ltb-true _ _ e in omega arith)) ∙ ap (λ qs. p ∷ qs) (cut floor later p.number ps h o.1)
      | false ↦ λ e.
          let high : floor ≤ p.number = ltb-false _ _ e in
          sym (ap (λ qs. qs ++ filter (is_below later) (p ∷ filter (is_from floor) ps)) (none_below floor p.number ps high o.1)
          ∙ ap (λ qs. filter (is_below later) (p ∷ qs)) (all_from floor p.number ps high o.1))
    ] refl

-- what goes out between two moments comes behind what was out
pub played_out_later : (m later : Moment) → IsLater m later → (accepted : List Packet) → filter (is_played_out accepted later) (by_number accepted) ≡ filter (is_played_out accepted m) (by_number accepted) ++ filter (is_below (playout_floor accepted later)) (filter (is_buffered accepted m) (by_number accepted))
played_out_later m later h accepted =
    filter_same _ _ (is_played_out-floor accepted later) (by_number accepted)
    ∙ cut (playout_floor accepted m) (playout_floor accepted later) 0 (by_number accepted) (floor_rises m later h accepted) (ordered-by_number accepted)
    ∙ ap (λ ps. ps ++ filter (is_below (playout_floor accepted later)) (filter (is_from (playout_floor accepted m)) (by_number accepted))) (filter_same _ _ (λ q. sym (is_played_out-floor accepted m q)) (by_number accepted))
    ∙ ap (λ ps. filter (is_played_out accepted m) (by_number accepted) ++ filter (is_below (playout_floor accepted later)) ps) (filter_same _ _ (λ q. sym (is_buffered-floor accepted m q)) (by_number accepted))

pub later_At : (t later : ℕ) → t ≤ later → IsLater (At t) (At later)
later_At t later h p e = grind (arith, ints)

pub later_Ever : (m : Moment) → IsLater m Ever
later_Ever m p e = refl

-- ---- strictly rising numbers

pub rising_lower : (low high : ℕ) (ps : List Packet) → low ≤ high → IsRising high ps → IsRising low ps
rising_lower low high [] h r = tt
rising_lower low high (p ∷ ps) h r = (omega (arith, r.0), r.1)

pub rising-filter : (f : Packet → Bool) (low : ℕ) (ps : List Packet) → IsRising low ps → IsRising low (filter f ps)
rising-filter f low [] r = tt
rising-filter f low (p ∷ ps) r =
    elim (f p) as (λ b. IsRising low (cond b (p ∷ filter f ps) (filter f ps))) [
      | true ↦ (r.0, rising-filter f (p.number + 1) ps r.1)
      | false ↦ rising_lower low (p.number + 1) (filter f ps) (omega (arith, r.0)) (rising-filter f (p.number + 1) ps r.1)
    ]

pub rising-insert : (low : ℕ) (p : Packet) (ps : List Packet) → low ≤ p.number → list_any (λ q. q.number == p.number) ps ≡ false → IsRising low ps → IsRising low (insert_by_number p ps)
rising-insert low p [] h new r = (h, tt)
rising-insert low p (q ∷ qs) h new r =
    elim (nat_lt p.number q.number) as (λ c. nat_lt p.number q.number ≡ c → IsRising low (cond c (p ∷ q ∷ qs) (q ∷ insert_by_number p qs))) [
      | true ↦ λ e. (h, (omega (arith, ltb-true _ _ e), r.1))
      | false ↦ λ e.
          let parts = or_parts (q.number == p.number) (list_any (λ k. k.number == p.number) qs) new in
          (r.0, rising-insert (q.number + 1) p qs (omega (arith, ltb-false _ _ e, eqb-false _ _ parts.0)) parts.1 r.1)
    ] refl

-- a packet that fails the test changes nothing among those that pass
pub filter-insert_refused : (f : Packet → Bool) (p : Packet) (ps : List Packet) → f p ≡ false → filter f (insert_by_number p ps) ≡ filter f ps
filter-insert_refused f p [] h = ap (λ b. cond b (p ∷ []) []) h
filter-insert_refused f p (q ∷ qs) h = grind (arith, h, filter-insert_refused f p qs h)
