-- Buckets that are joined in pairs, and how often that is done.
use Rattle.std.proofs.Common.{◌≡◌, ◌≢◌, ℕ, zero, suc, max, ◌+◌, ◌*◌, ◌/◌, ◌^◌, ◌<◌, ◌≤◌, List, [], ◌∷◌, map, length, take, replicate, refl, sym, ap, ◌∙◌, subst, inl, inr, arith, Bool, true, false}
use Rattle.std.specs.Prelude.{nat_lt, ◌==◌, if◌then◌else◌, slice_index}
use Rattle.std.specs.List.{range_with_len}
use Rattle.std.proofs.lemmas.Nat.{shr-shr}
use Rattle.std.proofs.Math.Nat.{pow-succ'}
use Rattle.std.proofs.lemmas.Bool.{cases_eq, cases_lt}
use Rattle.std.proofs.lemmas.Bool.Decides.{nat_tests}
use Rattle.std.proofs.lemmas.List.{length-take, length-set, get_or-take, get_or-set_same, get_or-set_other, ext_get_or, length-replicate, get_or-replicate}
use Rattle.std.proofs.lemmas.List.FromFn.{length-map-range_with_len, get_or-map-range_with_len}
use Rattle.time_series.specs.Points.{Mark, capped, latest, amount_in, halvings_within, halvings, points_of, shown_points, SeriesState, IsSeriesOf}
use Rattle.time_series.specs.Inside.Widening.{AreSums, IsRoomy, raised}

-- ---- how often

half_below : (n k : ℕ) → n < 4096 * 2 ^ suc k → n / 2 < 4096 * 2 ^ k
half_below n k below = omega (arith, below, pow-succ' 2 k)

twice_below : (n h : ℕ) → n / 2 < 4096 * 2 ^ h → n < 4096 * 2 ^ suc h
twice_below n h below = omega (arith, below, pow-succ' 2 h)

-- after the halvings there is a point
pub enough : (k n : ℕ) → n < 4096 * 2 ^ k → n < 4096 * 2 ^ halvings_within k n
unfolding halvings_within
enough zero n below = below
enough (suc k) n below = by_test (nat_lt n 4096) refl (enough k (n / 2) (half_below n k below))
  where
    by_test : (b : Bool) → b ≡ nat_lt n 4096 → n / 2 < 4096 * 2 ^ halvings_within k (n / 2) → n < 4096 * 2 ^ (if b then 0 else suc (halvings_within k (n / 2)))
    by_test true is less = let test : nat_lt n 4096 ≡ true = sym is in grind (arith, nat_tests)
    by_test false is less = twice_below n (halvings_within k (n / 2)) less

-- no more than were asked for
pub few : (k n : ℕ) → halvings_within k n ≤ k
unfolding halvings_within
few zero n = omega arith
few (suc k) n = by_test (nat_lt n 4096) (few k (n / 2))
  where
    by_test : (b : Bool) → halvings_within k (n / 2) ≤ k → (if b then 0 else suc (halvings_within k (n / 2))) ≤ suc k
    by_test true less = omega arith
    by_test false less = omega arith

-- a later second takes no fewer
pub grows : (k n m : ℕ) → n ≤ m → halvings_within k n ≤ halvings_within k m
unfolding halvings_within
grows zero n m le = omega arith
grows (suc k) n m le = by_test (nat_lt n 4096) refl (nat_lt m 4096) refl (grows k (n / 2) (m / 2) (omega arith))
  where
    by_test : (a : Bool) → a ≡ nat_lt n 4096 → (b : Bool) → b ≡ nat_lt m 4096 → halvings_within k (n / 2) ≤ halvings_within k (m / 2)
        → (if a then 0 else suc (halvings_within k (n / 2))) ≤ (if b then 0 else suc (halvings_within k (m / 2)))
    by_test true is b at less = omega arith
    by_test false is false at less = omega arith
    by_test false is true at less =
        let low : nat_lt n 4096 ≡ false = sym is in
        let high : nat_lt m 4096 ≡ true = sym at in
        absurd (grind (arith, nat_tests))

-- one more
pub one_more : (k j n : ℕ) → k ≡ suc j → 4096 ≤ n → halvings_within k n ≡ suc (halvings_within j (n / 2))
unfolding halvings_within
one_more zero j n is high = absurd (omega arith)
one_more (suc k) j n is high =
    let test : nat_lt n 4096 ≡ false = grind (arith, nat_tests) in
    ap (λ (b : Bool). if b then 0 else suc (halvings_within k (n / 2))) test ∙ ap (λ (m : ℕ). suc (halvings_within m (n / 2))) (omega arith)

-- none where there is a point
pub none_more : (k n : ℕ) → n < 4096 → halvings_within k n ≡ 0
unfolding halvings_within
none_more zero n low = refl
none_more (suc k) n low =
    let test : nat_lt n 4096 ≡ true = grind (arith, nat_tests) in
    ap (λ (b : Bool). if b then 0 else suc (halvings_within k (n / 2))) test

pub none_left : (k n : ℕ) → k ≡ 0 → halvings_within k n ≡ 0
unfolding halvings_within
none_left zero n is = refl
none_left (suc k) n is = absurd (omega arith)

-- of a second of 64 bits
pub room_for : (second : ℕ) → second < 2 ^ 64 → second < 4096 * 2 ^ halvings second
unfolding halvings
room_for second fits = enough 52 second fits

pub at_most : (second : ℕ) → halvings second ≤ 52
unfolding halvings
at_most second = few 52 second

pub later_more : (n m : ℕ) → n ≤ m → halvings n ≤ halvings m
unfolding halvings
later_more n m le = grows 52 n m le

-- ---- pairs

-- two sums that stay at their greatest value are as their sum
pub capped_sum : (a b : ℕ) → capped (capped a + capped b) ≡ capped (a + b)
capped_sum a b = omega arith

pub half_of : (s k : ℕ) → s / 2 ^ (k + 1) ≡ s / 2 ^ k / 2
half_of s k = sym (shr-shr s k 1)

in_pair : (q i a : ℕ) → (if q / 2 == i then a else 0) ≡ (if q == 2 * i then a else 0) + (if q == 2 * i + 1 then a else 0)
in_pair q i a = grind (arith, nat_tests)

-- the amounts of a bucket are those of the two that it is made of
pub pair_of : (scale i : ℕ) (marks : List Mark) → amount_in (scale + 1) i marks ≡ amount_in scale (2 * i) marks + amount_in scale (2 * i + 1) marks
pair_of scale i [] = refl
pair_of scale i (mark ∷ marks) =
    let here : (if mark.second / 2 ^ (scale + 1) == i then mark.amount else 0)
    ≡ (if mark.second / 2 ^ scale == 2 * i then mark.amount else 0) + (if mark.second / 2 ^ scale == 2 * i + 1 then mark.amount else 0) =
    ap (λ (q : ℕ). if q == i then mark.amount else 0) (half_of mark.second scale) ∙ in_pair (mark.second / 2 ^ scale) i mark.amount in
    let rest = pair_of scale i marks in
    omega (arith, here, rest)

pub quotient_below : (s p n : ℕ) → s < n * p → s / p < n
quotient_below s p n below = grind arith

-- nothing came behind the latest second
pub beyond : (scale i : ℕ) (marks : List Mark) → latest marks < 4096 * 2 ^ scale → 4096 ≤ i → amount_in scale i marks ≡ 0
beyond scale i [] below high = refl
beyond scale i (mark ∷ marks) below high =
    let here : mark.second / 2 ^ scale < 4096 = quotient_below mark.second (2 ^ scale) 4096 (omega (arith, below)) in
    let none : (if mark.second / 2 ^ scale == i then mark.amount else 0) ≡ 0 = other (mark.second / 2 ^ scale) mark.amount (omega (arith, here, high)) in
    let rest = beyond scale i marks (omega (arith, below)) high in
    omega (arith, none, rest)
  where
    other : (q a : ℕ) → q ≢ i → (if q == i then a else 0) ≡ 0
    other q a not = grind (arith, nat_tests)

-- ---- the buckets

-- a series' points are the sums of its amounts
pub sums_of : (points : List ℕ) (scale last : ℕ) (marks : List Mark) → IsSeriesOf (record { points = points; scale = scale; latest = last }) marks → AreSums scale marks points
sums_of points scale last marks is =
    record { within = subst (λ (n : ℕ). n < 4096 * 2 ^ scale) is.newest is.within; room = is.room; sums = is.sums }

pub twice : (n p : ℕ) → n < 4096 * p → n < 4096 * (2 * p)
twice n p below = omega arith

pub two_to : (k : ℕ) → 2 ^ (k + 1) ≡ 2 * 2 ^ k
two_to k = ap (λ (m : ℕ). 2 ^ m) (omega arith) ∙ pow-succ' 2 k

-- joined pairs are the sums of buckets that are twice as wide
pub joined : (scale : ℕ) (marks : List Mark) (old mid new : List ℕ) → length new ≡ 4096
    → ((i : ℕ) → i < 2048 → slice_index mid i ≡ capped (slice_index old (2 * i) + slice_index old (2 * i + 1)))
    → ((i : ℕ) → i < 2048 → slice_index new i ≡ slice_index mid i)
    → ((i : ℕ) → 2048 ≤ i → i < 4096 → slice_index new i ≡ 0)
    → AreSums scale marks old → AreSums (scale + 1) marks new
joined scale marks old mid new room pairs first second are = record {
  within = subst (λ (p : ℕ). latest marks < 4096 * p) (sym (two_to scale)) (twice (latest marks) (2 ^ scale) are.within);
  room = room;
  sums = λ i low. elim (cases_lt i 2048) [
    | inl front ↦
        let a = are.sums (2 * i) (omega arith) in
        let b = are.sums (2 * i + 1) (omega arith) in
        let whole = pair_of scale i marks in
        first i front ∙ pairs i front ∙ omega (arith, a, b, whole)
    | inr back ↦
        let a = beyond scale (2 * i) marks are.within (omega arith) in
        let b = beyond scale (2 * i + 1) marks are.within (omega arith) in
        let whole = pair_of scale i marks in
        second i back low ∙ omega (arith, a, b, whole)
  ];
}

-- ---- one more amount

-- a bucket's sum is raised by what came in its second
pub one_added : (scale second amount : ℕ) (marks : List Mark) (old : List ℕ) → second < 4096 * 2 ^ scale → AreSums scale marks old
    → AreSums scale (record { second = second; amount = amount } ∷ marks) (raised old (second / 2 ^ scale) amount)
one_added scale second amount marks old below are =
    let at : ℕ = second / 2 ^ scale in
    let inside : at < 4096 = quotient_below second (2 ^ scale) 4096 below in
    record {
      within = let w = are.within in omega (arith, w, below);
      room = length-set old at (capped (slice_index old at + amount)) ∙ are.room;
      sums = λ i low. elim (cases_eq i at) [
        | inl same ↦
            let here : slice_index (raised old at amount) at ≡ capped (slice_index old at + amount) = get_or-set_same old at (capped (slice_index old at + amount)) 0 (let r = are.room in omega (arith, r, inside)) in
            let before = are.sums at inside in
            let there : (if at == at then amount else 0) ≡ amount = grind (arith, nat_tests) in
            subst (λ (j : ℕ). slice_index (raised old at amount) j ≡ capped ((if at == j then amount else 0) + amount_in scale j marks)) (sym same)
            (here ∙ omega (arith, before, there))
        | inr other ↦
            let here : slice_index (raised old at amount) i ≡ slice_index old i = get_or-set_other old at i (capped (slice_index old at + amount)) 0 other in
            let before = are.sums i low in
            let none : (if at == i then amount else 0) ≡ 0 = grind (arith, nat_tests) in
            here ∙ before ∙ omega (arith, none)
      ];
    }

-- nothing more came in a second that has a bucket
pub nothing_added : (s : SeriesState) (second amount : ℕ) (marks : List Mark) → amount ≡ 0 → second ≤ s.latest → IsSeriesOf s marks
    → IsSeriesOf s (record { second = second; amount = amount } ∷ marks)
nothing_added s second amount marks none before is =
    let low : second ≤ latest marks = omega (arith, before, is.newest) in
    let same : max second (latest marks) ≡ latest marks = omega (arith, low) in
    record {
      newest = is.newest ∙ sym same;
      doubled = is.doubled ∙ ap halvings (sym same);
      room = is.room;
      within = is.within;
      sums = λ i inside.
          let rest = is.sums i inside in
          let zero_here = no_amount (second / 2 ^ s.scale) i amount none in
          omega (arith, rest, zero_here);
    }
  where
    no_amount : (q i a : ℕ) → a ≡ 0 → ◌≡◌ {A = ℕ} (if q == i then a else 0) 0
    no_amount q i a none = grind (arith, nat_tests)

-- and so of a series
pub series_of : (points : List ℕ) (scale last : ℕ) (marks : List Mark) → scale ≡ halvings last → last ≡ latest marks → AreSums scale marks points → IsSeriesOf (record { points = points; scale = scale; latest = last }) marks
series_of points scale last marks doubled newest are =
    record { newest = newest; doubled = doubled ∙ ap halvings newest; room = are.room; within = subst (λ (n : ℕ). n < 4096 * 2 ^ scale) (sym newest) are.within; sums = are.sums }

-- the points that are shown
pub shown : (s : SeriesState) (marks : List Mark) → IsSeriesOf s marks → shown_points s ≡ points_of marks
shown s marks is =
    let points : List ℕ = s.points in
    let scale : ℕ = s.scale in
    let last : ℕ = s.latest in
    let f : ℕ → ℕ = λ i. capped (amount_in (halvings (latest marks)) i marks) in
    let n : ℕ = last / 2 ^ scale + 1 in
    let few : n ≤ 4096 = (let q = quotient_below last (2 ^ scale) 4096 is.within in omega (arith, q)) in
    let len : length (take n points) ≡ n = length-take n points ∙ (let r = is.room in omega (arith, r, few)) in
    let same : take n points ≡ map f (range_with_len 0 n) =
    ext_get_or 0 (take n points) (map f (range_with_len 0 n)) (len ∙ sym (length-map-range_with_len f 0 n))
    (λ i low. let inside : i < n = omega (arith, low, len) in
    get_or-take n points i 0 inside ∙ is.sums i (omega (arith, inside, few)) ∙ ap (λ (k : ℕ). capped (amount_in k i marks)) is.doubled ∙ sym (get_or-map-range_with_len f 0 n i i 0 inside (omega arith))) in
    same ∙ ap (λ (m : ℕ). map f (range_with_len 0 m)) (ap (λ (l : ℕ). l / 2 ^ scale + 1) is.newest ∙ ap (λ (k : ℕ). latest marks / 2 ^ k + 1) is.doubled)

-- ---- nothing yet

pub nothing_in : (scale i : ℕ) → amount_in scale i [] ≡ 0
nothing_in scale i = refl

pub none_at_first : halvings 0 ≡ 0
unfolding halvings halvings_within
none_at_first = refl

pub new_room : (points : List ℕ) → points ≡ replicate 4096 0 → IsRoomy points 0 0
new_room points all = record { room = ap length all ∙ length-replicate {A = ℕ} 4096 0; doubled = sym none_at_first; small = omega arith; within = omega arith }

pub new_series : (points : List ℕ) → points ≡ replicate 4096 0 → IsSeriesOf (record { points = points; scale = 0; latest = 0 }) []
new_series points all = record {
  newest = refl;
  doubled = sym none_at_first;
  room = ap length all ∙ length-replicate {A = ℕ} 4096 0;
  within = omega arith;
  sums = λ i low. ap (λ (ps : List ℕ). slice_index ps i) all ∙ get_or-replicate 4096 i 0 0 low;
}
