-- Buckets of the greatest amounts that are joined in pairs.
use Rattle.std.proofs.Common.{◌≡◌, ◌≢◌, ℕ, max, ◌+◌, ◌*◌, ◌/◌, ◌^◌, ◌<◌, ◌≤◌, List, [], ◌∷◌, map, length, take, replicate, refl, sym, ap, ◌∙◌, subst, inl, inr, arith}
use Rattle.std.specs.Prelude.{◌==◌, if◌then◌else◌, slice_index}
use Rattle.std.specs.List.{range_with_len}
use Rattle.std.proofs.lemmas.Bool.{cases_eq, cases_lt}
use Rattle.std.proofs.lemmas.Bool.Decides.{nat_tests}
use Rattle.std.proofs.lemmas.List.{length-take, length-set, get_or-take, get_or-set_same, get_or-set_other, ext_get_or, length-replicate, get_or-replicate}
use Rattle.std.proofs.lemmas.List.FromFn.{length-map-range_with_len, get_or-map-range_with_len}
use Rattle.time_series.specs.Points.{Mark, latest, halvings, shown_points, SeriesState}
use Rattle.time_series.specs.Peaks.{greatest_in, peaks_of, IsPeaksOf}
use Rattle.time_series.specs.Inside.Rising.{ArePeaks, lifted}
use Rattle.time_series.proofs.SeriesLemmas.{half_of, quotient_below, twice, two_to, none_at_first}

in_pair : (q i a : ℕ) → (if q / 2 == i then a else 0) ≡ max (if q == 2 * i then a else 0) (if q == 2 * i + 1 then a else 0)
in_pair q i a = grind (arith, nat_tests)

-- the greatest amount of a bucket is that of the two that it is made of
peak_of : (scale i : ℕ) (marks : List Mark) → greatest_in (scale + 1) i marks ≡ max (greatest_in scale (2 * i) marks) (greatest_in scale (2 * i + 1) marks)
peak_of scale i [] = refl
peak_of scale i (mark ∷ marks) =
    let here : (if mark.second / 2 ^ (scale + 1) == i then mark.amount else 0)
    ≡ max (if mark.second / 2 ^ scale == 2 * i then mark.amount else 0) (if mark.second / 2 ^ scale == 2 * i + 1 then mark.amount else 0) =
    ap (λ (q : ℕ). if q == i then mark.amount else 0) (half_of mark.second scale) ∙ in_pair (mark.second / 2 ^ scale) i mark.amount in
    let rest = peak_of scale i marks in
    omega (arith, here, rest)

-- nothing came behind the latest second
beyond : (scale i : ℕ) (marks : List Mark) → latest marks < 4096 * 2 ^ scale → 4096 ≤ i → greatest_in scale i marks ≡ 0
beyond scale i [] below high = refl
beyond scale i (mark ∷ marks) below high =
    let here : mark.second / 2 ^ scale < 4096 = quotient_below mark.second (2 ^ scale) 4096 (omega (arith, below)) in
    let none : (if mark.second / 2 ^ scale == i then mark.amount else 0) ≡ 0 = other (mark.second / 2 ^ scale) mark.amount (omega (arith, here, high)) in
    let rest = beyond scale i marks (omega (arith, below)) high in
    omega (arith, none, rest)
  where
    other : (q a : ℕ) → q ≢ i → (if q == i then a else 0) ≡ 0
    other q a not = grind (arith, nat_tests)

-- peaks are the greatest of their amounts
pub peaks_kept : (points : List ℕ) (scale last : ℕ) (marks : List Mark) → IsPeaksOf (record { points = points; scale = scale; latest = last }) marks → ArePeaks scale marks points
peaks_kept points scale last marks is =
    record { within = subst (λ (n : ℕ). n < 4096 * 2 ^ scale) is.newest is.within; room = is.room; peaks = is.peaks }

-- joined pairs are the peaks of buckets that are twice as wide
pub peaks_joined : (scale : ℕ) (marks : List Mark) (old mid new : List ℕ) → length new ≡ 4096
    → ((i : ℕ) → i < 2048 → slice_index mid i ≡ max (slice_index old (2 * i)) (slice_index old (2 * i + 1)))
    → ((i : ℕ) → i < 2048 → slice_index new i ≡ slice_index mid i)
    → ((i : ℕ) → 2048 ≤ i → i < 4096 → slice_index new i ≡ 0)
    → ArePeaks scale marks old → ArePeaks (scale + 1) marks new
peaks_joined scale marks old mid new room pairs first second are = record {
  within = subst (λ (p : ℕ). latest marks < 4096 * p) (sym (two_to scale)) (twice (latest marks) (2 ^ scale) are.within);
  room = room;
  peaks = λ i low. elim (cases_lt i 2048) [
    | inl front ↦
        let a = are.peaks (2 * i) (omega arith) in
        let b = are.peaks (2 * i + 1) (omega arith) in
        let whole = peak_of scale i marks in
        first i front ∙ pairs i front ∙ omega (arith, a, b, whole)
    | inr back ↦
        let a = beyond scale (2 * i) marks are.within (omega arith) in
        let b = beyond scale (2 * i + 1) marks are.within (omega arith) in
        let whole = peak_of scale i marks in
        second i back low ∙ omega (arith, a, b, whole)
  ];
}

-- a bucket's greatest amount with what came in its second
pub one_taken : (scale second amount : ℕ) (marks : List Mark) (old : List ℕ) → second < 4096 * 2 ^ scale → ArePeaks scale marks old
    → ArePeaks scale (record { second = second; amount = amount } ∷ marks) (lifted old (second / 2 ^ scale) amount)
one_taken scale second amount marks old below are =
    let at : ℕ = second / 2 ^ scale in
    let inside : at < 4096 = quotient_below second (2 ^ scale) 4096 below in
    record {
      within = let w = are.within in omega (arith, w, below);
      room = length-set old at (max (slice_index old at) amount) ∙ are.room;
      peaks = λ i low. elim (cases_eq i at) [
        | inl same ↦
            let here : slice_index (lifted old at amount) at ≡ max (slice_index old at) amount = get_or-set_same old at (max (slice_index old at) amount) 0 (let r = are.room in omega (arith, r, inside)) in
            let before = are.peaks at inside in
            let there : (if at == at then amount else 0) ≡ amount = grind (arith, nat_tests) in
            subst (λ (j : ℕ). slice_index (lifted old at amount) j ≡ max (if at == j then amount else 0) (greatest_in scale j marks)) (sym same)
            (here ∙ omega (arith, before, there))
        | inr other ↦
            let here : slice_index (lifted old at amount) i ≡ slice_index old i = get_or-set_other old at i (max (slice_index old at) amount) 0 other in
            let before = are.peaks i low in
            let none : (if at == i then amount else 0) ≡ 0 = grind (arith, nat_tests) in
            here ∙ before ∙ omega (arith, none)
      ];
    }

-- and so of peaks
pub peaks_shown : (points : List ℕ) (scale last : ℕ) (marks : List Mark) → scale ≡ halvings last → last ≡ latest marks → ArePeaks scale marks points → IsPeaksOf (record { points = points; scale = scale; latest = last }) marks
peaks_shown points scale last marks doubled newest are =
    record { newest = newest; doubled = doubled ∙ ap halvings newest; room = are.room; within = subst (λ (n : ℕ). n < 4096 * 2 ^ scale) (sym newest) are.within; peaks = are.peaks }

-- the points that are shown
pub shown_peaks : (s : SeriesState) (marks : List Mark) → IsPeaksOf s marks → shown_points s ≡ peaks_of marks
shown_peaks s marks is =
    let points : List ℕ = s.points in
    let scale : ℕ = s.scale in
    let last : ℕ = s.latest in
    let f : ℕ → ℕ = λ i. greatest_in (halvings (latest marks)) i marks in
    let n : ℕ = last / 2 ^ scale + 1 in
    let few : n ≤ 4096 = (let q = quotient_below last (2 ^ scale) 4096 is.within in omega (arith, q)) in
    let len : length (take n points) ≡ n = length-take n points ∙ (let r = is.room in omega (arith, r, few)) in
    let same : take n points ≡ map f (range_with_len 0 n) =
    ext_get_or 0 (take n points) (map f (range_with_len 0 n)) (len ∙ sym (length-map-range_with_len f 0 n))
    (λ i low. let inside : i < n = omega (arith, low, len) in
    get_or-take n points i 0 inside ∙ is.peaks i (omega (arith, inside, few)) ∙ ap (λ (k : ℕ). greatest_in k i marks) is.doubled ∙ sym (get_or-map-range_with_len f 0 n i i 0 inside (omega arith))) in
    same ∙ ap (λ (m : ℕ). map f (range_with_len 0 m)) (ap (λ (l : ℕ). l / 2 ^ scale + 1) is.newest ∙ ap (λ (k : ℕ). latest marks / 2 ^ k + 1) is.doubled)

-- ---- nothing yet

pub new_peaks : (points : List ℕ) → points ≡ replicate 4096 0 → IsPeaksOf (record { points = points; scale = 0; latest = 0 }) []
new_peaks points all = record {
  newest = refl;
  doubled = sym none_at_first;
  room = ap length all ∙ length-replicate {A = ℕ} 4096 0;
  within = omega arith;
  peaks = λ i low. ap (λ (ps : List ℕ). slice_index ps i) all ∙ get_or-replicate 4096 i 0 0 low;
}
