-- How many values lie above one, and the least that few lie above.
use Rattle.std.proofs.Common.{◌≡◌, ◌≢◌, ℕ, zero, suc, ◌+◌, ◌^◌, ◌<◌, ◌≤◌, List, [], ◌∷◌, length, replicate, get_or, refl, sym, ap, ◌∙◌, subst, inl, inr, arith, Bool, true, false}
use Rattle.std.specs.Prelude.{nat_lt, nat_le, ◌==◌, if◌then◌else◌, slice_index}
use Rattle.std.proofs.lemmas.Bool.{cases_eq}
use Rattle.std.proofs.lemmas.Bool.Decides.{nat_tests}
use Rattle.std.proofs.lemmas.List.{get_or_read, length-set, get_or-set_same, get_or-set_other, length-replicate, get_or-replicate}
use Rattle.value_histogram.specs.Ranks.{capped, count_at, count_above, least_from, rank_of, raised, HistogramState, IsHistogramOf}

-- ---- counts

one_apart : (v x : ℕ) → (if nat_lt v x then 1 else 0) ≡ (if nat_lt (v + 1) x then 1 else 0) + (if x == v + 1 then 1 else 0)
one_apart v x = grind (arith, nat_tests)

-- above a value are those above the next one, and that one
pub above_next : (v : ℕ) (values : List ℕ) → count_above v values ≡ count_above (v + 1) values + count_at (v + 1) values
above_next v [] = refl
above_next v (x ∷ xs) =
    let here = one_apart v x in
    let rest = above_next v xs in
    omega (arith, here, rest)

fewer_one : (v w x : ℕ) → v ≤ w → (if nat_lt w x then 1 else 0) ≤ (if nat_lt v x then 1 else 0)
fewer_one v w x le = grind (arith, nat_tests)

-- above a greater one there are no more
pub fewer_above : (v w : ℕ) (values : List ℕ) → v ≤ w → count_above w values ≤ count_above v values
fewer_above v w [] le = omega arith
fewer_above v w (x ∷ xs) le =
    let here = fewer_one v w x le in
    let rest = fewer_above v w xs le in
    omega (arith, here, rest)

-- ---- the least

-- a value is the first that few lie above
pub least_is : (more v target most : ℕ) (values : List ℕ) → v ≤ target → target ≤ v + more → count_above target values ≤ most
    → ((w : ℕ) → v ≤ w → w < target → most < count_above w values) → least_from more v most values ≡ target
unfolding least_from
least_is zero v target most values from to few many = omega (arith, from, to)
least_is (suc more) v target most values from to few many = elim (cases_eq v target) [
  | inl same ↦
      let test : nat_le (count_above v values) most ≡ true = (let here = subst (λ (t : ℕ). count_above t values ≤ most) (sym same) few in grind (arith, nat_tests)) in
      ap (λ (b : Bool). if b then v else least_from more (v + 1) most values) test ∙ same
  | inr other ↦
      let above = many v (omega arith) (omega (arith, from, other)) in
      let test : nat_le (count_above v values) most ≡ false = grind (arith, nat_tests) in
      ap (λ (b : Bool). if b then v else least_from more (v + 1) most values) test
      ∙ least_is more (v + 1) target most values (omega (arith, from, other)) (omega (arith, to)) few (λ w low high. many w (omega (arith, low)) high)
]

-- few lie above a value, and many above the one before it
pub rank_is : (target most : ℕ) (values : List ℕ) → target ≤ 16383 → count_above target values ≤ most → ((w : ℕ) → w < target → most < count_above w values) → rank_of most values ≡ target
unfolding rank_of
rank_is target most values to few many = least_is 16383 0 target most values (omega arith) (omega (arith, to)) few (λ w low high. many w high)

-- ---- the sums from the top

-- nothing lies above the last
pub top_of : (h : HistogramState) (values : List ℕ) (at : ℕ) → IsHistogramOf h values → at ≡ 16383 → 0 ≡ capped (count_above at values)
top_of h values at is same = let none = subst (λ (v : ℕ). count_above v values ≡ 0) (sym same) is.within in omega (arith, none)

-- one value lower
pub sum_lower : (h : HistogramState) (values : List ℕ) (at below above after : ℕ) → IsHistogramOf h values → at ≡ below + 1 → at < 16384
    → above ≡ capped (count_above at values) → after ≡ capped (above + slice_index h.counts at) → after ≡ capped (count_above below values)
sum_lower h values at below above after is next low was now =
    let here = is.counts at low in
    let whole : count_above below values ≡ count_above at values + count_at at values = subst (λ (v : ℕ). count_above below values ≡ count_above v values + count_at v values) (sym next) (above_next below values) in
    now ∙ omega (arith, was, here, whole)

-- a sum with the count that was read at a value
pub count_read : (h inside : HistogramState) (at read above after : ℕ) → inside ≡ h → length inside.counts ≡ 16384 → at < 16384 → read ≡ get_or inside.counts at read → after ≡ capped (above + read)
    → after ≡ capped (above + slice_index h.counts at)
count_read h inside at read above after view room low is sum =
    let value : read ≡ slice_index h.counts at = get_or_read inside.counts at read (omega (arith, room, low)) is 0 ∙ ap (λ (s : HistogramState). slice_index s.counts at) view in
    sum ∙ ap (λ (n : ℕ). capped (above + n)) value

-- a value below which many lie above, found from the top
pub rank_found : (target below most above : ℕ) (values : List ℕ) → target ≡ below + 1 → target ≤ 16383 → most + 1 < 2 ^ 64 → above ≤ most → above ≡ capped (count_above target values)
    → (after : ℕ) → most < after → after ≡ capped (count_above below values) → target ≡ rank_of most values
rank_found target below most above values next low fits few was after many now =
    sym (rank_is target most values low (omega (arith, fits, few, was)) (λ w lower. let more = fewer_above w below values (omega (arith, lower, next)) in omega (arith, many, now, more)))

pub rank_none : (at most above : ℕ) (values : List ℕ) → at ≡ 0 → most + 1 < 2 ^ 64 → above ≤ most → above ≡ capped (count_above at values) → 0 ≡ rank_of most values
rank_none at most above values is fits few was =
    let here : count_above 0 values ≤ most = subst (λ (v : ℕ). count_above v values ≤ most) is (omega (arith, fits, few, was)) in
    sym (rank_is 0 most values (omega arith) here (λ w lower. absurd (omega (arith, lower))))

-- ---- one more value

one_here : (at : ℕ) → ◌≡◌ {A = ℕ} (if at == at then 1 else 0) 1
one_here at = grind (arith, nat_tests)

none_there : (at v : ℕ) → v ≢ at → ◌≡◌ {A = ℕ} (if at == v then 1 else 0) 0
none_there at v other = grind (arith, nat_tests)

none_over : (at : ℕ) → at < 16384 → ◌≡◌ {A = ℕ} (if nat_lt 16383 at then 1 else 0) 0
none_over at low = grind (arith, nat_tests)

pub one_value_more : (h : HistogramState) (values : List ℕ) (at total : ℕ) (counts : List ℕ) → at < 16384 → counts ≡ raised h.counts at → total ≡ capped (h.total + 1) → IsHistogramOf h values
    → IsHistogramOf (record { counts = counts; total = total }) (at ∷ values)
one_value_more h values at total counts low now more is = record {
  total = more ∙ (let t = is.total in omega (arith, t));
  room = ap length now ∙ length-set h.counts at (capped (slice_index h.counts at + 1)) ∙ is.room;
  counts = λ v small. ap (λ (c : List ℕ). slice_index c v) now ∙ elim (cases_eq v at) [
    | inl same ↦
        let here : slice_index (raised h.counts at) at ≡ capped (slice_index h.counts at + 1) = get_or-set_same h.counts at (capped (slice_index h.counts at + 1)) 0 (let r = is.room in omega (arith, r, low)) in
        let before = is.counts at low in
        let one = one_here at in
        subst (λ (j : ℕ). slice_index (raised h.counts at) j ≡ capped ((if at == j then 1 else 0) + count_at j values)) (sym same) (here ∙ omega (arith, before, one))
    | inr other ↦
        let here : slice_index (raised h.counts at) v ≡ slice_index h.counts v = get_or-set_other h.counts at v (capped (slice_index h.counts at + 1)) 0 other in
        let before = is.counts v small in
        let none = none_there at v other in
        here ∙ before ∙ omega (arith, none)
  ];
  within = (let none = none_over at low in let rest = is.within in omega (arith, none, rest));
}

-- nothing yet
pub new_histogram : (counts : List ℕ) → counts ≡ replicate 16384 0 → IsHistogramOf (record { counts = counts; total = 0 }) []
new_histogram counts all = record {
  total = omega arith;
  room = ap length all ∙ length-replicate {A = ℕ} 16384 0;
  counts = λ v low. ap (λ (cs : List ℕ). slice_index cs v) all ∙ get_or-replicate 16384 v 0 0 low;
  within = refl;
}
