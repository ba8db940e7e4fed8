-- What the groups and the near group say of the places, and what a change leaves.
use Rattle.std.proofs.Common.{◌≡◌, ◌≢◌, ℕ, ◌+◌, ◌*◌, ◌/◌, ◌<◌, ◌≤◌, List, length, min, inl, inr, sym, ap, ◌∙◌, arith}
use Rattle.std.proofs.lemmas.Bool.{cases_eq, cases_lt}
use Rattle.std.proofs.lemmas.List.{length-set, get_or-set_same}
use Rattle.std.specs.Prelude.{slice_index, slice_set as set}
use Rattle.deadline_index.specs.Inside.Levels.{IsNoneIn, IsFirstIn, IsLeastIn}
use Rattle.deadline_index.specs.Places.{IsFirstBy, IsNoneFrom}
use Rattle.deadline_index.specs.Inside.Near.{IsNearAt, IsFirstGroup, IsNoGroup}
use Rattle.deadline_index.proofs.LevelLemmas.{elsewhere}
use Rattle.deadline_index.proofs.SearchLemmas.{at_start}

-- none of the near places between two groups is due by the tick
abbrev pub IsNoneNear : List ℕ → ℕ → ℕ → ℕ → ℕ → Type 0
IsNoneNear ticks near start end tick = (k : ℕ) → k < length ticks → start ≤ k / 8 → k / 8 < end → k / 8 ≡ near → tick < slice_index ticks k

-- where no group between two is due, no place of these groups is, but for the near ones
pub none_between : (ticks groups : List ℕ) (near near_least far_least start end tick : ℕ) → IsNearAt ticks groups near near_least far_least → IsNoneIn groups 0 start end tick → IsNoneNear ticks near start end tick
    → (k : ℕ) → k < length ticks → start ≤ k / 8 → k / 8 < end → tick < slice_index ticks k
none_between ticks groups near near_least far_least start end tick is none late k low above below =
    elim (cases_eq (k / 8) near) [
      | inl e ↦ late k low above below e
      | inr other ↦ let group = none (k / 8) above below in let least = is.far k low other in omega (arith, group, least, at_start groups (k / 8))
    ]

-- a group that is found is the first, where no near place is due
pub first_far : (ticks groups : List ℕ) (near near_least far_least start tick group : ℕ) → IsNearAt ticks groups near near_least far_least → IsFirstIn groups 0 start (length groups) tick group → IsNoneNear ticks near start group tick → IsFirstGroup ticks start tick group
first_far ticks groups near near_least far_least start tick group is f late =
    let below = f.below in
    let count = is.count in
    record {
      low = f.low;
      below = omega arith;
      first = none_between ticks groups near near_least far_least start group tick is f.first late;
    }

-- where none is found, no place is due, if no near place is
pub none_far : (ticks groups : List ℕ) (near near_least far_least start tick : ℕ) → IsNearAt ticks groups near near_least far_least → IsNoneIn groups 0 start (length groups) tick → IsNoneNear ticks near start (length groups) tick → IsNoGroup ticks start tick
none_far ticks groups near near_least far_least start tick is none late k low above =
    let count = is.count in
    none_between ticks groups near near_least far_least start (length groups) tick is none late k low above (omega arith)

-- a group no higher than the near one, where none before it is due
pub first_near : (ticks groups : List ℕ) (near near_least far_least start tick : ℕ) → IsNearAt ticks groups near near_least far_least → start ≤ near → IsNoneIn groups 0 start near tick → IsFirstGroup ticks start tick near
first_near ticks groups near near_least far_least start tick is above none =
    let count = is.count in
    let there = is.there in
    record {
      low = above;
      below = omega arith;
      first = none_between ticks groups near near_least far_least start near tick is none (λ k inside from below e. absurd (omega arith));
    }

-- no place is due by a tick below both bounds
pub none_by : (ticks groups : List ℕ) (near near_least far_least tick place : ℕ) → IsNearAt ticks groups near near_least far_least → tick < near_least → tick < far_least → place < length ticks → tick < slice_index ticks place
none_by ticks groups near near_least far_least tick place is soon late there =
    let count = is.count in
    none_between ticks groups near near_least far_least 0 (length groups) tick is (λ g low high. let least = is.all g high in omega (arith, least, at_start groups g))
    (λ k inside above below e. let least = is.here k inside e in omega (arith, least)) place there (omega arith) (omega arith)

-- ---- a place whose tick rises

-- of the near group
pub raised_near : (ticks groups : List ℕ) (near near_least far_least place tick least : ℕ) → IsNearAt ticks groups near near_least far_least → place < length ticks → place / 8 ≡ near
    → IsLeastIn (set ticks place tick) 0 (8 * (place / 8)) (min (8 * (place / 8) + 8) (length (set ticks place tick))) least → IsNearAt (set ticks place tick) groups near least far_least
raised_near ticks groups near near_least far_least place tick least is there same low =
    let size = length-set ticks place tick in
    record {
      count = is.count ∙ ap (λ n. n / 8 + 1) (sym size);
      there = is.there;
      here = λ k inside e. let least = low k (omega (arith, e, same)) (omega (arith, e, same, inside)) in omega (arith, least, at_start (set ticks place tick) k);
      far = λ k inside other. let old = is.far k (omega (arith, inside, size)) other in omega (arith, old, elsewhere ticks place k tick (λ e. other (ap (λ n. n / 8) (sym e) ∙ same)));
      all = is.all;
    }

-- of another group, which is the near one from now on
pub raised_far : (ticks groups : List ℕ) (near near_least far_least place tick least lowest never : ℕ) → IsNearAt ticks groups near near_least far_least → place < length ticks → place / 8 ≢ near
    → IsLeastIn (set ticks place tick) 0 (8 * (place / 8)) (min (8 * (place / 8) + 8) (length (set ticks place tick))) least
    → IsLeastIn (set (set groups near near_least) (place / 8) never) 0 0 (length (set (set groups near near_least) (place / 8) never)) lowest
    → IsNearAt (set ticks place tick) (set (set groups near near_least) (place / 8) never) (place / 8) least lowest
raised_far ticks groups near near_least far_least place tick least lowest never is there other low all =
    let size = length-set ticks place tick in
    let first = length-set groups near near_least in
    let second = length-set (set groups near near_least) (place / 8) never in
    let count = is.count in
    let near_there = is.there in
    record {
      count = omega (arith, size, first, second, count);
      there = omega (arith, first, second, count, there);
      here = λ k inside e. let least = low k (omega (arith, e)) (omega (arith, e, inside)) in omega (arith, least, at_start (set ticks place tick) k);
      far = λ k inside apart.
          let same = elsewhere ticks place k tick (λ e. apart (ap (λ n. n / 8) (sym e))) in
          let written = elsewhere (set groups near near_least) (place / 8) (k / 8) never (λ e. apart (sym e)) in
          elim (cases_eq (k / 8) near) [
            | inl e ↦
                let old = is.here k (omega (arith, inside, size)) e in
                let here : slice_index (set groups near near_least) (k / 8) ≡ near_least = ap (slice_index (set groups near near_least)) e ∙ get_or-set_same groups near near_least 0 near_there in
                omega (arith, old, same, written, here)
            | inr far ↦
                let old = is.far k (omega (arith, inside, size)) far in
                let here = elsewhere groups near (k / 8) near_least (λ e. far (sym e)) in
                omega (arith, old, same, written, here)
          ];
      all = λ g inside. let least = all g (omega arith) inside in omega (arith, least, at_start (set (set groups near near_least) (place / 8) never) g);
    }

-- ---- a search from place to place

-- none before is due, so what is found behind is the first
pub first_after : (ticks : List ℕ) (start next end tick place : ℕ) → start ≤ next → end ≤ length ticks → IsNoneIn ticks 0 start next tick → IsFirstIn ticks 0 next end tick place → IsFirstBy ticks start tick place
first_after ticks start next end tick place on room none f =
    let low = f.low in
    let below = f.below in
    record {
      from = omega arith;
      there = omega arith;
      due = let due = f.due in omega (arith, due, at_start ticks place);
      first = λ before above under. elim (cases_lt before next) [
        | inl near ↦ let late = none before above near in omega (arith, late, at_start ticks before)
        | inr far ↦ let late = f.first before far under in omega (arith, late, at_start ticks before)
      ];
    }

-- none before is due, none up to an end, and none behind it
pub none_after : (ticks : List ℕ) (start next end tick : ℕ) → IsNoneIn ticks 0 start next tick → IsNoneIn ticks 0 next end tick → ((place : ℕ) → end ≤ place → place < length ticks → tick < slice_index ticks place) → IsNoneFrom ticks start tick
none_after ticks start next end tick before here behind place above there = elim (cases_lt place next) [
  | inl near ↦ let late = before place above near in omega (arith, late, at_start ticks place)
  | inr far ↦
      elim (cases_lt place end) [
        | inl within ↦ let late = here place far within in omega (arith, late, at_start ticks place)
        | inr after ↦ behind place after there
      ]
]
