-- Levels, and a change of one entry.
use Rattle.std.proofs.Common.{◌≡◌, ◌≢◌, ℕ, zero, suc, ◌+◌, ◌-◌, ◌*◌, ◌/◌, ◌<◌, ◌≤◌, List, [], ◌∷◌, length, take, replicate, min, inl, inr, refl, sym, ap, ◌∙◌, subst, arith}
use Rattle.std.proofs.lemmas.List.{length-set, length-take, length-replicate, get_or-set_same, get_or-set_other, get_or-take, get_or-replicate, ext_get_or}
use Rattle.std.proofs.lemmas.Bool.{cases_eq}
use Rattle.std.specs.Prelude.{slice_index, slice_set as set}
use Rattle.deadline_index.specs.Inside.Levels.{group_count, IsCover, AreLevels, IsLeastIn}

-- all of a level lies in the list
pub inside : (n at len : ℕ) (xs : List ℕ) → AreLevels n at len xs → at + len ≤ length xs
unfolding AreLevels
inside zero at len xs a = a
inside (suc n) at len xs a = let deeper = inside n (at + len) (group_count len) xs a.1 in omega arith

-- the lowest of the levels, and those above it
pub parted : (n at len : ℕ) (xs : List ℕ) → 0 < n → AreLevels n at len xs → IsCover at len xs × AreLevels (n - 1) (at + len) (group_count len) xs
unfolding AreLevels
parted zero at len xs some a = absurd (omega arith)
parted (suc n) at len xs some a = (a.0, subst (λ m. AreLevels m (at + len) (group_count len) xs) (omega arith) a.1)

pub whole : (n at len : ℕ) (xs : List ℕ) → 0 < n → IsCover at len xs → AreLevels (n - 1) (at + len) (group_count len) xs → AreLevels n at len xs
unfolding AreLevels
whole zero at len xs some c a = absurd (omega arith)
whole (suc n) at len xs some c a = (c, subst (λ m. AreLevels m (at + len) (group_count len) xs) (omega arith) a)

pub top : (n at len : ℕ) (xs : List ℕ) → n ≡ 0 → at + len ≤ length xs → AreLevels n at len xs
unfolding AreLevels
top zero at len xs none a = a
top (suc n) at len xs none a = absurd (omega arith)

-- another entry is as it was
pub elsewhere : (xs : List ℕ) (i j v : ℕ) → i ≢ j → slice_index (set xs i v) j ≡ slice_index xs j
elsewhere xs i j v other = get_or-set_other xs i j v 0 (λ e. other (sym e))

-- a change before a level keeps it and those above it
pub kept : (n at len : ℕ) (xs : List ℕ) (i v : ℕ) → i < at → AreLevels n at len xs → AreLevels n at len (set xs i v)
unfolding AreLevels
kept zero at len xs i v low a = omega (arith, a, length-set xs i v)
kept (suc n) at len xs i v low a = (
  record {
    least = λ k inside.
        let old = a.0.least k inside in
        omega (arith, elsewhere xs i (at + len + k / 8) v (λ e. absurd (omega arith)), elsewhere xs i (at + k) v (λ e. absurd (omega arith)));
  },
  kept n (at + len) (group_count len) xs i v (omega arith) a.1,
)

-- an entry that is no less than that of its group leaves all as it stands
pub stands : (n at len : ℕ) (xs : List ℕ) (entry v : ℕ) → 0 < n → entry < len → AreLevels n at len xs → slice_index xs (at + len + entry / 8) ≤ v → AreLevels n at len (set xs (at + entry) v)
unfolding AreLevels
stands zero at len xs entry v some low a least = absurd (omega arith)
stands (suc n) at len xs entry v some low a least = (
  record {
    least = λ k there.
        let room = inside n (at + len) (group_count len) xs a.1 in
        let above : slice_index (set xs (at + entry) v) (at + len + k / 8) ≡ slice_index xs (at + len + k / 8) = elsewhere xs (at + entry) (at + len + k / 8) v (λ e. absurd (omega arith)) in
        elim (cases_eq k entry) [
          | inl same ↦
              let here : slice_index (set xs (at + entry) v) (at + k) ≡ v = ap (λ i. slice_index (set xs (at + entry) v) (at + i)) same ∙ get_or-set_same xs (at + entry) v 0 (omega arith) in
              let group : slice_index xs (at + len + k / 8) ≡ slice_index xs (at + len + entry / 8) = ap (λ i. slice_index xs (at + len + i / 8)) same in
              omega (arith, above, here, group)
          | inr other ↦
              let old = a.0.least k there in
              let here : slice_index (set xs (at + entry) v) (at + k) ≡ slice_index xs (at + k) = elsewhere xs (at + entry) (at + k) v (λ e. other (omega arith)) in
              omega (arith, above, here)
        ];
  },
  kept n (at + len) (group_count len) xs (at + entry) v (omega arith) a.1,
)

-- after a change of an entry a level stands whole where the entry above gets the least of the group
pub recovered : (at len entry end v least : ℕ) (xs ys : List ℕ) → entry < len → at + len + group_count len ≤ length xs → IsCover at len xs → end ≡ min (8 * (entry / 8) + 8) len → IsLeastIn (set xs (at + entry) v) at (8 * (entry / 8)) end least
    → ((i : ℕ) → i < at + len + group_count len → slice_index ys i ≡ slice_index (set (set xs (at + entry) v) (at + len + entry / 8) least) i) → IsCover at len ys
recovered at len entry end v least xs ys there room old bound low same =
    let zs : List ℕ = set xs (at + entry) v in
    record {
      least = λ k inside.
          let below : slice_index ys (at + k) ≡ slice_index zs (at + k) = same (at + k) (omega arith) ∙ elsewhere zs (at + len + entry / 8) (at + k) least (λ e. absurd (omega arith)) in
          elim (cases_eq (k / 8) (entry / 8)) [
            | inl e ↦
                let l = low k (omega (arith, e)) (omega (arith, e, bound, inside)) in
                let written : slice_index (set zs (at + len + entry / 8) least) (at + len + entry / 8) ≡ least = get_or-set_same zs (at + len + entry / 8) least 0 (omega (arith, length-set xs (at + entry) v)) in
                let here : slice_index ys (at + len + k / 8) ≡ least = ap (λ n. slice_index ys (at + len + n)) e ∙ same (at + len + entry / 8) (omega arith) ∙ written in
                omega (arith, here, below, l)
            | inr other ↦
                let was = old.least k inside in
                let above : slice_index ys (at + len + k / 8) ≡ slice_index zs (at + len + k / 8) = same (at + len + k / 8) (omega arith) ∙ elsewhere zs (at + len + entry / 8) (at + len + k / 8) least (λ e. other (omega arith)) in
                let high : slice_index zs (at + len + k / 8) ≡ slice_index xs (at + len + k / 8) = elsewhere xs (at + entry) (at + len + k / 8) v (λ e. absurd (omega arith)) in
                let deep : slice_index zs (at + k) ≡ slice_index xs (at + k) = elsewhere xs (at + entry) (at + k) v (λ e. other (ap (λ n. n / 8) (omega (arith, e)))) in
                omega (arith, above, below, was, high, deep)
          ];
    }

-- ---- the places at the front

take-set_below : (n place tick : ℕ) (ticks : List ℕ) → place < n → take n (set ticks place tick) ≡ set (take n ticks) place tick
take-set_below zero place tick ticks h = absurd (omega arith)
take-set_below (suc n) place tick [] h = refl
take-set_below (suc n) zero tick (x ∷ ticks) h = refl
take-set_below (suc n) (suc place) tick (x ∷ ticks) h = ap (λ xs. x ∷ xs) (take-set_below n place tick ticks (omega arith))

-- where the places are as after a change of one, the list is
pub front_set : (places place tick : ℕ) (xs ys : List ℕ) → place < places → places ≤ length xs → length ys ≡ length xs → ((i : ℕ) → i < 0 + places → slice_index ys i ≡ slice_index (set xs place tick) i) → take places ys ≡ set (take places xs) place tick
front_set places place tick xs ys low room long same =
    ext_get_or 0 (take places ys) (take places (set xs place tick)) (omega (arith, length-take places ys, length-take places (set xs place tick), length-set xs place tick))
    (λ i inside.
    let below : i < places = omega (arith, inside, length-take places ys) in
    get_or-take places ys i 0 below ∙ same i (omega arith) ∙ sym (get_or-take places (set xs place tick) i 0 below))
    ∙ take-set_below places place tick xs low

-- ---- no place falls due

never_cover : (at len total never : ℕ) → at + len + group_count len ≤ total → IsCover at len (replicate total never)
never_cover at len total never room =
    record { least = λ k inside. omega (arith, get_or-replicate total (at + len + k / 8) never 0 (omega arith), get_or-replicate total (at + k) never 0 (omega arith)) }

pub never_levels : (places total never : ℕ) → total ≡ places + (places / 6 + 8) → AreLevels 4 0 places (replicate total never)
never_levels places total never e =
    let first : ℕ = group_count places in
    let second : ℕ = group_count first in
    let third : ℕ = group_count second in
    let fourth : ℕ = group_count third in
    let xs : List ℕ = replicate total never in
    whole 4 0 places xs (omega arith) (never_cover 0 places total never (omega arith))
    (whole 3 (0 + places) first xs (omega arith) (never_cover (0 + places) first total never (omega arith))
    (whole 2 (0 + places + first) second xs (omega arith) (never_cover (0 + places + first) second total never (omega arith))
    (whole 1 (0 + places + first + second) third xs (omega arith) (never_cover (0 + places + first + second) third total never (omega arith))
    (top 0 (0 + places + first + second + third) fourth xs refl (omega (arith, length-replicate total never))))))

-- without the highest of the levels
fewer : (n at len : ℕ) (xs : List ℕ) → AreLevels (suc n) at len xs → AreLevels n at len xs
unfolding AreLevels
fewer zero at len xs a = let room : at + len + group_count len ≤ length xs = a.1 in omega arith
fewer (suc n) at len xs a = (a.0, fewer n (at + len) (group_count len) xs a.1)

-- as many levels as are wanted
pub some_levels : (n places : ℕ) (xs : List ℕ) → n ≤ 4 → AreLevels 4 0 places xs → AreLevels n 0 places xs
some_levels zero places xs few a = fewer 0 0 places xs (fewer 1 0 places xs (fewer 2 0 places xs (fewer 3 0 places xs a)))
some_levels (suc zero) places xs few a = fewer 1 0 places xs (fewer 2 0 places xs (fewer 3 0 places xs a))
some_levels (suc (suc zero)) places xs few a = fewer 2 0 places xs (fewer 3 0 places xs a)
some_levels (suc (suc (suc zero))) places xs few a = fewer 3 0 places xs a
some_levels (suc (suc (suc (suc zero)))) places xs few a = a
some_levels (suc (suc (suc (suc (suc n))))) places xs few a = absurd (omega arith)
