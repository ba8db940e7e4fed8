-- What a search of the level above says of a level.
use Rattle.std.proofs.Common.{◌≡◌, ℕ, suc, ◌+◌, ◌/◌, ◌<◌, ◌≤◌, List, [], ◌∷◌, length, take, ◌||◌, true, false, refl, sym, ap, ◌∙◌, arith, Option, Some, None}
use Rattle.std.proofs.lemmas.Bool.Decides.{nat_tests}
use Rattle.std.proofs.lemmas.List.Folds.{list_any_at}
use Rattle.std.specs.List.{list_any}
use Rattle.std.specs.Option.{is_some}
use Rattle.std.proofs.lemmas.List.{length-take, get_or-take}
use Rattle.std.specs.Prelude.{nat_le, slice_index, IfSome, IfNone}
use Rattle.deadline_index.specs.Places.{IsFirstBy, IsNoneFrom}
use Rattle.deadline_index.specs.Inside.Levels.{IsCover, IsNoneIn, IsFirstIn}

-- where no group between two is due, no entry of these groups is
pub none_of_groups : (at len : ℕ) (xs : List ℕ) (low high tick : ℕ) → IsCover at len xs → IsNoneIn xs (at + len) low high tick → (k : ℕ) → k < len → low ≤ k / 8 → k / 8 < high → tick < slice_index xs (at + k)
none_of_groups at len xs low high tick c none k inside above below =
    let late = none (k / 8) above below in
    let least = c.least k inside in
    omega (arith, late, least)

-- ---- an answer over the whole list, as one over the places at its front

-- an entry of a level that stands at the front
pub at_start : (xs : List ℕ) (k : ℕ) → slice_index xs (0 + k) ≡ slice_index xs k
at_start xs k = ap (slice_index xs) (omega arith)

-- a place's tick
at_front : (places k : ℕ) (xs : List ℕ) → k < places → slice_index (take places xs) (0 + k) ≡ slice_index xs (0 + k)
at_front places k xs low = at_start (take places xs) k ∙ get_or-take places xs k 0 low ∙ sym (at_start xs k)

pub first_at_front : (places start tick place : ℕ) (xs : List ℕ) → places ≤ length xs → IsFirstIn xs 0 start places tick place → IsFirstIn (take places xs) 0 start (length (take places xs)) tick place
first_at_front places start tick place xs room f =
    let below = f.below in
    let due = f.due in
    record {
      low = f.low;
      below = omega (arith, length-take places xs);
      due = omega (arith, at_front places place xs below);
      first = λ before low high. let late = f.first before low high in omega (arith, late, at_front places before xs (omega arith));
    }

pub none_from_front : (places start tick : ℕ) (xs : List ℕ) → places ≤ length xs → IsNoneIn xs 0 start places tick → IsNoneIn (take places xs) 0 start (length (take places xs)) tick
none_from_front places start tick xs room none place low there =
    let below : place < places = omega (arith, there, length-take places xs) in
    let late = none place low below in
    omega (arith, late, at_front places place xs below)

-- ---- an answer that may be none

pub some_as : {P Q : ℕ → Type 0} → ((place : ℕ) → P place → Q place) → (found : Option ℕ) → IfSome found P → IfSome found Q
some_as f (Some place) p = f place p
some_as f None p = tt

pub none_as : {P Q : Type 0} → (P → Q) → (found : Option ℕ) → IfNone found P → IfNone found Q
none_as f (Some place) p = tt
none_as f None p = f p

-- ---- whether any is due

pub some_any : (tick place : ℕ) (xs : List ℕ) → IsFirstBy xs 0 tick place → list_any (λ due. nat_le due tick) xs ≡ true
some_any tick place xs f = let due = f.due in list_any_at (λ due. nat_le due tick) xs place 0 f.there (grind (arith, nat_tests))

pub none_any : (tick : ℕ) (xs : List ℕ) → IsNoneFrom xs 0 tick → list_any (λ due. nat_le due tick) xs ≡ false
none_any tick [] none = refl
none_any tick (x ∷ xs) none =
    let late = none 0 (omega arith) (omega arith) in
    let first : nat_le x tick ≡ false = grind (arith, nat_tests) in
    ap (λ b. b || list_any (λ due. nat_le due tick) xs) first ∙ none_any tick xs (λ place low there. none (suc place) (omega arith) (omega arith))

-- what a search for the first from the start on says of it
pub any_by : (tick : ℕ) (xs : List ℕ) (found : Option ℕ) → IfSome found (λ place. IsFirstBy xs 0 tick place) → IfNone found (IsNoneFrom xs 0 tick) → is_some found ≡ list_any (λ due. nat_le due tick) xs
any_by tick xs (Some place) some none = sym (some_any tick place xs some)
any_by tick xs None some none = sym (none_any tick xs none)
