-- A run's links and clocks, in their lists.
use Rattle.std.proofs.Common.{◌≡◌, ◌∙◌, ℕ, zero, suc, ◌≤◌, List, [], ◌∷◌, ◌++◌, length, take, Bool, true, None, Some, refl, ap, subst, slice_get, take-append-drop, drop, Result, Ok, Err, arith}
use Rattle.std.specs.Prelude.{IfOk, OnErr}
use Rattle.outside_io.specs.Causes.{RoseWhere}
use Rattle.rist_gateway.specs.Onward.{OnwardState, IsOnward}

-- where a write failed, a refused put tells why
pub told_why : (first o : OnwardState) (b : Bool) → first.faults ≡ 0 → IsOnward first o → RoseWhere b 0 o.faults → b ≡ true → o.put_bad ≡ None → ⊥
told_why first o b none is rose failed told =
    let up = subst (λ (x : Bool). RoseWhere x 0 o.faults) failed rose in
    let same = is.refused told in
    omega (arith, up, same, none)

-- the front of a front
pub take_front : {A : Type 0} (n : ℕ) (xs ys all : List A) → xs ++ ys ≡ all → n ≤ length xs → take n xs ≡ take n all
take_front zero xs ys all is within = refl
take_front (suc n) [] ys all is within = absurd (omega (arith, within))
take_front (suc n) (x ∷ xs) ys all is within = ap (λ l. x ∷ l) (take_front n xs ys (xs ++ ys) refl (omega (arith, within))) ∙ ap (take (suc n)) is

-- what stands last
pub last_at : {A : Type 0} (n : ℕ) (xs all : List A) (x : A) → all ≡ xs ++ x ∷ [] → length xs ≡ n → slice_get all n ≡ Some x
last_at {A} n xs all x is long = ap (λ l. slice_get l n) is ∙ at n xs long
  where
    at : (n : ℕ) (xs : List A) → length xs ≡ n → slice_get (xs ++ x ∷ []) n ≡ Some x
    at zero [] long = refl
    at zero (y ∷ xs) long = absurd (omega (arith, long))
    at (suc n) [] long = absurd (omega (arith, long))
    at (suc n) (y ∷ xs) long = at n xs (omega (arith, long))

-- ---- a run that may be refused

pub ok_both : {A E : Type 0} (r : Result A E) (P Q R : A → Type 0) → IfOk r P → IfOk r Q → ((x : A) → P x → Q x → R x) → IfOk r R
ok_both (Ok x) P Q R p q both = both x p q
ok_both (Err e) P Q R p q both = tt

pub on_err : {A E : Type 0} (r : Result A E) (P Q : Type 0) → OnErr r P → (P → Q) → OnErr r Q
on_err (Ok x) P Q p f = tt
on_err (Err e) P Q p f = f p

-- both parts of a list, as they were
pub together : {A : Type 0} (n : ℕ) (all front back : List A) → front ≡ take n all → back ≡ drop n all → front ++ back ≡ all
together n all front back a b = ap (λ (l : List _). l ++ back) a ∙ (ap (λ (l : List _). take n all ++ l) b ∙ take-append-drop n all)
