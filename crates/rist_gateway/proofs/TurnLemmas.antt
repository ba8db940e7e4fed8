-- The passes of both ends of a gateway.
use Rattle.std.proofs.Common.{◌≡◌, ◌∙◌, ◌<◌, ◌≤◌, ◌+◌, ◌^◌, ℕ, zero, suc, List, [], ◌∷◌, ◌++◌, map, length, slice_get, take, drop, get_or, Some, refl, ap, sym, subst, arith}
use Rattle.std.proofs.lemmas.List.{length-map}
use Rattle.std.proofs.lemmas.Option.{get_or_from_slice_get}
use Rattle.rist_desk.specs.declared.beside.Side.{Side}
use Rattle.rist_desk.specs.declared.step.Step.{Step}
use Rattle.rist_desk.specs.declared.worker.ServingLimits.{ServingLimits}
use Rattle.rist_desk.specs.declared.worker.Worker.{Worker}
use Rattle.rist_desk.specs.Serving.{MayServe}
use Rattle.turn_lock.specs.declared.pass.Pass.{Pass}
use Rattle.turn_lock.specs.Passes.{IsFresh, entries_with, turns_left, turns_seen}
use Rattle.turn_desk.specs.declared.desk.TurnDesk.{TurnDesk}
use Rattle.turn_desk.specs.declared.shared.Shared.{Shared}
use Rattle.turn_desk.specs.Own.{AreFreshFor, AreOf, IsBeside, IsOf}
use Rattle.desk_run.specs.Workers.{trace_of}
use Rattle.rist_gateway.specs.declared.side_worker.SideWorker.{SideWorker}
use Rattle.rist_gateway.specs.Workers.{MayLook, sides_as}
use Rattle.rist_gateway.specs.Inside.Sides.{seated_sides, side_pass}

-- ---- places

there : {A : Type 0} (l : List A) (k : ℕ) (d : A) → k < length l → slice_get l k ≡ Some (get_or l k d)
there [] k d less = absurd (omega (arith, less))
there (x ∷ l) zero d less = refl
there (x ∷ l) (suc k) d less = there l k d (omega (arith, less))

mapped : {A B : Type 0} (f : A → B) (l : List A) (k : ℕ) (x : A) → slice_get l k ≡ Some x → slice_get (map f l) k ≡ Some (f x)
mapped f [] k x e = absurd (cc (e))
mapped f (y ∷ l) zero x e = let same : y ≡ x = cc (e) in ap (λ z. Some (f z)) same
mapped f (y ∷ l) (suc k) x e = mapped f l k x e

in_front : {A : Type 0} (n : ℕ) (l : List A) (k : ℕ) (x : A) → slice_get (take n l) k ≡ Some x → slice_get l k ≡ Some x
in_front zero l k x e = absurd (cc (e))
in_front (suc n) [] k x e = e
in_front (suc n) (y ∷ l) zero x e = e
in_front (suc n) (y ∷ l) (suc k) x e = in_front n l k x e

behind : {A : Type 0} (n : ℕ) (l : List A) (k : ℕ) → slice_get (drop n l) k ≡ slice_get l (n + k)
behind zero l k = let same : k ≡ 0 + k = omega arith in ap (slice_get l) same
behind (suc n) [] k = refl
behind (suc n) (y ∷ l) k = let same : suc (n + k) ≡ suc n + k = omega arith in behind n l k ∙ ap (slice_get (y ∷ l)) same

-- ---- before the run

-- a fresh pass is one of its link
pub fresh_of : {N K : Type 0} (desk : TurnDesk N K) (k : ℕ) (p : Pass Step (Shared N K)) → IsFresh desk.lock k p → IsOf desk k p
fresh_of desk k p f = record { own = f.own; number = f.number_is; steps = subst (AreOf k) (sym f.added_nothing) tt }

-- and one with which no step was made
pub fresh_beside : {N K : Type 0} (desk : TurnDesk N K) (k : ℕ) (p : Pass Step (Shared N K)) → IsFresh desk.lock k p → IsBeside desk k p
fresh_beside desk k p f = record { own = f.own; number_is = f.number_is; none = f.added_nothing }

-- each worker may make all its turns with the pass of its place
pub workers_may : {N K L C : Type 0} (desk : TurnDesk N K) (limits : ServingLimits) (n : ℕ) (passes : List (Pass Step (Shared N K))) (ws : List (Worker L C (Pass Step (Shared N K))))
    → AreFreshFor desk passes → limits.turns ≤ 2 ^ 40 → map trace_of ws ≡ take n passes
    → (i : ℕ) (d : Worker L C (Pass Step (Shared N K))) → i < length ws → MayServe IsOf turns_left desk limits i (get_or ws i d)
workers_may desk limits n passes ws fresh few are i d less =
    let w = get_or ws i d in
    let at = in_front n passes i w.trace (subst (λ (l : List _). slice_get l i ≡ Some w.trace) are (mapped trace_of ws i w (there ws i d less))) in
    let f = fresh.each i w.trace at in
    record { own = fresh_of desk i w.trace f; left_is = omega (arith, f.left, few) }

seated_at : {D P : Type 0} (place : ℕ) (clocks : List D) (passes : List P) (k : ℕ) (d : SideWorker D P) → length passes ≡ length clocks → k < length (seated_sides place clocks passes)
    → slice_get passes k ≡ Some (get_or (seated_sides place clocks passes) k d).pass
seated_at place [] passes k d same less = absurd (omega (arith, less))
seated_at place (c ∷ clocks) [] k d same less = absurd (omega (arith, same))
seated_at place (c ∷ clocks) (p ∷ passes) zero d same less = refl
seated_at place (c ∷ clocks) (p ∷ passes) (suc k) d same less = seated_at (place + 1) clocks passes k d (omega (arith, same)) (omega (arith, less))

-- and each side worker with that of its own, behind those of the workers
pub sides_may : {N K D : Type 0} (looks : ℕ → ℕ → Side → Type 0) (desk : TurnDesk N K) (limits : ServingLimits) (n : ℕ) (passes : List (Pass Step (Shared N K))) (clocks : List D) → AreFreshFor desk passes → limits.turns ≤ 2 ^ 40
    → length (drop n passes) ≡ length clocks
    → (k : ℕ) (d : SideWorker D (Pass Step (Shared N K))) → k < length (seated_sides 0 clocks (drop n passes))
    → MayLook (sides_as IsBeside turns_left looks) desk limits (n + k) (get_or (seated_sides 0 clocks (drop n passes)) k d)
sides_may looks desk limits n passes clocks fresh few same k d less =
    let p = (get_or (seated_sides 0 clocks (drop n passes)) k d).pass in
    let f = fresh.each (n + k) p (sym (behind n passes k) ∙ seated_at 0 clocks (drop n passes) k d same less) in
    record { own = fresh_beside desk (n + k) p f; left_is = omega (arith, f.left, few) }

-- ---- after the run

-- a pass with which no step was made is one of any link's
beside_of : {N K : Type 0} (desk : TurnDesk N K) (k : ℕ) (p : Pass Step (Shared N K)) → IsBeside desk k p → IsOf desk k p
beside_of desk k p b = record { own = b.own; number = b.number_is; steps = subst (AreOf k) (sym b.none) tt }

of_both : {A : Type 0} (P : ℕ → A → Type 0) (n : ℕ) (xs ys : List A) → ((k : ℕ) (x : A) → slice_get xs k ≡ Some x → P (n + k) x) → ((k : ℕ) (y : A) → slice_get ys k ≡ Some y → P (n + length xs + k) y)
    → (k : ℕ) (x : A) → slice_get (xs ++ ys) k ≡ Some x → P (n + k) x
of_both P n [] ys first more k x e = subst (λ (m : ℕ). P m x) (omega arith) (more k x e)
of_both P n (z ∷ xs) ys first more zero x e = first zero x e
of_both P n (z ∷ xs) ys first more (suc k) x e =
    subst (λ (m : ℕ). P m x) (omega arith)
    (of_both P (n + 1) xs ys (λ j y f. subst (λ (m : ℕ). P m y) (omega arith) (first (suc j) y f)) (λ j y f. subst (λ (m : ℕ). P m y) (omega arith) (more j y f)) k x e)

unmapped : {A B : Type 0} (f : A → B) (l : List A) (k : ℕ) (y : B) → slice_get (map f l) k ≡ Some y → (x : A) × (slice_get l k ≡ Some x) × (y ≡ f x)
unmapped f [] k y e = absurd (cc (e))
unmapped f (x ∷ l) zero y e = let same : f x ≡ y = cc (e) in (x, refl, sym same)
unmapped f (x ∷ l) (suc k) y e = unmapped f l k y e

within : {A : Type 0} (l : List A) (k : ℕ) (x : A) → slice_get l k ≡ Some x → k < length l
within [] k x e = absurd (cc (e))
within (y ∷ l) zero x e = omega arith
within (y ∷ l) (suc k) x e = let w = within l k x e in omega (arith, w)

-- all passes are of the desk, in order, and no step was made with those of the side workers
pub passes_are : {N K L C D : Type 0} (desk : TurnDesk N K) (ws : List (Worker L C (Pass Step (Shared N K)))) (sides : List (SideWorker D (Pass Step (Shared N K))))
    → ((i : ℕ) (d : Worker L C (Pass Step (Shared N K))) → i < length ws → IsOf desk i (get_or ws i d).trace)
    → ((k : ℕ) (d : SideWorker D (Pass Step (Shared N K))) → k < length sides → IsBeside desk (length ws + k) (get_or sides k d).pass)
    → (k : ℕ) (p : Pass Step (Shared N K)) → slice_get (map trace_of ws ++ map side_pass sides) k ≡ Some p → IsOf desk k p
passes_are {N} {K} {L} {C} {D} desk ws sides own none k p e =
    subst (λ (m : ℕ). IsOf desk m p) (omega arith)
    (of_both (λ m q. IsOf desk m q) 0 (map trace_of ws) (map side_pass sides) first second k p e)
  where
    first : (j : ℕ) (q : Pass Step (Shared N K)) → slice_get (map trace_of ws) j ≡ Some q → IsOf desk (0 + j) q
    first j q f =
        let u = unmapped trace_of ws j q f in
        let at : get_or ws j u.0 ≡ u.0 = get_or_from_slice_get ws j u.0 u.0 u.1 in
        subst (λ (m : ℕ). IsOf desk m q) (omega arith)
        (subst (IsOf desk j) (sym u.2) (subst (λ (w : Worker L C (Pass Step (Shared N K))). IsOf desk j w.trace) at (own j u.0 (within ws j u.0 u.1))))

    second : (j : ℕ) (q : Pass Step (Shared N K)) → slice_get (map side_pass sides) j ≡ Some q → IsOf desk (0 + length (map trace_of ws) + j) q
    second j q f =
        let u = unmapped side_pass sides j q f in
        let at : get_or sides j u.0 ≡ u.0 = get_or_from_slice_get sides j u.0 u.0 u.1 in
        subst (λ (m : ℕ). IsOf desk m q) (omega (arith, length-map ws (trace_of {L = L} {C = C})))
        (subst (IsOf desk (length ws + j)) (sym u.2)
        (subst (λ (s : SideWorker D (Pass Step (Shared N K))). IsOf desk (length ws + j) s.pass) at (beside_of desk (length ws + j) _ (none j u.0 (within sides j u.0 u.1)))))

pub sides_none : {N K D : Type 0} (desk : TurnDesk N K) (n : ℕ) (sides : List (SideWorker D (Pass Step (Shared N K))))
    → ((k : ℕ) (d : SideWorker D (Pass Step (Shared N K))) → k < length sides → IsBeside desk (n + k) (get_or sides k d).pass)
    → (k : ℕ) (p : Pass Step (Shared N K)) → slice_get (map side_pass sides) k ≡ Some p → entries_with p ≡ []
sides_none {N} {K} {D} desk n sides none k p e =
    let u = unmapped side_pass sides k p e in
    let at : get_or sides k u.0 ≡ u.0 = get_or_from_slice_get sides k u.0 u.0 u.1 in
    ap entries_with u.2 ∙ subst (λ (s : SideWorker D (Pass Step (Shared N K))). entries_with s.pass ≡ []) at (none k u.0 (within sides k u.0 u.1)).none

-- a pass of the first ones stands at its place among all
pub first_place : {A : Type 0} (xs ys : List A) (k : ℕ) (x : A) → slice_get xs k ≡ Some x → slice_get (xs ++ ys) k ≡ Some x
first_place [] ys k x e = absurd (cc (e))
first_place (z ∷ xs) ys zero x e = e
first_place (z ∷ xs) ys (suc k) x e = first_place xs ys k x e

-- fresh passes added nothing
pub fresh_nothing : {N K : Type 0} (desk : TurnDesk N K) (n : ℕ) (passes : List (Pass Step (Shared N K))) → AreFreshFor desk passes
    → (k : ℕ) (p : Pass Step (Shared N K)) → slice_get (take n passes) k ≡ Some p → (entries_with p ≡ []) × (turns_seen p ≡ [])
fresh_nothing desk n passes fresh k p e = let f = fresh.each k p (in_front n passes k p e) in (f.added_nothing, f.seen)
