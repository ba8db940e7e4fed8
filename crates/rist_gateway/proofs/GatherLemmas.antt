-- Workers that are put before other parts, and taken from there again.
use Rattle.std.proofs.Common.{◌≡◌, ◌∙◌, ℕ, zero, suc, ◌+◌, ◌<◌, ◌≤◌, List, [], ◌∷◌, ◌++◌, length, map, reverse, get_or, Option, refl, ap, sym, subst, arith}
use Rattle.std.proofs.lemmas.List.{append-nil, append_assoc, length-append, map-append, reverse-append}
use Rattle.rist_desk.proofs.ListLemmas.{reverse_more}
use Rattle.rist_desk.specs.declared.worker.ServingLimits.{ServingLimits}
use Rattle.rist_desk.specs.declared.worker.Worker.{Worker}
use Rattle.outside_net.specs.Links.{LinkTells}
use Rattle.rist_desk.specs.Serving.{MayServe}
use Rattle.rist_gateway.specs.declared.either_worker.EitherWorker.{EitherWorker}
use Rattle.rist_gateway.specs.declared.either_worker.EitherWorker.TheVariants as parts
use Rattle.rist_gateway.specs.declared.side_worker.SideWorker.{SideWorker}
use Rattle.rist_gateway.specs.Workers.{IsPlaced, LooksWith, MayBegin, MayLook, ServesPart, ServesWith, SharedTells}
use Rattle.rist_gateway.specs.Inside.Sides.{receiving_part, sending_part}

-- ---- lists that are moved, the last first

pub reverse_twice : {A : Type 0} (xs : List A) → reverse (reverse xs) ≡ xs
reverse_twice [] = refl
reverse_twice (x ∷ xs) = ap reverse (reverse-append (x ∷ []) xs) ∙ (reverse_more (reverse xs) x ∙ ap (λ l. x ∷ l) (reverse_twice xs))

pub map_reverse : {A B : Type 0} (f : A → B) (xs : List A) → map f (reverse xs) ≡ reverse (map f xs)
map_reverse f [] = refl
map_reverse f (x ∷ xs) =
    ap (map f) (reverse-append (x ∷ []) xs)
    ∙ (map-append f (reverse xs) (x ∷ []) ∙ (ap (λ l. l ++ f x ∷ []) (map_reverse f xs) ∙ sym (reverse-append (f x ∷ []) (map f xs))))

-- one more was moved
pub moved_one : {A B : Type 0} (f : A → B) (was left : List A) (x : A) (had has all : List B) → was ≡ left ++ x ∷ [] → has ≡ had ++ f x ∷ [] → had ++ map f (reverse was) ≡ all → has ++ map f (reverse left) ≡ all
moved_one f was left x had has all popped pushed before =
    ap (λ l. l ++ map f (reverse left)) pushed
    ∙ (append_assoc had (f x ∷ []) (map f (reverse left))
    ∙ (ap (λ l. had ++ map f l) (sym (reverse_more left x)) ∙ (ap (λ l. had ++ map f (reverse l)) (sym popped) ∙ before)))

-- all were moved, and then the order was turned
pub moved_all : {A B : Type 0} (f : A → B) (xs : List A) (had has : List B) → has ++ map f (reverse []) ≡ had ++ map f (reverse xs) → reverse has ≡ map f xs ++ reverse had
moved_all f xs had has moved =
    ap reverse (sym (append-nil has) ∙ moved)
    ∙ (reverse-append had (map f (reverse xs)) ∙ ap (λ l. l ++ reverse had) (sym (map_reverse f (reverse xs)) ∙ ap (map f) (reverse_twice xs)))

-- turned again
pub turned : {A B : Type 0} (f : A → B) (xs : List A) (rest all : List B) → all ≡ map f xs ++ rest → reverse all ≡ reverse rest ++ map f (reverse xs)
turned f xs rest all is = ap reverse is ∙ (reverse-append (map f xs) rest ∙ ap (λ l. reverse rest ++ l) (sym (map_reverse f xs)))

cons_same : {A : Type 0} (x y : A) (xs ys : List A) → x ∷ xs ≡ y ∷ ys → (xs ≡ ys) × (x ≡ y)
cons_same x y xs ys e = (cc (e), cc (e))

-- the last of two lists that are the same
pub last_same : {A : Type 0} (xs ys : List A) (x y : A) → xs ++ x ∷ [] ≡ ys ++ y ∷ [] → (xs ≡ ys) × (x ≡ y)
last_same xs ys x y e =
    let same = cons_same x y (reverse xs) (reverse ys) (sym (reverse_more xs x) ∙ (ap reverse e ∙ reverse_more ys y)) in
    (sym (reverse_twice xs) ∙ (ap reverse same.0 ∙ reverse_twice ys), same.1)

-- some workers are in their list again, and these are left in the parts
pub record Scattered {L C U D P : Type 0} (ws here : List (Worker L C U)) (rest parts_left : List (EitherWorker L C U D P)) : Type 0 where
  pub todo : List (Worker L C U)
  pub all : here ++ todo ≡ ws
  pub left : parts_left ≡ reverse rest ++ map receiving_part (reverse todo)

pub scattered_none : {L C U D P : Type 0} (ws : List (Worker L C U)) (rest all turned_all : List (EitherWorker L C U D P)) → all ≡ map receiving_part ws ++ rest → turned_all ≡ reverse all → Scattered ws [] rest turned_all
scattered_none ws rest all turned_all is t = record { todo = ws; all = refl; left = t ∙ turned receiving_part ws rest all is }

-- the last part is that of the next worker, who is taken
pub scattered_step : {L C U D P : Type 0} (ws here more : List (Worker L C U)) (rest old new : List (EitherWorker L C U D P)) → length here < length ws → Scattered ws here rest old
    → ((w : Worker L C U) (left : List (EitherWorker L C U D P)) → old ≡ left ++ receiving_part w ∷ [] → (more ≡ here ++ w ∷ []) × (new ≡ left)) → (length more ≡ length here + 1) × Scattered ws more rest new
scattered_step {L} {C} {U} {D} {P} ws here more rest old new less s takes = by_todo s.todo s.all s.left
  where
    by_todo : (todo : List (Worker L C U)) → here ++ todo ≡ ws → old ≡ reverse rest ++ map receiving_part (reverse todo) → (length more ≡ length here + 1) × Scattered ws more rest new
    by_todo [] all left = absurd (omega (arith, less, ap length (sym all ∙ append-nil here)))
    by_todo (w ∷ todo) all left =
        let cut : old ≡ (reverse rest ++ map receiving_part (reverse todo)) ++ receiving_part w ∷ [] =
        left ∙ (ap (λ l. reverse rest ++ map receiving_part l) (reverse-append (w ∷ []) todo)
        ∙ (ap (λ l. reverse rest ++ l) (map-append receiving_part (reverse todo) (w ∷ [])) ∙ sym (append_assoc (reverse rest) (map receiving_part (reverse todo)) (receiving_part w ∷ [])))) in
        let t = takes w (reverse rest ++ map receiving_part (reverse todo)) cut in
        (ap length t.0 ∙ length-append here (w ∷ []), record { todo = todo; all = ap (λ l. l ++ todo) t.0 ∙ (append_assoc here (w ∷ []) todo ∙ all); left = t.1 })

-- the last part of those that end so
pub last_part : {L C U D P : Type 0} (old new left : List (EitherWorker L C U D P)) (part : EitherWorker L C U D P) (w : Worker L C U) → old ≡ new ++ part ∷ [] → old ≡ left ++ receiving_part w ∷ [] → (new ≡ left) × (part ≡ receiving_part w)
last_part old new left part w popped is = last_same new left part (receiving_part w) (sym popped ∙ is)

pub no_part : {L C U D P : Type 0} (old left : List (EitherWorker L C U D P)) (w : Worker L C U) → old ≡ [] → old ≡ left ++ receiving_part w ∷ [] → ⊥
no_part old [] w none is = cc (none, is)
no_part old (p ∷ left) w none is = cc (none, is)

-- all are in their list again
pub scattered_all : {L C U D P : Type 0} (ws here : List (Worker L C U)) (rest parts_left : List (EitherWorker L C U D P)) → length ws ≤ length here → Scattered ws here rest parts_left → (here ≡ ws) × (parts_left ≡ reverse rest)
scattered_all {L} {C} {U} {D} {P} ws here rest parts_left many s = by_todo s.todo s.all s.left
  where
    by_todo : (todo : List (Worker L C U)) → here ++ todo ≡ ws → parts_left ≡ reverse rest ++ map receiving_part (reverse todo) → (here ≡ ws) × (parts_left ≡ reverse rest)
    by_todo [] all left = (sym (append-nil here) ∙ all, left ∙ append-nil (reverse rest))
    by_todo (w ∷ todo) all left = absurd (longer here todo w (subst (λ l. length l ≤ length here) (sym all) many))
      where
        longer : (xs ys : List (Worker L C U)) (v : Worker L C U) → length (xs ++ v ∷ ys) ≤ length xs → ⊥
        longer [] ys v few = omega (arith, few)
        longer (x ∷ xs) ys v few = longer xs ys v (omega (arith, few))

-- ---- parts in their places

here_below : (first more : ℕ) → first + suc more ≤ 16 → first + zero < 16
here_below first more few = omega (arith, few)

next_below : (first more : ℕ) → first + suc more ≤ 16 → first + 1 + more ≤ 16
next_below first more few = omega (arith, few)

pub placed_from : {L C U D P : Type 0} (first : ℕ) (ws : List (Worker L C U)) (sides : List (SideWorker D P)) → first + length ws ≤ 16
    → (i : ℕ) (d : EitherWorker L C U D P) → i < length (map receiving_part ws ++ map sending_part sides) → IsPlaced (get_or (map receiving_part ws ++ map sending_part sides) i d) (first + i)
placed_from first (w ∷ ws) sides few zero d less = here_below first (length ws) few
placed_from first (w ∷ ws) sides few (suc i) d less =
    subst (λ (n : ℕ). IsPlaced (get_or (map receiving_part ws ++ map sending_part sides) i d) n) (omega arith) (placed_from (first + 1) ws sides (next_below first (length ws) few) i d (omega (arith, less)))
placed_from first [] (side ∷ sides) few zero d less = tt
placed_from first [] (side ∷ sides) few (suc i) d less = placed_side first sides i d (omega (arith, less))
  where
    placed_side : {L C U D P : Type 0} (first : ℕ) (sides : List (SideWorker D P)) (i : ℕ) (d : EitherWorker L C U D P) → i < length (map (sending_part {L = L} {C = C} {U = U} {D = D} {P = P}) sides) → IsPlaced (get_or (map sending_part sides) i d) (first + suc i)
    placed_side first (side ∷ sides) zero d less = tt
    placed_side first (side ∷ sides) (suc i) d less =
        subst (λ (n : ℕ). IsPlaced (get_or (map sending_part sides) i d) n) (omega arith) (placed_side (first + 1) sides i d (omega (arith, less)))
    placed_side first [] i d less = absurd (omega (arith, less))
placed_from first [] [] few i d less = absurd (omega (arith, less))

-- workers and side workers may begin, as parts
pub may_from : {S L C U D P : Type 0} (tells : SharedTells S U P) (shared : S) (limits : ServingLimits) (first : ℕ) (ws : List (Worker L C U)) (sides : List (SideWorker D P))
    → ((i : ℕ) (d : Worker L C U) → i < length ws → MayServe tells.is_of tells.left shared limits (first + i) (get_or ws i d))
    → ((i : ℕ) (d : SideWorker D P) → i < length sides → MayLook tells.sides shared limits (first + length ws + i) (get_or sides i d))
    → (i : ℕ) (d : EitherWorker L C U D P) → i < length (map receiving_part ws ++ map sending_part sides)
    → MayBegin tells shared limits (first + i) (get_or (map receiving_part ws ++ map sending_part sides) i d)
may_from tells shared limits first (w ∷ ws) sides may look zero d less = may 0 w (omega arith)
may_from tells shared limits first (w ∷ ws) sides may look (suc i) d less =
    subst (λ (n : ℕ). MayBegin tells shared limits n (get_or (map receiving_part ws ++ map sending_part sides) i d)) (omega arith)
    (may_from tells shared limits (first + 1) ws sides
    (λ j e more. subst (λ (n : ℕ). MayServe tells.is_of tells.left shared limits n (get_or ws j e)) (omega arith) (may (suc j) e (omega (arith, more))))
    (λ j e more. subst (λ (n : ℕ). MayLook tells.sides shared limits n (get_or sides j e)) (omega arith) (look j e more)) i d (omega (arith, less)))
may_from tells shared limits first [] (side ∷ sides) may look zero d less = subst (λ (n : ℕ). MayLook tells.sides shared limits n side) (omega arith) (look 0 side (omega arith))
may_from tells shared limits first [] (side ∷ sides) may look (suc i) d less =
    subst (λ (n : ℕ). MayBegin tells shared limits n (get_or (map sending_part sides) i d)) (omega arith)
    (may_from tells shared limits (first + 1) [] sides (λ j e more. absurd (omega (arith, more)))
    (λ j e more. subst (λ (n : ℕ). MayLook tells.sides shared limits n (get_or sides j e)) (omega arith) (look (suc j) e (omega (arith, more)))) i d (omega (arith, less)))
may_from tells shared limits first [] [] may look i d less = absurd (omega (arith, less))

-- ---- what became of them

-- side workers were served, as parts
pub sides_served : {S L C U D P : Type 0} (tells : SharedTells S U P) (shared : S) (moments : C → Option (ℕ → ℕ)) (ticks : D → Option (ℕ → ℕ)) (links : LinkTells L) (limits : ServingLimits) (first : ℕ)
    (sides : List (SideWorker D P)) (new : List (EitherWorker L C U D P)) → length new ≡ length sides
    → ((i : ℕ) (d : EitherWorker L C U D P) → i < length sides → ServesPart tells shared moments ticks links limits (first + i) (get_or (map sending_part sides) i d) (get_or new i d))
    → (are : List (SideWorker D P)) × (new ≡ map sending_part are) × (length are ≡ length sides)
    × ((i : ℕ) (d : SideWorker D P) → i < length sides → LooksWith tells.sides shared ticks limits (first + i) (get_or sides i d) (get_or are i d))
sides_served tells shared moments ticks links limits first [] [] same all = ([], refl, refl, λ i d less. absurd (omega (arith, less)))
sides_served tells shared moments ticks links limits first [] (p ∷ new) same all = absurd (omega (arith, same))
sides_served tells shared moments ticks links limits first (side ∷ sides) [] same all = absurd (omega (arith, same))
sides_served tells shared moments ticks links limits first (side ∷ sides) (parts.Receiving w ∷ new) same all = absurd (all 0 (parts.Receiving w) (omega arith))
sides_served {S} {L} {C} {U} {D} {P} tells shared moments ticks links limits first (side ∷ sides) (parts.Sending t ∷ new) same all =
    let rest = sides_served tells shared moments ticks links limits (first + 1) sides new (omega (arith, same))
    (λ i d less. subst (λ (n : ℕ). ServesPart tells shared moments ticks links limits n (get_or (map sending_part sides) i d) (get_or new i d)) (omega arith) (all (suc i) d (omega (arith, less)))) in
    (t ∷ rest.0, ap (λ l. parts.Sending t ∷ l) rest.1, ap suc rest.2, each rest.0 rest.3)
  where
    each : (are : List (SideWorker D P)) → ((i : ℕ) (d : SideWorker D P) → i < length sides → LooksWith tells.sides shared ticks limits (first + 1 + i) (get_or sides i d) (get_or are i d))
        → (i : ℕ) (d : SideWorker D P) → i < length (side ∷ sides) → LooksWith tells.sides shared ticks limits (first + i) (get_or (side ∷ sides) i d) (get_or (t ∷ are) i d)
    each are more zero d less = all 0 (parts.Sending t) (omega arith)
    each are more (suc i) d less = subst (λ (n : ℕ). LooksWith tells.sides shared ticks limits n (get_or sides i d) (get_or are i d)) (omega arith) (more i d (omega (arith, less)))

-- what became of workers and of side workers
pub record Served {S L C U D P : Type 0} (tells : SharedTells S U P) (shared : S) (moments : C → Option (ℕ → ℕ)) (ticks : D → Option (ℕ → ℕ)) (links : LinkTells L) (limits : ServingLimits) (first : ℕ)
    (ws : List (Worker L C U)) (sides : List (SideWorker D P)) (new : List (EitherWorker L C U D P)) : Type 0 where
  pub workers : List (Worker L C U)
  pub are : List (SideWorker D P)
  pub new_is : new ≡ map receiving_part workers ++ map sending_part are
  pub count : length workers ≡ length ws
  pub side_count : length are ≡ length sides
  pub each : (i : ℕ) (d : Worker L C U) → i < length ws → ServesWith tells shared moments links limits (first + i) (get_or ws i d) (get_or workers i d)
  pub each_side : (i : ℕ) (d : SideWorker D P) → i < length sides → LooksWith tells.sides shared ticks limits (first + length ws + i) (get_or sides i d) (get_or are i d)

pub parts_served : {S L C U D P : Type 0} (tells : SharedTells S U P) (shared : S) (moments : C → Option (ℕ → ℕ)) (ticks : D → Option (ℕ → ℕ)) (links : LinkTells L) (limits : ServingLimits) (first : ℕ)
    (ws : List (Worker L C U)) (sides : List (SideWorker D P)) (new : List (EitherWorker L C U D P)) → length new ≡ length (map (receiving_part {L = L} {C = C} {U = U} {D = D} {P = P}) ws ++ map sending_part sides)
    → ((i : ℕ) (d : EitherWorker L C U D P) → i < length (map receiving_part ws ++ map sending_part sides)
    → ServesPart tells shared moments ticks links limits (first + i) (get_or (map receiving_part ws ++ map sending_part sides) i d) (get_or new i d))
    → Served tells shared moments ticks links limits first ws sides new
parts_served {S} {L} {C} {U} {D} {P} tells shared moments ticks links limits first [] sides new same all =
    let s = sides_served tells shared moments ticks links limits first sides new (same ∙ length_map sides) (λ i d less. all i d (subst (λ (n : ℕ). i < n) (sym (length_map sides)) less)) in
    record {
      workers = [];
      are = s.0;
      new_is = s.1;
      count = refl;
      side_count = s.2;
      each = λ i d less. absurd (omega (arith, less));
      each_side = λ i d less. subst (λ (n : ℕ). LooksWith tells.sides shared ticks limits n (get_or sides i d) (get_or s.0 i d)) (omega arith) (s.3 i d less);
    }
  where
    length_map : (xs : List (SideWorker D P)) → length (map (sending_part {L = L} {C = C} {U = U} {D = D} {P = P}) xs) ≡ length xs
    length_map [] = refl
    length_map (x ∷ xs) = ap suc (length_map xs)
parts_served tells shared moments ticks links limits first (w ∷ ws) sides [] same all = absurd (omega (arith, same))
parts_served tells shared moments ticks links limits first (w ∷ ws) sides (parts.Sending t ∷ new) same all = absurd (all 0 (parts.Sending t) (omega arith))
parts_served {S} {L} {C} {U} {D} {P} tells shared moments ticks links limits first (w ∷ ws) sides (parts.Receiving v ∷ new) same all =
    let rest = parts_served tells shared moments ticks links limits (first + 1) ws sides new (omega (arith, same))
    (λ i d less. subst (λ (n : ℕ). ServesPart tells shared moments ticks links limits n (get_or (map receiving_part ws ++ map sending_part sides) i d) (get_or new i d)) (omega arith) (all (suc i) d (omega (arith, less)))) in
    record {
      workers = v ∷ rest.workers;
      are = rest.are;
      new_is = ap (λ l. parts.Receiving v ∷ l) rest.new_is;
      count = ap suc rest.count;
      side_count = rest.side_count;
      each = each rest.workers rest.each;
      each_side = λ i d less. subst (λ (n : ℕ). LooksWith tells.sides shared ticks limits n (get_or sides i d) (get_or rest.are i d)) (omega arith) (rest.each_side i d less);
    }
  where
    each : (are : List (Worker L C U)) → ((i : ℕ) (d : Worker L C U) → i < length ws → ServesWith tells shared moments links limits (first + 1 + i) (get_or ws i d) (get_or are i d))
        → (i : ℕ) (d : Worker L C U) → i < length (w ∷ ws) → ServesWith tells shared moments links limits (first + i) (get_or (w ∷ ws) i d) (get_or (v ∷ are) i d)
    each are more zero d less = all 0 (parts.Receiving v) (omega arith)
    each are more (suc i) d less = subst (λ (n : ℕ). ServesWith tells shared moments links limits n (get_or ws i d) (get_or are i d)) (omega arith) (more i d (omega (arith, less)))

-- none stands in a list that has no length
pub none_of : {A : Type 0} (xs : List A) → length xs ≡ 0 → xs ≡ []
none_of [] none = refl
none_of (x ∷ xs) none = absurd (omega (arith, none))
