-- Links and clocks that are handed on, the last first, and given back.
use Rattle.std.proofs.Common.{◌≡◌, ◌∙◌, ℕ, zero, suc, ◌+◌, ◌<◌, Option, get_or, List, [], ◌∷◌, ◌++◌, length, map, reverse, take, drop, None, refl, ap, sym, arith}
use Rattle.std.proofs.lemmas.List.{append-nil, append_assoc, length-drop, length-map, length-reverse, length-take-le, reverse-append}
use Rattle.rist_desk.proofs.ListLemmas.{reverse_more}
use Rattle.rist_gateway.specs.declared.either_worker.EitherWorker.{EitherWorker}
use Rattle.rist_gateway.specs.declared.either_worker.EitherWorker.TheVariants as parts
use Rattle.rist_gateway.specs.declared.side_worker.SideWorker.{SideWorker}
use Rattle.rist_gateway.specs.Workers.{LookedAt, SidesTell, side_clock, side_workers}
use Rattle.rist_gateway.specs.Inside.Sides.{LookedWith, seated_sides, sending_part, sending_parts, without_pass}
use Rattle.rist_gateway.specs.Sides.{ServesSide}
use Rattle.rist_desk.specs.declared.beside.Side.{Side}
use Rattle.rist_desk.specs.declared.worker.ServingLimits.{ServingLimits}
use Rattle.rist_gateway.proofs.GatherLemmas.{last_same, reverse_twice}

-- ---- two parts of a list

pub front_is : {A : Type 0} (n : ℕ) (xs ys all : List A) → xs ++ ys ≡ all → length xs ≡ n → xs ≡ take n all
front_is zero [] ys all is long = refl
front_is zero (x ∷ xs) ys all is long = absurd (omega (arith, long))
front_is (suc n) [] ys all is long = absurd (omega (arith, long))
front_is (suc n) (x ∷ xs) ys all is long = ap (λ l. x ∷ l) (front_is n xs ys (xs ++ ys) refl (omega (arith, long))) ∙ ap (take (suc n)) is

pub back_is : {A : Type 0} (n : ℕ) (xs ys all : List A) → xs ++ ys ≡ all → length xs ≡ n → ys ≡ drop n all
back_is zero [] ys all is long = is
back_is zero (x ∷ xs) ys all is long = absurd (omega (arith, long))
back_is (suc n) [] ys all is long = absurd (omega (arith, long))
back_is (suc n) (x ∷ xs) ys all is long = back_is n xs ys (xs ++ ys) refl (omega (arith, long)) ∙ ap (drop (suc n)) is

-- one more of the last ones was moved
pub one_back : {A : Type 0} (was left moved has all : List A) (x : A) → was ≡ left ++ x ∷ [] → has ≡ moved ++ x ∷ [] → was ++ reverse moved ≡ all → left ++ reverse has ≡ all
one_back was left moved has all x popped pushed before =
    ap (λ l. left ++ reverse l) pushed
    ∙ (ap (λ l. left ++ l) (reverse_more moved x)
    ∙ (sym (append_assoc left (x ∷ []) (reverse moved)) ∙ (ap (λ l. l ++ reverse moved) (sym popped) ∙ before)))

pub one_before : {A : Type 0} (was left rest all : List A) (x : A) → was ≡ left ++ x ∷ [] → was ++ rest ≡ all → left ++ x ∷ rest ≡ all
one_before was left rest all x popped before = sym (append_assoc left (x ∷ []) rest) ∙ (ap (λ l. l ++ rest) (sym popped) ∙ before)

-- ---- side workers

reverse_first : {A : Type 0} (x : A) (xs : List A) → reverse (x ∷ xs) ≡ reverse xs ++ x ∷ []
reverse_first x xs = reverse-append (x ∷ []) xs

-- one more, before those that are there
pub side_more : {L C U D P : Type 0} (place : ℕ) (c : D) (p : P) (cs : List D) (ps : List P) (old new : List (EitherWorker L C U D P)) → old ≡ sending_parts (seated_sides (place + 1) cs ps)
    → new ≡ old ++ parts.Sending (record { link = place; clock = c; pass = p; end = None }) ∷ [] → new ≡ sending_parts (seated_sides place (c ∷ cs) (p ∷ ps))
side_more {L} {C} {U} {D} {P} place c p cs ps old new is pushed =
    let s : SideWorker D P = record { link = place; clock = c; pass = p; end = None } in
    pushed
    ∙ (ap (λ l. l ++ parts.Sending s ∷ []) is
    ∙ sym (reverse_first (sending_part {L = L} {C = C} {U = U} {D = D} {P = P} s) (map sending_part (seated_sides (place + 1) cs ps))))

-- something of some side workers is in its list again, and these are left
pub record Returned {L C U D P A : Type 0} (f : SideWorker D P → A) (parts_left : List (EitherWorker L C U D P)) (had now : List A) (sides : List (SideWorker D P)) : Type 0 where
  pub todo : List (SideWorker D P)
  pub left : parts_left ≡ sending_parts todo
  pub all : now ++ map f todo ≡ had ++ map f sides

pub returned_none : {L C U D P A : Type 0} (f : SideWorker D P → A) (all : List (EitherWorker L C U D P)) (had : List A) (sides : List (SideWorker D P)) → all ≡ sending_parts sides → Returned f all had had sides
returned_none f all had sides is = record { todo = sides; left = is; all = refl }

next_side : {L C U D P : Type 0} (todo : List (SideWorker D P)) (old new : List (EitherWorker L C U D P)) (part : EitherWorker L C U D P) → old ≡ sending_parts todo → old ≡ new ++ part ∷ []
    → (s : SideWorker D P) × (more : List (SideWorker D P)) × (todo ≡ s ∷ more) × (part ≡ parts.Sending s) × (new ≡ sending_parts more)
next_side {L} {C} {U} {D} {P} [] old new part is popped = absurd (some new part (sym is ∙ popped))
  where
    some : (xs : List (EitherWorker L C U D P)) (p : EitherWorker L C U D P) → [] ≡ xs ++ p ∷ [] → ⊥
    some [] p e = cc (e)
    some (x ∷ xs) p e = cc (e)
next_side {L} {C} {U} {D} {P} (s ∷ more) old new part is popped =
    let same = last_same new (sending_parts more) part (parts.Sending s) (sym popped ∙ (is ∙ reverse_first (sending_part {L = L} {C = C} {U = U} {D = D} {P = P} s) (map sending_part more))) in
    (s, more, refl, same.1, same.0)

-- one more is back
pub returned_step : {L C U D P A : Type 0} (f : SideWorker D P → A) (old new : List (EitherWorker L C U D P)) (part : EitherWorker L C U D P) (had now more : List A) (sides : List (SideWorker D P)) → old ≡ new ++ part ∷ []
    → ((s : SideWorker D P) → part ≡ sending_part s → more ≡ now ++ f s ∷ []) → Returned f old had now sides → Returned f new had more sides
returned_step {L} {C} {U} {D} {P} f old new part had now more sides popped gives r =
    let n = next_side r.todo old new part r.left popped in
    record {
      todo = n.1;
      left = n.4;
      all = ap (λ l. l ++ map f n.1) (gives n.0 n.3)
          ∙ (append_assoc now (f n.0 ∷ []) (map f n.1) ∙ (ap (λ l. now ++ map f l) (sym n.2) ∙ r.all));
    }

pub returned_all : {L C U D P A : Type 0} (f : SideWorker D P → A) (parts_left : List (EitherWorker L C U D P)) (had now : List A) (sides : List (SideWorker D P)) → parts_left ≡ [] → Returned f parts_left had now sides → now ≡ had ++ map f sides
returned_all {L} {C} {U} {D} {P} f parts_left had now sides none r = by_todo r.todo r.left r.all
  where
    some : (xs : List (EitherWorker L C U D P)) (p : EitherWorker L C U D P) → [] ≡ xs ++ p ∷ [] → ⊥
    some [] p e = cc (e)
    some (x ∷ xs) p e = cc (e)

    by_todo : (todo : List (SideWorker D P)) → parts_left ≡ sending_parts todo → now ++ map f todo ≡ had ++ map f sides → now ≡ had ++ map f sides
    by_todo [] left all = sym (append-nil now) ∙ all
    by_todo (s ∷ todo) left all = absurd (some (sending_parts todo) (parts.Sending s) (sym none ∙ (left ∙ reverse_first (sending_part {L = L} {C = C} {U = U} {D = D} {P = P} s) (map sending_part todo))))

-- ---- their counts

pub side_count : {D P : Type 0} (place : ℕ) (clocks : List D) (passes : List P) → length passes ≡ length clocks → length (seated_sides place clocks passes) ≡ length clocks
side_count place [] passes same = refl
side_count place (c ∷ clocks) [] same = absurd (omega (arith, same))
side_count place (c ∷ clocks) (p ∷ passes) same = ap suc (side_count (place + 1) clocks passes (omega (arith, same)))

pub parts_count : (L C U : Type 0) {D P : Type 0} (sides : List (SideWorker D P)) → length (sending_parts {L = L} {C = C} {U = U} sides) ≡ length sides
parts_count L C U {D} {P} sides = length-reverse (map (sending_part {L = L} {C = C} {U = U} {D = D} {P = P}) sides) ∙ length-map sides (sending_part {L = L} {C = C} {U = U} {D = D} {P = P})

-- parts are of one list of side workers alone
pub sides_same : {L C U D P : Type 0} (xs ys : List (SideWorker D P)) → sending_parts {L = L} {C = C} {U = U} xs ≡ sending_parts ys → xs ≡ ys
sides_same {L} {C} {U} {D} {P} xs ys e = inner xs ys (sym (reverse_twice (map sending_part xs)) ∙ (ap (λ l. reverse l) e ∙ reverse_twice (map sending_part ys)))
  where
    same_of : (x y : SideWorker D P) (p q : List (EitherWorker L C U D P)) → parts.Sending x ∷ p ≡ parts.Sending y ∷ q → (x ≡ y) × (p ≡ q)
    same_of x y p q e = (cc (e), cc (e))

    no_first : (x : SideWorker D P) (p : List (EitherWorker L C U D P)) → [] ≡ parts.Sending x ∷ p → ⊥
    no_first x p e = cc (e)

    inner : (xs ys : List (SideWorker D P)) → map (sending_part {L = L} {C = C} {U = U}) xs ≡ map sending_part ys → xs ≡ ys
    inner [] [] e = refl
    inner [] (y ∷ ys) e = absurd (no_first y (map sending_part ys) e)
    inner (x ∷ xs) [] e = absurd (no_first x (map sending_part xs) (sym e))
    inner (x ∷ xs) (y ∷ ys) e =
        let s = same_of x y (map sending_part xs) (map sending_part ys) e in
        ap (λ v. v ∷ xs) s.0 ∙ ap (λ l. y ∷ l) (inner xs ys s.1)

-- a list that is cut after so many
pub cut_counts : {A : Type 0} (first more : ℕ) (all front back : List A) → length all ≡ first + more → front ≡ take first all → back ≡ drop first all → (length front ≡ first) × (length back ≡ more)
cut_counts first more all front back long is rest =
    (ap length is ∙ length-take-le first all (omega (arith, long)), ap length rest ∙ (length-drop first all ∙ omega (arith, long)))

-- ---- as far as they tell

-- side workers that were seated tell that they are new
pub seated_told : {D P : Type 0} (place : ℕ) (clocks : List D) (passes : List P) → length passes ≡ length clocks → map without_pass (seated_sides place clocks passes) ≡ side_workers place clocks
seated_told place [] passes same = refl
seated_told place (c ∷ clocks) [] same = absurd (omega (arith, same))
seated_told place (c ∷ clocks) (p ∷ passes) same = ap (λ l. (record { link = place; clock = c; pass = tt; end = None }) ∷ l) (seated_told (place + 1) clocks passes (omega (arith, same)))

pub clocks_told : {D P : Type 0} (sides : List (SideWorker D P)) → map side_clock (map without_pass sides) ≡ map side_clock sides
clocks_told [] = refl
clocks_told (s ∷ sides) = ap (λ l. s.clock ∷ l) (clocks_told sides)

side_told : {D P : Type 0} (looks : ℕ → ℕ → Side → Type 0) (moments : D → Option (ℕ → ℕ)) (limits : ServingLimits) (old new : SideWorker D P) → ServesSide looks moments limits old new → ServesSide looks moments limits (without_pass old) (without_pass new)
side_told looks moments limits old new s = record { end = s.end; ended = s.ended; link = s.link; served = s.served }

-- each looked at its link, as far as they tell
pub looked_told : {S D P : Type 0} (tells : SidesTell S P) (shared : S) (moments : D → Option (ℕ → ℕ)) (limits : ServingLimits) (first : ℕ) (were are : List (SideWorker D P)) → LookedWith tells shared moments limits first were are
    → LookedAt tells.looks moments limits (map without_pass were) (map without_pass are)
looked_told {S} {D} {P} tells shared moments limits first were are l = record {
  count = length-map are without_pass ∙ (l.count ∙ sym (length-map were without_pass));
  looked = λ place d less.
      let among : place < length were = omega (arith, less, length-map were (without_pass {D = D} {P = P})) in
      at were are place d among (omega (arith, among, l.count)) (λ e. (l.looked place e among).looks);
}
  where
    at : (ws now : List (SideWorker D P)) (place : ℕ) (d : SideWorker D (Unit {0})) → place < length ws → place < length now
        → ((e : SideWorker D P) → ServesSide tells.looks moments limits (get_or ws place e) (get_or now place e))
        → ServesSide tells.looks moments limits (get_or (map without_pass ws) place d) (get_or (map without_pass now) place d)
    at [] now place d less more all = absurd (omega (arith, less))
    at (w ∷ ws) [] place d less more all = absurd (omega (arith, more))
    at (w ∷ ws) (a ∷ now) zero d less more all = side_told tells.looks moments limits w a (all w)
    at (w ∷ ws) (a ∷ now) (suc place) d less more all = at ws now place d (omega (arith, less)) (omega (arith, more)) all
