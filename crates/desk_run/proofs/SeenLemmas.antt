-- What was seen while steps were made, one after another.
use Rattle.std.proofs.Common.{◌≡◌, ◌<◌, ℕ, zero, suc, List, [], ◌∷◌, ◌++◌, reverse, slice_get, Option, None, Some, refl, ap, sym, ◌∙◌, subst, arith}
use Rattle.std.proofs.lemmas.List.{reverse-append}
use Rattle.rist_ends.specs.Outcome.{outcome_with}
use Rattle.rist_ends.specs.declared.outcome.Answer.{Answer}
use Rattle.rist_reporter.specs.declared.out.Outs.{Outs}
use Rattle.rist_desk.specs.declared.step.Step.{Step}
use Rattle.rist_desk.specs.Made.{end_told, step_after, steps_with}
use Rattle.rist_desk.specs.Desk.{Given}
use Rattle.rist_desk.specs.Sending.{Made, one}
use Rattle.rist_desk.specs.Work.{CameAfter, Gains, Holds, IsOlder, SeesAll, Work}
use Rattle.rist_desk.proofs.WorkLemmas.{older_both, older_same}
use Rattle.turn_lock.specs.declared.rule.Turn.{Turn}
use Rattle.turn_lock.specs.Turns.{Begins, entries}
use Rattle.turn_desk.specs.Stands.{with_end}
use Rattle.turn_desk.proofs.OwnLemmas.{entries_both}
use Rattle.turn_desk.proofs.SharedLemmas.{kept_more}

-- ---- what a pass has seen of the turns

-- what earlier turns added stands at the front of what all did
pub seen_first : {E : Type 0} (turns seen : List (Turn E)) → Begins turns seen → IsOlder (reverse (entries seen)) (reverse (entries turns))
seen_first {E} turns seen begins = record {
  later = reverse (entries begins.0);
  is = ap (λ (ts : List (Turn E)). reverse (entries ts)) begins.1
      ∙ (ap (λ (l : List E). reverse l) (entries_both begins.0 seen) ∙ reverse-append (entries begins.0) (entries seen));
}

one_behind : (e : Option Step) (steps : List Step) → IsOlder steps (steps_with e steps)
one_behind None steps = older_same steps
one_behind (Some s) steps = record { later = s ∷ []; is = refl }

same_list : {A : Type 0} (l m : List A) → Some l ≡ Some m → l ≡ m
same_list l m e = cc (e)

-- and of all and the end
pub seen_with_end : (turns seen : List (Turn Step)) (answer : Answer) (outs : Outs) → Begins turns seen → IsOlder (reverse (entries seen)) (reverse (with_end (entries turns) answer outs))
seen_with_end turns seen answer outs begins =
    let e : Option Step = step_after end_told (outcome_with answer outs) in
    let whole : reverse (with_end (entries turns) answer outs) ≡ steps_with e (reverse (entries turns)) = same_list _ _ (kept_more e (entries turns)) in
    subst (λ (l : List Step). IsOlder (reverse (entries seen)) l) (sym whole)
    (older_both (reverse (entries seen)) (reverse (entries turns)) (steps_with e (reverse (entries turns))) (seen_first turns seen begins) (one_behind e (reverse (entries turns))))

-- ---- what was made

module _ {K P M : Type 0} (work : Work K P M) where
  one_more : (m : M) → IsOlder (work.before m) (work.before m ++ work.kept m ∷ [])
  one_more m = record { later = work.kept m ∷ []; is = refl }

  -- what had been seen at first is seen at last
  still_seen : (was is : List K) (ms : List M) → CameAfter work was ms is → IsOlder was is
  still_seen was is [] c = c
  still_seen was is (m ∷ ms) c =
      older_both was (work.before m) is c.0 (older_both (work.before m) (work.before m ++ work.kept m ∷ []) is (one_more m) (still_seen (work.before m ++ work.kept m ∷ []) is ms c.1))

  -- and stands before each that is made then
  stood_before : (was is : List K) (ms : List M) (j : ℕ) (n : M) → CameAfter work was ms is → slice_get ms j ≡ Some n → IsOlder was (work.before n)
  stood_before was is [] j n c e = absurd (cc (e))
  stood_before was is (m ∷ ms) zero n c e = let same : m ≡ n = cc (e) in subst (λ (x : M). IsOlder was (work.before x)) same c.0
  stood_before was is (m ∷ ms) (suc j) n c e =
      let next = work.before m ++ work.kept m ∷ [] in
      older_both was next (work.before n) (older_both was (work.before m) next c.0 (one_more m)) (stood_before next is ms j n c.1 e)

  -- each stands behind those before it
  came_behind : (was is : List K) (ms : List M) (i : ℕ) (m : M) → CameAfter work was ms is → slice_get ms i ≡ Some m → IsOlder (work.before m ++ work.kept m ∷ []) is
  came_behind was is [] i m c e = absurd (cc (e))
  came_behind was is (x ∷ ms) zero m c e =
      let same : x ≡ m = cc (e) in
      subst (λ (y : M). IsOlder (work.before y ++ work.kept y ∷ []) is) same (still_seen (work.before x ++ work.kept x ∷ []) is ms c.1)
  came_behind was is (x ∷ ms) (suc i) m c e = came_behind (work.before x ++ work.kept x ∷ []) is ms i m c.1 e

  -- and before those that were made then
  came_first : (was is : List K) (ms : List M) (i j : ℕ) (m n : M) → CameAfter work was ms is → i < j → slice_get ms i ≡ Some m → slice_get ms j ≡ Some n → IsOlder (work.before m ++ work.kept m ∷ []) (work.before n)
  came_first was is [] i j m n c less e f = absurd (cc (e))
  came_first was is (x ∷ ms) i zero m n c less e f = absurd (omega (arith, less))
  came_first was is (x ∷ ms) zero (suc j) m n c less e f =
      let same : x ≡ m = cc (e) in
      subst (λ (y : M). IsOlder (work.before y ++ work.kept y ∷ []) (work.before n)) same (stood_before (work.before x ++ work.kept x ∷ []) is ms j n c.1 f)
  came_first was is (x ∷ ms) (suc i) (suc j) m n c less e f = came_first (work.before x ++ work.kept x ∷ []) is ms i j m n c.1 (omega (arith, less)) e f

  saw_all : (was is : Option (List K)) (seen : List K) (ms : List M) → was ≡ Some [] → is ≡ Some seen → SeesAll work was ms is → CameAfter work [] ms seen
  saw_all was is seen ms none some s =
      subst (λ (o : Option (List K)). SeesAll work (Some []) ms o) some (subst (λ (o : Option (List K)). SeesAll work o ms is) none s)

pub each_behind : (desk : Option Given) (was is : Holds Step) (ms : List Made) (seen whole : List Step) (i : ℕ) (m : Made) → Gains (one desk) was is ms → was.own.seen ≡ Some [] → is.own.seen ≡ Some seen → IsOlder seen whole
    → slice_get ms i ≡ Some m → IsOlder (m.before ++ m.step ∷ []) whole
each_behind desk was is ms seen whole i m g none some older at =
    older_both (m.before ++ m.step ∷ []) seen whole (came_behind (one desk) [] seen ms i m (saw_all (one desk) was.own.seen is.own.seen seen ms none some g.seen) at) older

pub each_before : (desk : Option Given) (was is : Holds Step) (ms : List Made) (seen : List Step) (i j : ℕ) (m n : Made) → Gains (one desk) was is ms → was.own.seen ≡ Some [] → is.own.seen ≡ Some seen
    → i < j → slice_get ms i ≡ Some m → slice_get ms j ≡ Some n → IsOlder (m.before ++ m.step ∷ []) n.before
each_before desk was is ms seen i j m n g none some less at then_ = came_first (one desk) [] seen ms i j m n (saw_all (one desk) was.own.seen is.own.seen seen ms none some g.seen) less at then_
