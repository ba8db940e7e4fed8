-- Workers that are set into seats, the last one first.
use Rattle.std.proofs.Common.{◌≡◌, ◌+◌, ◌++◌, ◌∷◌, ◌∙◌, List, [], length, map, reverse, take, refl, ap, sym, append_assoc, length-append}
use Rattle.std.specs.Prelude.{ℕ, Bool, true, false, Option, None, Some, is_some, Result, Ok, Err, IsOk, is_ok, if◌then◌else◌}
use Rattle.rist_desk.specs.declared.step.Step.{Step}
use Rattle.desk_run.specs.Setup.{no_steps}
use Rattle.std.proofs.lemmas.List.{map-append}
use Rattle.rist_desk.proofs.ListLemmas.{reverse_more}

-- one more was set into its seat
pub one_seated : {A W : Type 0} (f : W → A) (old new : List A) (w : W) (ws more : List W) (all : List A) → old ≡ new ++ f w ∷ [] → more ≡ ws ++ w ∷ []
    → old ++ map f (reverse ws) ≡ all → new ++ map f (reverse more) ≡ all
one_seated f old new w ws more all popped pushed was =
    ap (λ l. new ++ map f (reverse l)) pushed
    ∙ (ap (λ l. new ++ map f l) (reverse_more ws w)
    ∙ (sym (append_assoc new (f w ∷ []) (map f (reverse ws)))
    ∙ (ap (λ l. l ++ map f (reverse ws)) (sym popped) ∙ was)))

-- one more left its seat
pub one_unseated : {A W : Type 0} (f : W → A) (old left : List W) (w : W) (had has : List A) (all : List A) → old ≡ left ++ w ∷ [] → has ≡ had ++ f w ∷ []
    → map f old ++ reverse had ≡ all → map f left ++ reverse has ≡ all
one_unseated f old left w had has all popped pushed was =
    ap (λ l. map f left ++ reverse l) pushed
    ∙ (ap (λ l. map f left ++ l) (reverse_more had (f w))
    ∙ (sym (append_assoc (map f left) (f w ∷ []) (reverse had))
    ∙ (ap (λ l. l ++ reverse had) (sym (map-append f left (w ∷ []))) ∙ (ap (λ l. map f l ++ reverse had) (sym popped) ∙ was))))

-- what a push into a list with room gives
pub pushed : {T E X : Type 0} (r : Result T E) (more same new : List X) → IsOk r → new ≡ (if is_ok r then more else same) → new ≡ more
pushed (Ok x) more same new ok is = is
pushed (Err e) more same new ok is = absurd (cc (ok))

pub one_less : {X : Type 0} (old new : List X) (x : X) → old ≡ new ++ x ∷ [] → length old ≡ length new + 1
one_less old new x popped = ap length popped ∙ length-append new (x ∷ [])

-- a new trace of a kind tells just what one that keeps so many steps does
pub new_list : (told : Bool) (room : ℕ) (list : Option (List Step)) (limit : Option ℕ) → list ≡ (if told then Some [] else None) → limit ≡ (if told then Some room else None) → list ≡ no_steps (is_some limit)
new_list true room list limit is are = is ∙ sym (ap (λ (l : Option ℕ). no_steps (is_some l)) are)
new_list false room list limit is are = is ∙ sym (ap (λ (l : Option ℕ). no_steps (is_some l)) are)

-- a front that was lent out, and came back as another one
front_of : {A : Type 0} (ys rest : List A) → take (length ys) (ys ++ rest) ≡ ys
front_of [] rest = refl
front_of (y ∷ ys) rest = ap (λ l. y ∷ l) (front_of ys rest)

pub put_front : {A : Type 0} (n : ℕ) (xs rest : List A) → n ≡ length xs → take n (xs ++ rest) ≡ xs
put_front n xs rest count = rw count (front_of xs rest)
