-- A request that is being made, as an array of words.
use Rattle.std.proofs.Common.{◌≡◌, ℕ, zero, suc, ◌+◌, ◌-◌, ◌≤◌, true, List, [], ◌∷◌, ◌++◌, length, take, get_or, set, Some, None, refl, sym, ap, subst, ◌∙◌, arith, length-append, append_assoc}
use Rattle.std.specs.Prelude.{nat_lt}
use Rattle.std.proofs.lemmas.List.{take_more, take_more_set, length-take-le}
use Rattle.std.proofs.lemmas.Bool.{lt-ltb, le-ltb}
use Rattle.request_rules.specs.declared.policy.NackKind.{NackKind}
use Rattle.request_rules.specs.declared.word.AskWord.{AskWord}
use Rattle.request_rules.specs.Building.{word_of, extended, last_with, last_takes, with_last, with_number, takes, IsAbove, IsAboveLast}

-- ---- the last of some words

pub with_number-last : (kind : NackKind) (room most : ℕ) (front : List AskWord) (w : AskWord) (x : ℕ) → most ≡ length front + suc room
    → with_number kind most (front ++ w ∷ []) x ≡ front ++ last_with room w x (extended kind w x)
with_number-last kind room zero front w x e = absurd (omega (arith, e))
with_number-last kind room (suc m) [] w x e = let k : m ≡ room = omega (arith, e) in ap (λ r. last_with r w x (extended kind w x)) k
with_number-last kind room (suc m) (f ∷ []) w x e = ap (λ ws. f ∷ ws) (with_number-last kind room m [] w x (omega (arith, e)))
with_number-last kind room (suc m) (f ∷ g ∷ front) w x e = ap (λ ws. f ∷ ws) (with_number-last kind room m (g ∷ front) w x (omega (arith, e)))

pub takes-last : (kind : NackKind) (room most : ℕ) (front : List AskWord) (w : AskWord) (x : ℕ) → most ≡ length front + suc room
    → takes kind most (front ++ w ∷ []) x ≡ last_takes room (extended kind w x)
takes-last kind room zero front w x e = absurd (omega (arith, e))
takes-last kind room (suc m) [] w x e = let k : m ≡ room = omega (arith, e) in ap (λ r. last_takes r (extended kind w x)) k
takes-last kind room (suc m) (f ∷ []) w x e = takes-last kind room m [] w x (omega (arith, e))
takes-last kind room (suc m) (f ∷ g ∷ front) w x e = takes-last kind room m (g ∷ front) w x (omega (arith, e))

pub above-last : (kind : NackKind) (front : List AskWord) (w : AskWord) (x : ℕ) → IsAboveLast kind (front ++ w ∷ []) x → IsAbove kind w x
above-last kind [] w x h = h
above-last kind (f ∷ []) w x h = h
above-last kind (f ∷ g ∷ front) w x h = above-last kind (g ∷ front) w x h

-- ---- the array

-- the words so far end in the one at the last place
split : (words : List AskWord) (count : ℕ) (d : AskWord) → 1 ≤ count → count ≤ length words → take count words ≡ take (count - 1) words ++ get_or words (count - 1) d ∷ []
split words count d some most = let k : count ≡ count - 1 + 1 = omega arith in ap (λ n. take n words) k ∙ take_more words (count - 1) d (omega arith)

pub above_at : (kind : NackKind) (words : List AskWord) (count : ℕ) (d : AskWord) (x : ℕ) → 1 ≤ count → count ≤ length words → IsAboveLast kind (take count words) x → IsAbove kind (get_or words (count - 1) d) x
above_at kind words count d x some most h = above-last kind (take (count - 1) words) (get_or words (count - 1) d) x (subst (λ ws. IsAboveLast kind ws x) (split words count d some most) h)

room_at : (words : List AskWord) (count : ℕ) → 1 ≤ count → count ≤ 64 → 64 ≤ length words → 64 ≡ length (take (count - 1) words) + suc (64 - count)
room_at words count some most size = omega (arith, length-take-le (count - 1) words (omega arith))

pub add_longer : (kind : NackKind) (words : List AskWord) (count : ℕ) (d w : AskWord) (x : ℕ) → 1 ≤ count → count ≤ 64 → 64 ≤ length words → Some w ≡ extended kind (get_or words (count - 1) d) x
    → take count (set words (count - 1) w) ≡ with_number kind 64 (take count words) x
add_longer kind words count d w x some most size e =
    let k : count ≡ count - 1 + 1 = omega arith in
    let v = get_or words (count - 1) d in
    ap (λ n. take n (set words (count - 1) w)) k ∙ take_more_set words (count - 1) w (omega arith)
    ∙ ap (λ o. take (count - 1) words ++ last_with (64 - count) v x o) e
    ∙ sym (with_number-last kind (64 - count) 64 (take (count - 1) words) v x (room_at words count some most size))
    ∙ ap (λ ws. with_number kind 64 ws x) (sym (split words count d some (omega arith)))

pub takes_longer : (kind : NackKind) (words : List AskWord) (count : ℕ) (d w : AskWord) (x : ℕ) → 1 ≤ count → count ≤ 64 → 64 ≤ length words → Some w ≡ extended kind (get_or words (count - 1) d) x
    → true ≡ takes kind 64 (take count words) x
takes_longer kind words count d w x some most size e =
    let v = get_or words (count - 1) d in
    ap (λ o. last_takes (64 - count) o) e
    ∙ sym (takes-last kind (64 - count) 64 (take (count - 1) words) v x (room_at words count some most size))
    ∙ ap (λ ws. takes kind 64 ws x) (sym (split words count d some (omega arith)))

begun : (room : ℕ) (front : List AskWord) (w : AskWord) (x : ℕ) → 64 ≡ length front + suc room → with_last (front ++ w ∷ []) x ≡ front ++ last_with room w x None
begun zero front w x e = rw (le-ltb (length (front ++ w ∷ [])) 64 (omega (arith, e, length-append front (w ∷ [])))) refl
begun (suc room) front w x e = rw (lt-ltb (length (front ++ w ∷ [])) 64 (omega (arith, e, length-append front (w ∷ [])))) (append_assoc front (w ∷ []) (word_of x ∷ []))

takes_begun : (room : ℕ) (front : List AskWord) (w : AskWord) → 64 ≡ length front + suc room → nat_lt (length (front ++ w ∷ [])) 64 ≡ last_takes room None
takes_begun zero front w e = le-ltb (length (front ++ w ∷ [])) 64 (omega (arith, e, length-append front (w ∷ [])))
takes_begun (suc room) front w e = lt-ltb (length (front ++ w ∷ [])) 64 (omega (arith, e, length-append front (w ∷ [])))

pub add_new : (kind : NackKind) (words : List AskWord) (count : ℕ) (d : AskWord) (x : ℕ) → 1 ≤ count → count ≤ 64 → 64 ≤ length words → None ≡ extended kind (get_or words (count - 1) d) x
    → with_last (take count words) x ≡ with_number kind 64 (take count words) x
add_new kind words count d x some most size e =
    let v = get_or words (count - 1) d in
    ap (λ ws. with_last ws x) (split words count d some (omega arith))
    ∙ begun (64 - count) (take (count - 1) words) v x (room_at words count some most size)
    ∙ ap (λ o. take (count - 1) words ++ last_with (64 - count) v x o) e
    ∙ sym (with_number-last kind (64 - count) 64 (take (count - 1) words) v x (room_at words count some most size))
    ∙ ap (λ ws. with_number kind 64 ws x) (sym (split words count d some (omega arith)))

pub takes_new : (kind : NackKind) (words : List AskWord) (count : ℕ) (d : AskWord) (x : ℕ) → 1 ≤ count → count ≤ 64 → 64 ≤ length words → None ≡ extended kind (get_or words (count - 1) d) x
    → nat_lt (length (take count words)) 64 ≡ takes kind 64 (take count words) x
takes_new kind words count d x some most size e =
    let v = get_or words (count - 1) d in
    ap (λ ws. nat_lt (length ws) 64) (split words count d some (omega arith))
    ∙ takes_begun (64 - count) (take (count - 1) words) v (room_at words count some most size)
    ∙ ap (λ o. last_takes (64 - count) o) e
    ∙ sym (takes-last kind (64 - count) 64 (take (count - 1) words) v x (room_at words count some most size))
    ∙ ap (λ ws. takes kind 64 ws x) (sym (split words count d some (omega arith)))
