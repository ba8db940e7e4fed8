-- A link that is down: a write on it failed, so its count of faults rose.
use Rattle.std.proofs.Common.{◌≡◌, ◌∙◌, ◌<◌, ℕ, List, [], ◌∷◌, ◌++◌, length, get_or, Bool, true, false, if◌then◌else◌, refl, ap, subst}
use Rattle.std.specs.Prelude.{◌||◌, ◌&&◌, ◌==◌}
use Rattle.std.specs.List.{list_any}
use Rattle.std.proofs.lemmas.List.Folds.{list_any-append}
use Rattle.outside_io.specs.Causes.{Rose}
use Rattle.outside_net.specs.Links.{LinkTells}
use Rattle.rist_wire.specs.declared.session.Session.{Session}
use Rattle.rist_sender.specs.Links.{Tried, is_failed}
use Rattle.rist_sender.specs.History.{Event, Called, Sent, Wrote, Renewed, Write, is_down, tried_as, tried_on}
use Rattle.rist_sender.specs.Served.{AreServed, RisesWith}

any_more : (xs : List Tried) (p : Bool) (write : Tried) → list_any (λ (t : Tried). is_failed t.answer) xs ≡ true → list_any (λ (t : Tried). is_failed t.answer) (xs ++ (if p then write ∷ [] else [])) ≡ true
any_more xs p write any =
    list_any-append (λ (t : Tried). is_failed t.answer) xs (if p then write ∷ [] else []) ∙ ap (λ (b : Bool). b || list_any (λ (t : Tried). is_failed t.answer) (if p then write ∷ [] else [])) any

failed_more : (xs : List Tried) (p failed down : Bool) (write : Tried) → is_failed write.answer ≡ failed → ((p && failed) || down) ≡ true
    → (down ≡ true → list_any (λ (t : Tried). is_failed t.answer) xs ≡ true) → list_any (λ (t : Tried). is_failed t.answer) (xs ++ (if p then write ∷ [] else [])) ≡ true
failed_more xs true true down write is or before =
    list_any-append (λ (t : Tried). is_failed t.answer) xs (write ∷ [])
    ∙ any_last (list_any (λ (t : Tried). is_failed t.answer) xs) (is_failed write.answer) is
  where
    any_last : (a b : Bool) → b ≡ true → (a || (b || false)) ≡ true
    any_last true b e = refl
    any_last false true e = refl
    any_last false false e = cc
failed_more xs true false down write is or before = any_more xs true write (before or)
failed_more xs false failed down write is or before = any_more xs false write (before or)

failed_as : (flow : ℕ) (session : Session) (write : Write) → is_failed (tried_as flow session write).answer ≡ is_failed write.answer
unfolding tried_as
failed_as flow session write = refl

down_failed : (flow : ℕ) (session : Session) (link : ℕ) (history : List Event) → is_down history link ≡ true
    → list_any (λ (t : Tried). is_failed t.answer) (tried_on (tried_as flow session) link history) ≡ true
down_failed flow session link [] down = cc
down_failed flow session link (Called micros ∷ before) down = down_failed flow session link before down
down_failed flow session link (Sent packet ∷ before) down = down_failed flow session link before down
down_failed flow session link (Wrote write ∷ before) down =
    failed_more (tried_on (tried_as flow session) link before) (write.link == link) (is_failed write.answer) (is_down before link) (tried_as flow session write)
    (failed_as flow session write) down (λ d. down_failed flow session link before d)
down_failed flow session link (Renewed other first ∷ before) down = down_failed flow session link before down

rose_where : (p : Bool) (a b : ℕ) → p ≡ true → RisesWith p a b → Rose a b
rose_where p a b is r = subst (λ (x : Bool). RisesWith x a b) is r

-- the count of its faults rose
pub down_rose : {L : Type 0} (line : LinkTells L) (flow : ℕ) (session : Session) (history : List Event) (was is : List L) (link : ℕ) (d : L) → link < length was → is_down history link ≡ true
    → AreServed line flow session [] history was is → Rose (line.faults (get_or was link d)) (line.faults (get_or is link d))
down_rose line flow session history was is link d among down served =
    let s = served link d among in
    rose_where (list_any (λ (t : Tried). is_failed t.answer) s.gained) (line.faults (get_or was link d)) (line.faults (get_or is link d))
    (subst (λ (xs : List Tried). list_any (λ (t : Tried). is_failed t.answer) xs ≡ true) s.more (down_failed flow session link history down)) s.faults
