-- What a contract sees of a lock's passes, and of its end.
use Rattle.std.specs.Prelude.{◌≡◌, ℕ, ◌+◌, ◌^◌, ◌≤◌, List, [], ◌∷◌, ◌++◌, length, slice_get, Option, Some}
use Rattle.turn_lock.specs.declared.lock.TurnLock.{TurnLock}
use Rattle.turn_lock.specs.declared.pass.Pass.{Pass}
use Rattle.turn_lock.specs.declared.rule.Turn.{Turn}
use Rattle.turn_lock.specs.History.{added}
use Rattle.turn_lock.specs.Turns.{Begins, entries, of}

module _ {E : Type 0} where
  -- the first of these lists
  abbrev pub first_of : List (List E) → List E
  first_of [] = []
  first_of (l ∷ ls) = l

module _ {E X : Type 0} where
  -- how many passes a lock has
  abbrev pub passes_of : TurnLock E X → ℕ
  passes_of lock = lock.table.shared.key

  -- the pass is one of the lock's
  abbrev pub IsPassOf : TurnLock E X → Pass E X → Type 0
  IsPassOf lock pass = pass.seat.table_id ≡ lock.table.shared.table_id

  -- its number among them, from 0
  abbrev pub number_of : Pass E X → ℕ
  number_of pass = pass.seat.me.0.first

  -- how many turns may still be taken with it
  abbrev pub turns_left : Pass E X → ℕ
  turns_left pass = pass.seat.me.0.left

  -- the turns that it has seen, its own and those of others, the newest first
  abbrev pub turns_seen : Pass E X → List (Turn E)
  turns_seen pass = pass.seat.me.0.seen

  -- what was added with it, the newest first
  abbrev pub entries_with : Pass E X → List E
  entries_with pass = first_of pass.seat.me.0.owns

  -- this pass has this number, and no turn was taken with it
  pub record IsFresh (lock : TurnLock E X) (number : ℕ) (pass : Pass E X) : Type 0 where
    pub own : IsPassOf lock pass
    pub number_is : number_of pass ≡ number
    pub left : turns_left pass ≡ 2 ^ 58
    pub seen : turns_seen pass ≡ []
    pub added_nothing : entries_with pass ≡ []

  -- all passes of the lock, in the order of their numbers, with none of which a turn was taken
  pub record AreFresh (lock : TurnLock E X) (passes : List (Pass E X)) : Type 0 where
    pub all : length passes ≡ passes_of lock
    pub each : (k : ℕ) (p : Pass E X) → slice_get passes k ≡ Some p → IsFresh lock k p

  -- all passes of the lock, in the order of their numbers
  pub record AreAll (lock : TurnLock E X) (passes : List (Pass E X)) : Type 0 where
    pub all : length passes ≡ passes_of lock
    pub each : (k : ℕ) (p : Pass E X) → slice_get passes k ≡ Some p → IsPassOf lock p × (number_of p ≡ k)

  -- One turn was taken with the pass. It has seen all that it had seen before, then the turns that others took since,
  -- and then its own, whose entry is added to what was added with it. The answer is one after all that was added
  -- before.
  pub record Stepped {A M B : Type 0} (adds : A → M → B → Option E) (answers : List E → A → M → M → B → Type 0)
      (old new : Pass E X) (ask : A) (was is : M) (answer : B) : Type 0 where
    pub since : List (Turn E)
    pub seen : turns_seen new ≡ record { pass = number_of old; entry = adds ask is answer } ∷ since ++ turns_seen old
    pub own : entries_with new ≡ added (adds ask is answer) (entries_with old)
    pub number_same : number_of new ≡ number_of old
    pub left : turns_left old ≡ turns_left new + 1
    pub answered : answers (entries (since ++ turns_seen old)) ask was is answer

  -- The value stands for one history of turns that were taken with these passes. Each pass has added to it what it says
  -- that it did, in its order and once, and has seen how it began.
  pub record IsClosed {Y : Type 0} (stands : Y → List E → Type 0) (passes : List (Pass E X)) (y : Y) : Type 0 where
    pub turns : List (Turn E)
    pub stood : stands y (entries turns)
    pub own : (k : ℕ) (p : Pass E X) → slice_get passes k ≡ Some p → entries_with p ≡ of k turns
    pub others : (k : ℕ) → length passes ≤ k → of k turns ≡ []
    pub saw : (k : ℕ) (p : Pass E X) → slice_get passes k ≡ Some p → Begins turns (turns_seen p)
