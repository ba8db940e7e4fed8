-- Passes as they are dealt out, and as they come back.
use Rattle.std.specs.Prelude.{◌≡◌, ℕ, List, [], ◌∷◌, ◌++◌, length, Option}
use mathlib.Core.Option.{some}
use lib.ListN.{get_elem?}
use Rattle.atomic_table.specs.Seated.{TableId}
use Rattle.atomic_table.specs.declared.shared.Seat.{Seat}
use Rattle.turn_lock.specs.declared.rule.Turn.{Turn}
use Rattle.turn_lock.specs.declared.rule.View.{View}
use Rattle.turn_lock.specs.declared.rule.Stage.TheVariants.{Idle}
use Rattle.turn_lock.specs.declared.pass.Pass.{Pass}
use Rattle.turn_lock.specs.Turns.{fresh}

module _ {E X : Type 0} where
  -- the first so many passes of the table, with none of which a turn was taken
  pub record AreDealt (t : TableId) (count : ℕ) (ps : List (Pass E X)) : Type 0 where
    pub all : length ps ≡ count
    pub each : (k : ℕ) (p : Pass E X) → get_elem? ps k ≡ some p → (p.seat.table_id ≡ t) × (p.seat.me.0 ≡ fresh k)

  -- all passes of the table
  pub record AreBack (t : TableId) (count : ℕ) (ps : List (Pass E X)) : Type 0 where
    pub all : length ps ≡ count
    pub each : (k : ℕ) (p : Pass E X) → get_elem? ps k ≡ some p → (p.seat.table_id ≡ t) × (p.seat.me.0.first ≡ k)

  abbrev pub owns_of : List (Pass E X) → List (List E)
  owns_of [] = []
  owns_of (p ∷ ps) = p.seat.me.0.owns ++ owns_of ps

  abbrev pub seen_of : List (Pass E X) → List (List (Turn E))
  seen_of [] = []
  seen_of (p ∷ ps) = p.seat.me.0.seen ∷ seen_of ps

  -- the view of all these passes, whose first number is k
  pub record HasAll (k : ℕ) (ps : List (Pass E X)) (v : View E) : Type 0 where
    pub idle : v.stage ≡ Idle
    pub first : v.first ≡ k
    pub owns : v.owns ≡ owns_of ps
    pub saw : v.seen ∷ v.met ≡ seen_of ps

  -- the seat has taken in all these passes
  pub record AreJoined (t : TableId) (ps : List (Pass E X)) (s : Seat (Option X) (View E)) : Type 0 where
    pub own : s.table_id ≡ t
    pub bare : s.me.1 ≡ []
    pub view : HasAll 0 ps s.me.0

  -- of all these passes the seat has taken in those that are no longer left
  pub record Gathers (t : TableId) (all left : List (Pass E X)) (s : Seat (Option X) (View E)) : Type 0 where
    pub gone : List (Pass E X)
    pub cut : all ≡ left ++ gone
    pub own : s.table_id ≡ t
    pub bare : s.me.1 ≡ []
    pub view : HasAll (length left) gone s.me.0
