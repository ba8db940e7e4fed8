-- Side workers among the parts of a gateway.
use Rattle.std.specs.Prelude.{◌≡◌, ◌<◌, ◌≤◌, ◌+◌, ℕ, List, [], ◌∷◌, length, map, reverse, slice_index_or, Option, None}
use Rattle.rist_desk.specs.declared.worker.ServingLimits.{ServingLimits}
use Rattle.rist_desk.specs.declared.worker.Worker.{Worker}
use Rattle.rist_gateway.specs.declared.either_worker.EitherWorker.{EitherWorker}
use Rattle.rist_gateway.specs.declared.either_worker.EitherWorker.TheVariants as parts
use Rattle.rist_gateway.specs.declared.side_worker.SideWorker.{SideWorker}
use Rattle.rist_gateway.specs.Workers.{LooksWith, MayLook, SidesTell}

-- what a worker is among the parts
abbrev pub receiving_part : {L C U D P : Type 0} → Worker L C U → EitherWorker L C U D P
receiving_part worker = parts.Receiving worker

-- what a side worker is among them
abbrev pub sending_part : {L C U D P : Type 0} → SideWorker D P → EitherWorker L C U D P
sending_part side = parts.Sending side

-- the parts of these side workers, the last one first
abbrev pub sending_parts : {L C U D P : Type 0} → List (SideWorker D P) → List (EitherWorker L C U D P)
sending_parts sides = reverse (map sending_part sides)

-- one for each of these clocks, with the pass that stands there, at the places from this one on
abbrev pub seated_sides : {D P : Type 0} → ℕ → List D → List P → List (SideWorker D P)
seated_sides place [] passes = []
seated_sides place (clock ∷ clocks) [] = []
seated_sides place (clock ∷ clocks) (pass ∷ passes) =
    (record { link = place; clock = clock; pass = pass; end = None }) ∷ seated_sides (place + 1) clocks passes

-- the pass of a side worker
abbrev pub side_pass : {D P : Type 0} → SideWorker D P → P
side_pass side = side.pass

-- a side worker as far as it tells
abbrev pub without_pass : {D P : Type 0} → SideWorker D P → SideWorker D (Unit {0})
without_pass side = record { link = side.link; clock = side.clock; pass = tt; end = side.end }

-- parts are those of side workers, with room for so many workers
pub record HasRoom {L C U D P : Type 0} (items : List (EitherWorker L C U D P)) (capacity count : ℕ) : Type 0 where
  pub sides : List (SideWorker D P)
  pub parts : items ≡ sending_parts sides
  pub room : count + length sides ≤ capacity

-- the side workers of which these are the parts may make all their turns, with passes of the numbers from this one on
abbrev pub MayLookAtLinks : {S L C U D P : Type 0} → SidesTell S P → S → ServingLimits → ℕ
    → List (EitherWorker L C U D P) → Type 0
MayLookAtLinks {D = D} {P = P} tells shared limits first old =
    (were : List (SideWorker D P)) → old ≡ sending_parts were
    → (place : ℕ) (d : SideWorker D P) → place < length were
    → MayLook tells shared limits (first + place) (slice_index_or were place d)

-- each of the side workers looked at its link
pub record LookedWith {S D P : Type 0} (tells : SidesTell S P) (shared : S) (moments : D → Option (ℕ → ℕ))
    (limits : ServingLimits) (first : ℕ) (were are : List (SideWorker D P)) : Type 0 where
  pub count : length are ≡ length were
  pub looked : (place : ℕ) (d : SideWorker D P) → place < length were
      → LooksWith tells shared moments limits (first + place) (slice_index_or were place d) (slice_index_or are place d)

-- those of which these are the parts did, and those are the parts of what they came to
abbrev pub LookAtLinks : {S L C U D P : Type 0} → SidesTell S P → S → (D → Option (ℕ → ℕ)) → ServingLimits → ℕ
    → List (EitherWorker L C U D P) → List (EitherWorker L C U D P) → Type 0
LookAtLinks {D = D} {P = P} tells shared moments limits first old new =
    (were : List (SideWorker D P)) → old ≡ sending_parts were
    → (are : List (SideWorker D P)) × (new ≡ sending_parts are) × LookedWith tells shared moments limits first were are
