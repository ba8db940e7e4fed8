-- What the threads of a gateway do.
use Rattle.std.specs.Prelude.{◌≡◌, ◌<◌, ◌≤◌, ◌+◌, ℕ, List, [], ◌∷◌, length, slice_index_or, Option, None}
use Rattle.link_channels.specs.declared.bounds.TheConstants.{MAX_LINKS}
use Rattle.rist_desk.specs.declared.beside.Side.{Side}
use Rattle.rist_desk.specs.declared.step.Step.{Step}
use Rattle.rist_desk.specs.declared.worker.ServingLimits.{ServingLimits}
use Rattle.rist_desk.specs.declared.worker.Worker.{Worker}
use Rattle.rist_desk.specs.Desk.{Given}
use Rattle.outside_net.specs.Links.{LinkTells}
use Rattle.rist_desk.specs.Serving.{TraceTells, ServesOn, MayServe, Leaves}
use Rattle.rist_gateway.specs.declared.either_worker.EitherWorker.{EitherWorker}
use Rattle.rist_gateway.specs.declared.either_worker.EitherWorker.TheVariants as parts
use Rattle.rist_gateway.specs.declared.side_worker.SideWorker.{SideWorker}
use Rattle.rist_gateway.specs.Sides.{ServesSide}

-- at most sixteen links are received on, and they stand first
abbrev pub IsPlaced : {L C U D P : Type 0} → EitherWorker L C U D P → ℕ → Type 0
IsPlaced (parts.Receiving worker) place = place < MAX_LINKS
IsPlaced (parts.Sending side) place = Unit {0}

-- what side workers have of their own tells: of what it is, under which number, with no step made, and for how many
-- looks it is good; and what a look may come to, at a moment and on a link
pub record SidesTell (S P : Type 0) : Type 1 where
  pub is_of : S → ℕ → P → Type 0
  pub left : P → ℕ
  pub looks : ℕ → ℕ → Side → Type 0

-- what is shared was made with this, and what its workers and its side workers have of their own tells so much
pub record SharedTells (S U P : Type 0) : Type 1 where
  pub given : Given
  pub trace : TraceTells U
  pub is_of : S → ℕ → U → Type 0
  pub left : U → ℕ
  pub broken : U → Type 0
  pub sides : SidesTell S P

-- what a trace tells, as a trait has it
abbrev pub trace_as : {U : Type 0} → (U → Option (List Step)) → (U → Option (List Step)) → (U → Option ℕ) → TraceTells U
trace_as list seen limit = record { list = list; seen = seen; limit = limit }

-- these, as a trait has them
abbrev pub sides_as : {S P : Type 0} → (S → ℕ → P → Type 0) → (P → ℕ) → (ℕ → ℕ → Side → Type 0) → SidesTell S P
sides_as is_of left looks = record { is_of = is_of; left = left; looks = looks }

-- what is shared, as a trait has it, with what its side workers look at
abbrev pub shared_as : {S U P : Type 0} → Given → TraceTells U → (S → ℕ → U → Type 0) → (U → ℕ) → (U → Type 0)
    → SidesTell S P → SharedTells S U P
shared_as given trace is_of left broken sides =
    record {
      given = given;
      trace = trace;
      is_of = is_of;
      left = left;
      broken = broken;
      sides = sides;
    }

-- a side worker may make all its turns, of one look each
pub record MayLook {S D P : Type 0} (tells : SidesTell S P) (shared : S) (limits : ServingLimits) (number : ℕ)
    (w : SideWorker D P) : Type 0 where
  pub own : tells.is_of shared number w.pass
  pub left_is : limits.turns ≤ tells.left w.pass

-- a part may make all its turns
abbrev pub MayBegin : {S L C U D P : Type 0} → SharedTells S U P → S → ServingLimits → ℕ → EitherWorker L C U D P
    → Type 0
MayBegin tells shared limits place (parts.Receiving w) = MayServe tells.is_of tells.left shared limits place w
MayBegin tells shared limits place (parts.Sending w) = MayLook tells.sides shared limits place w

-- a worker served its link on what is shared
pub record ServesWith {S L C U P : Type 0} (tells : SharedTells S U P) (shared : S) (moments : C → Option (ℕ → ℕ))
    (links : LinkTells L) (limits : ServingLimits) (place : ℕ) (old new : Worker L C U) : Type 0 where
  pub on : ServesOn tells.given moments links tells.trace limits place old new
  pub leaves : Leaves tells.is_of tells.broken shared place new

-- a side worker looked at its link, and no step was made with its pass
pub record LooksWith {S D P : Type 0} (tells : SidesTell S P) (shared : S) (moments : D → Option (ℕ → ℕ))
    (limits : ServingLimits) (number : ℕ) (old new : SideWorker D P) : Type 0 where
  pub looks : ServesSide tells.looks moments limits old new
  pub own : tells.is_of shared number new.pass

-- a worker served its link, or a side worker looked at its own
abbrev pub ServesPart : {S L C U D P : Type 0} → SharedTells S U P → S → (C → Option (ℕ → ℕ)) → (D → Option (ℕ → ℕ))
    → LinkTells L → ServingLimits → ℕ → EitherWorker L C U D P → EitherWorker L C U D P → Type 0
ServesPart tells shared moments ticks links limits place (parts.Receiving old) (parts.Receiving new) =
    ServesWith tells shared moments links limits place old new
ServesPart tells shared moments ticks links limits place (parts.Receiving old) (parts.Sending new) = ⊥
ServesPart tells shared moments ticks links limits place (parts.Sending old) (parts.Receiving new) = ⊥
ServesPart tells shared moments ticks links limits place (parts.Sending old) (parts.Sending new) =
    LooksWith tells.sides shared ticks limits place old new

-- ---- side workers as far as they tell

-- one for each of these clocks, at the places from this one on; none has looked at its link yet
abbrev pub side_workers : {D : Type 0} → ℕ → List D → List (SideWorker D (Unit {0}))
side_workers place [] = []
side_workers place (clock ∷ clocks) =
    (record { link = place; clock = clock; pass = tt; end = None }) ∷ side_workers (place + 1) clocks

-- the clock of a side worker
abbrev pub side_clock : {D P : Type 0} → SideWorker D P → D
side_clock side = side.clock

-- each of the side workers looked at its link
pub record LookedAt {D P : Type 0} (looks : ℕ → ℕ → Side → Type 0) (moments : D → Option (ℕ → ℕ))
    (limits : ServingLimits) (were are : List (SideWorker D P)) : Type 0 where
  pub count : length are ≡ length were
  pub looked : (place : ℕ) (d : SideWorker D P) → place < length were
      → ServesSide looks moments limits (slice_index_or were place d) (slice_index_or are place d)
