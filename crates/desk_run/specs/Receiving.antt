-- What the kept list and the sink hold after a run of receiving. A kept list stands with its oldest step first.
use Rattle.std.specs.Prelude.{◌≡◌, ℕ, List, [], ◌∷◌, ◌++◌, map, reverse, false, Option, Some, is_some, unwrap_or}
use Rattle.std.specs.Prelude.{option_map}
use Rattle.outside_net.specs.Traces.{is_full}
use Rattle.reorder_buffer.specs.declared.phase.Phase.TheVariants.{Open}
use Rattle.rist_ends.specs.Receiver.{IsReceiverAfter, settings_of}
use Rattle.rist_compare.specs.declared.tear.Tear.{Tear}
use Rattle.rist_compare.specs.Tears.{Agree, IsFirstTear}
use Rattle.rist_desk.specs.declared.step.Step.{Step}
use Rattle.rist_desk.specs.declared.step.Event.TheVariants as events
use Rattle.rist_desk.specs.declared.worker.Worker.{Worker}
use Rattle.rist_desk.specs.Items.{unmarked}
use Rattle.rist_desk.specs.Legal.{IsLegal, released_by}
use Rattle.rist_desk.specs.Desk.{DeskState, Given, setup_of}

-- ---- before

-- a receiver that was told nothing, over an empty trace and an empty sink
pub record IsUnused (d : DeskState) : Type 0 where
  pub receiver : IsReceiverAfter d.receiver []
  pub running : d.receiver.buffer.phase ≡ Open
  pub steps : (list : List Step) → d.kept ≡ Some list → list ≡ []
  pub octets : (octets : List ℕ) → d.contents ≡ Some octets → octets ≡ []

-- what a desk was made with
abbrev pub given_by : DeskState → Given
given_by d =
    record {
      settings = settings_of d.receiver;
      shutter = d.receiver.reporter.shutter;
      limit = d.limit;
      tells_steps = is_some d.kept;
      tells_octets = is_some d.contents;
      faults = d.faults;
    }

-- ---- after

-- the end of the stream, on link 0 at 0
abbrev pub the_end : Step
the_end = unmarked 0 0 events.End

-- there was room for the end, and it was told last; each step made what the rules make; and the sink, told, holds all
-- that they release
pub record IsWhole (given : Given) (before kept : Option (List Step)) (contents : Option (List ℕ)) : Type 0 where
  pub room : is_full given.limit before ≡ false
  pub ended : kept ≡ option_map (λ steps. steps ++ the_end ∷ []) before
  pub legal : (steps : List Step) → kept ≡ Some steps → IsLegal (setup_of given) (reverse steps)
  pub sink : (steps : List Step) (octets : List ℕ) → kept ≡ Some steps → contents ≡ Some octets
      → octets ≡ released_by (setup_of given) (reverse steps)

-- the own lists of the workers; empty where one doesn't tell
abbrev pub own_lists : {L C U : Type 0} → (U → Option (List Step)) → List (Worker L C U) → List (List Step)
own_lists {L} {C} {U} list workers = map (λ (w : Worker L C U). unwrap_or (list w.trace) []) workers

-- and the steps before the end are those of the own lists
pub record HasReceived (given : Given) (kept : Option (List Step)) (contents : Option (List ℕ))
    (own : List (List Step)) : Type 0 where
  pub before : Option (List Step)
  pub whole : IsWhole given before kept contents
  pub agree : Agree (unwrap_or before []) own

-- or they differ from the own lists, first at this tear
pub record IsTorn (given : Given) (kept : Option (List Step)) (contents : Option (List ℕ)) (own : List (List Step))
    (tear : Tear) : Type 0 where
  pub before : Option (List Step)
  pub whole : IsWhole given before kept contents
  pub first : IsFirstTear (unwrap_or before []) own tear
