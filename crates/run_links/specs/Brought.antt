-- What the links of a run brought: one history of steps, each link's own in its order.
use Rattle.std.specs.Prelude.{◌≡◌, ◌++◌, ℕ, List, map, length, slice_get, Some}
use Rattle.outside_host.specs.Shelf.{Shelf}
use Rattle.outside_host.specs.declared.host.Place.TheVariants.{Here}
use Rattle.rist_compare.specs.Tears.{Agree}
use Rattle.rist_desk.specs.declared.step.Step.{Step}
use Rattle.rist_desk.specs.Items.{erased}
use Rattle.rist_desk.specs.Sending.{one_flow}
use Rattle.rist_desk.specs.Serving.{IsFeed}
use Rattle.rist_desk.specs.Turns.{Feed, steps_until}
use Rattle.rist_wire.specs.declared.session.Session.{Session}
use Rattle.rist_desk.specs.declared.worker.ServingLimits.{ServingLimits as WorkerLimits}
use Rattle.run_parts.specs.Objects.{TellsLive}

-- Steps, the oldest first, are those of a link: of what so many turns bring in, at each the datagram that the link
-- gave at the clock's moment and a tick where one is due, the first ones, each once and in their order, but for what
-- a step came to.
pub record AreBroughtBy (f : Feed) (steps : List Step) : Type 0 where
  pub turns : ℕ
  pub missing : List Step
  pub front : map (λ plan. plan.step) (steps_until one_flow f turns) ≡ map erased steps ++ missing

-- Steps are those of a link at a place of a run in this session and with these limits, where the link and its clock
-- tell what they give.
abbrev pub AreOfLink : {L C : Type 0} → TellsLive L C → Session → WorkerLimits → ℕ → L → C → List Step → Type 0
AreOfLink live session limits place link clock steps =
    (f : Feed) → IsFeed f session place limits (live.moments clock) (live.line.reads link) (live.line.knows link)
    → AreBroughtBy f steps

-- One history of steps, the oldest first, of the first links of a host, so many: each step is of one of them, and
-- those of each stand in it once and in the order in which the link and its clock brought them.
pub record IsBrought {I O E L C : Type 0} (live : TellsLive L C) (old : Shelf I O E L C) (session : Session)
    (limits : WorkerLimits) (count : ℕ) : Type 0 where
  pub history : List Step
  pub own : List (List Step)
  pub many : length own ≡ count
  pub agree : Agree history own
  pub of_links : (place : ℕ) (link : L) (clock : C) (steps : List Step) → old.links place ≡ Here link
      → old.clocks place ≡ Here clock → slice_get own place ≡ Some steps
      → AreOfLink live session limits place link clock steps
