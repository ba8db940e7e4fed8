-- What the links of a run brought to one output: one history of steps, each link's own in its order.
use Rattle.std.specs.Prelude.{◌≡◌, ℕ, List, length, slice_get, Some}
use Rattle.outside_host.specs.Shelf.{Shelf}
use Rattle.outside_host.specs.declared.host.Place.TheVariants.{Here}
use Rattle.rist_compare.specs.Tears.{Agree}
use Rattle.rist_desk.specs.declared.step.Step.{Step}
use Rattle.rist_desk.specs.Serving.{IsFeed}
use Rattle.rist_desk.specs.Turns.{Feed}
use Rattle.fan_run.specs.Brought.{AreBroughtAt}
use Rattle.rist_words.specs.CommandLine.{FanCommand}
use Rattle.run_parts.specs.Objects.{TellsLive}
use Rattle.run_parts.specs.Sessions.{session_read}
use Rattle.run_fan.specs.Sessions.{limits_fanned}

-- Steps are those that a link at a place brought to an output, where the link and its clock tell what they give: at
-- each turn its datagram, as it is where it names the port of the output, and else as one that was refused.
abbrev pub AreOfLink : {L C : Type 0} → TellsLive L C → FanCommand → ℕ → ℕ → L → C → List Step → Type 0
AreOfLink live c v place link clock steps = (f : Feed)
    → IsFeed f (session_read c.session) place (limits_fanned c) (live.moments clock) (live.line.reads link)
    (live.line.knows link)
    → AreBroughtAt v c.ports f steps

-- One history of steps of an output, the oldest first, of the links of a line: each step is of one of them, and those
-- of each stand in it once and in the order in which the link and its clock brought them.
pub record IsBrought {I O E L C : Type 0} (live : TellsLive L C) (old : Shelf I O E L C) (c : FanCommand)
    (v : ℕ) : Type 0 where
  pub history : List Step
  pub own : List (List Step)
  pub many : length own ≡ length c.links
  pub agree : Agree history own
  pub of_links : (place : ℕ) (link : L) (clock : C) (steps : List Step) → old.links place ≡ Here link
      → old.clocks place ≡ Here clock → slice_get own place ≡ Some steps → AreOfLink live c v place link clock steps
