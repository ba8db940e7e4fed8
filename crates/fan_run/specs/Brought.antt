-- What a link brought to one place of several flows.
use Rattle.std.specs.Prelude.{◌≡◌, ◌++◌, ℕ, List, map}
use Rattle.rist_desk.specs.declared.step.Step.{Step}
use Rattle.rist_desk.specs.Items.{erased}
use Rattle.rist_desk.specs.Turns.{Feed, steps_until}
use Rattle.rist_fan.specs.Seen.{is_for}
use Rattle.fan_desk.specs.Made.{RowPlan, event_for, several_flows}

-- a planned step, as what comes is to a place
abbrev pub plan_at : ℕ → RowPlan → Step
plan_at v p = record p.planned.step { what = event_for (is_for p.place v) p.planned.step.what }

-- Steps of a place, the oldest first, are those of a link: of what so many turns bring in, at each the datagram that
-- the link gave at the clock's moment, as what comes is to the place, and a tick where one is due, the first ones, each
-- once and in their order, but for what a step came to.
pub record AreBroughtAt (v : ℕ) (ports : List ℕ) (f : Feed) (steps : List Step) : Type 0 where
  pub turns : ℕ
  pub missing : List Step
  pub front : map (plan_at v) (steps_until (several_flows ports) f turns) ≡ map erased steps ++ missing
