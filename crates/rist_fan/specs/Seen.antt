-- What each receiver of a fan sees of the steps of all. Lists of steps stand with the newest first.
use Rattle.std.specs.Prelude.{◌≡◌, ℕ, ◌+◌, ◌==◌, Bool, true, false, List, [], ◌∷◌, slice_get, unwrap_or, Option, None}
use Rattle.std.specs.Prelude.{Some}
use Rattle.request_rules.specs.Steps.{Input, Keepalive, Refused, Step as ReceiverStep}
use Rattle.rist_ends.specs.declared.told.Told.{Told}
use Rattle.rist_ends.specs.declared.told.What.{What}
use Rattle.rist_ends.specs.declared.told.What.TheVariants as whats
use Rattle.rist_ends.specs.declared.outcome.Outcome.{Outcome}
use Rattle.rist_desk.specs.declared.step.Step.{Step}
use Rattle.rist_desk.specs.Made.{step_after}
use Rattle.turn_lock.specs.History.{added}

-- ---- what each receiver is told

-- the step is for the receiver at this place
abbrev pub is_for : Option ℕ → ℕ → Bool
is_for None v = false
is_for (Some place) v = place == v

-- what a receiver is told: an item that is for another, or for none, as a datagram that was refused
abbrev pub what_for : Bool → What → What
what_for true what = what
what_for false (whats.Media arrival) = whats.Refused
what_for false (whats.Control compound) = whats.Refused
what_for false whats.Keepalive = whats.Refused
what_for false whats.Refused = whats.Refused
what_for false whats.Tick = whats.Tick
what_for false whats.End = whats.End

-- that at the step's link and moment
abbrev pub told_for : Bool → Told → Told
told_for own told = record { link = told.link; us = told.us; what = what_for own told.what }

-- ---- steps of all

-- A step of several receivers: of each, in the order of their places, the step that it made of what it was told, or
-- none where it had ended. A history of them is a list of such steps.
pub record FanStep : Type 0 where
  pub steps : List (Option Step)

-- what the receivers from a place on made of what is told for one of them or for none, with these outcomes
abbrev pub row_from : Option ℕ → Told → ℕ → List Outcome → List (Option Step)
row_from place told v [] = []
row_from place told v (o ∷ os) = step_after (told_for (is_for place v) told) o ∷ row_from place told (v + 1) os

-- and all of them
abbrev pub fan_step : Option ℕ → Told → List Outcome → FanStep
fan_step place told outs = record { steps = row_from place told 0 outs }

-- ---- what each sees

-- what the receiver at this place sees of a step of all
abbrev pub seen_in : ℕ → FanStep → Option Step
seen_in v s = unwrap_or (slice_get s.steps v) None

-- and of a history: its own steps, which are one receiver's history
abbrev pub seen : ℕ → List FanStep → List Step
seen v [] = []
seen v (s ∷ before) = added (seen_in v s) (seen v before)

-- ---- beside a receiver of its own session

-- a keepalive came, or a datagram that was refused: time alone passes
pub data Alike : Input → Input → Type 0 where
  Same : (a : Input) → Alike a a
  KeptAsRefused : Alike Keepalive Refused

-- two histories are the same, but that a keepalive may stand for a datagram that was refused
abbrev pub AreAlikeIn : List ReceiverStep → List ReceiverStep → Type 0
AreAlikeIn [] [] = Unit {0}
AreAlikeIn (s ∷ l) (t ∷ m) = (s.link ≡ t.link) × (s.tick ≡ t.tick) × Alike s.input t.input × AreAlikeIn l m
AreAlikeIn [] (t ∷ m) = ⊥
AreAlikeIn (s ∷ l) [] = ⊥
