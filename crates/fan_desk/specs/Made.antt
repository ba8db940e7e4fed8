-- What a worker made on the receivers of several flows: a row of steps, one at each place, and what of their datagrams
-- went to its link.
use Rattle.std.specs.Prelude.{◌≡◌, ◌≢◌, ◌<◌, ℕ, List, [], ◌∷◌, ◌++◌, length, reverse, slice_get, unwrap_or}
use Rattle.std.specs.Prelude.{Bool, true, false}
use Rattle.std.specs.Prelude.{if◌then◌else◌, is_some, Option, None, Some, Result, Ok, Err}
use Rattle.std.specs.List.{flat_map, list_all, list_any}
use Rattle.outside_net.specs.Links.{Datagram}
use Rattle.request_rules.specs.Steps.{Input, Media, Control, Keepalive, Refused, Tick, End}
use Rattle.rist_reporter.specs.Control.{datagrams_of}
use Rattle.rist_reporter.specs.Made.{OutOf}
use Rattle.rist_reporter.specs.OneMore.{AreOpened}
use Rattle.rist_wire.specs.declared.bad.WireBad.{WireBad}
use Rattle.rist_wire.specs.declared.item.Item.{Item}
use Rattle.rist_wire.specs.Among.{item_among}
use Rattle.rist_ends.specs.declared.told.What.{What}
use Rattle.rist_ends.specs.declared.told.What.TheVariants as whats
use Rattle.rist_ends.specs.declared.outcome.Answer.{Answer}
use Rattle.rist_ends.specs.declared.outcome.Answer.TheVariants as answers
use Rattle.rist_desk.specs.declared.ended.Ended.{Ended}
use Rattle.rist_desk.specs.declared.ended.Ended.TheVariants as ends
use Rattle.rist_desk.specs.declared.step.Event.{Event}
use Rattle.rist_desk.specs.declared.step.Event.TheVariants as events
use Rattle.rist_desk.specs.declared.step.Mark.{Mark}
use Rattle.rist_desk.specs.declared.step.Mark.TheVariants as marks
use Rattle.rist_desk.specs.declared.step.Step.{Step}
use Rattle.rist_desk.specs.Steps.{history_of}
use Rattle.rist_desk.specs.Legal.{IsLegal, is_fault, is_made}
use Rattle.rist_desk.specs.Desk.{Given, is_cut_off, outs_in, setup_of}
use Rattle.rist_desk.specs.Items.{Planned, erased}
use Rattle.rist_desk.specs.Sending.{written}
use Rattle.rist_desk.specs.Work.{Reading, Work}
use Rattle.rist_fan.specs.declared.flow.Came.{Came}
use Rattle.rist_fan.specs.Seen.{FanStep, is_for, seen, seen_in}
use Rattle.rist_fan.specs.Fan.{outcome_in}
use Rattle.fan_desk.specs.Rows.{is_stopped}

-- ---- whose datagram came

-- the place of the flow that a datagram came of: media's or control's port is of a flow, a keepalive is the tunnel's
abbrev pub flow_of : Option ℕ → What → Option ℕ
flow_of place (whats.Media arrival) = place
flow_of place (whats.Control compound) = place
flow_of place whats.Keepalive = None
flow_of place whats.Refused = None
flow_of place whats.Tick = None
flow_of place whats.End = None

-- ---- what is planned

-- what is planned of a row: a step, and the place that it is for
pub record RowPlan : Type 0 where
  pub place : Option ℕ
  pub planned : Planned

-- what came with a step, at one place: what is for another, or for none, is refused; a tick and the end are for all
abbrev pub event_for : Bool → Event → Event
event_for true what = what
event_for false (events.Media p) = events.Refused
event_for false (events.Control e) = events.Refused
event_for false events.Keepalive = events.Refused
event_for false events.Refused = events.Refused
event_for false (events.Tick micros) = events.Tick micros
event_for false events.End = events.End

-- likewise as the rules see it
abbrev pub input_for : Bool → Input → Input
input_for true what = what
input_for false (Media a) = Refused
input_for false (Control sample request) = Refused
input_for false Keepalive = Refused
input_for false Refused = Refused
input_for false (Tick micros) = Tick micros
input_for false End = End

-- the place of an item that was found, and the item
abbrev pub found_item : Result (ℕ × Item) WireBad → Option ℕ × Result Item WireBad
found_item (Ok found) = (Some found.0, Ok found.1)
found_item (Err bad) = (None, Err bad)

-- of several flows a datagram is for the place of the port that it names
abbrev pub several_flows : List ℕ → Reading RowPlan
several_flows ports =
    record {
      takes = λ session channel octets. found_item (item_among ports session channel octets);
      plan = λ place planned. record { place = place; planned = planned };
    }

-- ---- what was made

-- a row that was made as it was planned, and the rows that had been made before it, the oldest first; the datagrams of the
-- step at each place; and those of them that the link took
pub record MadeRow : Type 0 where
  pub place : Option ℕ
  pub planned : Planned
  pub row : FanStep
  pub before : List FanStep
  pub outs : List (List OutOf)
  pub went : List Datagram

-- all its datagrams, in the order of places
abbrev pub outs_in_row : MadeRow → List OutOf
outs_in_row m = flat_map (λ outs. outs) m.outs

-- the datagrams of the step at a place
abbrev pub outs_at : ℕ → MadeRow → List OutOf
outs_at v m = unwrap_or (slice_get m.outs v) []

-- A step that was made at a place is the planned one, as what came is to that place. After the steps that had been made
-- there before it, the newest first, it is legal; and where what was due was made, the datagrams, opened in its session,
-- are those that the rules make of it there, and no others.
pub record IsDueAt (given : Given) (own : Bool) (planned : Planned) (before : List Step) (s : Step)
    (outs : List OutOf) : Type 0 where
  pub plan : erased s ≡ record planned.step { what = event_for own planned.step.what }
  pub legal : IsLegal (setup_of given) (s ∷ before)
  pub count : length outs ≡ s.made
  pub opened : is_made s.mark ≡ true
      → AreOpened given.shutter.session outs (datagrams_of given.settings (history_of before)
      (record { link = s.link; tick = s.at; input = input_for own planned.input }))

-- so at a place that made a step; one that had ended makes none, and no datagrams
abbrev pub IsMadeAt : Given → Bool → Planned → List Step → Option Step → List OutOf → Type 0
IsMadeAt given own planned before None outs = outs ≡ []
IsMadeAt given own planned before (Some s) outs = IsDueAt given own planned before s outs

-- the steps at a place that had been made before a row, the newest first
abbrev pub before_at : ℕ → MadeRow → List Step
before_at v m = seen v (reverse m.before)

-- a row has so many places, and so at each
pub record IsMadeRow (given : ℕ → Given) (places : ℕ) (m : MadeRow) : Type 0 where
  pub long : length m.row.steps ≡ places
  pub each : (v : ℕ) → v < places
      → IsMadeAt (given v) (is_for m.place v) m.planned (before_at v m) (seen_in v m.row) (outs_at v m)

-- some place goes on
pub record GoesOn (row : FanStep) : Type 0 where
  pub place : ℕ
  pub step : Step
  pub seen : seen_in place row ≡ Some step
  pub sound : is_fault step.mark ≡ false

-- at no place were pairs wanting
abbrev pub HasPairs : FanStep → Type 0
HasPairs row = (v : ℕ) (s : Step) → seen_in v row ≡ Some s → s.mark ≢ marks.Spent

-- a row was made and sent: the link took exactly those of its datagrams, in the order of places, whose peer it knew
pub record IsRowSent (given : ℕ → Given) (places : ℕ) (m : MadeRow) : Type 0 where
  pub made : IsMadeRow given places m
  pub goes : GoesOn m.row
  pub pairs : HasPairs m.row
  pub went : m.went ≡ written m.planned.peers (outs_in_row m)

-- a write to the link failed: it took those before that one
pub record IsRowHalfSent (given : ℕ → Given) (places : ℕ) (m : MadeRow) : Type 0 where
  pub made : IsMadeRow given places m
  pub front : List OutOf
  pub failed : OutOf
  pub rest : List OutOf
  pub outs : outs_in_row m ≡ front ++ failed ∷ rest
  pub went : m.went ≡ written m.planned.peers front

-- by its mark, why a row is the last: where a write of a sink failed, no place goes on; or at some place pairs were
-- wanting
abbrev pub IsLastBy : Mark → FanStep → Type 0
IsLastBy marks.Plain row = ⊥
IsLastBy (marks.Verdict v) row = ⊥
IsLastBy marks.Spent row = (v : ℕ) × (s : Step) × (seen_in v row ≡ Some s) × (s.mark ≡ marks.Spent)
IsLastBy marks.WriteFault row = (v : ℕ) (s : Step) → seen_in v row ≡ Some s → s.mark ≡ marks.WriteFault

-- a row is the last for this reason, and what the others made of it was sent
pub record IsRowLast (given : ℕ → Given) (places : ℕ) (mark : Mark) (m : MadeRow) : Type 0 where
  pub made : IsMadeRow given places m
  pub cause : IsLastBy mark m.row
  pub went : m.went ≡ written m.planned.peers (outs_in_row m)

-- work on the receivers of several flows: a list keeps its rows
abbrev pub several : List ℕ → (ℕ → Given) → ℕ → Work FanStep RowPlan MadeRow
several ports given places =
    record {
      reading = several_flows ports;
      kept = λ m. m.row;
      before = λ m. m.before;
      planned = λ m. record { place = m.place; planned = m.planned };
      went = λ m. m.went;
      Sent = IsRowSent given places;
      HalfSent = IsRowHalfSent given places;
      Unsent = IsRowLast given places;
    }

-- some place has a sealer
abbrev pub IsSomeKeyed : (ℕ → Given) → Type 0
IsSomeKeyed given = (v : ℕ) × (is_some (given v).shutter.sealer ≡ true)

-- ---- what a step came to at all places

-- the datagrams that it made at one
abbrev pub outs_of_came : Came → List OutOf
outs_of_came came = outs_in (outcome_in came)

-- and at all, in the order of places
abbrev pub all_outs : List Came → List OutOf
all_outs came = flat_map outs_of_came came

-- pairs were wanting
abbrev pub is_wanting : Answer → Bool
is_wanting answers.Stopped = false
is_wanting answers.WriteFault = false
is_wanting (answers.Verdict v) = false
is_wanting answers.Spent = true
is_wanting answers.Made = false
is_wanting answers.Nothing = false

-- why a worker ends, if it does: each place had ended before; none goes on; or at some place pairs were wanting
abbrev pub row_end : List Came → Option Ended
row_end came =
    if list_all (λ c. is_stopped c.answer) came then Some ends.Stopped
    else if list_all (λ c. is_cut_off c.answer) came then Some ends.WriteFault
    else if list_any (λ c. is_wanting c.answer) came then Some ends.Spent
    else None
