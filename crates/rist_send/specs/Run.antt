-- What a run has come to.
use Rattle.std.specs.Prelude.{ℕ, ◌+◌, ◌*◌, nat_le, List, replicate, Bool, true, false, Option, None, Some, Result, Ok}
use Rattle.link_channels.specs.declared.bounds.TheConstants.{MAX_LINKS}
use Rattle.std.specs.Prelude.{Err}
use Rattle.outside_net.specs.Links.{Answer}
use Rattle.block_source.specs.declared.fault.PieceFault.{PieceFault}
use Rattle.block_source.specs.declared.fault.PieceFault.TheVariants as pieces
use Rattle.rist_wire.specs.declared.session.Session.{Session}
use Rattle.rist_sender.specs.Calls.{Work, Rules}
use Rattle.rist_sender.specs.Sender.{SenderState, rules_of}
use Rattle.sender_rules.specs.declared.send_bad.SendBad.{SendBad}
use Rattle.sender_rules.specs.declared.send_bad.SendBad.TheVariants as refusals
use Rattle.rist_send.specs.declared.fault.SendFault.{SendFault}
use Rattle.rist_send.specs.declared.fault.SendFault.TheVariants as faults
use Rattle.rist_send.specs.declared.settings.SendSettings.{SendSettings}
use Rattle.rist_send.specs.declared.progress.Progress.{Progress}
use Rattle.rist_send.specs.declared.progress.Stage.{Stage}
use Rattle.rist_send.specs.declared.progress.Stage.TheVariants.{Reading, Ended}

-- what a run is set to: its pace, its sender, its session, and how many links it has
pub record Setup : Type 0 where
  pub settings : SendSettings
  pub rules : Rules
  pub session : Session
  pub links : ℕ

-- what a run of a sender over so many links is set to
abbrev pub setup_of : SendSettings → SenderState → ℕ → Setup
setup_of settings s links = record { settings = settings; rules = rules_of s; session = s.session; links = links }

-- what a run's sender did; the pieces that it sent, the oldest first; how far the run has come; and what its clock, its
-- source and the reads of each of its links have still to give, where they tell it: of the source its octets, or where it
-- comes in datagrams their payloads
pub record Run : Type 0 where
  pub work : Work
  pub sent : List (List ℕ)
  pub progress : Progress
  pub moments : Option (ℕ → ℕ)
  pub octets : Option (List ℕ)
  pub payloads : Option (List (List ℕ))
  pub answers : List (Option (ℕ → Answer))

-- no turn was made
abbrev pub no_progress : Progress
no_progress = record { start = None; moment = 0; stage = Reading 0; closed = replicate MAX_LINKS false }

-- the start: the first turn's moment
abbrev pub start_with : ℕ → Option ℕ → ℕ
start_with moment None = moment
start_with moment (Some start) = start

-- a turn begins
abbrev pub begun_at : ℕ → Progress → Progress
begun_at moment progress =
    record {
      start = Some (start_with moment progress.start);
      moment = moment;
      stage = progress.stage;
      closed = progress.closed;
    }

-- piece k is due from the lead and k gaps after the start on
abbrev pub is_due_from : SendSettings → Option ℕ → ℕ → ℕ → Bool
is_due_from settings None now k = false
is_due_from settings (Some start) now k = nat_le (start + settings.lead + k * settings.gap) now

-- piece k is due
abbrev pub is_due : SendSettings → Progress → ℕ → Bool
is_due settings progress k = is_due_from settings progress.start progress.moment k

-- the piece that is next at a stage is due; once the source has ended none is
abbrev pub is_stage_due : SendSettings → Progress → Stage → Bool
is_stage_due settings progress (Reading k) = is_due settings progress k
is_stage_due settings progress (Ended moment) = false

-- the next piece is due, if the source has one
abbrev pub is_next_due : SendSettings → Progress → Bool
is_next_due settings progress = is_stage_due settings progress progress.stage

-- the source has ended, and this long has passed since
abbrev pub is_over_at : ℕ → Stage → ℕ → Bool
is_over_at linger (Reading k) now = false
is_over_at linger (Ended moment) now = nat_le (moment + linger) now

-- the run is over
abbrev pub is_over : ℕ → Progress → Bool
is_over linger progress = is_over_at linger progress.stage progress.moment

-- the source has ended
abbrev pub has_ended : Stage → Bool
has_ended (Reading k) = false
has_ended (Ended moment) = true

-- what it means that a piece isn't read
abbrev pub fault_of : PieceFault → SendFault
fault_of pieces.ReadFault = faults.ReadFault
fault_of pieces.TooLong = faults.TooLong

-- what a refusal of the sender means
abbrev pub refusal : SendBad → SendFault
refusal refusals.Spent = faults.Spent
refusal refusals.LinksDown = faults.LinksDown

-- what an answer of the sender means
abbrev pub outcome : {T : Type 0} → Result T SendBad → Result Unit SendFault
outcome (Ok x) = Ok tt
outcome (Err bad) = Err (refusal bad)
