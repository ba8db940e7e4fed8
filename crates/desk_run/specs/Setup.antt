-- What a run of receiving is set to, and what is made for it.
use Rattle.std.specs.Prelude.{◌≡◌, ◌≤◌, ℕ, List, [], length, Bool, true, false, Option, Some, None, is_some}
use Rattle.std.specs.Prelude.{vec_capacity}
use Rattle.std.specs.List.{All}
use Rattle.psk_seal.specs.Sealer.{SealerState}
use Rattle.reorder_buffer.specs.declared.phase.Phase.TheVariants.{Open}
use Rattle.rist_wire.specs.declared.session.Session.{Session}
use Rattle.rist_reporter.specs.Control.{ControlSettings}
use Rattle.rist_ends.specs.declared.settings.Settings.{Settings}
use Rattle.rist_ends.specs.Settings.{control_settings}
use Rattle.rist_ends.specs.Receiver.{IsReceiverAfter, settings_of}
use Rattle.rist_desk.specs.declared.step.Step.{Step}
use Rattle.rist_desk.specs.Desk.{Given}
use Rattle.desk_run.specs.declared.seats.Seat.{Seat}
use Rattle.desk_run.specs.declared.seats.Memory.{Memory}
use Rattle.desk_run.specs.declared.turn_seats.MadeInTurns.{MadeInTurns}

-- the rules of its receiver; the session of its links, and what seals in it; how many steps its lists take at most,
-- where there is such a limit; and whether they tell their steps
pub record Setup : Type 0 where
  pub settings : ControlSettings
  pub session : Session
  pub sealer : Option SealerState
  pub limit : Option ℕ
  pub tells : Bool

-- that of a receiver with these settings
abbrev pub setup_made : Settings → Session → Option SealerState → Option ℕ → Bool → Setup
setup_made settings session sealer limit tells =
    record {
      settings = control_settings settings session;
      session = session;
      sealer = sealer;
      limit = limit;
      tells = tells;
    }

-- likewise where traces keep so many steps, which they tell, if they keep any
abbrev pub setup_kept : Settings → Session → Option SealerState → Option ℕ → Setup
setup_kept settings session sealer keep = setup_made settings session sealer keep (is_some keep)

-- a list that holds nothing yet, where it is told
abbrev pub no_steps : Bool → Option (List Step)
no_steps true = Some []
no_steps false = None

-- a seat of the session, with an empty trace
pub record IsSeat {U : Type 0} (list : U → Option (List Step)) (limit : U → Option ℕ) (session : Session)
    (keep : Option ℕ) (seat : Seat U) : Type 0 where
  pub session_is : seat.opener ≡ session
  pub list_is : list seat.trace ≡ no_steps (is_some keep)
  pub limit_is : limit seat.trace ≡ keep

-- what was made for a run is set to
abbrev pub setup_of : {T L C : Type 0} → (T → Option ℕ) → Memory T L C → Setup
setup_of limit made =
    record {
      settings = settings_of made.receiver;
      session = made.receiver.reporter.shutter.session;
      sealer = made.receiver.reporter.shutter.sealer;
      limit = limit made.trace;
      tells = is_some (limit made.trace);
    }

-- all is made for so many links: a receiver that was told nothing, an empty trace, a seat for each link, and room for
-- the workers
pub record IsMade {T L C : Type 0} (list : T → Option (List Step)) (limit : T → Option ℕ) (count : ℕ)
    (made : Memory T L C) : Type 0 where
  pub running : made.receiver.buffer.phase ≡ Open
  pub told : IsReceiverAfter made.receiver []
  pub delay : 1 ≤ (settings_of made.receiver).limits.playout_delay
  pub list_is : list made.trace ≡ no_steps (is_some (limit made.trace))
  pub seats : All (IsSeat list limit made.receiver.reporter.shutter.session (limit made.trace)) made.seats.items
  pub places : length made.seats.items ≡ count
  pub room : count ≤ vec_capacity made.workers
  pub none : made.workers.items ≡ []

-- what a run in turns is set to: its steps are told, without a limit
abbrev pub setup_in_turns : MadeInTurns → Setup
setup_in_turns made =
    record {
      settings = settings_of made.receiver;
      session = made.receiver.reporter.shutter.session;
      sealer = made.receiver.reporter.shutter.sealer;
      limit = None;
      tells = true;
    }

-- all is made for a run in turns on so many links: a receiver that was told nothing, and an opener for each link
pub record IsMadeInTurns (count : ℕ) (made : MadeInTurns) : Type 0 where
  pub running : made.receiver.buffer.phase ≡ Open
  pub told : IsReceiverAfter made.receiver []
  pub delay : 1 ≤ (settings_of made.receiver).limits.playout_delay
  pub openers : All (λ session. session ≡ made.receiver.reporter.shutter.session) made.openers.items
  pub places : length made.openers.items ≡ count

-- what the run's receiver, traces and sink are at its beginning
abbrev pub given_to : Setup → Option (List ℕ) → ℕ → Given
given_to s contents faults =
    record {
      settings = s.settings;
      shutter = record { session = s.session; sealer = s.sealer };
      limit = s.limit;
      tells_steps = s.tells;
      tells_octets = is_some contents;
      faults = faults;
    }
