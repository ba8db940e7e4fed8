-- What the run over several flows is set to.
use Rattle.std.specs.Prelude.{◌≡◌, ℕ, List, [], Option, slice_index_or}
use Rattle.psk_seal.specs.Sealer.{SealerState}
use Rattle.receiver_rules.specs.declared.limits.Limits.{Limits}
use Rattle.rist_wire.specs.declared.session.Session.{Session}
use Rattle.rist_wire.specs.Among.{session_at}
use Rattle.rist_ends.specs.declared.settings.Settings.{Settings as ReceiverSettings}
use Rattle.rist_ends.specs.Receiver.{ReceiverState, settings_of}
use Rattle.rist_ends.specs.Settings.{control_settings, limits_of}
use Rattle.rist_desk.specs.declared.worker.ServingLimits.{ServingLimits as WorkerLimits}
use Rattle.rist_words.specs.CommandLine.{FanCommand}
use Rattle.run_parts.specs.Sessions.{session_read}
use Rattle.run_links.specs.Sessions.{settings_with, limits_served}

-- what each receiver is set to
abbrev pub settings_fanned : FanCommand → ReceiverSettings
settings_fanned c = settings_with c.receiver

-- the limits of each one's buffer, in ticks and packets
abbrev pub fan_limits : FanCommand → Limits
fan_limits c = limits_of (settings_fanned c)

-- the session of a place: that of the tunnel, at the port of the place
abbrev pub session_fanned : FanCommand → ℕ → Session
session_fanned c v = session_at c.ports v (session_read c.session)

-- when the workers end
abbrev pub limits_fanned : FanCommand → WorkerLimits
limits_fanned c = limits_served c.serving

-- the name of an output
abbrev pub output_name : FanCommand → ℕ → List ℕ
output_name c v = slice_index_or c.names v []

-- A receiver is set for a place: to what the line says, to write at the port of the place, and to seal by this sealer
-- where there is one.
pub record IsSetAt (c : FanCommand) (v : ℕ) (sealer : Option SealerState) (receiver : ReceiverState) : Type 0 where
  pub settings : settings_of receiver ≡ control_settings (settings_fanned c) (session_fanned c v)
  pub shutter : receiver.reporter.shutter ≡ record { session = session_fanned c v; sealer = sealer }
