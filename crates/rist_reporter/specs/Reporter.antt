-- What a contract sees of a reporter.
use Rattle.std.specs.Prelude.{◌≡◌, ℕ, List, Bool, true, false, is_some}
use Rattle.seq_unwrap.specs.declared.width.Width.{Width}
use Rattle.link_channels.specs.declared.profile.Profile.{Profile}
use Rattle.link_channels.specs.declared.profile.Profile.TheVariants.{Simple, Main}
use Rattle.receiver_rules.specs.declared.limits.Limits.{Limits}
use Rattle.request_rules.specs.Steps.{Step}
use Rattle.nack_timer.specs.State.{TimerState}
use Rattle.nack_timer.specs.TimerAfter.{IsTimerAfter}
use Rattle.rist_wire.specs.Writing.{ShutterState}
use Rattle.rist_reporter.specs.Nacks.{width_of}
use Rattle.rist_reporter.specs.Control.{ControlSettings}
use Rattle.rist_reporter.specs.Links.{LinksState, AreLinksAfter}

-- its own SSRC, whether it makes nothing, what is missing and was asked for, what it keeps of its links, how many bits
-- the numbers of the last kept packet had, and what makes its session's datagrams
pub record ReporterState : Type 0 where
  pub own : ℕ
  pub is_muted : Bool
  pub timer : TimerState
  pub links : LinksState
  pub width : Width
  pub shutter : ShutterState

-- the Main Profile has keepalives
abbrev pub is_main : Profile → Bool
is_main Simple = false
is_main Main = true

-- what it is set to, with the limits of its buffer
abbrev pub settings_with : Limits → ReporterState → ControlSettings
settings_with limits r =
    record {
      limits = limits;
      policy = r.timer.policy;
      own = r.own;
      has_keepalives = is_main r.shutter.session.profile;
      is_muted = r.is_muted;
    }

-- what it keeps is that of the history of its receiver's steps, the newest first
pub record IsReporterAfter (r : ReporterState) (limits : Limits) (history : List Step) : Type 0 where
  pub timer : IsTimerAfter r.timer limits history
  pub links : AreLinksAfter r.links history
  pub width : r.width ≡ width_of limits history

-- a sealer stands exactly with a passphrase; a reporter that makes nothing needs none
abbrev pub IsPaired : Bool → ShutterState → Type 0
IsPaired is_muted shutter = is_muted ≡ false → is_some shutter.sealer ≡ is_some shutter.session.pass
