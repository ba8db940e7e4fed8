-- What holds of each reporter, whatever it was told.
use Rattle.std.specs.Prelude.{◌≡◌, Bool}
use Rattle.request_rules.specs.declared.policy.NackKind.{NackKind}
use Rattle.nack_timer.specs.State.{TimerState}
use Rattle.rist_wire.specs.Writing.{ShutterState}
use Rattle.rist_reporter.specs.Reporter.{is_main, IsPaired}

-- its timer's kind of requests, whether its profile has keepalives, and a sealer where one is needed
pub record IsSoundReporter (kind : NackKind) (is_muted has_keepalives : Bool) (timer : TimerState)
    (shutter : ShutterState) : Type 0 where
  pub kind_is : kind ≡ timer.policy.kind
  pub keepalives : has_keepalives ≡ is_main shutter.session.profile
  pub paired : IsPaired is_muted shutter
