-- What calls leave of a reporter.
use Rattle.std.specs.Prelude.{◌≡◌, ℕ, Option, None, Some}
use Rattle.rist_rtt.specs.Echo.{EchoOf}
use Rattle.rist_reporter.specs.Links.{LinksState}
use Rattle.rist_reporter.specs.Reporter.{ReporterState}
use Rattle.rist_reporter.specs.Inside.Noted.{sampled}

-- what it is set to stays
pub record IsSetAs (old new : ReporterState) : Type 0 where
  pub own : new.own ≡ old.own
  pub muted : new.is_muted ≡ old.is_muted
  pub policy : new.timer.policy ≡ old.timer.policy
  pub span : new.timer.span ≡ old.timer.span
  pub session : new.shutter.session ≡ old.shutter.session

-- the links after the first response of a compound, if there is one
abbrev pub links_sampled : ℕ → ℕ → Option EchoOf → LinksState → LinksState
links_sampled link us None links = links
links_sampled link us (Some response) links = record links { rtts = sampled link us response links.rtts }
