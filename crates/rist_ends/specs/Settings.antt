-- What a receiver is set to.
use Rattle.std.specs.Prelude.{ℕ, Bool, ◌≤◌, ◌*◌, true}
use Rattle.receiver_rules.specs.declared.bounds.TheConstants.{MAX_DELAY, MAX_RESTART, MAX_SPAN}
use Rattle.receiver_rules.specs.declared.limits.Limits.{Limits}
use Rattle.nack_timer.specs.declared.settings.Settings.{Settings as TimerSettings}
use Rattle.nack_timer.specs.State.{policy_of}
use Rattle.rist_wire.specs.declared.session.Session.{Session}
use Rattle.rist_reporter.specs.Control.{ControlSettings}
use Rattle.rist_reporter.specs.Reporter.{is_main}
use Rattle.request_rules.specs.declared.policy.NackKind.TheVariants.{Range}
use Rattle.rist_ends.specs.declared.settings.Settings.{Settings}

-- each setting is in its range
pub record IsInRange (settings : Settings) : Type 0 where
  pub some_delay : 1 ≤ settings.delay
  pub delay : settings.delay ≤ MAX_DELAY
  pub some_span : 1 ≤ settings.span
  pub span : settings.span ≤ MAX_SPAN
  pub restart : settings.restart ≤ MAX_RESTART
  pub reorder : settings.reorder ≤ 1000
  pub some_least : 5 ≤ settings.least
  pub least : settings.least ≤ 1000
  pub tries : settings.tries ≤ 32

-- the limits of its buffer, in ticks and packets
abbrev pub limits_of : Settings → Limits
limits_of settings =
    record {
      playout_delay = 90 * settings.delay;
      capacity = settings.span;
      restart_time = 90 * settings.restart;
      drift = settings.drift;
    }

-- when it asks
abbrev pub timer_settings : Settings → TimerSettings
timer_settings settings =
    record { reorder = settings.reorder; least = settings.least; tries = settings.tries; nack = settings.nack }

-- all that the rules of what it sends back know of it, in a session
abbrev pub control_settings : Settings → Session → ControlSettings
control_settings settings session =
    record {
      limits = limits_of settings;
      policy = policy_of (timer_settings settings);
      own = settings.own;
      has_keepalives = is_main session.profile;
      is_muted = settings.muted;
    }

-- a receiver that plays out and sends nothing back
abbrev pub muted_settings : ℕ → ℕ → ℕ → Bool → Settings
muted_settings delay span restart drift =
    record {
      delay = delay;
      span = span;
      restart = restart;
      drift = drift;
      reorder = 25;
      least = 50;
      tries = 0;
      nack = Range;
      own = 7;
      muted = true;
    }
