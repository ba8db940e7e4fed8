-- What a line's receiver is set to, and when its run ends.
use Rattle.std.specs.Prelude.{◌*◌, ◌==◌, ℕ, Option, Some, None, false, if◌then◌else◌}
use Rattle.rist_words.specs.CommandLine.{Receiver, Serving}
use Rattle.rist_ends.specs.declared.settings.Settings.{Settings as ReceiverSettings}
use Rattle.rist_desk.specs.declared.worker.ServingLimits.{ServingLimits as WorkerLimits}

-- what a receiver is set to that sends back what it asks for
abbrev pub settings_with : Receiver → ReceiverSettings
settings_with r = record {
  delay = r.delay;
  span = r.span;
  restart = r.restart;
  drift = r.drift;
  reorder = r.reorder;
  least = r.least;
  tries = r.tries;
  nack = r.nack;
  own = r.own;
  muted = false;
}

-- how many steps a run's lists take at most, where its line limits them
abbrev pub steps_kept : Serving → Option ℕ
steps_kept s = if s.keep == 0 then None else Some s.keep

-- when a run's workers end, with times in microseconds
abbrev pub limits_served : Serving → WorkerLimits
limits_served s = record { turns = s.turns; idle = 1000 * s.idle }
