-- What the run of a receiving is set to.
use Rattle.std.specs.Prelude.{ℕ, Option, true}
use Rattle.psk_seal.specs.Sealer.{SealerState}
use Rattle.rist_words.specs.CommandLine.{RecvCommand}
use Rattle.rist_ends.specs.declared.settings.Settings.{Settings as ReceiverSettings}
use Rattle.rist_desk.specs.declared.worker.ServingLimits.{ServingLimits as WorkerLimits}
use Rattle.desk_run.specs.Setup.{Setup as ReceiveSetup, setup_made}
use Rattle.run_parts.specs.Sessions.{session_read}
use Rattle.run_links.specs.Sessions.{settings_with, steps_kept, limits_served}

-- what the receiver of a receiving is set to
abbrev pub settings_received : RecvCommand → ReceiverSettings
settings_received c = settings_with c.receiver

-- how many steps the lists of a receiving take at most, where its line limits them
abbrev pub kept_steps : RecvCommand → Option ℕ
kept_steps c = steps_kept c.serving

-- What the run of a receiving is set to, under a sealer where there is one: its steps are told, with that limit or, in
-- turns, with none.
abbrev pub setup_received : RecvCommand → Option SealerState → ReceiveSetup
setup_received c sealer = setup_made (settings_received c) (session_read c.session) sealer (kept_steps c) true

-- when the workers of a receiving end
abbrev pub limits_received : RecvCommand → WorkerLimits
limits_received c = limits_served c.serving
