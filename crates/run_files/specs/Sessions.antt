-- The settings that a line over a source and a sink speaks of.
use Rattle.receiver_rules.specs.declared.limits.Limits.{Limits}
use Rattle.rist_words.specs.CommandLine.{ReplayCommand, CountCommand, PackCommand}
use Rattle.rist_pack.specs.declared.settings.PackSettings.{PackSettings}
use Rattle.rist_ends.specs.Settings.{limits_of, muted_settings}

-- the limits of a replay's receiver, in ticks and packets
abbrev pub replay_limits : ReplayCommand → Limits
replay_limits c = limits_of (muted_settings c.delay c.span c.restart c.drift)

-- the limits of a count's receiver, in ticks and packets
abbrev pub count_limits : CountCommand → Limits
count_limits c = limits_of (muted_settings c.delay c.span c.restart c.drift)

-- the flow that a source is packed as
abbrev pub pack_settings : PackCommand → PackSettings
pack_settings c = record { flow = c.stream.flow; first = c.stream.first; gap = c.gap }
