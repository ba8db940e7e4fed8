-- The statuses that a command over a source and a sink can have, on every host.
use Rattle.std.specs.Prelude.{◌≡◌, true, is_some}
use Rattle.rist_words.specs.CommandLine.{CommandLine, Pack, PackCommand}
use Rattle.run_parts.specs.declared.status.Status.{Status}
use Rattle.run_parts.specs.declared.status.Status.TheVariants as statuses

-- a replay, a showing, a counting or a report can end so: no link, no key, no kept step and no turn is in it
abbrev pub IsWalkEnd : Status → Type 0
IsWalkEnd statuses.Done = Unit {0}
IsWalkEnd statuses.Memory = Unit {0}
IsWalkEnd statuses.Usage = ⊥
IsWalkEnd statuses.OpenFault = Unit {0}
IsWalkEnd statuses.ReadFault = Unit {0}
IsWalkEnd statuses.WriteFault = Unit {0}
IsWalkEnd (statuses.BadCapture kind at) = Unit {0}
IsWalkEnd statuses.EntropyFault = ⊥
IsWalkEnd statuses.TooLong = Unit {0}
IsWalkEnd statuses.LinksDown = ⊥
IsWalkEnd statuses.TraceFull = ⊥
IsWalkEnd (statuses.Torn tear) = ⊥
IsWalkEnd statuses.Spent = ⊥
IsWalkEnd statuses.TurnsSpent = ⊥
IsWalkEnd (statuses.BadPcap kind at) = Unit {0}

-- a packing can end so: what it reads has no form, and random words fail it only under a passphrase
abbrev pub IsPackEnd : PackCommand → Status → Type 0
IsPackEnd c statuses.Done = Unit {0}
IsPackEnd c statuses.Memory = Unit {0}
IsPackEnd c statuses.Usage = ⊥
IsPackEnd c statuses.OpenFault = Unit {0}
IsPackEnd c statuses.ReadFault = Unit {0}
IsPackEnd c statuses.WriteFault = Unit {0}
IsPackEnd c (statuses.BadCapture kind at) = ⊥
IsPackEnd c statuses.EntropyFault = is_some c.session.pass ≡ true
IsPackEnd c statuses.TooLong = Unit {0}
IsPackEnd c statuses.LinksDown = ⊥
IsPackEnd c statuses.TraceFull = ⊥
IsPackEnd c (statuses.Torn tear) = ⊥
IsPackEnd c statuses.Spent = ⊥
IsPackEnd c statuses.TurnsSpent = ⊥
IsPackEnd c (statuses.BadPcap kind at) = ⊥

-- a command over a source and a sink can end so
abbrev pub IsFilesEnd : CommandLine → Status → Type 0
IsFilesEnd (Pack c) status = IsPackEnd c status
IsFilesEnd c status = IsWalkEnd status
