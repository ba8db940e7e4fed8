-- The statuses that a receiving of several flows can have, on every host.
use Rattle.std.specs.Prelude.{◌≡◌, true, is_some}
use Rattle.desk_run.specs.declared.ending.Ending.{Ending}
use Rattle.desk_run.specs.declared.ending.Ending.TheVariants as endings
use Rattle.rist_words.specs.CommandLine.{FanCommand}
use Rattle.run_parts.specs.declared.status.Status.{Status}
use Rattle.run_parts.specs.declared.status.Status.TheVariants as statuses

-- how a run ended, as a status
abbrev pub fan_status : Ending → Status
fan_status endings.WriteFault = statuses.WriteFault
fan_status endings.Spent = statuses.Spent
fan_status endings.TraceFull = statuses.TraceFull
fan_status (endings.Torn tear) = statuses.Torn tear
fan_status endings.LinksDown = statuses.LinksDown
fan_status endings.Done = statuses.Done

-- it can end so: no source, no capture and no kept step is in it, and pairs are wanting and random words fail it only
-- under a passphrase
abbrev pub IsFanEnd : FanCommand → Status → Type 0
IsFanEnd c statuses.Done = Unit {0}
IsFanEnd c statuses.Memory = Unit {0}
IsFanEnd c statuses.Usage = ⊥
IsFanEnd c statuses.OpenFault = Unit {0}
IsFanEnd c statuses.ReadFault = ⊥
IsFanEnd c statuses.WriteFault = Unit {0}
IsFanEnd c (statuses.BadCapture kind at) = ⊥
IsFanEnd c statuses.EntropyFault = is_some c.session.pass ≡ true
IsFanEnd c statuses.TooLong = ⊥
IsFanEnd c statuses.LinksDown = Unit {0}
IsFanEnd c statuses.TraceFull = ⊥
IsFanEnd c (statuses.Torn tear) = ⊥
IsFanEnd c statuses.Spent = is_some c.session.pass ≡ true
IsFanEnd c statuses.TurnsSpent = ⊥
IsFanEnd c (statuses.BadPcap kind at) = ⊥
