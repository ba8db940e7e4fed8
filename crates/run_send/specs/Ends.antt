-- The statuses that a sending can have, on every host.
use Rattle.std.specs.Prelude.{◌≡◌, true, is_some}
use Rattle.rist_words.specs.CommandLine.{SendCommand}
use Rattle.run_parts.specs.declared.status.Status.{Status}
use Rattle.run_parts.specs.declared.status.Status.TheVariants as statuses

-- a sending can end so: no sink, no capture and no kept step is in it, and random words fail it only under a passphrase
abbrev pub IsSendEnd : SendCommand → Status → Type 0
IsSendEnd c statuses.Done = Unit {0}
IsSendEnd c statuses.Memory = Unit {0}
IsSendEnd c statuses.Usage = ⊥
IsSendEnd c statuses.OpenFault = Unit {0}
IsSendEnd c statuses.ReadFault = Unit {0}
IsSendEnd c statuses.WriteFault = ⊥
IsSendEnd c (statuses.BadCapture kind at) = ⊥
IsSendEnd c statuses.EntropyFault = is_some c.session.pass ≡ true
IsSendEnd c statuses.TooLong = Unit {0}
IsSendEnd c statuses.LinksDown = Unit {0}
IsSendEnd c statuses.TraceFull = ⊥
IsSendEnd c (statuses.Torn tear) = ⊥
IsSendEnd c statuses.Spent = Unit {0}
IsSendEnd c statuses.TurnsSpent = Unit {0}
IsSendEnd c (statuses.BadPcap kind at) = ⊥
