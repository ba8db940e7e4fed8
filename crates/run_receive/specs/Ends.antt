-- The statuses that a receiving can have, on every host.
use Rattle.std.specs.Prelude.{◌≡◌, ◌≢◌, true, is_some}
use Rattle.rist_words.specs.CommandLine.{RecvCommand}
use Rattle.run_parts.specs.declared.status.Status.{Status}
use Rattle.run_parts.specs.declared.status.Status.TheVariants as statuses

-- a receiving can end so: no source and no capture is in it, pairs are wanting and random words fail it only under a
-- passphrase, and kept steps have no room or differ only where its line keeps some
abbrev pub IsReceiveEnd : RecvCommand → Status → Type 0
IsReceiveEnd c statuses.Done = Unit {0}
IsReceiveEnd c statuses.Memory = Unit {0}
IsReceiveEnd c statuses.Usage = ⊥
IsReceiveEnd c statuses.OpenFault = Unit {0}
IsReceiveEnd c statuses.ReadFault = ⊥
IsReceiveEnd c statuses.WriteFault = Unit {0}
IsReceiveEnd c (statuses.BadCapture kind at) = ⊥
IsReceiveEnd c statuses.EntropyFault = is_some c.session.pass ≡ true
IsReceiveEnd c statuses.TooLong = ⊥
IsReceiveEnd c statuses.LinksDown = Unit {0}
IsReceiveEnd c statuses.TraceFull = c.serving.keep ≢ 0
IsReceiveEnd c (statuses.Torn tear) = c.serving.keep ≢ 0
IsReceiveEnd c statuses.Spent = is_some c.session.pass ≡ true
IsReceiveEnd c statuses.TurnsSpent = ⊥
IsReceiveEnd c (statuses.BadPcap kind at) = ⊥
