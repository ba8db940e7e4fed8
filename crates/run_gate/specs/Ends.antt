-- The statuses that a gateway can have, on every host.
use Rattle.std.specs.Prelude.{◌≡◌, ◌≢◌, true}
use Rattle.rist_words.specs.CommandLine.{GateCommand}
use Rattle.run_parts.specs.Frame.{gate_draws}
use Rattle.run_parts.specs.declared.status.Status.{Status}
use Rattle.run_parts.specs.declared.status.Status.TheVariants as statuses

-- a gateway can end so: no source, no sink and no capture is in it, random words fail it only under a passphrase of
-- either end, and kept steps have no room or differ only where its line keeps some
abbrev pub IsGateEnd : GateCommand → Status → Type 0
IsGateEnd c statuses.Done = Unit {0}
IsGateEnd c statuses.Memory = Unit {0}
IsGateEnd c statuses.Usage = ⊥
IsGateEnd c statuses.OpenFault = Unit {0}
IsGateEnd c statuses.ReadFault = ⊥
IsGateEnd c statuses.WriteFault = ⊥
IsGateEnd c (statuses.BadCapture kind at) = ⊥
IsGateEnd c statuses.EntropyFault = gate_draws c ≡ true
IsGateEnd c statuses.TooLong = ⊥
IsGateEnd c statuses.LinksDown = Unit {0}
IsGateEnd c statuses.TraceFull = c.serving.keep ≢ 0
IsGateEnd c (statuses.Torn tear) = c.serving.keep ≢ 0
IsGateEnd c statuses.Spent = Unit {0}
IsGateEnd c statuses.TurnsSpent = ⊥
IsGateEnd c (statuses.BadPcap kind at) = ⊥
