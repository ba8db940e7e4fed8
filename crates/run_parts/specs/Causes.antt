-- Which call failed, by the status of a command.
use Rattle.std.specs.Prelude.{◌≡◌, ◌⊎◌}
use Rattle.outside_io.specs.Causes.{Fault, NoFault, Read, Write, Open}
use Rattle.run_parts.specs.declared.status.Status.{Status}
use Rattle.run_parts.specs.declared.status.Status.TheVariants as statuses

-- of each status
abbrev pub fault_of : Status → Fault
fault_of statuses.Done = NoFault
fault_of statuses.Memory = NoFault
fault_of statuses.Usage = NoFault
fault_of statuses.OpenFault = Open
fault_of statuses.ReadFault = Read
fault_of statuses.WriteFault = Write
fault_of (statuses.BadCapture kind at) = NoFault
fault_of statuses.EntropyFault = NoFault
fault_of statuses.TooLong = NoFault
fault_of statuses.LinksDown = NoFault
fault_of statuses.TraceFull = NoFault
fault_of (statuses.Torn tear) = NoFault
fault_of statuses.Spent = NoFault
fault_of statuses.TurnsSpent = NoFault
fault_of (statuses.BadPcap kind at) = NoFault

-- nothing is begun where nothing is handed out, where memory is refused, or where random words fail
abbrev pub CanRefuse : Status → Type 0
CanRefuse status = (status ≡ statuses.OpenFault) ⊎ ((status ≡ statuses.Memory) ⊎ (status ≡ statuses.EntropyFault))
