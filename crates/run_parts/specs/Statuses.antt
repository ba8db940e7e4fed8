-- How what ended below is told as a status.
use Rattle.std.specs.Prelude.{Result, Ok, Err}
use Rattle.outside_host.specs.declared.host.HostBad.{HostBad}
use Rattle.outside_host.specs.declared.host.HostBad.TheVariants as hosts
use Rattle.capture_walk.specs.declared.walk_bad.WalkBad.{WalkBad}
use Rattle.capture_walk.specs.declared.walk_bad.WalkBad.TheVariants as walks
use Rattle.run_parts.specs.declared.status.Status.{Status}
use Rattle.run_parts.specs.declared.status.Status.TheVariants as statuses

-- how a walk over a capture ended, as a status
abbrev pub walk_status : Result Unit WalkBad → Status
walk_status (Ok x) = statuses.Done
walk_status (Err walks.Memory) = statuses.Memory
walk_status (Err walks.ReadFault) = statuses.ReadFault
walk_status (Err walks.WriteFault) = statuses.WriteFault
walk_status (Err (walks.BadCapture kind at)) = statuses.BadCapture kind at
walk_status (Err (walks.BadPcap kind at)) = statuses.BadPcap kind at
walk_status (Err walks.TooLong) = statuses.TooLong

-- why a host hands nothing out, as a status
abbrev pub host_status : HostBad → Status
host_status hosts.Failed = statuses.OpenFault
host_status hosts.NoMemory = statuses.Memory
