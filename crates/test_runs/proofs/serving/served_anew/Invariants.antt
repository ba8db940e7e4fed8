-- The name of this run's desk.
use Rattle.std.specs.Prelude.{Some, true}
use Rattle.rist_ends.specs.Receiver.{settings_of}
use Rattle.test_runs.proofs.serving.served_anew.Given as goal

abbrev pub ghosts-served : goal.ghosts-served
ghosts-served g a = record { given = record { settings = settings_of a.receiver; shutter = a.receiver.reporter.shutter; limit = Some a.trace.limit; tells_steps = true; tells_octets = true; faults = 0 } }
