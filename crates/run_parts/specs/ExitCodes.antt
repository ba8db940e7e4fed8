-- The exit status of the program, by how a command ended.
use Rattle.std.specs.Prelude.{ℕ}
use Rattle.run_parts.specs.declared.status.Status.{Status}
use Rattle.run_parts.specs.declared.status.Status.TheVariants.{Done, Memory, Usage, OpenFault, ReadFault, WriteFault}
use Rattle.run_parts.specs.declared.status.Status.TheVariants.{BadCapture, EntropyFault, TooLong, LinksDown, TraceFull}
use Rattle.run_parts.specs.declared.status.Status.TheVariants.{Torn, Spent, TurnsSpent, BadPcap}

-- 0 where the work was done, and a number of its own for each other status
abbrev pub exit_code_of : Status → ℕ
exit_code_of Done = 0
exit_code_of Memory = 1
exit_code_of Usage = 2
exit_code_of OpenFault = 3
exit_code_of ReadFault = 4
exit_code_of WriteFault = 5
exit_code_of (BadCapture kind at) = 7
exit_code_of EntropyFault = 11
exit_code_of TooLong = 12
exit_code_of LinksDown = 6
exit_code_of TraceFull = 8
exit_code_of (Torn tear) = 9
exit_code_of Spent = 10
exit_code_of TurnsSpent = 13
exit_code_of (BadPcap kind at) = 14
