-- What a simulated run leaves of its host, and what it answers.
use Rattle.std.specs.Prelude.{◌≡◌, ℕ, List, Bool}
use Rattle.outside_host.specs.Shelf.{Shelf}
use Rattle.made_script.specs.declared.draws.Script.{Script}
use Rattle.rist_world.specs.declared.running.Report.{Report}
use Rattle.rist_world.specs.Made.{IsMadeRun}
use Rattle.rist_world.specs.Summary.{summary_of}
use Rattle.rist_words.specs.CommandLine.{DrillCommand}
use Rattle.run_parts.specs.Objects.{Tells}
use Rattle.run_print.specs.Printing.{DoesPrint}
use Rattle.run_parts.specs.declared.status.Status.{Status}

-- the script that a command names
abbrev pub script_of : DrillCommand → Script
script_of c = record { number = c.number; count = c.count; links = c.links; loss = c.loss }

-- octets are the summary of what came of a made script
pub record IsSummary (script : Script) (octets : List ℕ) : Type 0 where
  pub report : Report
  pub run : IsMadeRun script report
  pub text : octets ≡ summary_of report

-- this simulated run's summary went to the standard output of a host, whose count of failed calls stood so before and
-- after
abbrev pub DoesDrill : {I O E L C : Type 0} → Bool → Tells I O E → DrillCommand → ℕ → ℕ → Shelf I O E L C
    → Shelf I O E L C → Status → Type 0
DoesDrill told tells c faults_were faults_are old new status =
    DoesPrint told tells (IsSummary (script_of c)) faults_were faults_are old new status
