-- What is left where words ask for help or the version, and what is answered.
use Rattle.std.specs.Prelude.{◌≡◌, ℕ, List, Bool}
use Rattle.outside_host.specs.Shelf.{Shelf}
use Rattle.rist_help.specs.declared.Ask.{Ask}
use Rattle.rist_help.specs.Help.{answer_of}
use Rattle.run_parts.specs.Objects.{Tells}
use Rattle.run_print.specs.Printing.{DoesPrint}
use Rattle.run_parts.specs.declared.status.Status.{Status}

-- a text is the one that is asked for
abbrev pub IsAnswer : Ask → List ℕ → Type 0
IsAnswer ask text = text ≡ answer_of ask

-- the text that is asked for went to the standard output of a host, whose count of failed calls stood so before and
-- after
abbrev pub DoesAsk : {I O E L C : Type 0} → Bool → Tells I O E → Ask → ℕ → ℕ → Shelf I O E L C → Shelf I O E L C
    → Status → Type 0
DoesAsk told tells ask faults_were faults_are old new status =
    DoesPrint told tells (IsAnswer ask) faults_were faults_are old new status
