-- What an answer to words that ask leaves, and that lines leave none.
use Rattle.std.proofs.Common.{◌≡◌, ℕ, Bool, subst}
use Rattle.std.specs.Prelude.{Option, None, Some}
use Rattle.outside_host.specs.Shelf.{Shelf}
use Rattle.rist_help.specs.declared.Ask.{Ask}
use Rattle.rist_words.specs.CommandLine.{CommandLine}
use Rattle.run_print.specs.DoesAsk.{DoesAsk}
use Rattle.run_parts.specs.Objects.{Tells}
use Rattle.run_parts.specs.declared.status.Status.{Status}

pub same_ask : (o : Option Ask) (a b : Ask) → o ≡ Some a → o ≡ Some b → a ≡ b
same_ask o a b e f = cc

pub asks_none_of : (o : Option Ask) (a : Ask) → o ≡ None → o ≡ Some a → ⊥
asks_none_of o a e f = cc

-- words that are a line ask for nothing
pub line_asks_nothing : (o : Option CommandLine) (c : CommandLine) → o ≡ Some c → o ≡ None → ⊥
line_asks_nothing o c e f = cc

pub asked_same : {I O E L C : Type 0} (told : Bool) (tells : Tells I O E) (a b : Ask) (were are : ℕ) (old new : Shelf I O E L C) (status : Status)
    → a ≡ b → DoesAsk told tells a were are old new status → DoesAsk told tells b were are old new status
asked_same told tells a b were are old new status same does = subst (λ x. DoesAsk told tells x were are old new status) same does
