-- What is left where memory is refused.
use Rattle.std.proofs.Common.{◌≡◌, ◌⊎◌, subst}
use Rattle.outside_host.specs.Shelf.{Shelf}
use Rattle.rist_words.specs.CommandLine.{CommandLine}
use Rattle.run_files.specs.Ran.{Ran}
use Rattle.run_parts.specs.Objects.{Tells}
use Rattle.run_files.specs.Untouched.{IsShowing, LeavesAtMemory, Untouched}
use Rattle.run_parts.specs.declared.status.Status.{Status}
use Rattle.run_parts.specs.declared.status.Status.TheVariants as statuses

pub line_at_memory : {I O E L C : Type 0} (tells : Tells I O E) (old new : Shelf I O E L C) (c : CommandLine) (status : Status)
    → Untouched old new c ⊎ (IsShowing c × Ran tells old new c status) → status ≡ statuses.Memory → LeavesAtMemory tells old new c
line_at_memory tells old new c status left memory = subst (λ s. Untouched old new c ⊎ (IsShowing c × Ran tells old new c s)) memory left
