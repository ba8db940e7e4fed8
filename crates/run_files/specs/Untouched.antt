-- What is left where a line's work is not begun, or wants memory.
use Rattle.std.specs.Prelude.{◌≡◌, ◌≢◌, ◌⊎◌, ℕ, List}
use Rattle.outside_host.specs.Shelf.{Shelf, Stays}
use Rattle.rist_words.specs.CommandLine.{CommandLine, Replay, Show, Count, Report, Pack, Split, Send, Recv, Fan, Gate}
use Rattle.rist_words.specs.CommandLine.{Drill}
use Rattle.run_parts.specs.Objects.{Tells}
use Rattle.run_parts.specs.Places.{IsAsItWas}
use Rattle.run_files.specs.Ran.{Ran}
use Rattle.run_parts.specs.Names.{source_name, sink_name}
use Rattle.run_parts.specs.declared.status.Status.TheVariants as statuses

-- nothing was read of a line's source, nothing was written to its sink, and no random word was drawn
pub record Untouched {I O E L C : Type 0} (old new : Shelf I O E L C) (c : CommandLine) : Type 0 where
  pub source : IsAsItWas (old.sources (source_name c)) (new.sources (source_name c))
  pub sink : IsAsItWas (old.sinks (sink_name c)) (new.sinks (sink_name c))
  pub other_sources : (name : List ℕ) → name ≢ source_name c → new.sources name ≡ old.sources name
  pub other_sinks : (name : List ℕ) → name ≢ sink_name c → new.sinks name ≡ old.sinks name
  pub entropies : Stays old.entropies new.entropies

-- a showing, which takes memory for each line that it writes; the other commands take theirs before they begin
abbrev pub IsShowing : CommandLine → Type 0
IsShowing (Replay c) = ⊥
IsShowing (Show c) = Unit {0}
IsShowing (Count c) = ⊥
IsShowing (Report c) = ⊥
IsShowing (Pack c) = ⊥
IsShowing (Split c) = ⊥
IsShowing (Send c) = ⊥
IsShowing (Recv c) = ⊥
IsShowing (Fan c) = ⊥
IsShowing (Gate c) = ⊥
IsShowing (Drill c) = ⊥

-- Where memory is refused a command has touched nothing. A showing has touched nothing, or its sink has gained exactly
-- what is written of some records at the front.
abbrev pub LeavesAtMemory : {I O E L C : Type 0} → Tells I O E → Shelf I O E L C → Shelf I O E L C → CommandLine
    → Type 0
LeavesAtMemory tells old new c = Untouched old new c ⊎ (IsShowing c × Ran tells old new c statuses.Memory)
