-- What a run leaves as it stood.
use Rattle.std.specs.Prelude.{◌≡◌, ◌≢◌, ℕ, List, false}
use Rattle.outside_host.specs.Shelf.{Shelf}
use Rattle.rist_words.specs.CommandLine.{CommandLine}
use Rattle.run_parts.specs.Places.{CameBack, KeepsLive}
use Rattle.run_parts.specs.Names.{source_name, sink_name}
use Rattle.run_parts.specs.Frame.{draws_words}

-- what a line doesn't speak of stands as it stood, and what it speaks of came back: its source, its sink, and the first
-- random words where it draws some
pub record KeepsOthers {I O E L C : Type 0} (old new : Shelf I O E L C) (c : CommandLine) : Type 0 where
  pub sources : (n : List ℕ) → n ≢ source_name c → new.sources n ≡ old.sources n
  pub sinks : (n : List ℕ) → n ≢ sink_name c → new.sinks n ≡ old.sinks n
  pub entropies : (place : ℕ) → place ≢ 0 → new.entropies place ≡ old.entropies place
  pub source : CameBack (old.sources (source_name c)) (new.sources (source_name c))
  pub sink : CameBack (old.sinks (sink_name c)) (new.sinks (sink_name c))
  pub first : CameBack (old.entropies 0) (new.entropies 0)
  pub undrawn : draws_words c ≡ false → new.entropies 0 ≡ old.entropies 0
  pub live : KeepsLive old new

-- a sink is opened only where a source could be: where the source stands as it stood, so does the sink
abbrev pub OpensSourceFirst : {I O E L C : Type 0} → Shelf I O E L C → Shelf I O E L C → CommandLine → Type 0
OpensSourceFirst old new c =
    new.sources (source_name c) ≡ old.sources (source_name c) → new.sinks (sink_name c) ≡ old.sinks (sink_name c)
