-- What the objects of a host tell.
use Rattle.std.specs.Prelude.{ℕ, List, Option}
use Rattle.outside_io.specs.Told.{Passage}
use Rattle.outside_net.specs.Links.{LinkTells}

-- what remains of its sources, as octets or as the payloads of datagrams, what its sinks hold and which random words
-- remain, where they tell, and how many calls of each failed
pub record Tells (I O E : Type 0) : Type 0 where
  pub remaining : I → Option (List ℕ)
  pub payloads : I → Option (List (List ℕ))
  pub read_faults : I → ℕ
  pub contents : O → Option (List ℕ)
  pub write_faults : O → ℕ
  pub words : E → Option (List ℕ)
  pub word_faults : E → ℕ

-- what a source and a sink tell before their work and after it
abbrev pub passage : {I O E : Type 0} → Tells I O E → I → I → O → O → Passage
passage tells source spent sink filled =
    record {
      had = tells.remaining source;
      left = tells.remaining spent;
      held = tells.contents sink;
      holds = tells.contents filled;
    }

-- what links and clocks of a host tell
pub record TellsLive (L C : Type 0) : Type 0 where
  pub line : LinkTells L
  pub moments : C → Option (ℕ → ℕ)

-- of links and clocks that tell this
abbrev pub live_of : {L C : Type 0} → LinkTells L → (C → Option (ℕ → ℕ)) → TellsLive L C
live_of line moments = record { line = line; moments = moments }
