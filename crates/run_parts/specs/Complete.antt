-- A run in which nothing failed, or one link didn't.
use Rattle.std.specs.Prelude.{◌≡◌, ◌<◌, ℕ}
use Rattle.outside_io.specs.Causes.{Rose}
use Rattle.outside_host.specs.Shelf.{Shelf}
use Rattle.outside_host.specs.declared.host.Place.{Place}
use Rattle.outside_host.specs.declared.host.Place.TheVariants.{Here, Back}
use Rattle.outside_net.specs.Links.{LinkTells}
use Rattle.rist_words.specs.CommandLine.{CommandLine}
use Rattle.run_parts.specs.Names.{source_name, sink_name}
use Rattle.run_parts.specs.Sealing.{FailedAt}
use Rattle.run_parts.specs.Objects.{Tells}

-- no read, no write and no drawing of random words failed
pub record NoneFailed {I O E L C : Type 0} (tells : Tells I O E) (old new : Shelf I O E L C)
    (c : CommandLine) : Type 0 where
  pub reads : (source spent : I) → old.sources (source_name c) ≡ Here source → new.sources (source_name c) ≡ Back spent
      → Rose (tells.read_faults source) (tells.read_faults spent) → ⊥
  pub writes : (sink filled : O) → old.sinks (sink_name c) ≡ Here sink → new.sinks (sink_name c) ≡ Back filled
      → Rose (tells.write_faults sink) (tells.write_faults filled) → ⊥
  pub words : FailedAt tells old new → ⊥

-- one of so many links stays up: the count of its failed calls didn't rise
pub record StaysUp {L : Type 0} (line : LinkTells L) (old new : ℕ → Place L) (count : ℕ) : Type 0 where
  pub place : ℕ
  pub among : place < count
  pub up : (was is : L) → old place ≡ Here was → new place ≡ Back is → Rose (line.faults was) (line.faults is) → ⊥
