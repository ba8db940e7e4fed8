-- What a run over several flows takes memory for.
use Rattle.std.specs.Prelude.{◌≡◌, ◌≤◌, ℕ, [], length, vec_capacity}
use Rattle.std.specs.List.{All}
use Rattle.fan_run.specs.declared.running.Memory.{Memory}

-- it is enough for so many links and so many places
pub record HasMemory {N K L C : Type 0} (count places : ℕ) (memory : Memory N K L C) : Type 0 where
  pub workers : (count ≤ vec_capacity memory.workers) × (memory.workers.items ≡ [])
  pub own : (count ≤ vec_capacity memory.own) × (memory.own.items ≡ [])
  pub rooms : length memory.rooms.items ≡ count
  pub places_are : All (λ came. length came.items ≡ places) memory.rooms.items
  pub came : length memory.came.items ≡ places
