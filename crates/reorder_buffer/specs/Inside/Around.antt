-- Places in a ring, from the place of a lowest number on.
use Rattle.std.specs.Prelude.{◌≡◌, ℕ, ◌+◌, ◌<◌, ◌≤◌, List, length, map, slice_index_or, Option, None, Some}
use Rattle.reorder_buffer.specs.Inside.Ring.{IsPlaced, tick_of}
use Rattle.reorder_buffer.specs.declared.ring.Held.{Held}

-- no number is below the lowest one, nor as far above it as there are places
pub record IsAround (low : ℕ) (places : List (Option Held)) (ticks : List ℕ) : Type 0 where
  pub some : 1 ≤ length places
  pub indexed : ticks ≡ map tick_of places
  pub placed : (place : ℕ) (held : Held) → slice_index_or places place None ≡ Some held
      → IsPlaced (length places) place held
  pub from : (place : ℕ) (held : Held) → slice_index_or places place None ≡ Some held → low ≤ held.number
  pub below : (place : ℕ) (held : Held) → slice_index_or places place None ≡ Some held
      → held.number < low + length places
