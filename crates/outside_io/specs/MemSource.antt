-- What a source in memory of either form tells, its calls, and what a read of it gives and leaves.
use Rattle.std.specs.Prelude.{◌≡◌, ℕ, ◌+◌, List, length, min, drop, Some, Option}
use Rattle.outside_io.specs.Calls.{Calls, call_done, call_failed}
use Rattle.outside_io.specs.Memory.{ReadsToCut}
use Rattle.outside_io.specs.declared.mem_source.MemSource.{MemSource}
use Rattle.outside_io.specs.declared.mem_source.MemSource.TheVariants.{Whole, Cut}

-- the octets that a source in memory has still to give, cut or not
abbrev pub mem_remaining : MemSource → Option (List ℕ)
mem_remaining (Whole s) = Some s.remaining
mem_remaining (Cut s) = Some s.remaining

-- its calls
abbrev pub source_calls : MemSource → Calls
source_calls (Whole s) = s.calls
source_calls (Cut s) = s.calls

-- how many octets a read gives for a slice of this length: all that fits, or up to the next cut
abbrev pub GivesCount : MemSource → ℕ → ℕ → Type 0
GivesCount (Whole s) room count = count ≡ min room (length s.remaining)
GivesCount (Cut s) room count = ReadsToCut s room count

-- the source after a read that gave so many octets
abbrev pub after_read : MemSource → ℕ → MemSource
after_read (Whole s) count = Whole (record { remaining = drop count s.remaining; calls = call_done s.calls })
after_read (Cut s) count =
    Cut (record {
      remaining = drop count s.remaining;
      given = s.given + count;
      cuts = s.cuts;
      calls = call_done s.calls;
    })

-- the source after a read that failed
abbrev pub after_fault : MemSource → MemSource
after_fault (Whole s) = Whole (record s { calls = call_failed s.calls })
after_fault (Cut s) = Cut (record s { calls = call_failed s.calls })
