-- What a contract sees of sources, sinks and random words in memory.
use Rattle.std.specs.Prelude.{ℕ, ◌<◌, ◌≤◌, ◌≡◌, ◌⊎◌, ◌+◌, ◌-◌, min, List, length, drop, get_or}
use Rattle.outside_io.specs.Calls.{Calls, no_calls, call_done}

-- a source: the octets that remain
pub record MemorySource : Type 0 where
  pub remaining : List ℕ
  pub calls : Calls

-- a source that is cut: the octets that remain, how many were given, and the cuts, each the number of octets before it
pub record CutSource : Type 0 where
  pub remaining : List ℕ
  pub given : ℕ
  pub cuts : List ℕ
  pub calls : Calls

-- nothing was read of these octets
abbrev pub cut_source : List ℕ → List ℕ → List ℕ → CutSource
cut_source octets cuts failing = record { remaining = octets; given = 0; cuts = cuts; calls = no_calls failing }

-- a source after a read that gave so many octets
abbrev pub after_read : CutSource → ℕ → CutSource
after_read s count =
    record { remaining = drop count s.remaining; given = s.given + count; cuts = s.cuts; calls = call_done s.calls }

-- random words: those that remain
pub record MemoryWords : Type 0 where
  pub remaining : List ℕ
  pub calls : Calls

-- a sink: the octets that it holds, and how many it can hold
pub record MemorySink : Type 0 where
  pub contents : List ℕ
  pub room : ℕ
  pub calls : Calls

-- of the first `count` cuts the earliest past this place, or the end of the octets where none comes before it
pub record IsNextCut (cuts : List ℕ) (count at end cut : ℕ) : Type 0 where
  pub here : at ≤ cut
  pub past : at < end → at < cut
  pub inside : cut ≤ end
  pub first : (k : ℕ) → k < count → at < get_or cuts k 0 → cut ≤ get_or cuts k 0
  pub one : (cut ≡ end) ⊎ ((k : ℕ) × (k < length cuts) × (get_or cuts k 0 ≡ cut))

-- a read gave what stands before the next cut, or the front of it that fits a slice of this length
pub record ReadsToCut (s : CutSource) (room count : ℕ) : Type 0 where
  pub cut : ℕ
  pub next : IsNextCut s.cuts (length s.cuts) s.given (s.given + length s.remaining) cut
  pub fits : count ≡ min room (cut - s.given)

-- this cut counts where it is past the place and before the next one so far
abbrev pub IsEarlier : ℕ → ℕ → ℕ → ℕ → Type 0
IsEarlier at cut next result =
    ((at < cut) × (cut < next) × (result ≡ cut)) ⊎ ((at < cut → next ≤ cut) × (result ≡ next))
