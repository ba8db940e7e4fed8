-- Whole numbers of which only the lowest bits are sent (RFC 3550, appendix A.1).
use Rattle.std.specs.Prelude.{◌≡◌, ℕ, ◌+◌, ◌-◌, ◌/◌, ◌%◌, ◌^◌, ◌<◌, ◌≤◌, nat_lt, if◌then◌else◌, Option, None, Some}
use Rattle.seq_unwrap.specs.declared.width.Width.{Width}
use Rattle.seq_unwrap.specs.declared.width.Width.TheVariants.{W16, W32}

-- how many numbers there are before the sent bits are the same again
abbrev pub cycle_of : Width → ℕ
cycle_of W16 = 65536
cycle_of W32 = 4294967296

-- x ends in the word, and lies from half a cycle below the reference to less than half a cycle above it
pub record IsNearest (cycle reference word x : ℕ) : Type 0 where
  pub ends : x % cycle ≡ word
  pub low : reference ≤ x + cycle / 2
  pub high : x < reference + cycle / 2

-- the number that is nearest, computed
unfoldable pub nearest : ℕ → ℕ → ℕ → ℕ
nearest cycle reference word = reference - cycle / 2 + (word + cycle - (reference - cycle / 2) % cycle) % cycle

-- the number that is meant, and none where the number space has ended
abbrev pub unwrapped : ℕ → Width → ℕ → Option ℕ
unwrapped reference width word =
    let number = nearest (cycle_of width) reference word in
    if nat_lt number (2 ^ 62) then Some number else None
