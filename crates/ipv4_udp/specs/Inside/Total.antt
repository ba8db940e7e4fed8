-- The one's complement sum of words by their plain sum.
use Rattle.std.specs.Prelude.{ℕ, ◌+◌, ◌-◌, ◌%◌, if◌then◌else◌, ◌==◌}

-- what a plain sum of words becomes when its carries are added in again: 65,535 stands for each of its multiples but 0
abbrev pub folded_total : ℕ → ℕ
folded_total total = if total == 0 then 0 else 1 + (total - 1) % 65535
