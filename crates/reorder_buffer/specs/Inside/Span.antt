-- Numbers that lie within a span.
use Rattle.std.specs.Prelude.{ℕ, ◌+◌, ◌<◌, List, [], ◌∷◌}
use Rattle.receiver_rules.specs.Packets.{Packet}

-- each number is below the bound
abbrev pub AllBelow : ℕ → List Packet → Type 0
AllBelow bound [] = Unit {0}
AllBelow bound (p ∷ ps) = (p.number < bound) × AllBelow bound ps

-- no number is the capacity or more above the first
abbrev pub IsWithin : ℕ → List Packet → Type 0
IsWithin capacity [] = Unit {0}
IsWithin capacity (p ∷ ps) = AllBelow (p.number + capacity) ps
