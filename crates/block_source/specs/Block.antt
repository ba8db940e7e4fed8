-- What a contract sees of a source that is read in large pieces through a block.
use Rattle.std.specs.Prelude.{◌≡◌, ℕ, ◌-◌, List, ◌++◌, take, drop, Option, IfSome}
use Rattle.std.specs.Option.{option_map}

-- `remaining`: the octets that stand in the block, and then what remains of the source; `ahead`: those in the block;
-- `taken`: those that were taken last, which still stand before them
pub record BlockState : Type 0 where
  pub remaining : Option (List ℕ)
  pub ahead : List ℕ
  pub taken : List ℕ
  pub faults : ℕ

-- how many octets are taken from the source ahead of need at most: one block
abbrev pub most_ahead : ℕ
most_ahead = 65536

-- the octets of a block between two places
abbrev pub between : List ℕ → ℕ → ℕ → List ℕ
between octets from to = take (to - from) (drop from octets)

-- the octets in the block, and then those of the source
abbrev pub behind : List ℕ → Option (List ℕ) → Option (List ℕ)
behind ahead rest = option_map (λ octets. ahead ++ octets) rest

-- no octet of the source remains behind the block, where it tells
abbrev pub IsAllAhead : BlockState → Type 0
IsAllAhead block = IfSome block.remaining (λ octets. octets ≡ block.ahead)
