-- Counts by their names.
use Rattle.std.specs.Prelude.{ℕ, List, map}
use Rattle.outside_host.specs.declared.counts.Count.{Count}

-- a count and what was counted
pub record NamedCount : Type 0 where
  pub name : List ℕ
  pub count : ℕ

-- what a host is told by these
abbrev pub named : List Count → List NamedCount
named counts = map (λ row. record { name = row.name.now; count = row.count }) counts
