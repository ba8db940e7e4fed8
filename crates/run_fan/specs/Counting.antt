-- What the receiver of a place counted, as its host takes it.
use Rattle.std.specs.Prelude.{ℕ, List, ◌∷◌, codes}
use Rattle.outside_host.specs.Counts.{NamedCount}
use Rattle.rist_ends.specs.declared.counts.Counts.{Counts}
use Rattle.run_links.specs.Counting.{named_counts}

-- its counts behind the port of its place
abbrev pub counts_at : ℕ → Counts → List NamedCount
counts_at port c = record { name = codes "port"; count = port } ∷ named_counts c
