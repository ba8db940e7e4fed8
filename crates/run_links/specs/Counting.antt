-- What a receiver counted, as its host takes it.
use Rattle.std.specs.Prelude.{List, [], ◌∷◌, codes}
use Rattle.outside_host.specs.Counts.{NamedCount}
use Rattle.rist_ends.specs.declared.counts.Counts.{Counts}

-- its verdicts on media packets, and the datagrams that it refused, each by its name
abbrev pub named_counts : Counts → List NamedCount
named_counts c =
    record { name = codes "kept"; count = c.kept } ∷ record { name = codes "late"; count = c.late }
    ∷ record { name = codes "behind"; count = c.behind } ∷ record { name = codes "early"; count = c.early }
    ∷ record { name = codes "twice"; count = c.twice } ∷ record { name = codes "span"; count = c.span }
    ∷ record { name = codes "stranger"; count = c.stranger }
    ∷ record { name = codes "exhausted"; count = c.exhausted }
    ∷ record { name = codes "refused"; count = c.refused } ∷ []
