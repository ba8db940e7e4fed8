-- What is printed for a failure, and for counts.
use Rattle.std.specs.Prelude.{ℕ, List, [], ◌∷◌, ◌++◌, flat_map, codes, decimal}
use Rattle.outside_host.specs.declared.host.HostBad.{HostBad}
use Rattle.outside_host.specs.declared.host.HostBad.TheVariants.{Failed, NoMemory}
use Rattle.outside_host.specs.declared.counts.Count.{Count}

-- the text of each refusal of a host
abbrev pub host_text : HostBad → List ℕ
host_text Failed = codes "cannot open"
host_text NoMemory = codes "out of memory"

-- a count behind its name
abbrev pub count_text : Count → List ℕ
count_text row = row.name.now ++ (codes " " ++ decimal row.count)

-- each count, with a comma and a blank between
abbrev pub counts_text : List Count → List ℕ
counts_text [] = []
counts_text (row ∷ rest) = count_text row ++ flat_map (λ other. codes ", " ++ count_text other) rest

-- the line that reports them
abbrev pub report_text : List Count → List ℕ
report_text counts = codes "rist: " ++ counts_text counts
