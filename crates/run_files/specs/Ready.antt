-- What a host that a line over a source and a sink begins with has to be.
use Rattle.std.specs.Prelude.{◌≡◌, Bool, true, false, IsTrue}
use Rattle.outside_host.specs.Shelf.{Shelf}
use Rattle.rist_words.specs.CommandLine.{CommandLine, Replay, Show, Count, Report, Pack, Split, Send, Recv, Fan, Gate}
use Rattle.rist_words.specs.CommandLine.{Drill}

-- a line is a packing
abbrev pub is_packing : CommandLine → Bool
is_packing (Replay c) = false
is_packing (Show c) = false
is_packing (Count c) = false
is_packing (Report c) = false
is_packing (Pack c) = true
is_packing (Split c) = false
is_packing (Send c) = false
is_packing (Recv c) = false
is_packing (Fan c) = false
is_packing (Gate c) = false
is_packing (Drill c) = false

-- A host tells what stands on its shelf, and for a packing, whose nonces are the first random words, it has handed out
-- none yet.
abbrev pub IsReady : {I O E L C : Type 0} → Bool → Shelf I O E L C → CommandLine → Type 0
IsReady told shelf c = IsTrue told × (is_packing c ≡ true → shelf.next_entropy ≡ 0)
