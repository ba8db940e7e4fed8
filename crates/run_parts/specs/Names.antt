-- The names of a line's source and of its sink.
use Rattle.std.specs.Prelude.{ℕ, List, [], codes}
use Rattle.rist_words.specs.CommandLine.{CommandLine, Replay, Show, Count, Report, Pack, Split, Send, Recv, Fan, Gate}
use Rattle.rist_words.specs.CommandLine.{Drill}

-- the name of a line's source; a receiving, of one flow or several, a gateway and a simulated run have none, since no
-- name is empty
abbrev pub source_name : CommandLine → List ℕ
source_name (Replay c) = c.capture
source_name (Show c) = c.capture
source_name (Count c) = c.capture
source_name (Report c) = c.capture
source_name (Pack c) = c.source
source_name (Split c) = c.capture
source_name (Send c) = c.source
source_name (Recv c) = []
source_name (Fan c) = []
source_name (Gate c) = []
source_name (Drill c) = []

-- the name of its sink: a showing, a counting and a simulated run write to the standard output, a split and a receiving
-- of several flows have one for each output, and a sending and a gateway have none
abbrev pub sink_name : CommandLine → List ℕ
sink_name (Replay c) = c.out
sink_name (Show c) = codes "-"
sink_name (Count c) = codes "-"
sink_name (Report c) = c.out
sink_name (Pack c) = c.capture
sink_name (Split c) = []
sink_name (Send c) = []
sink_name (Recv c) = c.out
sink_name (Fan c) = []
sink_name (Gate c) = []
sink_name (Drill c) = codes "-"
