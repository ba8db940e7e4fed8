-- The texts of the help and of the version (this profile): the pieces that the program writes one behind another.
use Rattle.std.specs.Prelude.{List, map}
use Rattle.std.specs.List.{concat}
use Rattle.clap.specs.Words.{Text}
use Rattle.rist_help.specs.declared.asking.Ask.{Ask}
use Rattle.rist_help.specs.declared.asking.Ask.TheVariants.{Help, HelpOf, Version}
use Rattle.rist_help.specs.declared.asking.Topic.TheVariants.{Replay, Show, Count, Report, Pack, Split, Send, Recv}
use Rattle.rist_help.specs.declared.asking.Topic.TheVariants.{Fan, Gate, Drill}
use Rattle.rist_help.specs.declared.help.TheConstants.{VERSION_PIECES, PROGRAM_PIECES, REPLAY_PIECES, SHOW_PIECES}
use Rattle.rist_help.specs.declared.help.TheConstants.{COUNT_PIECES, REPORT_PIECES, PACK_PIECES}
use Rattle.rist_help.specs.declared.help.TheConstants.{SPLIT_PIECES, SEND_PIECES, RECV_PIECES, FAN_PIECES}
use Rattle.rist_help.specs.declared.help.TheConstants.{GATE_PIECES, DRILL_PIECES}

-- the pieces of each text: the version; how the program is called; and of a command its arguments and its options, with
-- their ranges and defaults
abbrev pub pieces_of : Ask → List Text
pieces_of Version = map (λ piece. piece.now) VERSION_PIECES
pieces_of Help = map (λ piece. piece.now) PROGRAM_PIECES
pieces_of (HelpOf Replay) = map (λ piece. piece.now) REPLAY_PIECES
pieces_of (HelpOf Show) = map (λ piece. piece.now) SHOW_PIECES
pieces_of (HelpOf Count) = map (λ piece. piece.now) COUNT_PIECES
pieces_of (HelpOf Report) = map (λ piece. piece.now) REPORT_PIECES
pieces_of (HelpOf Pack) = map (λ piece. piece.now) PACK_PIECES
pieces_of (HelpOf Split) = map (λ piece. piece.now) SPLIT_PIECES
pieces_of (HelpOf Send) = map (λ piece. piece.now) SEND_PIECES
pieces_of (HelpOf Recv) = map (λ piece. piece.now) RECV_PIECES
pieces_of (HelpOf Fan) = map (λ piece. piece.now) FAN_PIECES
pieces_of (HelpOf Gate) = map (λ piece. piece.now) GATE_PIECES
pieces_of (HelpOf Drill) = map (λ piece. piece.now) DRILL_PIECES

-- what is written for what is asked: all pieces, one behind another
unfoldable pub answer_of : Ask → Text
answer_of ask = concat (pieces_of ask)
