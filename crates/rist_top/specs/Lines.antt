-- Whether the words of a command line, the program's name first, are a line.
use Rattle.std.specs.Prelude.{◌≡◌, List, Option, Some, None, map, string_bytes}
use Rattle.std.specs.declared.string.String.{String}
use Rattle.rist_help.specs.Asks.{ask_of}
use Rattle.rist_help.specs.declared.Ask.{Ask}
use Rattle.rist_words.specs.CommandLine.{CommandLine, Replay, Show, Count, Report, Pack, Split, Send, Recv, Fan, Gate}
use Rattle.rist_words.specs.CommandLine.{Drill}
use Rattle.rist_words.specs.CommandLine.{SplitCommand, SendCommand, RecvCommand, FanCommand, GateCommand, DrillCommand}
use Rattle.rist_words.specs.CommandLine.{line_of}
use Rattle.run_files.specs.Works.{IsOverFiles}

-- the words are this line
abbrev pub IsLine : {A : Type 0} → List (String A) → CommandLine → Type 0
IsLine words c = line_of (map string_bytes words) ≡ Some c

-- a command that waits for nobody: no receiving, of one flow or several, and no gateway does
abbrev pub IsPlain : CommandLine → Type 0
IsPlain (Replay c) = Unit {0}
IsPlain (Show c) = Unit {0}
IsPlain (Count c) = Unit {0}
IsPlain (Report c) = Unit {0}
IsPlain (Pack c) = Unit {0}
IsPlain (Split c) = Unit {0}
IsPlain (Send c) = Unit {0}
IsPlain (Recv c) = ⊥
IsPlain (Fan c) = ⊥
IsPlain (Gate c) = ⊥
IsPlain (Drill c) = Unit {0}

-- a line, if its command waits for nobody
abbrev pub plain_line : Option CommandLine → Option CommandLine
plain_line None = None
plain_line (Some (Replay c)) = Some (Replay c)
plain_line (Some (Show c)) = Some (Show c)
plain_line (Some (Count c)) = Some (Count c)
plain_line (Some (Report c)) = Some (Report c)
plain_line (Some (Pack c)) = Some (Pack c)
plain_line (Some (Split c)) = Some (Split c)
plain_line (Some (Send c)) = Some (Send c)
plain_line (Some (Recv c)) = None
plain_line (Some (Fan c)) = None
plain_line (Some (Gate c)) = None
plain_line (Some (Drill c)) = Some (Drill c)

-- the words are no line whose command waits for nobody
abbrev pub IsNoPlainLine : {A : Type 0} → List (String A) → Type 0
IsNoPlainLine words = plain_line (line_of (map string_bytes words)) ≡ None

-- the words are no line of a command
abbrev pub IsNoLine : {A : Type 0} → List (String A) → Type 0
IsNoLine words = line_of (map string_bytes words) ≡ None

-- the words ask neither for help nor for the version
abbrev pub AsksNothing : {A : Type 0} → List (String A) → Type 0
AsksNothing words = ask_of (map string_bytes words) ≡ None

-- P holds of what the words ask for, if they ask
abbrev pub IfAsk : {A : Type 0} → List (String A) → (Ask → Type 0) → Type 0
IfAsk words P = (ask : Ask) → ask_of (map string_bytes words) ≡ Some ask → P ask

-- P holds of the line that they are, if they are one over a source and a sink
abbrev pub IfFiles : {A : Type 0} → List (String A) → (CommandLine → Type 0) → Type 0
IfFiles words P = (c : CommandLine) → IsLine words c → IsOverFiles c → P c

-- P holds of the split that they are, if they are one
abbrev pub IfSplit : {A : Type 0} → List (String A) → (SplitCommand → Type 0) → Type 0
IfSplit words P = (c : SplitCommand) → IsLine words (Split c) → P c

-- P holds of the sending that they are, if they are one
abbrev pub IfSend : {A : Type 0} → List (String A) → (SendCommand → Type 0) → Type 0
IfSend words P = (c : SendCommand) → IsLine words (Send c) → P c

-- P holds of the receiving that they are, if they are one
abbrev pub IfReceiving : {A : Type 0} → List (String A) → (RecvCommand → Type 0) → Type 0
IfReceiving words P = (c : RecvCommand) → IsLine words (Recv c) → P c

-- P holds of the receiving of several flows that they are, if they are one
abbrev pub IfFan : {A : Type 0} → List (String A) → (FanCommand → Type 0) → Type 0
IfFan words P = (c : FanCommand) → IsLine words (Fan c) → P c

-- P holds of the gateway that they are, if they are one
abbrev pub IfGate : {A : Type 0} → List (String A) → (GateCommand → Type 0) → Type 0
IfGate words P = (c : GateCommand) → IsLine words (Gate c) → P c

-- P holds of the simulated run that they are, if they are one
abbrev pub IfDrill : {A : Type 0} → List (String A) → (DrillCommand → Type 0) → Type 0
IfDrill words P = (c : DrillCommand) → IsLine words (Drill c) → P c
