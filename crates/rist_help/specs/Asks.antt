-- What words ask for that are no command: the help, that of one command, or the version (this profile).
use Rattle.std.specs.Prelude.{List, [], ◌∷◌, Option, Some, None, option_map, if◌then◌else◌, codes}
use Rattle.std.specs.Str.{bytes_eq}
use Rattle.clap.specs.Words.{Text}
use Rattle.rist_help.specs.declared.asking.Topic.{Topic}
use Rattle.rist_help.specs.declared.asking.Topic.TheVariants.{Replay, Show, Count, Report, Pack, Split, Send, Recv}
use Rattle.rist_help.specs.declared.asking.Topic.TheVariants.{Fan, Gate, Drill}
use Rattle.rist_help.specs.declared.asking.Ask.{Ask}
use Rattle.rist_help.specs.declared.asking.Ask.TheVariants.{Help, HelpOf, Version}

-- the command of this name
abbrev pub topic_of : Text → Option Topic
topic_of name =
    if bytes_eq name (codes "replay") then Some Replay
    else (if bytes_eq name (codes "show") then Some Show
    else (if bytes_eq name (codes "count") then Some Count
    else (if bytes_eq name (codes "report") then Some Report
    else (if bytes_eq name (codes "pack") then Some Pack
    else (if bytes_eq name (codes "split") then Some Split
    else (if bytes_eq name (codes "send") then Some Send
    else (if bytes_eq name (codes "recv") then Some Recv
    else (if bytes_eq name (codes "fan") then Some Fan
    else (if bytes_eq name (codes "gate") then Some Gate
    else (if bytes_eq name (codes "drill") then Some Drill else None))))))))))

-- the name of each command
abbrev pub name_of_topic : Topic → Text
name_of_topic Replay = codes "replay"
name_of_topic Show = codes "show"
name_of_topic Count = codes "count"
name_of_topic Report = codes "report"
name_of_topic Pack = codes "pack"
name_of_topic Split = codes "split"
name_of_topic Send = codes "send"
name_of_topic Recv = codes "recv"
name_of_topic Fan = codes "fan"
name_of_topic Gate = codes "gate"
name_of_topic Drill = codes "drill"

-- what one word asks for
abbrev pub asked_by_word : Text → Option Ask
asked_by_word word =
    if bytes_eq word (codes "--help") then Some Help
    else (if bytes_eq word (codes "--version") then Some Version else None)

-- what two words ask for, of which the first names a command
abbrev pub asked_of_command : Text → Text → Option Ask
asked_of_command command word = if bytes_eq word (codes "--help") then option_map HelpOf (topic_of command) else None

-- what the words ask for, the program's name first: there is one word behind it, or a command's name and one
abbrev pub ask_of : List Text → Option Ask
ask_of [] = None
ask_of (program ∷ []) = None
ask_of (program ∷ word ∷ []) = asked_by_word word
ask_of (program ∷ command ∷ word ∷ []) = asked_of_command command word
ask_of (program ∷ command ∷ word ∷ more ∷ rest) = None
