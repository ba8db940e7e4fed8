-- The parser's commands, as links are looked for among their words.
use Rattle.std.specs.Prelude.{ℕ, suc, Bool, true, false, not, List, [], ◌∷◌, ◌++◌, Option, Some, None, if◌then◌else◌}
use Rattle.std.specs.Prelude.{codes, is_some, option_map}
use Rattle.std.specs.List.{list_all, list_any}
use Rattle.std.specs.Str.{bytes_eq}
use Rattle.clap.specs.Words.{Rule, Shape, Text}
use Rattle.clap.specs.declared.builder.ArgAction.{ArgAction}
use Rattle.clap.specs.declared.builder.ArgAction.TheVariants.{Append, SetTrue}
use Rattle.link_words.specs.Positions.{ahead_of, is_flag}

-- an argument is a flag
abbrev pub is_set_alone : Option ArgAction → Bool
is_set_alone (Some SetTrue) = true
is_set_alone action = false

-- an argument takes all texts that are left, by their places
abbrev pub takes_all : Option ArgAction → Bool
takes_all (Some Append) = true
takes_all action = false

-- how many positions stand before the one that takes all that are left, where there is such a one
abbrev pub positions_ahead : List Rule → Option ℕ
positions_ahead [] = None
positions_ahead (rule ∷ rest) =
    if is_some rule.long then positions_ahead rest
    else (if takes_all rule.action then Some 0 else option_map suc (positions_ahead rest))

-- an argument is looked over as a flag exactly where it is one
abbrev pub is_taken_so : Rule → Option Text → Bool
is_taken_so rule None = true
is_taken_so rule (Some name) =
    if is_flag (codes "--" ++ name) then is_set_alone rule.action else not (is_set_alone rule.action)

-- likewise of the arguments of a command, where it has links
abbrev pub are_taken_so : Shape → Bool
are_taken_so command =
    if is_some (ahead_of command.name) then list_all (λ rule. is_taken_so rule rule.long) command.rules else true

-- an option has this name
abbrev pub is_named : Text → Option Text → Bool
is_named name None = false
is_named name (Some long) = bytes_eq long name

-- a command has an option of this name
abbrev pub has_named : Text → Shape → Bool
has_named name command = list_any (λ rule. is_named name rule.long) command.rules
