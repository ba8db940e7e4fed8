-- Where the words of a command line, the program's name first, name a file with a passphrase. A word is its octets.
use Rattle.std.specs.Prelude.{◌≤◌, ◌+◌, ◌==◌, ◌&&◌, ◌||◌, ℕ, Bool, true, false, not, nat_lt, List, [], ◌∷◌, drop}
use Rattle.std.specs.Prelude.{length, Option, Some, None, Result, Ok, Err, if◌then◌else◌, codes}
use Rattle.std.specs.List.{after_first, before_first, position_or_len}
use Rattle.std.specs.Str.{bytes_eq}
use Rattle.pass_words.specs.declared.options.PassOption.{PassOption}
use Rattle.pass_words.specs.declared.options.PassOption.TheVariants.{Own, Incoming}
use Rattle.pass_words.specs.declared.options.PassFault.{PassFault}
use Rattle.pass_words.specs.declared.options.PassFault.TheVariants.{Twice, NoName}
use Rattle.pass_words.specs.declared.options.PassFile.{PassFile}

-- a word of a command line
abbrev pub Word : Type 0
Word = List ℕ

-- the options before a passphrase
abbrev pub pass_word_of : PassOption → Word
pass_word_of Own = codes "--pass"
pass_word_of Incoming = codes "--in-pass"

-- those before the name of a file with one
abbrev pub file_word_of : PassOption → Word
file_word_of Own = codes "--pass-file"
file_word_of Incoming = codes "--in-pass-file"

-- the command has the option
abbrev pub has_option : PassOption → Word → Bool
has_option Own command =
    bytes_eq command (codes "replay") || (bytes_eq command (codes "show") || (bytes_eq command (codes "count")
    || (bytes_eq command (codes "report") || (bytes_eq command (codes "pack") || (bytes_eq command (codes "split")
    || (bytes_eq command (codes "send") || (bytes_eq command (codes "recv") || (bytes_eq command (codes "fan")
    || bytes_eq command (codes "gate")))))))))
has_option Incoming command = bytes_eq command (codes "gate")

-- what stands before and behind the first `=` of a word, if it has one
abbrev pub split_at_equals : Word → Option (Word × Word)
split_at_equals word =
    if nat_lt (position_or_len (λ c. c == 61) word) (length word)
    then Some (before_first (λ c. c == 61) word, after_first (λ c. c == 61) word) else None

-- a word is this option, alone or with its value behind `=`
abbrev pub is_option_of : Word → Word → Option (Word × Word) → Bool
is_option_of option word None = bytes_eq word option
is_option_of option word (Some parts) = bytes_eq parts.0 option

-- the same of a word
abbrev pub is_option : Word → Word → Bool
is_option option word = is_option_of option word (split_at_equals word)

-- the word behind which each has its meaning by its place
abbrev pub is_last_option : Word → Bool
is_last_option word = bytes_eq word (codes "--")

-- a word is the option before a passphrase or a file's name
abbrev pub gives_pass : PassOption → Word → Bool
gives_pass option word = is_option (pass_word_of option) word || is_option (file_word_of option) word

-- how many such words there are, before the last option
abbrev pub pass_count : PassOption → List Word → ℕ
pass_count option [] = 0
pass_count option (word ∷ rest) =
    if is_last_option word then 0
    else (if gives_pass option word then pass_count option rest + 1 else pass_count option rest)

-- the first option before a file's name, of words of which the first has this index
abbrev pub file_from : PassOption → ℕ → List Word → Option ℕ
file_from option at [] = None
file_from option at (word ∷ rest) =
    if is_last_option word then None
    else (if is_option (file_word_of option) word then Some at else file_from option (at + 1) rest)

-- a word can be a value: it isn't empty, and begins with `-` only where it is that alone
abbrev pub is_value : Word → Bool
is_value [] = false
is_value (first ∷ []) = true
is_value (first ∷ second ∷ rest) = not (first == 45)

-- the value of an option: what stands behind its `=`, which isn't empty, or else the next word; and whether it is a
-- word of its own
abbrev pub value_with : Option (Word × Word) → List Word → Option (Word × Bool)
value_with (Some parts) rest = if length parts.1 == 0 then None else Some (parts.1, false)
value_with None [] = None
value_with None (next ∷ rest) = if is_value next then Some (next, true) else None

-- the same of the option that stands first
abbrev pub value_of : List Word → Option (Word × Bool)
value_of [] = None
value_of (word ∷ rest) = value_with (split_at_equals word) rest

-- a file's name, the option's index, and whether the name is a word of its own
pub record Place : Type 0 where
  pub name : Word
  pub at : ℕ
  pub is_apart : Bool

-- the place of an option with this value
abbrev pub place_of : PassOption → ℕ → Option (Word × Bool) → Result (Option Place) PassFault
place_of option at None = Err (NoName option)
place_of option at (Some value) = Ok (Some (record { name = value.0; at = at; is_apart = value.1 }))

-- the place of the first option before a file's name, where there is one: then no other option gives a passphrase
abbrev pub place_among : PassOption → List Word → Option ℕ → Result (Option Place) PassFault
place_among option words None = Ok None
place_among option words (Some at) =
    if pass_count option words == 1 then place_of option at (value_of (drop at words)) else Err (Twice option)

-- the words' command has the option
abbrev pub is_of_command : PassOption → List Word → Bool
is_of_command option [] = false
is_of_command option (program ∷ []) = false
is_of_command option (program ∷ command ∷ rest) = has_option option command

-- the file that the words name, where their command has the option
abbrev pub pass_file_of : PassOption → List Word → Result (Option Place) PassFault
pass_file_of option words =
    if is_of_command option words then place_among option words (file_from option 0 words) else Ok None

-- a file, without where its name lies in memory
abbrev pub shown_place : Result (Option PassFile) PassFault → Result (Option Place) PassFault
shown_place (Ok None) = Ok None
shown_place (Ok (Some file)) = Ok (Some (record { name = file.name.now; at = file.at; is_apart = file.is_apart }))
shown_place (Err fault) = Err fault

-- the option, and its value where that is a word of its own, are among so many words
abbrev pub IsWithin : ℕ → Bool → ℕ → Type 0
IsWithin at false count = at + 1 ≤ count
IsWithin at true count = at + 2 ≤ count

-- the words are those that ask for the help of a command
abbrev pub asks_help : List Word → Bool
asks_help (program ∷ command ∷ word ∷ []) = bytes_eq word (codes "--help")
asks_help words = false

-- a variable stands for a passphrase: the words' command has the option, and they neither give one nor ask for help
abbrev pub takes_variable : List Word → Bool
takes_variable words = not (asks_help words) && (is_of_command Own words && pass_count Own words == 0)
