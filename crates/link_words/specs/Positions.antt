-- Which words of a command line are links.
use Rattle.std.specs.Prelude.{ℕ, ◌-◌, ◌==◌, Bool, true, false, not, List, [], ◌∷◌, ◌&&◌, ◌||◌, if◌then◌else◌, codes}
use Rattle.std.specs.Prelude.{Option, Some, None}
use Rattle.std.specs.Str.{bytes_eq}
use Rattle.link_words.specs.declared.positions.Scan.{Scan}
use Rattle.link_words.specs.Texts.{Word, split_at}
use Rattle.link_words.specs.Urls.{is_written}

-- a word begins with `-`, and isn't that alone: before `--` it is an option, or `--` itself
abbrev pub is_option : Word → Bool
is_option [] = false
is_option (first ∷ []) = false
is_option (first ∷ second ∷ rest) = first == 45

-- the word behind which each has its meaning by its place
abbrev pub is_last_option : Word → Bool
is_last_option word = bytes_eq word (codes "--")

-- the options of commands over links that stand for themselves
abbrev pub is_flag : Word → Bool
is_flag word =
    bytes_eq word (codes "--nulls") || (bytes_eq word (codes "--wide") || (bytes_eq word (codes "--full")
    || (bytes_eq word (codes "--echo") || (bytes_eq word (codes "--listen") || (bytes_eq word (codes "--drift")
    || (bytes_eq word (codes "--call") || (bytes_eq word (codes "--in-full") || bytes_eq word (codes "--help"))))))))

-- an option has an `=` in it
abbrev pub has_value : Option (Word × Word) → Bool
has_value None = false
has_value (Some parts) = true

-- the value of an option is the word behind it
abbrev pub wants_value : Word → Bool
wants_value word = not (is_last_option word) && (not (is_flag word) && not (has_value (split_at 61 word)))

-- a word is given by its place
abbrev pub is_position : Scan → Word → Bool
is_position scan word = not scan.is_value && (scan.is_ended || not (is_option word))

-- it is a link
abbrev pub is_link : Scan → Word → Bool
is_link scan word = is_position scan word && scan.ahead == 0

-- what is known of the word behind one that is given by its place, one that is a value, and an option
abbrev pub after : Scan → Word → Scan
after scan word =
    if is_position scan word then record scan { ahead = scan.ahead - 1 }
    else (if scan.is_value then record scan { is_value = false }
    else record scan { is_value = wants_value word; is_ended = is_last_option word })

-- how many positions of a command stand before its links
abbrev pub ahead_of : Word → Option ℕ
ahead_of command =
    if bytes_eq command (codes "gate") then Some 0
    else (if bytes_eq command (codes "send") || (bytes_eq command (codes "recv") || bytes_eq command (codes "fan"))
    then Some 1 else None)

-- what is known of the word behind a command
abbrev pub scan_by : Option ℕ → Option Scan
scan_by None = None
scan_by (Some ahead) = Some (record { ahead = ahead; is_value = false; is_ended = false })

-- likewise of the third word
abbrev pub scan_of : List Word → Option Scan
scan_of [] = None
scan_of (program ∷ []) = None
scan_of (program ∷ command ∷ rest) = scan_by (ahead_of command)

-- one of the words is a link that has a name or a URL
abbrev pub written_from : Scan → List Word → Bool
written_from scan [] = false
written_from scan (word ∷ rest) = (is_link scan word && is_written word) || written_from (after scan word) rest
