-- The words with a passphrase in place of what names its file.
use Rattle.std.specs.Prelude.{◌≡◌, ◌≤◌, ◌++◌, ◌∷◌, ◌⊎◌, ℕ, Bool, true, false, List, length, map, string_bytes}
use Rattle.std.specs.Prelude.{Option, Some, None, Result, Ok, Err}
use Rattle.std.specs.declared.string.String.{String}
use Rattle.std.specs.List.{insert, remove}
use Rattle.pass_words.specs.declared.options.PassOption.{PassOption}
use Rattle.pass_words.specs.declared.options.PassOption.TheVariants.{Own, Incoming}
use Rattle.pass_words.specs.declared.options.PassFault.{PassFault}
use Rattle.pass_words.specs.Options.{Place, Word, pass_file_of, pass_word_of, takes_variable}

-- the option of a passphrase and the passphrase, as one word
abbrev pub phrase_word_of : PassOption → Word → Word
phrase_word_of option phrase = pass_word_of option ++ 61 ∷ phrase

-- the words without the option at an index, and without its value where that is a word of its own
abbrev pub without_file : {W : Type 0} → ℕ → Bool → List W → List W
without_file at false words = remove words at
without_file at true words = remove (remove words at) at

-- the words with one word in place of those
abbrev pub placed : {W : Type 0} → ℕ → Bool → W → List W → List W
placed at is_apart word words = insert (without_file at is_apart words) at word

-- a word is the option and some passphrase of 1 to 128 octets
abbrev pub IsWithPhrase : {A : Type 0} → PassOption → String A → Type 0
IsWithPhrase option word =
    (phrase : Word) × (string_bytes word ≡ phrase_word_of option phrase) × (1 ≤ length phrase) × (length phrase ≤ 128)

-- where a file is named, some such word stands in place of what names it, and else the words are as they were
abbrev pub IsPlaced : {A : Type 0} → PassOption → Result (Option Place) PassFault → List (String A) → List (String A)
    → Type 0
IsPlaced option (Ok None) old new = new ≡ old
IsPlaced {A} option (Ok (Some place)) old new =
    (word : String A) × IsWithPhrase option word × (new ≡ placed place.at place.is_apart word old)
IsPlaced option (Err fault) old new = ⊥

-- a word is the option of a passphrase that isn't a gateway's received links', and some text
abbrev pub IsWithText : {A : Type 0} → String A → Type 0
IsWithText word = (text : Word) × (string_bytes word ≡ phrase_word_of Own text)

-- where a variable stands for a passphrase, some such word may stand behind the command; else the words are as they were
abbrev pub IsByVariable : {A : Type 0} → List (String A) → List (String A) → Type 0
IsByVariable {A} old new =
    (new ≡ old)
    ⊎ ((takes_variable (map string_bytes old) ≡ true)
    × ((word : String A) × IsWithText word × (new ≡ insert old 2 word)))

-- first the passphrase of `--pass-file` is placed, then that of `--in-pass-file`, and then the variable's
abbrev pub IsPlacedInTurn : {A : Type 0} → List (String A) → List (String A) → Type 0
IsPlacedInTurn {A} old new =
    (own : List (String A)) × (both : List (String A))
    × IsPlaced Own (pass_file_of Own (map string_bytes old)) old own
    × IsPlaced Incoming (pass_file_of Incoming (map string_bytes own)) own both
    × IsByVariable both new
