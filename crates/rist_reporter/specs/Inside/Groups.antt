-- Words by the upper halves of their first numbers.
use Rattle.std.specs.Prelude.{◌≡◌, ◌≢◌, ℕ, List, [], ◌∷◌, ◌==◌}
use Rattle.std.specs.List.{prefix_len}
use Rattle.request_rules.specs.declared.word.AskWord.{AskWord}
use Rattle.rist_reporter.specs.Nacks.{upper_of}

-- how many words from the front have this upper half
abbrev pub leading : ℕ → List AskWord → ℕ
leading upper words = prefix_len (λ w. upper_of w == upper) words

-- all words have this upper half
abbrev pub AreOfUpper : ℕ → List AskWord → Type 0
AreOfUpper upper [] = Unit {0}
AreOfUpper upper (word ∷ words) = (upper_of word ≡ upper) × AreOfUpper upper words

-- the first word, if there is one, has another
abbrev pub IsOtherUpper : ℕ → List AskWord → Type 0
IsOtherUpper upper [] = Unit {0}
IsOtherUpper upper (word ∷ words) = upper_of word ≢ upper
