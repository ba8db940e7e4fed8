-- Words that lie near together, so that a compound has room for their requests.
use Rattle.std.specs.Prelude.{ℕ, ◌+◌, ◌<◌, ◌≤◌, List, [], ◌∷◌, length}
use Rattle.request_rules.specs.declared.word.AskWord.{AskWord}

-- the first numbers of words, in their order: from low on, never falling, and below high
abbrev pub AreAscending : ℕ → ℕ → List AskWord → Type 0
AreAscending low high [] = Unit {0}
AreAscending low high (word ∷ words) = (low ≤ word.first) × (word.first < high) × AreAscending word.first high words

-- they lie less than 65,536 above the first one
abbrev pub AreClose : List AskWord → Type 0
AreClose [] = Unit {0}
AreClose (word ∷ words) = AreAscending word.first (word.first + 65536) words

-- at most 64 words, close together: then they have two upper halves at most
pub record AreNear (words : List AskWord) : Type 0 where
  pub few : length words ≤ 64
  pub close : AreClose words
