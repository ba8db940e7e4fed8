-- The words of a request, which name missing numbers: range NACK (VSF TR-06-1) and generic NACK (RFC 4585, section
-- 6.2.1). Numbers are the extended ones: how many bits of them a word sends is no matter here.
use Rattle.std.specs.Prelude.{ℕ, ◌≤◌, zero, suc, ◌+◌, ◌-◌, ◌^◌, List, [], ◌∷◌, map, take, Bool, nat_le, not, ◌==◌}
use Rattle.std.specs.Prelude.{if◌then◌else◌}
use Rattle.std.specs.List.{filter, sum_by, range_with_len, flat_map}
use Rattle.rist_nack.specs.Requests.{set_places}
use Rattle.request_rules.specs.declared.policy.NackKind.{NackKind}
use Rattle.request_rules.specs.declared.policy.NackKind.TheVariants.{Range, Mask}
use Rattle.request_rules.specs.declared.word.AskWord.{AskWord}

-- ---- range NACK: a word is a run of consecutive numbers

-- one more number before runs: it begins the first run, or is a run of its own
abbrev pub run_with : ℕ → List AskWord → List AskWord
run_with x [] = record { first = x; second = 0 } ∷ []
run_with x (run ∷ runs) =
    if run.first == x + 1 then record { first = x; second = run.second + 1 } ∷ runs
    else record { first = x; second = 0 } ∷ run ∷ runs

-- rising numbers as their longest runs
abbrev pub runs_of : List ℕ → List AskWord
runs_of [] = []
runs_of (x ∷ xs) = run_with x (runs_of xs)

-- ---- generic NACK: a word is a number and a mask of the sixteen after it

-- the number lies at most sixteen after the first
abbrev pub is_masked : ℕ → ℕ → Bool
is_masked first x = nat_le x (first + 16)

-- a word for a number and those of the rest, all higher, that its mask has a bit for
abbrev pub mask_word : ℕ → List ℕ → AskWord
mask_word first rest =
    record { first = first; second = sum_by (λ x. 2 ^ (x - first - 1)) (filter (is_masked first) rest) }

-- at most so many words: each begins at the lowest number that is not covered yet
abbrev pub mask_words : ℕ → List ℕ → List AskWord
mask_words zero xs = []
mask_words (suc words) [] = []
mask_words (suc words) (x ∷ xs) = mask_word x xs ∷ mask_words words (filter (λ y. not (is_masked x y)) xs)

-- ---- both

-- the words that ask for rising numbers, from the lowest: at most so many
abbrev pub words_for : NackKind → ℕ → List ℕ → List AskWord
words_for Range most xs = take most (runs_of xs)
words_for Mask most xs = mask_words most xs

-- a number, and those after it that a mask has a bit for
unfoldable pub masked_numbers : ℕ → ℕ → List ℕ
masked_numbers first mask = first ∷ map (λ i. first + i) (set_places 16 mask 1)

-- the numbers that a word asks for
abbrev pub numbers_in : NackKind → AskWord → List ℕ
numbers_in Range word = range_with_len word.first (word.second + 1)
numbers_in Mask word = masked_numbers word.first word.second

-- the numbers that words ask for
abbrev pub asked_numbers : NackKind → List AskWord → List ℕ
asked_numbers kind words = flat_map (numbers_in kind) words

-- numbers rise strictly, from low on and below high
abbrev pub IsRisingIn : ℕ → ℕ → List ℕ → Type 0
IsRisingIn low high [] = low ≤ high
IsRisingIn low high (x ∷ xs) = (low ≤ x) × IsRisingIn (x + 1) high xs
