-- The numbers that words ask for, and those that one more step asks for.
use Rattle.std.proofs.Common.{◌≡◌, ◌∙◌, ℕ, zero, suc, ◌+◌, ◌/◌, ◌%◌, ◌^◌, ◌<◌, ◌≤◌, Bool, true, false, List, [], ◌∷◌, ◌++◌, length, take, get_or, Option, None, Some, Result, Ok, Err, refl, sym, ap, arith, length-append, append-nil}
use Rattle.std.specs.Prelude.{◌==◌, if◌then◌else◌}
use Rattle.std.specs.Int.Count.{ones, ones_in}
use Rattle.std.proofs.Math.Nat.{pow-succ'}
use Rattle.std.proofs.lemmas.Bool.{eqb-true, eqb-false}
use Rattle.std.proofs.lemmas.List.{take_more, length-map}
use Rattle.std.proofs.lemmas.List.FromFn.{length-range_with_len}
use Rattle.std.proofs.lemmas.Grind.{flat_map-append}
use Rattle.psk_seal.specs.declared.sealer.Spent.{Spent}
use Rattle.seq_unwrap.specs.declared.width.Width.{Width}
use Rattle.rist_nack.specs.Requests.{set_places}
use Rattle.rist_wire.specs.Writing.{ShutterState}
use Rattle.request_rules.specs.declared.policy.NackKind.{NackKind}
use Rattle.request_rules.specs.declared.policy.NackKind.TheVariants.{Range, Mask}
use Rattle.request_rules.specs.declared.word.AskWord.{AskWord}
use Rattle.request_rules.specs.Steps.{Step, Input, Media, Control, Keepalive, Refused, Tick, End, effective_time}
use Rattle.request_rules.specs.Requests.{asked_words}
use Rattle.request_rules.specs.Words.{masked_numbers, numbers_in, asked_numbers}
use Rattle.rist_reporter.specs.Control.{ControlSettings, Datagram, datagrams_of, input_datagrams, tick_compound, words_made, input_words}
use Rattle.rist_reporter.specs.declared.out.Outs.{Outs}
use Rattle.rist_reporter.specs.OneMore.{AnswersAfter, step_answered}
use Rattle.rist_reporter.specs.Asking.{number_count, asked_count, words_in}

-- ---- the numbers of a word

pub range_numbers : (word : AskWord) → 1 + word.second ≡ length (numbers_in Range word)
range_numbers word = omega (arith, length-range_with_len word.first (word.second + 1))

-- the set bits of a mask are as many as the places of them
no_ones : (d : ℕ) → ones_in d 0 ≡ 0
unfolding ones_in
no_ones zero = refl
no_ones (suc d) = omega (arith, no_ones d)

no_places : (left place : ℕ) → length (set_places left 0 place) ≡ 0
no_places zero place = refl
no_places (suc left) place = no_places left (place + 1)

bit_counts : (left d n place : ℕ) → n < 2 ^ left → n ≤ d → ones_in d n ≡ length (set_places left n place)
unfolding ones_in
bit_counts zero d n place small deep = ap (ones_in d) (omega (arith, small)) ∙ no_ones d
bit_counts (suc left) zero n place small deep =
    let none : n ≡ 0 = omega (arith, deep) in
    sym (ap (λ m. length (set_places (suc left) m place)) none ∙ no_places (suc left) place)
bit_counts (suc left) (suc d) n place small deep =
    one_more (n % 2 == 1) refl (bit_counts left d (n / 2) (place + 1) (omega (arith, small, pow-succ' 2 left)) (omega (arith, deep)))
  where
    one_more : (c : Bool) → (n % 2 == 1) ≡ c → ones_in d (n / 2) ≡ length (set_places left (n / 2) (place + 1))
        → n % 2 + ones_in d (n / 2) ≡ length (if c then place ∷ set_places left (n / 2) (place + 1) else set_places left (n / 2) (place + 1))
    one_more true odd rest = omega (arith, rest, eqb-true _ _ odd)
    one_more false even rest = omega (arith, rest, eqb-false _ _ even)

pub mask_numbers : (word : AskWord) → word.second < 2 ^ 16 → 1 + ones word.second ≡ length (numbers_in Mask word)
unfolding ones masked_numbers
mask_numbers word small =
    omega (arith, bit_counts 16 word.second word.second 1 small (omega arith), length-map (set_places 16 word.second 1) (λ i. word.first + i))

-- ---- the numbers of words

pub number_count_more : (kind : NackKind) (words : List AskWord) (i : ℕ) (d : AskWord) → i < length words
    → number_count kind (take (i + 1) words) ≡ number_count kind (take i words) + length (numbers_in kind (get_or words i d))
number_count_more kind words i d within =
    ap (number_count kind) (take_more words i d within)
    ∙ ap length (flat_map-append (numbers_in kind) (take i words) (get_or words i d ∷ []))
    ∙ length-append (asked_numbers kind (take i words)) (numbers_in kind (get_or words i d) ++ [])
    ∙ ap (λ xs. length (asked_numbers kind (take i words)) + length xs) (append-nil (numbers_in kind (get_or words i d)))

-- ---- one more step

no_words : (words : List AskWord) (is_report : Bool) (kind : NackKind) (own : ℕ) (flow : Option ℕ) (width : Width) (micros : ℕ) (more : List Datagram) → tick_compound kind own is_report flow width words micros ++ more ≡ [] → words ≡ []
no_words [] is_report kind own flow width micros more is = refl
no_words (word ∷ words) true kind own flow width micros more is = cc
no_words (word ∷ words) false kind own flow width micros more is = cc

input_none : (settings : ControlSettings) (before : List Step) (link t : ℕ) (input : Input) → input_datagrams settings before link t input ≡ [] → input_words settings before t input ≡ []
input_none settings before link t (Media arrival) is = refl
input_none settings before link t (Control sample request) is = refl
input_none settings before link t Keepalive is = refl
input_none settings before link t Refused is = refl
input_none settings before link t (Tick micros) is = no_words (asked_words settings.limits settings.policy before t) _ _ _ _ _ _ _ is
input_none settings before link t End is = refl

-- where no datagram is made nothing is asked for
words_none : (settings : ControlSettings) (before : List Step) (step : Step) → datagrams_of settings before step ≡ [] → words_made settings before step ≡ []
words_none settings before step is = by settings.is_muted is
  where
    by : (c : Bool) → (if c then [] else input_datagrams settings before step.link (effective_time (step ∷ before)) step.input) ≡ []
        → (if c then [] else input_words settings before (effective_time (step ∷ before)) step.input) ≡ []
    by true e = refl
    by false e = input_none settings before step.link (effective_time (step ∷ before)) step.input e

keepalive_words : (settings : ControlSettings) (before : List Step) (step : Step) (spent : Spent) → words_made settings before (step_answered step (Err spent)) ≡ []
keepalive_words settings before step spent = by settings.is_muted
  where
    by : (c : Bool) → (if c then [] else input_words settings before (effective_time (step_answered step (Err spent) ∷ before)) Keepalive) ≡ []
    by true = refl
    by false = refl

words_answered : (settings : ControlSettings) (shutter : ShutterState) (before : List Step) (step : Step) (result : Result (Option Outs) Spent) → AnswersAfter settings shutter before step result
    → words_made settings before (step_answered step result) ≡ words_in result
words_answered settings shutter before step (Ok None) a = words_none settings before step a.made
words_answered settings shutter before step (Ok (Some outs)) a = sym a.made.1
words_answered settings shutter before step (Err spent) a = keepalive_words settings before step spent

-- a step more counts the numbers of the words in what it made
pub asked_then : (settings : ControlSettings) (shutter : ShutterState) (before : List Step) (step : Step) (result : Result (Option Outs) Spent) → AnswersAfter settings shutter before step result
    → asked_count settings (step_answered step result ∷ before) ≡ asked_count settings before + number_count settings.policy.kind (words_in result)
asked_then settings shutter before step result a =
    ap (λ words. asked_count settings before + number_count settings.policy.kind words) (words_answered settings shutter before step result a)
