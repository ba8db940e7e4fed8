-- How many numbers a receiver asks for, by range NACK (VSF TR-06-1, section 5.3.2) or generic NACK (RFC 4585, section
-- 6.2.1).
use Rattle.std.specs.Prelude.{ℕ, ◌+◌, List, [], ◌∷◌, length, Option, Some, None, Result, Ok, Err}
use Rattle.psk_seal.specs.declared.sealer.Spent.{Spent}
use Rattle.request_rules.specs.declared.policy.NackKind.{NackKind}
use Rattle.request_rules.specs.declared.word.AskWord.{AskWord}
use Rattle.request_rules.specs.Steps.{Step}
use Rattle.request_rules.specs.Words.{asked_numbers}
use Rattle.rist_reporter.specs.Control.{ControlSettings, words_made}
use Rattle.rist_reporter.specs.declared.out.Outs.{Outs}

-- how many numbers words ask for
abbrev pub number_count : NackKind → List AskWord → ℕ
number_count kind words = length (asked_numbers kind words)

-- how many numbers the steps of a receiver asked for: one that is asked for again counts again
abbrev pub asked_count : ControlSettings → List Step → ℕ
asked_count settings [] = 0
asked_count settings (step ∷ before) =
    asked_count settings before + number_count settings.policy.kind (words_made settings before step)

-- the words of the requests in what was made; none where the pairs are spent
abbrev pub words_in : Result (Option Outs) Spent → List AskWord
words_in (Ok None) = []
words_in (Ok (Some outs)) = outs.asked
words_in (Err spent) = []
