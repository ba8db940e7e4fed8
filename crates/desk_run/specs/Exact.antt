-- The exact release set of a run, in sent numbers.
use Rattle.std.specs.Prelude.{◌≡◌, ℕ, List, map, reverse}
use Rattle.receiver_rules.specs.declared.limits.Limits.{Limits}
use Rattle.receiver_rules.specs.Sent.{SentStream, Delivery, steps_of, reached_numbers, rising_numbers}
use Rattle.receiver_rules.specs.SentEpochs.{SentStreams, Transfer, shipped_steps}
use Rattle.request_rules.specs.Steps.{buffer_history}
use Rattle.rist_desk.specs.declared.step.Step.{Step}
use Rattle.rist_desk.specs.Steps.{history_of}

-- the payloads of the sent numbers of which a copy arrived in its window while the span allowed it, by rising number,
-- each once
abbrev pub reached_payloads : Limits → SentStream → List Delivery → List (List ℕ)
reached_payloads limits p run = map p.payload (rising_numbers (reached_numbers limits p run))

-- each step is one of the run: it brought the copy that the run brings then, at that tick, or no media packet. The
-- steps stand with the oldest first, a run with the newest
abbrev pub IsRunOf : SentStream → List Delivery → List Step → Type 0
IsRunOf p run steps = buffer_history (history_of (reverse steps)) ≡ steps_of p run

-- the same of streams that were sent one after another, each in an epoch of its own: a step brought a copy of any of
-- them, another packet that opens no epoch, or no media packet
abbrev pub IsRunOfAll : SentStreams → List Transfer → List Step → Type 0
IsRunOfAll streams run steps = buffer_history (history_of (reverse steps)) ≡ shipped_steps streams run
