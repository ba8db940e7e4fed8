-- The exact release set of a replay, in sent numbers.
use Rattle.std.specs.Prelude.{◌≡◌, ℕ, List, map}
use Rattle.capture_file.specs.Capture.{Record}
use Rattle.receiver_rules.specs.declared.limits.Limits.{Limits}
use Rattle.receiver_rules.specs.Sent.{SentStream, Delivery, steps_of, reached_numbers, rising_numbers}
use Rattle.receiver_rules.specs.SentEpochs.{SentStreams, Transfer, shipped_steps}
use Rattle.rist_wire.specs.declared.session.Session.{Session}
use Rattle.rist_replay.specs.Steps.{history_of}

-- the payloads of the sent numbers of which a copy arrived in its window while the span allowed it, by rising number,
-- each once
abbrev pub reached_payloads : Limits → SentStream → List Delivery → List (List ℕ)
reached_payloads limits p run = map p.payload (rising_numbers (reached_numbers limits p run))

-- each record is a step of the run: its item in the session is the copy that the run brings then, at that tick, or no
-- media packet
abbrev pub IsCaptureOf : Session → SentStream → List Delivery → List Record → Type 0
IsCaptureOf session p run rs = history_of session rs ≡ steps_of p run

-- the same of streams that were sent one after another, each in an epoch of its own: a copy of any of them, another
-- packet that opens no epoch, or no media packet
abbrev pub IsCaptureOfAll : Session → SentStreams → List Transfer → List Record → Type 0
IsCaptureOfAll session streams run rs = history_of session rs ≡ shipped_steps streams run
