-- What one more step makes of a reporter, for each history that it stands for.
use Rattle.std.specs.Prelude.{◌≡◌, ◌≤◌, ◌<◌, ◌^◌, ℕ, zero, suc, Bool, true, false, List, [], ◌∷◌, length, nat_lt}
use Rattle.std.specs.Prelude.{Option, None, Some, Result, Ok, Err, is_err, IfOk}
use Rattle.seq_unwrap.specs.declared.width.Width.{Width}
use Rattle.receiver_rules.specs.declared.limits.Limits.{Limits}
use Rattle.receiver_rules.specs.Steps.{Arrival}
use Rattle.receiver_rules.specs.Packets.{is_kept}
use Rattle.receiver_rules.specs.History.{verdict}
use Rattle.reorder_buffer.specs.State.{State}
use Rattle.reorder_buffer.specs.StateAfter.{IsStateAfter}
use Rattle.psk_seal.specs.declared.sealer.Spent.{Spent}
use Rattle.psk_seal.specs.Sealer.{SealerState}
use Rattle.rtcp_compound.specs.Compound.{Content}
use Rattle.rist_wire.specs.declared.session.Session.{Session}
use Rattle.rist_wire.specs.Writing.{ShutterState, after_pair, pairs_left}
use Rattle.request_rules.specs.declared.word.AskWord.{AskWord}
use Rattle.request_rules.specs.Steps.{Step, Keepalive, buffer_history, effective_time, control_input}
use Rattle.nack_timer.specs.Steps.{tick_step, media_step}
use Rattle.nack_timer.specs.TimerAfter.{highest_number}
use Rattle.nack_timer.specs.OneMore.{IsOfEpoch, OpensNext}
use Rattle.rist_reporter.specs.Control.{ControlSettings, Datagram, datagrams_of, words_made}
use Rattle.rist_reporter.specs.declared.out.Outs.{Outs}
use Rattle.rist_reporter.specs.Made.{OutOf, IsOpened}
use Rattle.rist_reporter.specs.Reporter.{ReporterState, IsReporterAfter, settings_with}

-- ---- what was made

-- the second of a pair of datagrams, which may be absent
abbrev pub second_of : Option OutOf → List OutOf
second_of None = []
second_of (Some out) = out ∷ []

-- the datagrams that were made, in their order
abbrev pub outs_of : Outs → List OutOf
outs_of outs = outs.first ∷ second_of outs.second

-- opened in the session, each is the datagram in its place, and there are no others
abbrev pub AreOpened : Session → List OutOf → List Datagram → Type 0
AreOpened session [] [] = Unit {0}
AreOpened session [] (datagram ∷ datagrams) = ⊥
AreOpened session (out ∷ outs) [] = ⊥
AreOpened session (out ∷ outs) (datagram ∷ datagrams) = IsOpened session out datagram × AreOpened session outs datagrams

-- these datagrams were made, and the requests in them have these words
abbrev pub IsMade : Session → List Datagram → List AskWord → Option Outs → Type 0
IsMade session datagrams words None = datagrams ≡ []
IsMade session datagrams words (Some outs) = AreOpened session (outs_of outs) datagrams × (outs.asked ≡ words)

-- ---- under which pairs

-- fewer pairs are left than so many datagrams take
abbrev pub is_short : Option ℕ → ℕ → Bool
is_short None count = false
is_short (Some left) count = nat_lt left count

-- a sealer after so many datagrams
abbrev pub after_pairs : ℕ → Option SealerState → Option SealerState
after_pairs zero sealer = sealer
after_pairs (suc count) sealer = after_pairs count (after_pair sealer)

-- how many datagrams were made
abbrev pub made_count : Option Outs → ℕ
made_count None = 0
made_count (Some outs) = length (outs_of outs)

-- how many datagrams an answer holds; none where the pairs are spent
abbrev pub answer_count : Result (Option Outs) Spent → ℕ
answer_count (Ok made) = made_count made
answer_count (Err spent) = 0

-- each datagram took one pair, where there is a sealer, and nothing else has changed
abbrev pub TakesPairs : ℕ → ShutterState → ShutterState → Type 0
TakesPairs count old new = new ≡ record old { sealer = after_pairs count old.sealer }

-- ---- the answer to a step

-- what a step after a history makes was made, or fewer pairs are left than that takes
pub record AnswersAfter (settings : ControlSettings) (shutter : ShutterState) (before : List Step) (step : Step)
    (result : Result (Option Outs) Spent) : Type 0 where
  pub spent : is_err result ≡ is_short (pairs_left shutter.sealer) (length (datagrams_of settings before step))
  pub made : IfOk result (IsMade shutter.session (datagrams_of settings before step) (words_made settings before step))

-- a step for whose datagrams too few pairs are left enters the history as a keepalive that came
abbrev pub step_answered : Step → Result (Option Outs) Spent → Step
step_answered step (Ok made) = step
step_answered step (Err spent) = record { link = step.link; tick = step.tick; input = Keepalive }

-- ---- for each history that the reporter stands for

-- a tick of a link, where its buffer has come to it
abbrev pub AnswersTick : ReporterState → State → ℕ → ℕ → Result (Option Outs) Spent → Type 0
AnswersTick r buffer link micros result =
    (before : List Step) (tick : ℕ) → IsReporterAfter r buffer.limits before
    → IsStateAfter buffer (buffer_history (tick_step link tick micros ∷ before))
    → AnswersAfter (settings_with buffer.limits r) r.shutter before (tick_step link tick micros) result

-- after every history that the old reporter stands for, the new one stands for it with this tick and its answer
abbrev pub StandsAfterTick : ReporterState → ReporterState → State → ℕ → ℕ → Result (Option Outs) Spent → Type 0
StandsAfterTick old new buffer link micros result =
    (before : List Step) (tick : ℕ) → IsReporterAfter old buffer.limits before
    → IsStateAfter buffer (buffer_history (tick_step link tick micros ∷ before))
    → IsReporterAfter new buffer.limits (step_answered (tick_step link tick micros) result ∷ before)

-- a compound that comes on a link at a moment in microseconds
abbrev pub control_step : ℕ → ℕ → ℕ → List Content → Step
control_step link tick us packets = record { link = link; tick = tick; input = control_input us packets }

-- after every history that the reporter stands for, the answer to a compound is the one that the rules make
abbrev pub AnswersControl : ReporterState → ℕ → ℕ → List Content → Result (Option Outs) Spent → Type 0
AnswersControl r link us packets result =
    (limits : Limits) (before : List Step) (tick : ℕ) → IsReporterAfter r limits before
    → AnswersAfter (settings_with limits r) r.shutter before (control_step link tick us packets) result

-- after every history that the old reporter stands for, the new one stands for it with this compound and its answer
abbrev pub StandsAfterControl : ReporterState → ReporterState → ℕ → ℕ → List Content → Result (Option Outs) Spent
    → Type 0
StandsAfterControl old new link us packets result =
    (limits : Limits) (before : List Step) (tick : ℕ) → IsReporterAfter old limits before
    → IsReporterAfter new limits (step_answered (control_step link tick us packets) result ∷ before)

-- a media packet that comes at a time, is kept or not, and opens the next epoch or not; after it this is the highest
-- number
pub record IsReceived (limits : Limits) (before : List Step) (link tick : ℕ) (arrival : Arrival) (at : ℕ) (bits : Width)
    (is_accepted opened : Bool) (highest : Option ℕ) : Type 0 where
  pub delay : 1 ≤ limits.playout_delay
  pub word : arrival.word < 2 ^ 32
  pub time : effective_time (media_step link tick arrival ∷ before) ≡ at
  pub width : arrival.width ≡ bits
  pub kept : is_kept (verdict limits (buffer_history before) tick arrival) ≡ is_accepted
  pub same : opened ≡ false → IsOfEpoch limits before link tick arrival
  pub next : opened ≡ true → OpensNext limits before link tick arrival
  pub high : highest_number limits (buffer_history (media_step link tick arrival ∷ before)) ≡ highest

-- after every history that the old reporter stands for, the new one stands for it with this media packet
abbrev pub StandsAfterMedia : ReporterState → ReporterState → ℕ → Width → Bool → Bool → Option ℕ → Type 0
StandsAfterMedia old new at bits is_accepted opened highest =
    (limits : Limits) (before : List Step) (link tick : ℕ) (arrival : Arrival) → IsReporterAfter old limits before
    → IsReceived limits before link tick arrival at bits is_accepted opened highest
    → IsReporterAfter new limits (media_step link tick arrival ∷ before)
