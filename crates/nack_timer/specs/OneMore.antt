-- What one more step makes of a timer, for each history that it stands for.
use Rattle.std.specs.Prelude.{◌≡◌, ℕ, ◌+◌, Bool, true, false, List, [], ◌∷◌, Some}
use Rattle.receiver_rules.specs.declared.limits.Limits.{Limits}
use Rattle.receiver_rules.specs.Steps.{Arrival, tick_of}
use Rattle.receiver_rules.specs.History.{epoch_number}
use Rattle.reorder_buffer.specs.State.{State}
use Rattle.reorder_buffer.specs.StateAfter.{IsStateAfter}
use Rattle.request_rules.specs.declared.word.AskWord.{AskWord}
use Rattle.request_rules.specs.Steps.{Step, buffer_history, effective_time, longest_rtt}
use Rattle.request_rules.specs.Requests.{asked_words}
use Rattle.nack_timer.specs.State.{TimerState}
use Rattle.nack_timer.specs.Steps.{tick_step, media_step}
use Rattle.nack_timer.specs.TimerAfter.{IsTimerAfter, highest_number}

-- a packet opens no epoch, unless it is the first of all
abbrev pub IsOfEpoch : Limits → List Step → ℕ → ℕ → Arrival → Type 0
IsOfEpoch limits before link tick arrival =
    epoch_number limits (buffer_history (media_step link tick arrival ∷ before))
    ≡ epoch_number limits (buffer_history before)

-- it opens the next one
abbrev pub OpensNext : Limits → List Step → ℕ → ℕ → Arrival → Type 0
OpensNext limits before link tick arrival =
    epoch_number limits (buffer_history (media_step link tick arrival ∷ before))
    ≡ epoch_number limits (buffer_history before) + 1

-- the timer stands for the history with a packet of the epoch at this time, by which this number became the highest
abbrev pub RaisesAt : TimerState → TimerState → ℕ → ℕ → Type 0
RaisesAt old new at high =
    (limits : Limits) (before : List Step) (link tick : ℕ) (arrival : Arrival) → IsTimerAfter old limits before
    → IsOfEpoch limits before link tick arrival
    → highest_number limits (buffer_history (media_step link tick arrival ∷ before)) ≡ Some high
    → effective_time (media_step link tick arrival ∷ before) ≡ at
    → IsTimerAfter new limits (media_step link tick arrival ∷ before)

-- the timer stands for the history with a packet that opened the next epoch at this time, with this number
abbrev pub RenewsAt : TimerState → TimerState → ℕ → ℕ → Type 0
RenewsAt old new at high =
    (limits : Limits) (before : List Step) (link tick : ℕ) (arrival : Arrival) → IsTimerAfter old limits before
    → OpensNext limits before link tick arrival
    → highest_number limits (buffer_history (media_step link tick arrival ∷ before)) ≡ Some high
    → effective_time (media_step link tick arrival ∷ before) ≡ at
    → IsTimerAfter new limits (media_step link tick arrival ∷ before)

-- the words are those by which the rules ask at this time, where the buffer has come to it and the longest round-trip
-- time is so many ticks
abbrev pub AsksAt : TimerState → State → ℕ → ℕ → List AskWord → Type 0
AsksAt t buffer at rtt words =
    (before : List Step) (link tick micros : ℕ) → IsTimerAfter t buffer.limits before
    → IsStateAfter buffer (buffer_history (tick_step link tick micros ∷ before))
    → rtt ≡ tick_of (longest_rtt 16 before)
    → words ≡ asked_words buffer.limits t.policy before at

-- the timer stands for the history with the tick of the clock at which it asked
abbrev pub StandsAfterTick : TimerState → TimerState → State → ℕ → Type 0
StandsAfterTick old new buffer rtt =
    (before : List Step) (link tick micros : ℕ) → IsTimerAfter old buffer.limits before
    → IsStateAfter buffer (buffer_history (tick_step link tick micros ∷ before))
    → rtt ≡ tick_of (longest_rtt 16 before)
    → IsTimerAfter new buffer.limits (tick_step link tick micros ∷ before)

-- there is a word
abbrev pub is_any : List AskWord → Bool
is_any [] = false
is_any (word ∷ words) = true

-- whether the rules ask for anything at this time
abbrev pub WouldAskAt : TimerState → State → ℕ → ℕ → Bool → Type 0
WouldAskAt t buffer at rtt answer =
    (before : List Step) (link tick micros : ℕ) → IsTimerAfter t buffer.limits before
    → IsStateAfter buffer (buffer_history (tick_step link tick micros ∷ before))
    → rtt ≡ tick_of (longest_rtt 16 before)
    → answer ≡ is_any (asked_words buffer.limits t.policy before at)
