-- Which missing packets are asked for at a time after a history, and all that was asked for before (this profile). A
-- tick of the clock on any link asks, and what was asked for belongs to the receiver: it counts on each link. It
-- belongs to the epoch: where a packet opens one nothing was asked for yet.
use Rattle.std.specs.Prelude.{ℕ, ◌+◌, max, List, [], ◌∷◌, ◌++◌, map, length, Bool, true, nat_le, nat_lt, ◌&&◌, ◌==◌}
use Rattle.std.specs.Prelude.{if◌then◌else◌}
use Rattle.std.specs.List.{filter}
use Rattle.receiver_rules.specs.declared.limits.Limits.{Limits}
use Rattle.receiver_rules.specs.Steps.{tick_of}
use Rattle.receiver_rules.specs.Epochs.{epochs_of, opens_epoch}
use Rattle.request_rules.specs.declared.policy.Policy.{Policy}
use Rattle.request_rules.specs.declared.word.AskWord.{AskWord}
use Rattle.request_rules.specs.Steps.{Input, Media, Control, Keepalive, Refused, Tick, End, Step, buffer_history}
use Rattle.request_rules.specs.Steps.{effective_time, longest_rtt}
use Rattle.request_rules.specs.Missing.{missing_numbers, found_time}
use Rattle.request_rules.specs.Words.{words_for, asked_numbers}

-- a number that was asked for, and when
pub record Request : Type 0 where
  pub number : ℕ
  pub time : ℕ

-- a number that is asked for at a time
abbrev pub request_at : ℕ → ℕ → Request
request_at x t = record { number = x; time = t }

-- the times at which a number was asked for, the newest first
abbrev pub request_times : List Request → ℕ → List ℕ
request_times requests x = map (λ r. r.time) (filter (λ r. r.number == x) requests)

-- so many ticks have passed since the newest of some times, or there is none
abbrev pub has_passed : ℕ → ℕ → List ℕ → Bool
has_passed interval t [] = true
has_passed interval t (last ∷ earlier) = nat_le (last + interval) t

-- how long to wait before a packet is asked for again: the longest round-trip time of the sixteen links, if that is
-- longer than the least interval
abbrev pub retry_time : Policy → ℕ → ℕ
retry_time policy rtt = max (tick_of rtt) policy.retry_interval

-- a missing packet is due at a time: it was found missing the reorder tolerance ago or longer, it wasn't asked for
-- within the retry time, and it was asked for less often than the limit. Given are the round-trip time in microseconds,
-- the time asked about, when it was found, and when it was asked for
abbrev pub is_due : Policy → ℕ → ℕ → ℕ → List ℕ → Bool
is_due policy rtt t found times =
    nat_le (found + policy.reorder_tolerance) t
    && (has_passed (retry_time policy rtt) t times && nat_lt (length times) policy.retry_limit)

-- the missing packets that are due at a time, where these were the requests so far
abbrev pub due_numbers : Limits → Policy → List Step → List Request → ℕ → List ℕ
due_numbers limits policy history requests t =
    filter (λ x. is_due policy (longest_rtt 16 history) t (found_time limits (buffer_history history) x)
    (request_times requests x))
    (missing_numbers limits (buffer_history history) t)

-- the words that ask for them: from the lowest, at most 64
abbrev pub due_words : Limits → Policy → List Step → List Request → ℕ → List AskWord
due_words limits policy history requests t = words_for policy.kind 64 (due_numbers limits policy history requests t)

-- the epoch's requests so far, after one more step: a tick of the clock asks, and a packet that opens an epoch finds
-- none
abbrev pub requests_after : Limits → Policy → List Step → List Request → ℕ → Input → List Request
requests_after limits policy before requests t (Tick micros) =
    map (λ x. request_at x t) (asked_numbers policy.kind (due_words limits policy before requests t))
    ++ requests
requests_after limits policy before requests t (Media arrival) =
    if opens_epoch limits (epochs_of limits (buffer_history before)) t arrival then [] else requests
requests_after limits policy before requests t (Control sample request) = requests
requests_after limits policy before requests t Keepalive = requests
requests_after limits policy before requests t Refused = requests
requests_after limits policy before requests t End = requests

-- all that was asked for in the current epoch by the ticks of a history, the newest first
abbrev pub requests_of : Limits → Policy → List Step → List Request
requests_of limits policy [] = []
requests_of limits policy (step ∷ before) =
    requests_after limits policy before (requests_of limits policy before) (effective_time (step ∷ before)) step.input

-- the words by which a receiver asks at a time after a history
abbrev pub asked_words : Limits → Policy → List Step → ℕ → List AskWord
asked_words limits policy before t = due_words limits policy before (requests_of limits policy before) t
