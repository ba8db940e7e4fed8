-- What the plain program keeps, against the history.
use Rattle.std.specs.Prelude.{◌≡◌, ◌<◌, ◌^◌, ℕ, List, [], ◌∷◌, map, Bool, not, ◌&&◌, if◌then◌else◌}
use Rattle.std.specs.List.{All}
use Rattle.receiver_rules.specs.declared.limits.Limits.{Limits}
use Rattle.plain_rules.specs.Receiver.Run.{IsSmallRun, RunShows}
use Rattle.plain_rules.specs.Receiver.Kept.{kept_packets}
use Rattle.request_rules.specs.declared.policy.Policy.{Policy}
use Rattle.request_rules.specs.declared.policy.NackKind.{NackKind}
use Rattle.request_rules.specs.declared.word.AskWord.{AskWord}
use Rattle.request_rules.specs.Words.{words_for, asked_numbers}
use Rattle.request_rules.specs.Missing.{found_time, is_accepted, is_below_highest}
use Rattle.request_rules.specs.Steps.{Step, buffer_history}
use Rattle.request_rules.specs.Requests.{Request, request_times, requests_of, is_due}
use Rattle.plain_rules.specs.declared.requests.asking.Mark.{Mark}
use Rattle.plain_rules.specs.declared.requests.asking.Made.{Made}
use Rattle.plain_rules.specs.declared.requests.asking.Asking.{Asking}

-- since when a number is missing, by the marks of the steps, the newest first
abbrev pub found_in : List Mark → ℕ → ℕ
found_in [] x = 0
found_in (mark ∷ marks) x = if is_below_highest mark.highest x then found_in marks x else mark.time

-- a request that was made, as the rules see it
abbrev pub request_of : Made → Request
request_of made = record { number = made.number; time = made.time }

-- the requests that were made, as the rules see them
abbrev pub requests_seen : List Made → List Request
requests_seen made = map request_of made

-- the time of a mark is one from which no sum wraps
abbrev pub IsSmallMark : Mark → Type 0
IsSmallMark mark = mark.time < 2 ^ 61

-- likewise of a request
abbrev pub IsSmallMade : Made → Type 0
IsSmallMade made = made.time < 2 ^ 61

-- what the program keeps is that of the history
pub record AskingShows (limits : Limits) (policy : Policy) (a : Asking) (history : List Step) : Type 0 where
  pub run : RunShows limits a.run (buffer_history history)
  pub marks : (x : ℕ) → found_in a.marks.items x ≡ found_time limits (buffer_history history) x
  pub made : requests_seen a.made.items ≡ requests_of limits policy history

-- bounds of all times
pub record IsSmallAsking (a : Asking) : Type 0 where
  pub run : IsSmallRun a.run
  pub marks : All IsSmallMark a.marks.items
  pub made : All IsSmallMade a.made.items

-- the numbers that are asked for, of some that are looked at: those that pass the test
abbrev pub IsAskedOf : NackKind → List ℕ → List AskWord → List ℕ → Type 0
IsAskedOf kind due words numbers = (words ≡ words_for kind 64 due) × (numbers ≡ asked_numbers kind words)

-- a number is missing and due
abbrev pub is_wanted : Policy → ℕ → ℕ → Asking → ℕ → Bool
is_wanted policy rtt t a x =
    not (is_accepted (kept_packets a.run.kept.items) x)
    && is_due policy rtt t (found_in a.marks.items x) (request_times (requests_seen a.made.items) x)
