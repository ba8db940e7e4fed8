-- What a timer keeps, against the history that it stands for.
use Rattle.std.specs.Prelude.{◌≡◌, ℕ, ◌+◌, ◌<◌, ◌≤◌, List, [], ◌∷◌, true, false, Bool, ◌==◌, Option, None, Some}
use Rattle.std.specs.Prelude.{option_map}
use Rattle.std.specs.List.{list_any}
use Rattle.receiver_rules.specs.declared.limits.Limits.{Limits}
use Rattle.receiver_rules.specs.declared.anchor.Anchor.{Anchor}
use Rattle.receiver_rules.specs.declared.anchor.Highest.{Highest}
use Rattle.receiver_rules.specs.Packets.{highest_of, playout_floor}
use Rattle.receiver_rules.specs.Steps.{Step as BufferStep}
use Rattle.receiver_rules.specs.History.{anchor_of, accepted_packets, current_moment}
use Rattle.request_rules.specs.Steps.{Step, buffer_history}
use Rattle.request_rules.specs.Missing.{is_accepted, is_passed, found_time}
use Rattle.request_rules.specs.Requests.{Request, request_times, requests_of}
use Rattle.request_rules.specs.Times.{AreTimes}
use Rattle.nack_timer.specs.declared.entry.Missing.{Missing}
use Rattle.nack_timer.specs.State.{TimerState, AreRising, high_or}

-- the highest number that was kept in the current epoch, where any was
abbrev pub highest_number : Limits → List BufferStep → Option ℕ
highest_number limits history = option_map (λ h. h.number) (highest_of (accepted_packets limits history))

-- a number is missing, and may still be asked for: it isn't below the first packet's, a higher one was kept that lies
-- less than the capacity above it, it wasn't played out, and it wasn't kept
pub record IsLookedFor (limits : Limits) (history : List BufferStep) (x : ℕ) : Type 0 where
  pub first : (a : Anchor) → anchor_of limits history ≡ Some a → a.number ≤ x
  pub below : (h : Highest) → highest_of (accepted_packets limits history) ≡ Some h
      → (x < h.number) × (h.number < x + limits.capacity)
  pub out : playout_floor (accepted_packets limits history) (current_moment history) ≤ x
  pub new : is_accepted (accepted_packets limits history) x ≡ false
  pub passed : is_passed (accepted_packets limits history) x ≡ true

-- the timer keeps it
abbrev pub has_entry : List Missing → ℕ → Bool
has_entry missing x = list_any (λ e. e.number == x) missing

-- an entry is told when its number was found missing, and when and how often it was asked for
pub record IsEntryOf (found : ℕ → ℕ) (requests : List Request) (e : Missing) : Type 0 where
  pub since : e.found ≡ found e.number
  pub times : AreTimes e.last e.count (request_times requests e.number)

-- likewise each of some entries
abbrev pub AreEntriesOf : (ℕ → ℕ) → List Request → List Missing → Type 0
AreEntriesOf found requests [] = Unit {0}
AreEntriesOf found requests (e ∷ es) = IsEntryOf found requests e × AreEntriesOf found requests es

-- the timer stands for the history: it knows the current epoch's highest number, tells of each entry what came of it,
-- and keeps all that is looked for; nothing from the highest number on was asked for, and where none is known no packet
-- came
pub record IsTimerAfter (t : TimerState) (limits : Limits) (history : List Step) : Type 0 where
  pub span : t.span ≡ limits.capacity
  pub high : t.high ≡ highest_number limits (buffer_history history)
  pub order : AreRising 0 (high_or t.high) t.missing
  pub entries : AreEntriesOf (found_time limits (buffer_history history)) (requests_of limits t.policy history)
      t.missing
  pub keeps : (x : ℕ) → IsLookedFor limits (buffer_history history) x → has_entry t.missing x ≡ true
  pub unasked : (x : ℕ) → high_or t.high ≤ x → request_times (requests_of limits t.policy history) x ≡ []
  pub started : t.high ≡ None → anchor_of limits (buffer_history history) ≡ None
