-- What is due at a tick, by what the reporter keeps.
use Rattle.std.specs.Prelude.{◌≡◌, ◌≤◌, ℕ, List, ◌∷◌, ◌++◌, length, Bool, true, false, ◌&&◌, ◌||◌, Option, None, Some}
use Rattle.receiver_rules.specs.Steps.{tick_of}
use Rattle.reorder_buffer.specs.State.{State}
use Rattle.reorder_buffer.specs.StateAfter.{IsStateAfter}
use Rattle.rist_wire.specs.Writing.{pairs_left}
use Rattle.request_rules.specs.declared.word.AskWord.{AskWord}
use Rattle.request_rules.specs.Steps.{Step, buffer_history, longest_rtt}
use Rattle.request_rules.specs.Requests.{asked_words}
use Rattle.link_channels.specs.Intervals.{has_passed_since}
use Rattle.nack_timer.specs.Steps.{tick_step}
use Rattle.nack_timer.specs.TimerAfter.{IsTimerAfter}
use Rattle.link_channels.specs.Intervals.{report_interval}
use Rattle.link_channels.specs.Intervals.{keepalive_interval}
use Rattle.rist_reporter.specs.Control.{Datagram, is_any, tick_compound, tick_keepalive}
use Rattle.rist_reporter.specs.declared.ticking.Due.{Due}
use Rattle.rist_reporter.specs.Links.{entry_at}
use Rattle.rist_reporter.specs.Reporter.{ReporterState, is_main}
use Rattle.rist_reporter.specs.OneMore.{is_short}

-- the datagrams that a tick makes
abbrev pub datagrams_due : Due → List AskWord → List Datagram
datagrams_due due words =
    tick_compound due.kind due.own due.is_report due.flow due.width words due.micros
    ++ tick_keepalive due.own due.is_keepalive

-- how many they are
abbrev pub how_many : Bool → Bool → ℕ
how_many true true = 2
how_many true false = 1
how_many false true = 1
how_many false false = 0

-- what is due on a link at a time, at a moment in microseconds
abbrev pub due_of : ReporterState → ℕ → ℕ → ℕ → Option ℕ → Due
due_of r at link micros flow =
    record {
      own = r.own;
      kind = r.timer.policy.kind;
      flow = flow;
      width = r.width;
      micros = micros;
      is_report = has_passed_since report_interval at (entry_at r.links.reports link);
      is_keepalive =
          is_main r.shutter.session.profile
          && has_passed_since keepalive_interval at (entry_at r.links.keepalives link);
    }

-- pairs are wanting for these datagrams; a muted reporter wants none
abbrev pub lacks_for : Bool → Option ℕ → List Datagram → Bool
lacks_for true left datagrams = false
lacks_for false left datagrams = is_short left (length datagrams)

-- whether a tick makes a compound
abbrev pub HasCompoundAt : ReporterState → State → ℕ → ℕ → Bool → Bool → Type 0
HasCompoundAt r buffer at rtt is_report answer =
    (before : List Step) (link tick micros : ℕ) → IsTimerAfter r.timer buffer.limits before
    → IsStateAfter buffer (buffer_history (tick_step link tick micros ∷ before))
    → rtt ≡ tick_of (longest_rtt 16 before)
    → answer ≡ (is_report || is_any (asked_words buffer.limits r.timer.policy before at))

-- whether pairs are wanting for what a tick makes
abbrev pub LacksAt : ReporterState → State → ℕ → ℕ → Due → Bool → Type 0
LacksAt r buffer at rtt due answer =
    (before : List Step) (link tick micros : ℕ) → IsTimerAfter r.timer buffer.limits before
    → IsStateAfter buffer (buffer_history (tick_step link tick micros ∷ before))
    → rtt ≡ tick_of (longest_rtt 16 before)
    → answer ≡ lacks_for r.is_muted (pairs_left r.shutter.sealer)
    (datagrams_due due (asked_words buffer.limits r.timer.policy before at))

-- the highest number is no lower than it was
abbrev pub IsNoLowerNumber : Option ℕ → Option ℕ → Type 0
IsNoLowerNumber None new = Unit {0}
IsNoLowerNumber (Some old) None = ⊥
IsNoLowerNumber (Some old) (Some new) = old ≤ new
