-- What each step of a history adds to the figures.
use Rattle.std.specs.Prelude.{ℕ, ◌+◌, ◌-◌, List, ◌∷◌, length, Bool, true, false, not, ◌&&◌, ◌==◌, if◌then◌else◌}
use Rattle.time_series.specs.Points.{capped}
use Rattle.receiver_rules.specs.declared.limits.Limits.{Limits}
use Rattle.receiver_rules.specs.declared.verdict.Verdict.{Verdict}
use Rattle.receiver_rules.specs.declared.verdict.Verdict.TheVariants as verdicts
use Rattle.receiver_rules.specs.Packets.{is_kept}
use Rattle.receiver_rules.specs.History.{epoch_number, verdict}
use Rattle.request_rules.specs.Steps.{Input, Media, Control, Keepalive, Refused, Tick, End, Step, buffer_history}
use Rattle.request_rules.specs.Steps.{effective_time}
use Rattle.session_figures.specs.declared.amounts.Amounts.{Amounts}
use Rattle.session_figures.specs.declared.amounts.Passed.{Passed}
use Rattle.session_figures.specs.declared.playout.Playout.{Playout}
use Rattle.rist_ends.specs.Numbers.{missing_count}
use Rattle.session_figures.specs.Playout.{playout_between, standing_of, unless_restarted}

-- a packet came after its deadline, or after one of the same or a higher number was played out
abbrev pub is_too_late : Verdict → Bool
is_too_late verdicts.Kept = false
is_too_late verdicts.Stranger = false
is_too_late verdicts.Exhausted = false
is_too_late verdicts.Late = true
is_too_late verdicts.Behind = true
is_too_late verdicts.Early = false
is_too_late verdicts.Twice = false
is_too_late verdicts.Span = false

-- one where it is so
abbrev pub one_if : Bool → ℕ
one_if b = if b then 1 else 0

-- nothing is told of the playout
abbrev pub no_playout : Playout
no_playout = record { fill = 0; used = 0; later = 0; earlier = 0 }

-- nothing was added
abbrev pub nothing_passed : Passed
nothing_passed = record { records = 0; missing = 0; restarts = 0; playout = no_playout }

-- What a media packet adds, by its link, its verdict, whether it is a retransmission and its payload's length: its
-- octets on its link; where it is kept its octets to the stream, and one packet received first time or recovered; one
-- that is late where it is too late.
abbrev pub media_amounts : ℕ → Verdict → Bool → ℕ → Passed → Amounts
media_amounts link v again octets passed =
    record {
      link = link;
      octets = octets;
      kept = if is_kept v then octets else 0;
      first = one_if (is_kept v && not again);
      recovered = one_if (is_kept v && again);
      late = one_if (is_too_late v);
      passed = passed;
    }

-- what any other step adds: what its time lets the playout pass
abbrev pub silent_amounts : ℕ → Passed → Amounts
silent_amounts link passed =
    record { link = link; octets = 0; kept = 0; first = 0; recovered = 0; late = 0; passed = passed }

-- what a step adds after a history, by what comes with it
abbrev pub amounts_by : Limits → List Step → ℕ → ℕ → Passed → Input → Amounts
amounts_by limits before link tick passed (Media arrival) =
    media_amounts link (verdict limits (buffer_history before) tick arrival) arrival.again (length arrival.payload)
    passed
amounts_by limits before link tick passed (Control sample request) = silent_amounts link passed
amounts_by limits before link tick passed Keepalive = silent_amounts link passed
amounts_by limits before link tick passed Refused = silent_amounts link passed
amounts_by limits before link tick passed (Tick micros) = silent_amounts link passed
amounts_by limits before link tick passed End = silent_amounts link passed

-- how many numbers the playout passes at a step without a packet
abbrev pub missing_by : Limits → List Step → Step → ℕ
missing_by limits before step =
    capped (missing_count limits (buffer_history (step ∷ before)))
    - capped (missing_count limits (buffer_history before))

-- how often the flow restarts at a step: once where a packet opens an epoch and another one was open
abbrev pub restarts_by : Limits → List Step → Step → ℕ
restarts_by limits before step =
    epoch_number limits (buffer_history (step ∷ before)) - epoch_number limits (buffer_history before)

-- what a step tells of the playout
abbrev pub playout_by : Limits → List Step → Step → Playout
playout_by limits before step =
    playout_between (standing_of limits (buffer_history before)) (standing_of limits (buffer_history (step ∷ before)))
    limits.playout_delay (effective_time (step ∷ before) - effective_time before) (restarts_by limits before step)

-- a step is a record, and the end is none
abbrev pub records_in : Input → ℕ
records_in (Media arrival) = 1
records_in (Control sample request) = 1
records_in Keepalive = 1
records_in Refused = 1
records_in (Tick micros) = 1
records_in End = 0

-- what a step adds after a history, whatever comes with it
abbrev pub passed_by : Limits → List Step → Step → Passed
passed_by limits before step =
    record {
      records = records_in step.input;
      missing = missing_by limits before step;
      restarts = restarts_by limits before step;
      playout = playout_by limits before step;
    }

-- what a step adds after a history
abbrev pub amounts_of : Limits → List Step → Step → Amounts
amounts_of limits before step =
    amounts_by limits before step.link step.tick (passed_by limits before step) step.input

-- how much of the playout delay was used up before a packet that was kept, but for the first of each epoch
abbrev pub used_before : Amounts → ℕ
used_before a = if a.first + a.recovered == 0 then 0 else unless_restarted a.passed.restarts a.passed.playout.used

-- what came on a link, of an amount that came on one
abbrev pub on_link : ℕ → ℕ → ℕ → ℕ
on_link link from amount = if from == link then amount else 0

-- the octets that came on a link
abbrev pub octets_on : ℕ → Amounts → ℕ
octets_on link a = on_link link a.link a.octets

-- the packets that were received first time on it
abbrev pub first_on : ℕ → Amounts → ℕ
first_on link a = on_link link a.link a.first

-- and those that a retransmission on it recovered
abbrev pub recovered_on : ℕ → Amounts → ℕ
recovered_on link a = on_link link a.link a.recovered
