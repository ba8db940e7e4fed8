-- The figures of a receiver: what became of the packets of its history, what waits, what was asked for, and what was
-- lost.
use Rattle.std.specs.Prelude.{◌≡◌, ℕ, ◌/◌, List, length}
use Rattle.outside_net.specs.declared.figures.ReceiverFigures.{ReceiverFigures}
use Rattle.receiver_rules.specs.declared.verdict.Verdict.{Verdict}
use Rattle.receiver_rules.specs.declared.verdict.Verdict.TheVariants as verdicts
use Rattle.receiver_rules.specs.History.{buffered_packets}
use Rattle.request_rules.specs.Steps.{Step, buffer_history}
use Rattle.rist_ends.specs.Counts.{capped, recovered_count, refused_count, verdict_count}
use Rattle.reorder_buffer.specs.Fill.{fill_of}
use Rattle.rist_reporter.specs.Control.{ControlSettings}
use Rattle.rist_reporter.specs.Asking.{asked_count}
use Rattle.rist_ends.specs.Fill.{fill_at}
use Rattle.rist_ends.specs.Numbers.{missing_count}
use Rattle.rist_ends.specs.Receiver.{ReceiverState}
use Rattle.rist_ends.specs.Taking.{missing_of}

-- how many packets had a verdict, as the figures tell
abbrev pub figure_of : Verdict → ReceiverFigures → ℕ
figure_of verdicts.Kept f = f.kept
figure_of verdicts.Stranger f = f.stranger
figure_of verdicts.Exhausted f = f.exhausted
figure_of verdicts.Late f = f.late
figure_of verdicts.Behind f = f.behind
figure_of verdicts.Early f = f.early
figure_of verdicts.Twice f = f.twice
figure_of verdicts.Span f = f.span

-- the figures are those of a history
pub record AreFiguresOf (f : ReceiverFigures) (settings : ControlSettings) (history : List Step) : Type 0 where
  pub each : (v : Verdict) → figure_of v f ≡ capped (verdict_count v settings.limits history)
  pub again : f.recovered ≡ capped (recovered_count settings.limits history)
  pub bad : f.refused ≡ capped (refused_count history)
  pub waiting : f.held ≡ length (buffered_packets settings.limits (buffer_history history))
  pub wanted : f.asked ≡ capped (asked_count settings history)
  pub passed : f.lost ≡ capped (missing_count settings.limits (buffer_history history))
  -- in milliseconds, rounded down
  pub full : f.fill ≡ fill_at settings.limits (buffer_history history) / 90

-- how many numbers a receiver's playout has passed without a packet
abbrev pub lost_of : ReceiverState → ℕ
lost_of r = missing_of r.numbers r.buffer.floor (length r.buffer.held)

-- the figures that a receiver keeps
abbrev pub figures_of : ReceiverState → ReceiverFigures
figures_of r =
    record {
      kept = r.counts.kept;
      recovered = r.recovered;
      late = r.counts.late;
      behind = r.counts.behind;
      early = r.counts.early;
      twice = r.counts.twice;
      span = r.counts.span;
      stranger = r.counts.stranger;
      exhausted = r.counts.exhausted;
      refused = r.counts.refused;
      held = length r.buffer.held;
      asked = r.asked;
      lost = lost_of r;
      fill = fill_of r.buffer / 90;
    }
