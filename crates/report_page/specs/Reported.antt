-- What is reported of the records of a capture.
use Rattle.std.specs.Prelude.{◌≡◌, ℕ, List, ◌∷◌}
use Rattle.capture_file.specs.Capture.{Record}
use Rattle.receiver_rules.specs.declared.limits.Limits.{Limits}
use Rattle.reorder_buffer.specs.declared.phase.Phase.TheVariants.{Open}
use Rattle.rist_wire.specs.declared.session.Session.{Session}
use Rattle.rist_replay.specs.Steps.{receiver_history}
use Rattle.session_figures.specs.Figures.{Figures, figures_of}
use Rattle.session_figures.specs.Counting.{CounterState, IsCountedAfter, end_told}
use Rattle.report_page.specs.Page.{page_of}

-- the figures of these records with an end after them, in a session
abbrev pub session_figures : Session → Limits → List Record → Figures
session_figures session limits rs = figures_of limits (end_told ∷ receiver_history session rs)

-- the page that is written of them
abbrev pub reported : Session → Limits → List Record → List ℕ
reported session limits rs = page_of (session_figures session limits rs)

-- a counter stands after these records, and goes on
pub record HasReported (session : Session) (counter : CounterState) (rs : List Record) : Type 0 where
  pub counted : IsCountedAfter counter (receiver_history session rs)
  pub running : counter.buffer.phase ≡ Open
