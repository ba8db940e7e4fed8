-- What a sink gains of a line.
use Rattle.std.specs.Prelude.{ℕ, List, Option, Bool, true, false}
use Rattle.outside_io.specs.Told.{Appends, AppendsPart}
use Rattle.outside_net.specs.declared.figures.ReceiverFigures.{ReceiverFigures}
use Rattle.metered_link.specs.declared.meter.Telling.{Telling}
use Rattle.metered_link.specs.Lines.{link_line}
use Rattle.metered_link.specs.ReceiverLines.{receiver_line}

-- the text of a line, where it was told, and else a front part of it
abbrev pub PutsText : Option (List ℕ) → Option (List ℕ) → List ℕ → Bool → Type 0
PutsText old new text true = Appends old new text
PutsText old new text false = AppendsPart old new text

-- so the line of a link
abbrev pub PutsLine : Option (List ℕ) → Option (List ℕ) → ℕ → Telling → Bool → Type 0
PutsLine old new place telling told = PutsText old new (link_line place telling) told

-- and that of a receiver
abbrev pub PutsReceiverLine : Option (List ℕ) → Option (List ℕ) → ℕ → ℕ → ReceiverFigures → Bool → Type 0
PutsReceiverLine old new us flow figures told = PutsText old new (receiver_line us flow figures) told
