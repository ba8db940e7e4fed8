use Rattle.std.proofs.Common.{[], ◌∷◌, get_or, take}
use Rattle.std.specs.Fmt.{HasWritten, IsPlainFormatter}
use Rattle.outside_host.specs.Text.{counts_text}
use Rattle.outside_host.proofs.counts.CountsTextDisplay.fmt.Given as goal

-- the first count and those so far are written
abbrev pub invariant-loop-row : goal.invariant-loop-row
invariant-loop-row g l =
    IsPlainFormatter l.fn.f
    → HasWritten g.W.Write.write_str_gives l.fn.f (counts_text (get_or l.self.0.now 0 (record { name = record { ref_ptr = (0, 0); now = [] }; count = 0 }) ∷ take l.row-index l.rest)) l.f
