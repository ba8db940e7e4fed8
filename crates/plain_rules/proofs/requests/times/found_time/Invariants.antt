-- the marks so far were below
use Rattle.std.proofs.Common.{◌≡◌, drop}
use Rattle.plain_rules.specs.Inside.RequestsAsking.{found_in}
use Rattle.plain_rules.proofs.requests.times.found_time.Given as goal

abbrev pub invariant-loop-mark : goal.invariant-loop-mark
invariant-loop-mark l = found_in (drop l.mark-index l.marks) l.number ≡ found_in l.marks l.number
