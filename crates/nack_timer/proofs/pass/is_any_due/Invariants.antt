-- none of the entries so far is wanted
use Rattle.std.proofs.Common.{◌≡◌, drop}
use Rattle.std.specs.List.{list_any}
use Rattle.nack_timer.specs.Inside.Pass.{is_wanted}
use Rattle.nack_timer.proofs.pass.is_any_due.Given as goal

abbrev pub invariant-loop-place : goal.invariant-loop-place
invariant-loop-place l = list_any (is_wanted l.policy l.rtt l.t l.low l.buffer.held) (drop l.place l.missing.items) ≡ list_any (is_wanted l.policy l.rtt l.t l.low l.buffer.held) l.missing.items
