use Rattle.std.proofs.Common.{◌≡◌, ◌≤◌, ◌<◌, ◌-◌, [], vec_capacity}
use Rattle.turn_lock.specs.Turns.{opener_at}
use Rattle.turn_lock.specs.Inside.Dealing.{AreDealt}
use Rattle.turn_lock.proofs.lock.TurnLock.deal.Given as goal

abbrev pub invariant-loop-k : goal.invariant-loop-k
invariant-loop-k g l = (l.k < l.passes) × (l.seat.table_id ≡ l.self.table.shared.table_id) × (l.seat.me ≡ (opener_at l.k (l.passes - l.k), [])) × (l.passes ≤ vec_capacity l.all) × AreDealt l.self.table.shared.table_id l.k l.all.items
