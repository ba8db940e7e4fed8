-- The places' ticks decide.
use Rattle.std.proofs.Common.{ap, sym, ◌∙◌}
use Rattle.std.specs.Prelude.{nat_le}
use Rattle.std.specs.List.{list_any}
use Rattle.receiver_rules.specs.Packets.{At, is_past_deadline}
use Rattle.receiver_rules.specs.Seen.{moment_of}
use Rattle.reorder_buffer.specs.Inside.Ring.{Waiting}
use Rattle.reorder_buffer.proofs.DueLemmas.{due_ticks}
use Rattle.reorder_buffer.proofs.ring.Ring.is_any_due.Goals as goal

pub returns-else-is_first_due : goal.returns-else-is_first_due
returns-else-is_first_due c =
    c.is_any_by.ensures
    ∙ ap (list_any (λ due. nat_le due c.in-Some.at)) c.self.invariant.ring.indexed
    ∙ due_ticks c.in-Some.at c.self.inside.places.items c.self.inside.pool.items (c.requires c.in-Some.at c.in-Some.is) c.self.invariant.ring.sized
    ∙ ap (λ (w : Waiting). list_any (is_past_deadline (At c.in-Some.at)) w.packets) c.self.view_is
    ∙ ap (λ o. list_any (is_past_deadline (moment_of o)) c.args.self.now.packets) (sym c.in-Some.is)
