-- From the floor on, what waits is what was kept.
use Rattle.std.proofs.Common.{ap, ◌∙◌, ◌==◌}
use Rattle.std.specs.List.{list_any}
use Rattle.reorder_buffer.specs.State.{State}
use Rattle.reorder_buffer.proofs.StateAfterLemmas.{has_accepted}
use Rattle.reorder_buffer.proofs.buffer.Buffer.has.Goals as goal

pub returns-clause-kept : goal.returns-clause-kept
returns-clause-kept c = λ live low history stands.
    c.has.ensures
    ∙ ap (λ (b : State). list_any (λ q. q.number == c.args.number) b.held) c.self.view_is
    ∙ has_accepted c.args.self.now history c.args.number stands live low
