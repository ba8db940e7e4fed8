-- What the buffer judges and keeps by its own state is what the history says.
use Rattle.std.proofs.Common.{◌∷◌, ◌∙◌, sym, subst}
use Rattle.receiver_rules.specs.Steps.{media_step}
use Rattle.receiver_rules.specs.Seen.{seen}
use Rattle.reorder_buffer.specs.StateAfter.{Shows}
use Rattle.reorder_buffer.proofs.StateAfterLemmas.{arrives, verdict_after_steps, state_after_arrival}
use Rattle.reorder_buffer.proofs.buffer.Buffer.arrive.Goals as goal

pub returns-clause-verdict : goal.returns-clause-verdict
returns-clause-verdict c = λ history s.
    c.take.ensures.verdict ∙ verdict_after_steps _ history c.args.at (seen c.args.arrival.now) (arrives _ history c.args.at s c.requires.running c.requires.clock c.requires.released)

pub returns-clause-state : goal.returns-clause-state
returns-clause-state c = λ history s _.
    subst (λ b. Shows b (media_step c.args.at (seen c.args.arrival.now) ∷ history)) (sym c.take.ensures.taken)
    (state_after_arrival _ history c.args.at (seen c.args.arrival.now) (arrives _ history c.args.at s c.requires.running c.requires.clock c.requires.released))
