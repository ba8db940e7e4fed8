-- No more originals came than there are numbers below the floor and packets that wait.
use Rattle.std.proofs.Common.{◌+◌, ◌∙◌, ap, subst, length, arith}
use Rattle.receiver_rules.specs.Seen.{start_of}
use Rattle.receiver_rules.specs.Bounds.{IsClockWithin, IsNearBase}
use Rattle.receiver_rules.proofs.ClockLemmas.{near_base}
use Rattle.reorder_buffer.specs.State.{State}
use Rattle.reorder_buffer.specs.Inside.Shown.{state_of}
use Rattle.reorder_buffer.proofs.ReleaseLemmas.{few_in_all}
use Rattle.reorder_buffer.proofs.PhaseLemmas.{not_failed}
use Rattle.reorder_buffer.proofs.buffer.Buffer.clock_for.Goals as goal

pub returns-clause-within : goal.returns-clause-within
returns-clause-within c =
    let i = c.self.invariant.state in
    let live = not_failed c.self.inside.phase (ap (λ (b : State). b.phase) c.self.view_is ∙ c.requires.running) in
    subst (λ (b : State). IsClockWithin (start_of b.anchor c.args.at) (b.floor + length b.held) c.clock_in.result) c.self.view_is
    (c.clock_in.ensures.within (c.self.inside.floor + length c.self.inside.ring.packets) (i.clock live))

pub returns-clause-few : goal.returns-clause-few
returns-clause-few c =
    let i = c.self.invariant.state in
    let live = not_failed c.self.inside.phase (ap (λ (b : State). b.phase) c.self.view_is ∙ c.requires.running) in
    let within = c.clock_in.ensures.within (c.self.inside.floor + length c.self.inside.ring.packets) (i.clock live) in
    omega (arith, within.few, few_in_all (state_of c.self.inside) i)

pub returns-clause-base : goal.returns-clause-base
returns-clause-base c =
    let i = c.self.invariant.state in
    let live = not_failed c.self.inside.phase (ap (λ (b : State). b.phase) c.self.view_is ∙ c.requires.running) in
    let within = c.clock_in.ensures.within (c.self.inside.floor + length c.self.inside.ring.packets) (i.clock live) in
    let few = few_in_all (state_of c.self.inside) i in
    subst (λ (b : State). IsNearBase (start_of b.anchor c.args.at) c.clock_in.result.base) c.self.view_is
    (near_base (start_of c.self.inside.anchor c.args.at) c.clock_in.result within.near (omega (arith, within.few, few)))
