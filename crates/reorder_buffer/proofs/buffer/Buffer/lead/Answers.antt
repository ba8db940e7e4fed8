-- The base lies near the anchor's time.
use Rattle.std.proofs.Common.{◌∙◌, ap, sym, arith}
use Rattle.std.specs.Prelude.{◌≢◌}
use Rattle.receiver_rules.proofs.ClockLemmas.{near_base}
use Rattle.reorder_buffer.specs.declared.phase.Phase.TheVariants.{Failed}
use Rattle.reorder_buffer.specs.State.{State}
use Rattle.reorder_buffer.specs.Inside.Shown.{state_of}
use Rattle.reorder_buffer.proofs.ReleaseLemmas.{few_in_all}
use Rattle.reorder_buffer.proofs.buffer.Buffer.lead.Goals as goal

pub lead-requires-clause-base : goal.lead-requires-clause-base
lead-requires-clause-base c =
    let i = c.self.invariant.state in
    let live : c.self.inside.phase ≢ Failed = λ failed. c.requires.running (sym (ap (λ (b : State). b.phase) c.self.view_is) ∙ failed) in
    let here = ap (λ (b : State). b.anchor) c.self.view_is ∙ c.requires.anchor in
    let within = i.clock live c.args.anchor.now here in
    near_base c.args.anchor.now.time c.self.inside.clock within.near (omega (arith, within.few, few_in_all (state_of c.self.inside) i))
