use Rattle.std.proofs.Common.{◌∙◌, sym}
use Rattle.nack_timer.proofs.WouldLemmas.{any_here, any_next}
use Rattle.nack_timer.proofs.pass.is_any_due.Goals as goal

pub returns-then-is_wanted_at : goal.returns-then-is_wanted_at
returns-then-is_wanted_at c = sym (any_here c.args.policy.now c.args.rtt c.args.t c.args.low c.args.buffer.now.held c.args.missing.now.items c.loop-place.place (sym c.is_wanted_at.ensures ∙ c.if-is_wanted_at.true))

pub loop-place-preserved : goal.loop-place-preserved
loop-place-preserved c = any_next c.args.policy.now c.args.rtt c.args.t c.args.low c.args.buffer.now.held c.args.missing.now.items c.loop-place.place (sym c.is_wanted_at.ensures ∙ c.if-is_wanted_at.false) ∙ c.loop-place.invariant
