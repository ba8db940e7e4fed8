-- A packet that counts is one more original.
use Rattle.std.proofs.Common.{◌+◌, cond, sym, subst}
use Rattle.receiver_rules.specs.Bounds.{IsClockWithin}
use Rattle.receiver_rules.proofs.clock.clock_with.Goals as goal

pub returns-then-counts-clause-within : goal.returns-then-counts-clause-within
returns-then-counts-clause-within c = λ originals h.
    subst (λ b. IsClockWithin c.args.anchor.now.time (cond b (originals + 1) originals) c.after.result) (sym c.if-counts.true) (c.after.ensures.within c.args.anchor.now.time originals h)
