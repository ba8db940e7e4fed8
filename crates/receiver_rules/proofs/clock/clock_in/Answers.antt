-- The clock of the epoch that is open.
use Rattle.std.proofs.Common.{sym, subst}
use Rattle.receiver_rules.specs.Seen.{start_of}
use Rattle.receiver_rules.specs.Bounds.{IsClockWithin}
use Rattle.receiver_rules.proofs.clock.clock_in.Goals as goal

pub returns-in-Some-clause-within : goal.returns-in-Some-clause-within
returns-in-Some-clause-within c = λ originals h.
    subst (λ o. IsClockWithin (start_of o c.args.at) originals c.args.clock.now) (sym c.in-Some.is) (h c.in-Some.field-0 c.in-Some.is)
