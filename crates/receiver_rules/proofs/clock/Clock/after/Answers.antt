-- One more original is one more transit.
use Rattle.std.proofs.Common.{◌+◌, ◌∙◌, sym, ap, subst}
use Rattle.std.proofs.lemmas.Int.{to_z-of_z}
use Rattle.receiver_rules.specs.Seen.{clock_after}
use Rattle.receiver_rules.specs.Bounds.{IsClockWithin}
use Rattle.receiver_rules.proofs.ClockLemmas.{clock_follows, within_after}
use Rattle.receiver_rules.proofs.clock.Clock.after.Goals as goal

pub returns-clause-follows : goal.returns-clause-follows
returns-clause-follows c = λ start transits e.
    let is = simp (to_z-of_z, c.ranges.transit) at c.counting.ensures in
    is ∙ ap (λ k. clock_after c.args.limits.now k c.args.transit) e ∙ sym (clock_follows c.args.limits.now start c.args.transit transits)

pub returns-clause-within : goal.returns-clause-within
returns-clause-within c = λ time originals within.
    let is = simp (to_z-of_z, c.ranges.transit) at c.counting.ensures in
    subst (IsClockWithin time (originals + 1)) (sym is) (within_after c.args.limits.now c.args.self.now c.args.transit time originals within c.requires.transit)
