-- a sign that says no for ever still does
use Rattle.end_sign.specs.Until.{SaysNo}
use Rattle.end_sign.proofs.until_source.await_longer.Given as goal

abbrev pub invariant-loop : goal.invariant-loop
invariant-loop g l = SaysNo (g.E.EndSign.answers l.fn.sign) → SaysNo (g.E.EndSign.answers l.sign)
