use Rattle.std.proofs.Common.{rules, inl, refl}
use Rattle.turn_lock.proofs.Steps.{passes_if}
use Rattle.turn_lock.proofs.lock.TurnLock.pass_if.Goals as goal

pub compare_exchange-requires : goal.compare_exchange-requires
compare_exchange-requires g c = (search rules, search rules, passes_if g.X.Turned.stands _ _ _ _ _ _ g.N.Chosen.entry c.requires.holds c.requires.back (inl refl))
