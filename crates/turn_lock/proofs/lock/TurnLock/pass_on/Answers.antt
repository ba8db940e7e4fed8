use Rattle.std.proofs.Common.{rules, inr, refl}
use Rattle.turn_lock.proofs.Steps.{passes}
use Rattle.turn_lock.proofs.lock.TurnLock.pass_on.Goals as goal

pub swap-requires : goal.swap-requires
swap-requires g c = (search rules, search rules, passes g.X.Turned.stands _ _ _ _ _ g.N.Chosen.entry (search rules) (search rules) (inr refl))
