use Rattle.std.proofs.Common.{rules}
use Rattle.turn_lock.proofs.Steps.{marks}
use Rattle.turn_lock.proofs.lock.TurnLock.mark.Goals as goal

pub compare_exchange-requires : goal.compare_exchange-requires
compare_exchange-requires g c = (search rules, search rules, marks g.X.Turned.stands _ _ _ _ _ _ c.requires.words.0 c.requires.words.1)
