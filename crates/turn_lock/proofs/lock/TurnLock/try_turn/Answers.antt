use Rattle.std.proofs.Common.{rules}
use Rattle.turn_lock.proofs.Steps.{takes_free}
use Rattle.turn_lock.proofs.lock.TurnLock.try_turn.Goals as goal

pub compare_exchange-requires : goal.compare_exchange-requires
compare_exchange-requires g c = (search rules, search rules, takes_free g.X.Turned.stands _ _ _ _ _ _ c.requires.ready.1 c.requires.words.0 c.requires.words.1)
