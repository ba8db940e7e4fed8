-- The passes that were dealt out are the lock's.
use Rattle.turn_lock.proofs.Dealt.{are_fresh}
use Rattle.turn_lock.proofs.lock.TurnLock.open.Goals as goal

pub returns-clause-ok : goal.returns-clause-ok
returns-clause-ok g c = (c.in_ok-lock.ensures.ok.0, are_fresh c.in_ok-lock.lock c.deal.new.all.items c.args.passes c.in_ok-lock.ensures.ok.0 c.deal.ensures)
