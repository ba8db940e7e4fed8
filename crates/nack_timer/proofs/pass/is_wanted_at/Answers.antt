use Rattle.nack_timer.proofs.WouldLemmas.{small_at}
use Rattle.nack_timer.proofs.pass.is_wanted_at.Goals as goal

pub is_due-requires-clause-small : goal.is_due-requires-clause-small
is_due-requires-clause-small c = small_at c.args.missing.now.items c.args.place c.in-Some.entry.now c.requires.small c.in-Some.ensures
