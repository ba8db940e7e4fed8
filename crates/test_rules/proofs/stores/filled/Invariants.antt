-- the next packet follows on those that are stored
use Rattle.retransmit_store.specs.State.{IsNext}
use Rattle.test_rules.proofs.stores.filled.Given as goal

abbrev pub invariant-loop-number : goal.invariant-loop-number
invariant-loop-number l = IsNext l.store.packets l.number
