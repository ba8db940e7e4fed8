-- Workers with traces may make all their turns.
use Rattle.std.proofs.Common.{arith}
use Rattle.rist_recv.proofs.receiving.named_run.Goals as goal

pub serve-requires-clause-own : goal.serve-requires-clause-own
serve-requires-clause-own g c κs within = λ i d less. record { own = tt; left_is = let few = c.requires.turns.1 in omega (arith, few) }
