use Rattle.std.proofs.Common.{◌≡◌, length}
use Rattle.rist_words.specs.Outs.{are_different}
use Rattle.rist_words.proofs.outs.are_different.Given as goal

abbrev pub invariant-loop-rest : goal.invariant-loop-rest
invariant-loop-rest g l = are_different g.T.PartialEq.eq l.items ≡ are_different g.T.PartialEq.eq l.rest

abbrev pub decreases-loop-rest : goal.decreases-loop-rest
decreases-loop-rest g l = length l.rest
