use Rattle.std.proofs.Common.{rules}
use Rattle.rist_world.proofs.CountedLemmas.{counted}
use Rattle.rist_world.proofs.counts.counts_of.Goals as goal

pub returns : goal.returns
returns c = record {
  value = λ setup course is. counted setup _ course _ is (search rules) (search rules) (search rules) (search rules) (search rules) (search rules);
}
