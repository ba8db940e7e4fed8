-- Links are given back from the last one on.
use Rattle.std.proofs.Common.{refl, arith}
use Rattle.outside_host.proofs.LinkGivingLemmas.{none_given}
use Rattle.outside_host.proofs.clocks.back_clocks.Goals as goal

pub loop-clock-init : goal.loop-clock-init
loop-clock-init g c = (omega arith, (λ tells. none_given _ _), (λ tells. refl), refl)
