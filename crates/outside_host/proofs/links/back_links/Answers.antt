-- Links are given back from the last one on.
use Rattle.std.proofs.Common.{refl, arith}
use Rattle.outside_host.proofs.LinkGivingLemmas.{none_given}
use Rattle.outside_host.proofs.links.back_links.Goals as goal

pub loop-link-init : goal.loop-link-init
loop-link-init g c = (omega arith, (λ tells. none_given _ _), (λ tells. refl), refl)
