-- Each clock that was had is out, or comes back as it was.
use Rattle.std.proofs.Common.{subst}
use Rattle.outside_host.specs.Links.{AreBack}
use Rattle.outside_host.proofs.LinkOpeningLemmas.{all_as_they_were}
use Rattle.outside_host.proofs.clocks.open_clocks.Goals as goal

pub returns-in-Err-start_next-clause-err : goal.returns-in-Err-start_next-clause-err
returns-in-Err-start_next-clause-err g c =
    λ fresh.
    let err = c.in-Err-start_next.ensures.err fresh.0 (c.loop-host.invariant.1 fresh) in
    all_as_they_were _ _ _ _ _ (c.loop-host.invariant.2 fresh) err.0 err.1
    (subst (AreBack (g.H.Host.shelf c.start_next.new.host).clocks (g.H.Host.shelf c.back_clocks.new.host).clocks) c.in-Err-start_next.ensures.kept (c.back_clocks.ensures.state fresh.0))
