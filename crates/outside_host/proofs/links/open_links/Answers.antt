-- Nothing was out before.
use Rattle.std.proofs.Common.{ap, sym, ◌∙◌, length}
use Rattle.outside_host.proofs.LinkOpeningLemmas.{from_none, none_first}
use Rattle.outside_host.proofs.links.open_links.Goals as goal

pub returns-clause-err : goal.returns-clause-err
returns-clause-err g c =
    λ fresh. from_none _ _ _ _ c.in-Ok.ensures.items (c.open_all.ensures.err fresh.0 (ap length fresh.1 ∙ sym (ap length c.in-Ok.ensures.items)))

pub returns-in-Err-clause-tried : goal.returns-in-Err-clause-tried
returns-in-Err-clause-tried g c = λ fresh. none_first _ _ fresh.1
