-- Nothing was out before, and what is received on is opened before what is sent on.
use Rattle.std.proofs.Common.{ap, sym, ◌∙◌, length, subst}
use Rattle.outside_host.specs.Links.{AreOut}
use Rattle.outside_host.proofs.LinkOpeningLemmas.{as_many_out, first_of_new, from_some, none_first, none_out}
use Rattle.outside_host.proofs.links.open_both.Goals as goal

pub returns-in-Ok-open_all-clause-err : goal.returns-in-Ok-open_all-clause-err
returns-in-Ok-open_all-clause-err g c =
    λ fresh.
    let none = ap length fresh.1 ∙ sym (ap length c.in-Ok.ensures.items) in
    from_some _ _ _ _ _
    (c.in-Ok-open_all.ensures.ok fresh.0 none (g.H.Host.shelf c.args.host.now).links
    (subst (AreOut (g.H.Host.shelf c.args.host.now).links (g.H.Host.shelf c.args.host.now).links) (sym c.in-Ok.ensures.items) (none_out (g.H.Host.shelf c.args.host.now).links)))
    (c.open_all-in-Ok-open_all.ensures.err fresh.0
    (as_many_out _ _ _ _ _ _ (c.in-Ok-open_all.ensures.opened fresh.0 none) none c.in-Ok-open_all.ensures.count))

pub returns-in-Err-open_all-clause-err : goal.returns-in-Err-open_all-clause-err
returns-in-Err-open_all-clause-err g c =
    λ fresh.
    c.in-Err-open_all.ensures.err fresh.0 (ap length fresh.1 ∙ sym (ap length c.in-Ok.ensures.items)) (g.H.Host.shelf c.args.host.now).links
    (subst (AreOut (g.H.Host.shelf c.args.host.now).links (g.H.Host.shelf c.args.host.now).links) (sym c.in-Ok.ensures.items) (none_out (g.H.Host.shelf c.args.host.now).links))

pub returns-in-Err-clause-tried : goal.returns-in-Err-clause-tried
returns-in-Err-clause-tried g c = λ fresh. none_first _ _ fresh.1

pub returns-in-Err-open_all-clause-tried : goal.returns-in-Err-open_all-clause-tried
returns-in-Err-open_all-clause-tried g c =
    λ fresh. first_of_new _ _ _ _ fresh.1 (c.in-Err-open_all.ensures.tried fresh.0 (ap length fresh.1 ∙ sym (ap length c.in-Ok.ensures.items)))
