-- The source comes back with what its run left.
use Rattle.outside_host.proofs.LinkOpeningLemmas.{first_still, none_first}
use Rattle.std.proofs.Common.{◌∙◌, sym, ap, subst}
use mathlib.Core.Logic.{inr}
use Rattle.outside_host.specs.Links.{IsAsItWas as LinkIsAsItWas}
use Rattle.outside_host.specs.declared.host.Place.TheVariants.{Back}
use Rattle.run_parts.specs.Places.{IsAsItWas}
use Rattle.run_send.proofs.SendLemmas.{sent_by, still_unused}
use Rattle.run_send.proofs.FrameLemmas.{around_source}
use Rattle.run_parts.proofs.PlaceLemmas.{not_as_it_stood}
use Rattle.run_send.proofs.sending.send_from_source.Goals as goal

pub returns-clause-sent : goal.returns-clause-sent
returns-clause-sent g c unused ran =
    sent_by _ _ _ _ _ _ _ _ _ _ (c.in-Ok.ensures.ok unused.told).was
    ((c.back_source.ensures.state unused.told).now (ap (λ f. f c.args.line.now.source.now) (c.send_on_links-status.ensures.others unused.told).sources ∙ (c.in-Ok.ensures.ok unused.told).now))
    c.send_on_links-status.ensures.read (c.in-Ok.ensures.same unused.told) (c.back_source.ensures.same unused.told)
    (c.send_on_links-status.ensures.sent (still_unused _ _ _ (c.in-Ok.ensures.same unused.told) unused) ran)

pub returns-clause-unsent : goal.returns-clause-unsent
returns-clause-unsent g c unused refused =
    let e = c.in-Ok.ensures.same unused.told in
    let f = c.back_source.ensures.same unused.told in
    let still = still_unused _ _ _ e unused in
    record {
      source = inr (
        c.in-Ok.source,
        (c.in-Ok.ensures.ok unused.told).was,
        (c.back_source.ensures.state unused.told).now (ap (λ f. f c.args.line.now.source.now) (c.send_on_links-status.ensures.others unused.told).sources ∙ (c.in-Ok.ensures.ok unused.told).now)
            ∙ ap Back (c.send_on_links-status.ensures.unsent refused),
      );
      links = λ place.
          subst (λ x. LinkIsAsItWas (x place) ((g.H.Host.shelf c.back_source.new.self).links place)) (ap (λ s. s.links) e)
          (subst (λ x. LinkIsAsItWas ((g.H.Host.shelf c.source.new.self).links place) (x place)) (sym (ap (λ s. s.links) f)) (c.send_on_links-status.ensures.links still refused place));
      clock =
          subst (λ x. IsAsItWas (x 0) ((g.H.Host.shelf c.back_source.new.self).clocks 0)) (ap (λ s. s.clocks) e)
          (subst (λ x. IsAsItWas ((g.H.Host.shelf c.source.new.self).clocks 0) (x 0)) (sym (ap (λ s. s.clocks) f)) (c.send_on_links-status.ensures.clock still refused));
    }

pub returns-clause-around : goal.returns-clause-around
returns-clause-around g c unused =
    let e = c.in-Ok.ensures.same unused.told in
    let still = still_unused _ _ _ e unused in
    around_source _ _ _ _ _ _ _ (c.in-Ok.ensures.ok unused.told) e (c.send_on_links-status.ensures.others unused.told)
    (c.send_on_links-status.ensures.kept still) (c.send_on_links-status.ensures.times still) (c.back_source.ensures.state unused.told) (c.back_source.ensures.same unused.told)

pub returns-clause-links_opened : goal.returns-clause-links_opened
returns-clause-links_opened g c unused ran =
    ap (λ s. s.opened_links) (c.back_source.ensures.same unused.told)
    ∙ c.send_on_links-status.ensures.links_opened (still_unused _ _ _ (c.in-Ok.ensures.same unused.told) unused) ran

pub returns-clause-order : goal.returns-clause-order
returns-clause-order g c told same =
    absurd (not_as_it_stood _ _ _ _ (c.in-Ok.ensures.ok told).was
    ((c.back_source.ensures.state told).now (ap (λ f. f c.args.line.now.source.now) (c.send_on_links-status.ensures.others told).sources ∙ (c.in-Ok.ensures.ok told).now)) same)

pub returns-clause-links_tried : goal.returns-clause-links_tried
returns-clause-links_tried g c unused =
    first_still _ _ _ (ap (λ s. s.opened_links) (c.back_source.ensures.same unused.told))
    (c.send_on_links-status.ensures.links_tried (still_unused _ _ _ (c.in-Ok.ensures.same unused.told) unused))

pub returns-in-Err-clause-links_tried : goal.returns-in-Err-clause-links_tried
returns-in-Err-clause-links_tried g c unused = none_first _ _ (ap (λ s. s.opened_links) (c.in-Err.ensures.same unused.told) ∙ unused.links)
