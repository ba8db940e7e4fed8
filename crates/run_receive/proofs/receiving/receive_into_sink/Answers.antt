-- The sink comes back with what was received.
use Rattle.outside_host.proofs.LinkOpeningLemmas.{first_still, none_first}
use Rattle.std.proofs.Common.{◌∙◌, ap, sym, subst}
use mathlib.Core.Logic.{inr}
use Rattle.outside_host.specs.Links.{IsAsItWas}
use Rattle.outside_host.specs.declared.host.Place.TheVariants.{Back}
use Rattle.run_receive.proofs.ReceiveLemmas.{received_by, still_unused_behind}
use Rattle.run_receive.proofs.receiving.receive_into_sink.Goals as goal

pub returns-clause-received : goal.returns-clause-received
returns-clause-received g c unused ran =
    received_by _ _ _ _ _ _ _ _ _ _ (c.in-Ok.ensures.ok unused.told).was
    ((c.back_sink.ensures.state unused.told).now (ap (λ f. f c.args.line.now.out.now) (c.receive_on_links-sink.ensures.others unused.told).sinks ∙ (c.in-Ok.ensures.ok unused.told).now))
    c.in-Ok.ensures.fresh (c.in-Ok.ensures.same unused.told) (c.back_sink.ensures.same unused.told)
    (c.receive_on_links-sink.ensures.received (still_unused_behind _ _ _ (c.in-Ok.ensures.same unused.told) unused) ran)

pub returns-clause-unreceived : goal.returns-clause-unreceived
returns-clause-unreceived g c unused refused =
    let e = c.in-Ok.ensures.same unused.told in
    let f = c.back_sink.ensures.same unused.told in
    let still = still_unused_behind _ _ _ e unused in
    record {
      sink = inr (
        c.in-Ok.sink,
        (c.in-Ok.ensures.ok unused.told).was,
        (c.back_sink.ensures.state unused.told).now (ap (λ f. f c.args.line.now.out.now) (c.receive_on_links-sink.ensures.others unused.told).sinks ∙ (c.in-Ok.ensures.ok unused.told).now)
            ∙ ap Back (c.receive_on_links-sink.ensures.unreceived refused),
      );
      links = λ place.
          subst (λ x. IsAsItWas (x place) ((g.H.Host.shelf c.back_sink.new.self).links place)) (ap (λ s. s.links) e)
          (subst (λ x. IsAsItWas ((g.H.Host.shelf c.sink.new.self).links place) (x place)) (sym (ap (λ s. s.links) f)) (c.receive_on_links-sink.ensures.links still refused place));
      clocks = λ place.
          subst (λ x. IsAsItWas (x place) ((g.H.Host.shelf c.back_sink.new.self).clocks place)) (ap (λ s. s.clocks) e)
          (subst (λ x. IsAsItWas ((g.H.Host.shelf c.sink.new.self).clocks place) (x place)) (sym (ap (λ s. s.clocks) f)) (c.receive_on_links-sink.ensures.clocks still refused place));
      report = ap (λ s. s.report) f ∙ (c.receive_on_links-sink.ensures.unreported unused.told refused ∙ ap (λ s. s.report) e);
    }

pub returns-clause-links_tried : goal.returns-clause-links_tried
returns-clause-links_tried g c unused =
    first_still _ _ _ (ap (λ s. s.opened_links) (c.back_sink.ensures.same unused.told))
    (c.receive_on_links-sink.ensures.links_tried (still_unused_behind _ _ _ (c.in-Ok.ensures.same unused.told) unused))

pub returns-in-Err-clause-links_tried : goal.returns-in-Err-clause-links_tried
returns-in-Err-clause-links_tried g c unused = none_first _ _ (ap (λ s. s.opened_links) (c.in-Err.ensures.same unused.told) ∙ unused.links)
