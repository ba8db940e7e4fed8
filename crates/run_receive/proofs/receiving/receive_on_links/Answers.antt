-- Links come back as they were where nothing was begun, and else with what was received on them.
use Rattle.run_receive.proofs.ReceiveLemmas.{links_in}
use Rattle.outside_host.specs.Links.{AreFirstOf}
use Rattle.outside_host.proofs.LinkOpeningLemmas.{all_first}
use Rattle.std.proofs.Common.{◌∙◌, ap, length, subst}
use Rattle.run_parts.proofs.HandedLemmas.{links_as_they_were, from_first}
use Rattle.run_parts.proofs.FrameLemmas.{links_back}
use Rattle.run_receive.proofs.ReceiveLemmas.{by_clocks_between}
use Rattle.run_receive.proofs.receiving.receive_on_links.Goals as goal

pub returns-clause-kept : goal.returns-clause-kept
returns-clause-kept g c unused =
    links_back _ _ _ _ _ _ _ (c.in-Ok.ensures.count ∙ ap length c.as_slice.ensures.value) (c.in-Ok.ensures.ok (unused.told, unused.links))
    (c.receive_by_clocks-sink.ensures.others unused.told).links
    c.receive_by_clocks-sink.ensures.links (c.back_links.ensures.state unused.told)

pub returns-clause-links : goal.returns-clause-links
returns-clause-links g c unused refused =
    links_as_they_were _ _ _ _ _ _ (c.in-Ok.ensures.ok (unused.told, unused.links)) (c.receive_by_clocks-sink.ensures.others unused.told).links
    (ap (λ v. v.items) (c.receive_by_clocks-sink.ensures.unreceived refused).0) (c.back_links.ensures.state unused.told)

pub returns-clause-received : goal.returns-clause-received
returns-clause-received g c unused ran =
    let e = c.in-Ok.ensures.same unused.told in
    let f = c.back_links.ensures.same unused.told in
    record {
      were = c.in-Ok.links.items;
      are = c.receive_by_clocks-sink.new.links.items;
      count = c.in-Ok.ensures.count ∙ ap length c.as_slice.ensures.value;
      places = from_first _ _ _ _ _ _ (c.in-Ok.ensures.ok (unused.told, unused.links)) (c.receive_by_clocks-sink.ensures.others unused.told).links
          (c.back_links.ensures.state unused.told) c.receive_by_clocks-sink.ensures.links;
      did = by_clocks_between _ _ _ _ _ _ _ _ _ _ _ _ (ap (λ s. s.clocks) e) (ap (λ s. s.entropies) e) (ap (λ s. s.clocks) f) (ap (λ s. s.entropies) f) (ap (λ s. s.report) f)
          (c.receive_by_clocks-sink.ensures.received unused.told (ap (λ s. s.next_clock) e ∙ unused.clock) (ap (λ s. s.next_entropy) e ∙ unused.entropy) ran);
    }

pub returns-clause-links_tried : goal.returns-clause-links_tried
returns-clause-links_tried g c unused =
    all_first _ _ (ap (λ s. s.opened_links) (c.back_links.ensures.same unused.told) ∙ (c.receive_by_clocks-sink.ensures.others unused.told).opened
    ∙ c.in-Ok.ensures.opened (unused.told, unused.links) ∙ ap (λ l. links_in c.receiving_role.result c.args.line.now.session.profile l) c.as_slice.ensures.value
    ∙ ap (λ r. links_in r c.args.line.now.session.profile c.args.line.now.links.items) c.receiving_role.ensures.value)

pub returns-in-Err-clause-links_tried : goal.returns-in-Err-clause-links_tried
returns-in-Err-clause-links_tried g c unused =
    subst (λ r. AreFirstOf (g.H.Host.shelf c.open_links.new.host).opened_links (links_in r c.args.line.now.session.profile c.args.line.now.links.items)) c.receiving_role.ensures.value
    (subst (λ l. AreFirstOf (g.H.Host.shelf c.open_links.new.host).opened_links (links_in c.receiving_role.result c.args.line.now.session.profile l)) c.as_slice.ensures.value
    (c.in-Err.ensures.tried (unused.told, unused.links)))
