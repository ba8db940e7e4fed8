-- Links come back as they were where nothing was begun, and else with what was received on them.
use Rattle.std.proofs.Common.{◌∙◌, ap, length, subst}
use Rattle.outside_host.specs.Links.{AreFirstOf}
use Rattle.outside_host.proofs.LinkOpeningLemmas.{all_first, none_first}
use Rattle.run_parts.proofs.HandedLemmas.{links_as_they_were, from_first}
use Rattle.run_parts.proofs.FrameLemmas.{links_back}
use Rattle.run_fan.proofs.FannedLemmas.{by_clocks_between, links_in}
use Rattle.run_fan.proofs.fanning.fan_on_links.Goals as goal

pub returns-clause-kept : goal.returns-clause-kept
returns-clause-kept g c unused =
    links_back _ _ _ _ _ _ _ (c.in-Ok-open_links.ensures.count ∙ ap length c.as_slice.ensures.value) (c.in-Ok-open_links.ensures.ok (unused.told, unused.links))
    (c.fan_by_clocks-status.ensures.others unused.told).links
    c.fan_by_clocks-status.ensures.links (c.back_links.ensures.state unused.told)

pub returns-clause-links : goal.returns-clause-links
returns-clause-links g c unused refused =
    links_as_they_were _ _ _ _ _ _ (c.in-Ok-open_links.ensures.ok (unused.told, unused.links)) (c.fan_by_clocks-status.ensures.others unused.told).links
    (ap (λ v. v.items) (c.fan_by_clocks-status.ensures.unfanned refused).0) (c.back_links.ensures.state unused.told)

pub returns-clause-fanned : goal.returns-clause-fanned
returns-clause-fanned g c unused ran =
    let e = c.in-Ok-open_links.ensures.same unused.told in
    let f = c.back_links.ensures.same unused.told in
    record {
      were = c.in-Ok-open_links.links.items;
      are = c.fan_by_clocks-status.new.links.items;
      count = c.in-Ok-open_links.ensures.count ∙ ap length c.as_slice.ensures.value;
      places = from_first _ _ _ _ _ _ (c.in-Ok-open_links.ensures.ok (unused.told, unused.links)) (c.fan_by_clocks-status.ensures.others unused.told).links
          (c.back_links.ensures.state unused.told) c.fan_by_clocks-status.ensures.links;
      did = by_clocks_between _ _ _ _ _ _ _ _ _ _ _ _ (ap (λ s. s.clocks) e) (ap (λ s. s.entropies) e) (ap (λ s. s.clocks) f) (ap (λ s. s.entropies) f) (ap (λ s. s.report) f)
          (c.fan_by_clocks-status.ensures.fanned unused.told (ap (λ s. s.next_clock) e ∙ unused.clock) (ap (λ s. s.next_entropy) e ∙ unused.entropy) ran);
    }

pub returns-clause-links_tried : goal.returns-clause-links_tried
returns-clause-links_tried g c unused =
    all_first _ _ (ap (λ s. s.opened_links) (c.back_links.ensures.same unused.told) ∙ (c.fan_by_clocks-status.ensures.others unused.told).opened
    ∙ c.in-Ok-open_links.ensures.opened (unused.told, unused.links) ∙ ap (λ l. links_in c.receiving_role.result c.args.line.now.session.profile l) c.as_slice.ensures.value
    ∙ ap (λ r. links_in r c.args.line.now.session.profile c.args.line.now.links.items) c.receiving_role.ensures.value)

pub returns-in_default-clause-links_tried : goal.returns-in_default-clause-links_tried
returns-in_default-clause-links_tried g c unused = none_first _ _ unused.links
