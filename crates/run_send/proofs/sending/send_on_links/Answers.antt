-- Links come back as they were where nothing was begun, and else with what was sent on them.
use Rattle.outside_host.specs.Links.{AreFirstOf, KnowStatedFrom}
use Rattle.outside_host.proofs.LinkOpeningLemmas.{all_first}
use Rattle.std.proofs.Common.{◌∙◌, sym, ap, length, subst}
use Rattle.run_parts.proofs.HandedLemmas.{links_as_they_were}
use Rattle.run_send.proofs.SendLemmas.{on_opened_links, put_back, put_front}
use Rattle.run_parts.proofs.FrameLemmas.{links_back}
use Rattle.run_send.proofs.FrameLemmas.{links_over}
use Rattle.run_send.proofs.sending.send_on_links.Goals as goal

pub returns-clause-sent : goal.returns-clause-sent
returns-clause-sent g c unused ran =
    let e = c.in-Ok.ensures.same unused.told in
    on_opened_links _ _ _ _ _ _ _ _ _ _ _ _ _ _ e (c.back_links.ensures.same unused.told)
    (c.in-Ok.ensures.count ∙ ap length c.as_slice.ensures.value) (c.in-Ok.ensures.ok (unused.told, unused.links))
    (c.send_by_clock-status.ensures.others unused.told).links (c.back_links.ensures.state unused.told)
    c.as_mut_slice.ensures.value (put_front _ _ _ (sym c.as_mut_slice.ensures.len ∙ sym c.send_by_clock-status.ensures.count)) c.send_by_clock-status.ensures.count (subst (λ r. KnowStatedFrom g.H.Wire.Link.knows r c.args.line.now.session.profile 0 c.in-Ok.links.items) c.sending_role.ensures.value c.in-Ok.ensures.know)
    (c.send_by_clock-status.ensures.sent unused.told (ap (λ s. s.next_clock) e ∙ unused.clock) (ap (λ s. s.next_entropy) e ∙ unused.entropy) ran)

pub returns-clause-kept : goal.returns-clause-kept
returns-clause-kept g c unused =
    links_back _ _ _ _ _ _ _ (c.in-Ok.ensures.count ∙ ap length c.as_slice.ensures.value) (c.in-Ok.ensures.ok (unused.told, unused.links))
    (c.send_by_clock-status.ensures.others unused.told).links
    (ap length (put_front _ _ _ (sym c.as_mut_slice.ensures.len ∙ sym c.send_by_clock-status.ensures.count)) ∙ c.send_by_clock-status.ensures.count ∙ ap length c.as_mut_slice.ensures.value)
    (c.back_links.ensures.state unused.told)

pub returns-clause-links : goal.returns-clause-links
returns-clause-links g c unused refused =
    links_as_they_were _ _ _ _ _ _ (c.in-Ok.ensures.ok (unused.told, unused.links)) (c.send_by_clock-status.ensures.others unused.told).links
    (put_back _ _ _ (sym c.as_mut_slice.ensures.len ∙ ap length c.as_mut_slice.ensures.value) ((c.send_by_clock-status.ensures.unsent refused).1 ∙ c.as_mut_slice.ensures.value))
    (c.back_links.ensures.state unused.told)

pub returns-clause-links_opened : goal.returns-clause-links_opened
returns-clause-links_opened g c unused ran =
    ap (λ s. s.opened_links) (c.back_links.ensures.same unused.told) ∙ (c.send_by_clock-status.ensures.others unused.told).opened
    ∙ c.in-Ok.ensures.opened (unused.told, unused.links) ∙ ap (λ l. links_over c.sending_role.result c.args.line.now.session.profile l) c.as_slice.ensures.value
    ∙ ap (λ r. links_over r c.args.line.now.session.profile c.args.line.now.links.items) c.sending_role.ensures.value

pub returns-clause-links_tried : goal.returns-clause-links_tried
returns-clause-links_tried g c unused =
    all_first _ _ (ap (λ s. s.opened_links) (c.back_links.ensures.same unused.told) ∙ (c.send_by_clock-status.ensures.others unused.told).opened
    ∙ c.in-Ok.ensures.opened (unused.told, unused.links) ∙ ap (λ l. links_over c.sending_role.result c.args.line.now.session.profile l) c.as_slice.ensures.value
    ∙ ap (λ r. links_over r c.args.line.now.session.profile c.args.line.now.links.items) c.sending_role.ensures.value)

pub returns-in-Err-clause-links_tried : goal.returns-in-Err-clause-links_tried
returns-in-Err-clause-links_tried g c unused =
    subst (λ r. AreFirstOf (g.H.Host.shelf c.open_links.new.host).opened_links (links_over r c.args.line.now.session.profile c.args.line.now.links.items)) c.sending_role.ensures.value
    (subst (λ l. AreFirstOf (g.H.Host.shelf c.open_links.new.host).opened_links (links_over c.sending_role.result c.args.line.now.session.profile l)) c.as_slice.ensures.value
    (c.in-Err.ensures.tried (unused.told, unused.links)))
