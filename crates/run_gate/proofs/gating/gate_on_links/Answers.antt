-- Links come back as they were where nothing was begun, and else with what was done on them.
use Rattle.run_gate.proofs.GatingLemmas.{both_same, tried_on}
use Rattle.outside_host.proofs.LinkOpeningLemmas.{all_first}
use Rattle.std.proofs.Common.{◌≡◌, ◌∙◌, ◌+◌, ap, List, length, subst, arith}
use Rattle.outside_net.specs.declared.link_spec.Role.TheVariants.{Forwards}
use Rattle.outside_host.specs.Links.{KnowStatedFrom}
use Rattle.run_parts.proofs.FrameLemmas.{links_back, links_stay}
use Rattle.run_parts.proofs.HandedLemmas.{links_as_they_were, from_first}
use Rattle.run_gate.proofs.GatingLemmas.{around_links, around_unopened, failed_between, gated_by, ungated_between}
use Rattle.run_gate.proofs.GatingLemmas.{ungated_unopened}
use Rattle.run_gate.proofs.gating.gate_on_links.Goals as goal

pub returns-clause-gated : goal.returns-clause-gated
returns-clause-gated g c unused ran =
    let e = c.in-Ok.ensures.same unused.told in
    gated_by _ _ _ _ _ _ _ c.in-Ok.links.items c.gate_by_clocks-status.new.links.items _
    (omega (arith, c.in-Ok.ensures.count, ap length c.as_slice.ensures.value, ap length c.as_slice-2.ensures.value))
    (from_first _ _ _ _ _ _ (c.in-Ok.ensures.ok (unused.told, unused.links)) (c.gate_by_clocks-status.ensures.others unused.told).links
    (c.back_links.ensures.state unused.told) c.gate_by_clocks-status.ensures.links)
    e (c.back_links.ensures.same unused.told)
    (subst (λ (ls : List _). KnowStatedFrom g.H.Wire.Link.knows Forwards c.args.line.now.session.profile (length ls) c.in-Ok.links.items) c.as_slice.ensures.value c.in-Ok.ensures.know)
    (c.gate_by_clocks-status.ensures.gated unused.told (ap (λ s. s.next_clock) e ∙ unused.clock) (ap (λ s. s.next_entropy) e ∙ unused.entropy) ran)

pub returns-clause-ungated : goal.returns-clause-ungated
returns-clause-ungated g c unused refused =
    let e = c.in-Ok.ensures.same unused.told in
    ungated_between (g.H.Host.shelf c.args.host.now) (g.H.Host.shelf c.open_both.new.host) (g.H.Host.shelf c.gate_by_clocks-status.new.host) (g.H.Host.shelf c.back_links.new.host) e (c.back_links.ensures.same unused.told)
    (links_as_they_were _ _ _ _ _ _ (c.in-Ok.ensures.ok (unused.told, unused.links)) (c.gate_by_clocks-status.ensures.others unused.told).links
    (c.gate_by_clocks-status.ensures.ungated refused) (c.back_links.ensures.state unused.told))
    (c.gate_by_clocks-status.ensures.clocks unused.told (ap (λ s. s.next_clock) e ∙ unused.clock) refused) (c.gate_by_clocks-status.ensures.unreported unused.told refused)

pub returns-clause-around : goal.returns-clause-around
returns-clause-around g c unused =
    let e = c.in-Ok.ensures.same unused.told in
    let count : length c.in-Ok.links.items ≡ length c.args.line.now.inputs.items + length c.args.line.now.outputs.items =
    omega (arith, c.in-Ok.ensures.count, ap length c.as_slice.ensures.value, ap length c.as_slice-2.ensures.value) in
    around_links _ _ _ _ _ e (c.gate_by_clocks-status.ensures.others unused.told) (c.back_links.ensures.same unused.told)
    (links_back _ _ _ _ _ _ _ count (c.in-Ok.ensures.ok (unused.told, unused.links)) (c.gate_by_clocks-status.ensures.others unused.told).links
    c.gate_by_clocks-status.ensures.links (c.back_links.ensures.state unused.told))
    (c.gate_by_clocks-status.ensures.times unused.told (ap (λ s. s.next_clock) e ∙ unused.clock))
    (c.gate_by_clocks-status.ensures.words unused.told (ap (λ s. s.next_entropy) e ∙ unused.entropy))

pub returns-clause-random : goal.returns-clause-random
returns-clause-random g c unused failed =
    let e = c.in-Ok.ensures.same unused.told in
    failed_between _ _ _ _ _ e (c.back_links.ensures.same unused.told) (c.gate_by_clocks-status.ensures.random unused.told (ap (λ s. s.next_entropy) e ∙ unused.entropy) failed)

pub returns-in-Err-clause-ungated : goal.returns-in-Err-clause-ungated
returns-in-Err-clause-ungated g c unused refused = ungated_unopened _ _ (c.in-Err.ensures.same unused.told) (c.in-Err.ensures.err (unused.told, unused.links))

pub returns-in-Err-clause-around : goal.returns-in-Err-clause-around
returns-in-Err-clause-around g c unused =
    around_unopened _ _ _ (c.in-Err.ensures.same unused.told) (links_stay _ _ _ (c.in-Err.ensures.err (unused.told, unused.links)))

pub returns-clause-links_tried : goal.returns-clause-links_tried
returns-clause-links_tried g c unused =
    all_first _ _ (ap (λ s. s.opened_links) (c.back_links.ensures.same unused.told) ∙ (c.gate_by_clocks-status.ensures.others unused.told).opened
    ∙ c.in-Ok.ensures.opened (unused.told, unused.links) ∙ both_same _ _ _ _ _ _ c.as_slice.ensures.value c.as_slice-2.ensures.value)

pub returns-in-Err-clause-links_tried : goal.returns-in-Err-clause-links_tried
returns-in-Err-clause-links_tried g c unused =
    tried_on (g.H.Host.shelf c.open_both.new.host).opened_links c.args.line.now.incoming.profile _ _ c.args.line.now.session.profile _ _
    c.as_slice.ensures.value c.as_slice-2.ensures.value (c.in-Err.ensures.tried (unused.told, unused.links))
