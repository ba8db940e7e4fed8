use Rattle.std.proofs.Common.{◌≡◌, ◌∙◌, sym, ap}
use Rattle.sender_rules.specs.Bonding.{link_count, next_up}
use Rattle.bond_links.specs.Plans.{is_down}
use Rattle.bond_links.proofs.PlanLemmas.{next_from, next_below}
use Rattle.bond_links.proofs.bond.Bond.next_up.Goals as goal

pub returns-in-Some-clause-value : goal.returns-in-Some-clause-value
returns-in-Some-clause-value c =
    let count : c.self.inside.links ≡ link_count c.args.self.now = sym c.self.invariant.2 ∙ ap link_count c.self.view_is in
    next_from (is_down c.args.down.now) c.args.link c.self.inside.links c.in-Some.up c.in-Some.ensures.value ∙ ap (next_up (is_down c.args.down.now) c.args.link) count

pub returns-in-None-clause-value : goal.returns-in-None-clause-value
returns-in-None-clause-value c =
    let count : c.self.inside.links ≡ link_count c.args.self.now = sym c.self.invariant.2 ∙ ap link_count c.self.view_is in
    c.first_up-in-None.ensures.value ∙ next_below (is_down c.args.down.now) c.args.link c.self.inside.links c.in-None.ensures.value ∙ ap (next_up (is_down c.args.down.now) c.args.link) count
