use Rattle.std.proofs.Common.{◌≡◌, ◌∙◌, None, false, sym, ap}
use Rattle.std.specs.List.{range_with_len}
use Rattle.sender_rules.specs.Bonding.{link_count, planned_links}
use Rattle.bond_links.specs.Plans.{bonding_of}
use Rattle.bond_links.proofs.PlanLemmas.{filter_all}
use Rattle.bond_links.proofs.bond.Bond.plan.Goals as goal

pub returns-in-None-clause-links : goal.returns-in-None-clause-links
returns-in-None-clause-links c =
    let is : bonding_of c.self.inside.links None ≡ c.args.self.now = ap (bonding_of c.self.inside.links) (sym c.in-None.is) ∙ c.self.view_is in
    sym (ap (λ b. range_with_len 0 (link_count b)) is) ∙ sym (filter_all (range_with_len 0 c.self.inside.links)) ∙ ap (λ b. planned_links (λ link. false) b c.args.k) is
