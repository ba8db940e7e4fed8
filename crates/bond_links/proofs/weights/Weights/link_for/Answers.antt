use Rattle.std.proofs.Common.{ℕ, ◌≡◌, ◌∙◌, ◌<◌, ◌%◌, List, sym, subst, ap, arith}
use Rattle.std.specs.List.{sum}
use Rattle.sender_rules.specs.Bonding.{HasPlace, link_at}
use Rattle.sender_rules.proofs.BondingLemmas.{link_at_has}
use Rattle.bond_links.proofs.weights.Weights.link_for.Goals as goal

pub returns-clause-place : goal.returns-clause-place
returns-clause-place c =
    let weights = c.args.self.now in
    let total : c.self.inside.total ≡ sum weights = c.self.invariant.2 ∙ ap sum c.self.view_is in
    let within : c.args.k % sum weights < sum weights = omega (arith, total, c.self.invariant.0) in
    let link : c.link_at.result ≡ link_at weights (c.args.k % sum weights) =
    c.link_at.ensures.value ∙ ap (λ (ws : List ℕ). link_at ws (c.args.k % c.self.inside.total)) c.self.view_is ∙ ap (λ n. link_at weights (c.args.k % n)) total in
    subst (λ (l : ℕ). HasPlace weights (c.args.k % sum weights) l) (sym link) (link_at_has weights (c.args.k % sum weights) within)
