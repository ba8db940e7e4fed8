use Rattle.std.proofs.Common.{rules, ◌≡◌, ◌∙◌, ◌+◌, ◌-◌, Bool, false, Some, ap}
use Rattle.std.specs.Prelude.{not, if◌then◌else◌}
use Rattle.std.specs.List.{find, range_with_len}
use Rattle.bond_links.specs.Plans.{is_down}
use Rattle.bond_links.proofs.PlanLemmas.{find_step}
use Rattle.bond_links.proofs.bond.first_up.Goals as goal

pub loop-link-preserved : goal.loop-link-preserved
loop-link-preserved c =
    let step = find_step (λ l. not (is_down c.args.down.now l)) c.loop-link.link c.args.to c.loop-link-test.true in
    let no : not (is_down c.args.down.now c.loop-link.link) ≡ false = search rules in
    c.loop-link.invariant ∙ step ∙ ap (λ (b : Bool). if b then Some c.loop-link.link else find (λ l. not (is_down c.args.down.now l)) (range_with_len (c.loop-link.link + 1) (c.args.to - (c.loop-link.link + 1)))) no
