-- All workers stand before the parts.
use Rattle.std.proofs.Common.{◌≡◌, ◌∙◌, ◌++◌, [], map, reverse, ap, sym, rules}
use Rattle.rist_gateway.specs.Inside.Sides.{receiving_part}
use Rattle.rist_gateway.proofs.GatherLemmas.{moved_all}
use Rattle.rist_gateway.proofs.sides.gather.Goals as goal

pub returns-clause-parts : goal.returns-clause-parts
returns-clause-parts g c =
    let none : c.loop-worker.workers.items ≡ [] = search rules in
    c.reverse.ensures.items ∙ moved_all receiving_part c.args.workers.now.items c.args.parts.now.items c.loop-worker.parts.items
    (ap (λ ws. c.loop-worker.parts.items ++ map receiving_part (reverse ws)) (sym none) ∙ c.loop-worker.invariant.moved)
