-- the links that were passed, and the place among the rest
use Rattle.std.proofs.Common.{◌≡◌, ◌+◌, drop}
use Rattle.sender_rules.specs.Bonding.{link_at}
use Rattle.bond_links.proofs.weights.link_at.Given as goal

abbrev pub invariant-loop-link : goal.invariant-loop-link
invariant-loop-link l = l.link + link_at (drop l.link l.weights) l.left ≡ link_at l.weights l.place
