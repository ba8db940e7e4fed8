-- the links so far are down
use Rattle.std.proofs.Common.{◌≡◌, ◌-◌}
use Rattle.std.specs.Prelude.{not}
use Rattle.std.specs.List.{find, range_with_len}
use Rattle.bond_links.specs.Plans.{is_down}
use Rattle.bond_links.proofs.bond.first_up.Given as goal

abbrev pub invariant-loop-link : goal.invariant-loop-link
invariant-loop-link l =
    find (λ link. not (is_down l.down link)) (range_with_len l.from (l.to - l.from)) ≡ find (λ link. not (is_down l.down link)) (range_with_len l.link (l.to - l.link))
