-- those behind the ones that are left came back
use Rattle.std.proofs.Common.{◌≡◌, ◌≤◌, length}
use Rattle.std.specs.Prelude.{IsTrue}
use Rattle.outside_host.specs.Shelf.{ChangesLinks}
use Rattle.outside_host.proofs.LinkGivingLemmas.{IsGivingBack}
use Rattle.outside_host.proofs.links.back_links.Given as goal

abbrev pub invariant-loop-link : goal.invariant-loop-link
invariant-loop-link g l =
    (length l.links.items ≤ length l.initial.links.items)
    × (IsTrue g.H.Host.tells → IsGivingBack (g.H.Host.shelf l.initial.host).links (g.H.Host.shelf l.host).links l.initial.links.items l.links.items)
    × (IsTrue g.H.Host.tells → ChangesLinks (g.H.Host.shelf l.initial.host) (g.H.Host.shelf l.host))
    × (g.H.Host.faults l.host ≡ g.H.Host.faults l.initial.host)

abbrev pub decreases-loop-link : goal.decreases-loop-link
decreases-loop-link g l = goal.left-loop-link g l
