-- a link for each address so far, behind those that were out before
use Rattle.std.proofs.Common.{◌≡◌, ◌+◌, ◌++◌, length, map, take}
use Rattle.std.specs.Prelude.{IsTrue}
use Rattle.outside_host.specs.Shelf.{ChangesOpening}
use Rattle.outside_host.specs.Inside.Links.{GainKnowing, GoOut}
use Rattle.outside_host.proofs.links.open_all.Given as goal

abbrev pub invariant-loop-spec : goal.invariant-loop-spec
invariant-loop-spec g l =
    (length l.links.items ≡ length l.initial.links.items + l.spec-index)
    × (IsTrue g.H.Host.tells → length (g.H.Host.shelf l.initial.host).opened_links ≡ length l.initial.links.items
    → length (g.H.Host.shelf l.host).opened_links ≡ length l.links.items)
    × (IsTrue g.H.Host.tells → length (g.H.Host.shelf l.initial.host).opened_links ≡ length l.initial.links.items
    → GoOut (g.H.Host.shelf l.initial.host).links (g.H.Host.shelf l.host).links l.initial.links.items l.links.items)
    × (IsTrue g.H.Host.tells → length (g.H.Host.shelf l.initial.host).opened_links ≡ length l.initial.links.items
    → (g.H.Host.shelf l.host).opened_links ≡ (g.H.Host.shelf l.initial.host).opened_links ++ map (λ spec. record { spec = spec; role = l.role; profile = l.profile }) (take l.spec-index l.specs))
    × (IsTrue g.H.Host.tells → ChangesOpening (g.H.Host.shelf l.initial.host) (g.H.Host.shelf l.host))
    × (g.H.Host.faults l.host ≡ g.H.Host.faults l.initial.host)
    × GainKnowing g.H.Wire.Link.knows l.role l.profile l.initial.links.items l.links.items
