-- As many links come back as were handed on.
use Rattle.outside_net.specs.Links.{LinkTells}
use Rattle.std.proofs.Common.{◌∙◌, length, ap, sym}
use Rattle.std.proofs.lemmas.List.{length-map}
use Rattle.rist_gateway.specs.Onward.{OnwardState, shown}
use Rattle.rist_gateway.specs.Run.{LooksOn}
use Rattle.rist_gateway.proofs.SideLemmas.{look_on, looked_as}
use Rattle.rist_gateway.proofs.run.forward.Goals as goal

pub returns-in-Ok-clause-onward : goal.returns-in-Ok-clause-onward
returns-in-Ok-clause-onward g c =
    let line : LinkTells g.row.L.Denot = record { reads = g.L.Link.reads; taken = g.L.Link.taken; knows = g.L.Link.knows; ends = g.L.Link.ends; faults = g.L.Link.faults } in
    let apart = c.apart-links.ensures in
    ap length apart.parts.0
    ∙ (sym (length-map _ (shown line))
    ∙ (apart.since.count ∙ (ap (λ (o : OnwardState). length o.links) c.requires.first ∙ length-map c.args.end.links.items (shown line))))

-- what a side worker saw is a look of the sending end
pub returns-in-Ok-clause-looked : goal.returns-in-Ok-clause-looked
returns-in-Ok-clause-looked g c =
    let line : LinkTells g.row.L.Denot = record { reads = g.L.Link.reads; taken = g.L.Link.taken; knows = g.L.Link.knows; ends = g.L.Link.ends; faults = g.L.Link.faults } in
    looked_as _ (LooksOn g.G.OnwardOrigin.first) (look_on line g.C.Clock.moments g.G.OnwardOrigin.first) g.C.Clock.moments c.args.limits.now _ _ c.in-Ok.ensures.looked
