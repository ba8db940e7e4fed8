-- Nothing was done yet.
use Rattle.std.proofs.Common.{ℕ, List, [], None, refl, sym, subst}
use Rattle.rist_gateway.specs.Onward.{OnwardState, IsOnward, onward_of, passed_of}
use Rattle.rist_gateway.proofs.OnwardLemmas.{onward_first}
use Rattle.rist_gateway.proofs.onward.Onward.with.Goals as goal

pub invariant_of-result : goal.invariant_of-result
invariant_of-result g c =
    let at : List ℕ → OnwardState = λ sent. onward_of (record { reads = g.L.Link.reads; taken = g.L.Link.taken; knows = g.L.Link.knows; ends = g.L.Link.ends; faults = g.L.Link.faults }) c.args.sender c.args.opener c.args.links.items (passed_of (g.C.Clock.moments c.args.clock) sent) 0 0 None None in
    subst (λ (sent : List ℕ). IsOnward g.G.OnwardOrigin.first (at sent)) (sym c.none.ensures.value)
    (subst (λ (f : OnwardState). IsOnward f (at [])) (sym c.requires.first) (onward_first (at []) c.requires.uncalled refl refl))
