-- What the parts of a gateway leave is what its line does.
use Rattle.run_gate.proofs.DoesGateLemmas.{does_gate}
use Rattle.run_gate.proofs.gating.gate_unwatched.Goals as goal

pub returns-clause-does : goal.returns-clause-does
returns-clause-does g c =
    let e = c.gate_on_links.ensures in
    does_gate _ _ _ _ _ _ (g.H.Host.shelf c.args.host.now) (g.H.Host.shelf c.gate_on_links.new.host) c.gate_on_links.result
    e.ends e.opened e.gated e.ungated e.around e.links_opened e.links_tried e.random
