-- The name of this run's sending end.
use Rattle.std.specs.Prelude.{[], None}
use Rattle.rist_gateway.specs.Onward.{onward_of, passed_of}
use Rattle.rist_gateway.proofs.run.gate_on.Given as goal

abbrev pub ghosts-forward : goal.ghosts-forward
ghosts-forward g a =
    record { first = onward_of (record { reads = g.L.Link.reads; taken = g.L.Link.taken; knows = g.L.Link.knows; ends = g.L.Link.ends; faults = g.L.Link.faults }) a.end.sender a.end.opener a.end.links.items (passed_of (g.C.Clock.moments a.end.clock) []) 0 0 None None }
