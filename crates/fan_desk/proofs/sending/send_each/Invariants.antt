-- The places that were written.
use Rattle.std.proofs.Common.{◌≡◌, ◌++◌, take, option_map}
use Rattle.rist_desk.specs.Sending.{written}
use Rattle.rist_desk.specs.Links.{IsKept}
use Rattle.fan_desk.specs.Made.{all_outs}
use Rattle.fan_desk.proofs.sending.send_each.Given as goal

abbrev pub invariant-loop-v : goal.invariant-loop-v
invariant-loop-v g l = record {
  kept : IsKept g.L.Link.reads g.L.Link.ends g.L.Link.knows l.initial.link l.link;
  faults : g.L.Link.faults l.link ≡ g.L.Link.faults l.initial.link;
  taken : g.L.Link.taken l.link ≡ option_map (λ t. t ++ written (g.L.Link.knows l.initial.link) (all_outs (take l.v l.came))) (g.L.Link.taken l.initial.link);
}
