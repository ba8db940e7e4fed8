use Rattle.std.proofs.Common.{◌≡◌, None, take, drop}
use Rattle.rist_nack.specs.Asked.{upper_after}
use Rattle.rist_nack.proofs.requests.upper_behind.Given as goal

abbrev pub invariant-loop : goal.invariant-loop
invariant-loop l = record {
  left : l.packets ≡ drop l.counter l.compound;
  upper : l.upper ≡ upper_after l.media None (take l.counter l.compound);
}
