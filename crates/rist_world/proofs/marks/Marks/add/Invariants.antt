use Rattle.std.proofs.Common.{◌≡◌, take}
use Rattle.rist_world.specs.World.{marked}
use Rattle.rist_world.proofs.marks.Marks.add.Given as goal

abbrev pub invariant-loop-place : goal.invariant-loop-place
invariant-loop-place l = record {
  marks : l.self-inside.places.items ≡ marked l.fn.opener l.fn.self (take l.place l.fn.wire.put);
  same : l.opener ≡ l.fn.opener;
}
