use Rattle.std.proofs.Common.{◌≡◌, ◌≤◌, length, take}
use Rattle.rist_compare.specs.Tears.{of}
use Rattle.rist_compare.proofs.comparing.tear_of.Given as goal

abbrev pub invariant-loop-step : goal.invariant-loop-step
invariant-loop-step l = record {
  within : l.place ≤ length l.own;
  same : of l.link (take l.step-index l.kept) ≡ take l.place l.own;
}
