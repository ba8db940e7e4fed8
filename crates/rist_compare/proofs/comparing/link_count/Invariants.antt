use Rattle.std.proofs.Common.{◌≡◌, ◌≤◌, ℕ, [], take}
use Rattle.rist_compare.specs.Tears.{of}
use Rattle.rist_compare.proofs.comparing.link_count.Given as goal

abbrev pub invariant-loop-step : goal.invariant-loop-step
invariant-loop-step l = record {
  few : l.count ≤ 256;
  workers : l.workers ≤ l.count;
  steps : (link : ℕ) → l.count ≤ link → of link (take l.step-index l.kept) ≡ [];
}
