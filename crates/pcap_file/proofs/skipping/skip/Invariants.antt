use Rattle.std.proofs.Common.{◌≡◌, ℕ, ◌+◌, ◌≤◌, List, length}
use Rattle.outside_io.specs.Told.{Takes}
use Rattle.pcap_file.proofs.skipping.skip.Given as goal

abbrev pub invariant-loop-left : goal.invariant-loop-left
invariant-loop-left g l = record {
  most : l.left ≤ l.count;
  taken : (octets : List ℕ) × (length octets + l.left ≡ l.count) × Takes l.initial.source.remaining l.source.remaining octets;
  faults : l.source.faults ≡ l.initial.source.faults;
}

abbrev pub decreases-loop-left : goal.decreases-loop-left
decreases-loop-left g l = l.left
