use Rattle.std.proofs.Common.{◌≡◌, suc, ◌-◌, ◌≤◌, length, drop}
use Rattle.rtcp_compound.specs.Reading.{fault_within, fault_of}
use Rattle.rtcp_compound.proofs.reading.test_all.Given as goal

abbrev pub invariant-packets : goal.invariant-packets
invariant-packets l = record {
  within : l.place ≤ length l.octets;
  same : fault_within (suc (length l.octets - l.place)) l.place (drop l.place l.octets) ≡ fault_of l.octets;
}

abbrev pub decreases-packets : goal.decreases-packets
decreases-packets l = length l.octets - l.place
