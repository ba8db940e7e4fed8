use Rattle.std.proofs.Common.{◌≡◌, ◌+◌, ◌*◌, ◌≤◌, length}
use Rattle.std.specs.List.{sum}
use Rattle.ipv4_udp.specs.Sum.{words_of}
use Rattle.ipv4_udp.proofs.sum.total_of.Given as goal

abbrev pub invariant-loop-rest : goal.invariant-loop-rest
invariant-loop-rest l = record {
  few : length l.octets ≤ 65536;
  total : l.total + sum (words_of l.rest) ≡ sum (words_of l.octets);
  within : 2 * l.total + 65535 * length l.rest ≤ 65535 * length l.octets;
}

abbrev pub decreases-loop-rest : goal.decreases-loop-rest
decreases-loop-rest l = length l.rest
