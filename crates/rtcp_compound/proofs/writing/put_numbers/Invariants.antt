use Rattle.std.proofs.Common.{◌≡◌, ◌+◌, ◌*◌, ◌++◌, take}
use Rattle.rtcp_compound.specs.Writing.{numbers_spelling}
use Rattle.rtcp_compound.proofs.writing.put_numbers.Given as goal

abbrev pub invariant-loop-number : goal.invariant-loop-number
invariant-loop-number l = record {
  at : l.place ≡ l.at + 4 * l.number-index;
  octets : take l.place l.out ≡ take l.at l.fn.out ++ numbers_spelling (take l.number-index l.numbers);
}
