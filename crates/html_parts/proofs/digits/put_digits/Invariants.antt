-- The rest of the digits is still to be put.
use Rattle.std.proofs.Common.{◌≡◌, ◌≤◌, ◌+◌, ◌*◌, take, drop}
use Rattle.html_parts.specs.Numbers.{with_digits}
use Rattle.html_parts.proofs.digits.put_digits.Given as goal

abbrev pub invariant-loop-place : goal.invariant-loop-place
invariant-loop-place l = record {
  octets : with_digits (take l.end l.out) (drop l.place l.digits) ≡ with_digits (take l.at l.fn.out) l.digits;
  within : l.end ≤ l.at + 2 * l.place;
}
