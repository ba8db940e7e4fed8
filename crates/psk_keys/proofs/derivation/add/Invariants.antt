use Rattle.std.proofs.Common.{◌≡◌, ℕ, ◌<◌, ◌≤◌, length, get_or, bit_xor}
use Rattle.psk_keys.proofs.derivation.add.Given as goal

abbrev pub invariant-loop-place : goal.invariant-loop-place
invariant-loop-place l = record {
  long : length l.sum ≡ 32;
  done : (k : ℕ) → k < l.place → get_or l.sum k 0 ≡ bit_xor (get_or l.fn.sum k 0) (get_or l.value k 0);
  rest : (k : ℕ) → l.place ≤ k → get_or l.sum k 0 ≡ get_or l.fn.sum k 0;
}
