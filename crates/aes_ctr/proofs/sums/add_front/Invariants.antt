use Rattle.std.proofs.Common.{◌≡◌, ℕ, [], ◌+◌, ◌/◌, ◌%◌, ◌<◌, ◌≤◌, get_or, bit_xor}
use Rattle.aes_ctr.proofs.sums.add_front.Given as goal

abbrev pub invariant-loop-place : goal.invariant-loop-place
invariant-loop-place l = record {
  group : (k : ℕ) → k < l.place → get_or l.text (l.offset + k) 0 ≡ bit_xor (get_or l.fn.text (l.offset + k) 0) (get_or (get_or l.blocks (k / 16) []) (k % 16) 0);
  before : (k : ℕ) → k < l.offset → get_or l.text k 0 ≡ get_or l.fn.text k 0;
  after : (k : ℕ) → l.offset + l.place ≤ k → get_or l.text k 0 ≡ get_or l.fn.text k 0;
}
