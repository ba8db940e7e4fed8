use Rattle.std.proofs.Common.{◌≡◌, ℕ, ◌+◌, ◌-◌, ◌/◌, ◌%◌, ◌^◌, ◌≤◌, length, take, get_or}
use Rattle.std.specs.Int.{w128, from_be_bytes, to_be_bytes}
use Rattle.aes_ctr.proofs.CtrLemmas.{EncipheredBelow}
use Rattle.aes_ctr.proofs.apply.Given as goal

abbrev pub invariant-groups : goal.invariant-groups
invariant-groups l = record {
  key : l.prefix.key ≡ l.aes;
  row : l.prefix.octets ≡ take 15 (to_be_bytes w128 l.counter);
  within : l.offset ≤ length l.text;
  whole : l.offset % 64 ≡ 0;
  counter : l.counter ≡ (from_be_bytes w128 l.fn.first + l.offset / 16) % 2 ^ 128;
  done : EncipheredBelow l.aes l.fn.first l.fn.text l.text l.offset;
  rest : (k : ℕ) → l.offset ≤ k → get_or l.text k 0 ≡ get_or l.fn.text k 0;
}

abbrev pub decreases-groups : goal.decreases-groups
decreases-groups l = length l.initial.text - l.offset
