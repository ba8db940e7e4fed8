use Rattle.std.proofs.Common.{◌+◌, ◌-◌, ◌%◌, ◌^◌, ◌<◌, ◌≤◌, ℕ}
use Rattle.psk_seal.specs.Nonces.{IsFree, steps_between}
use Rattle.psk_seal.proofs.nonces.first_free.Given as goal

abbrev pub invariant-loop-number : goal.invariant-loop-number
invariant-loop-number l = record {
  few : steps_between l.word l.number ≤ 16;
  blocked : (k : ℕ) → k < steps_between l.word l.number → IsFree l.earlier ((l.word + k) % 2 ^ 32) → ⊥;
}

abbrev pub decreases-loop-number : goal.decreases-loop-number
decreases-loop-number l = 17 - steps_between l.word l.number
