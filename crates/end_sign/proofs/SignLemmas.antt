-- A sign that says no once less.
use Rattle.std.proofs.Common.{◌≡◌, ℕ, zero, suc, ◌-◌, refl, ap, arith}
use Rattle.outside_net.specs.Streams.{later}
use Rattle.end_sign.specs.Status.{asked_after}

pub one_less : (n : ℕ) → (n ≡ 0 → ⊥) → asked_after (n - 1) ≡ later (asked_after n)
one_less zero e = absurd (e refl)
one_less (suc n) e = let less : suc n - 1 ≡ n = omega arith in ap asked_after less
