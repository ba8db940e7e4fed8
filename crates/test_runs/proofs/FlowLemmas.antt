-- One flow or two that were told nothing.
use Rattle.std.proofs.Common.{◌≡◌, ℕ, zero, suc, List, [], ◌∷◌, Option, subst}
use Rattle.rist_fan.specs.declared.flow.Flow.{Flow}
use Rattle.fan_desk.specs.Origin.{AreUntold, IsUntold}

module _ {K : Type 0} (contents : K → Option (List ℕ)) where
  pub one_untold : (flow : Flow K) → IsUntold contents flow → AreUntold contents (flow ∷ [])
  one_untold flow untold zero f at = let same : flow ≡ f = cc (at) in subst (IsUntold contents) same untold
  one_untold flow untold (suc v) f at = absurd (cc (at))

  pub two_untold : (flow other : Flow K) → IsUntold contents flow → IsUntold contents other → AreUntold contents (flow ∷ other ∷ [])
  two_untold flow other untold beside zero f at = let same : flow ≡ f = cc (at) in subst (IsUntold contents) same untold
  two_untold flow other untold beside (suc v) f at = one_untold other beside v f at
