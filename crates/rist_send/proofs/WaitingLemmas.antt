-- A source that isn't there.
use Rattle.std.proofs.Common.{◌≡◌, ◌∙◌, ℕ, suc, Bool, true, false, List, Option, None, Some, option_map, refl, ap}
use Rattle.std.specs.Prelude.{IsSome}
use Rattle.outside_net.specs.Streams.{IsFirst, later}
use Rattle.rist_send.specs.Waiting.{IsNeverReady}

-- it says so again
pub never_later : (ready now : Option (ℕ → Bool)) → now ≡ option_map later ready → IsNeverReady ready → IsNeverReady now
never_later ready now is never = record {
  answers = later never.answers;
  told = is ∙ ap (option_map later) never.told;
  no = λ k. never.no (suc k);
}

-- one that says no did not say yes
pub said_no : (ready : Option (ℕ → Bool)) (answers : ℕ → Bool) → IsFirst ready false → ready ≡ Some answers → answers 0 ≡ true → ⊥
said_no ready answers first told is = (let no = first answers told in cc (no, is))

-- one that says no tells no octets
pub untold_by : (remaining : Option (List ℕ)) → (IsSome remaining → false ≡ true) → remaining ≡ None
untold_by None says = refl
untold_by (Some octets) says = absurd (cc (says refl))
