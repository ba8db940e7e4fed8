-- Links and their intervals.
use Rattle.std.proofs.Common.{◌≡◌, ℕ, zero, suc, ◌+◌, ◌-◌, ◌<◌, ◌≤◌, true, false, List, [], ◌∷◌, take, refl, ap, arith}
use Rattle.std.specs.Prelude.{nat_lt, if◌then◌else◌}
use Rattle.std.specs.List.{sum, fold}
use Rattle.sender_rules.specs.Bonding.{HasPlace, link_at}

sum_from : (n : ℕ) (ws : List ℕ) → fold ◌+◌ n ws ≡ n + fold ◌+◌ 0 ws
sum_from n [] = omega arith
sum_from n (w ∷ ws) = omega (arith, sum_from (n + w) ws, sum_from (0 + w) ws)

sum_cons : (w : ℕ) (ws : List ℕ) → sum (w ∷ ws) ≡ w + sum ws
sum_cons w ws = omega (arith, sum_from (0 + w) ws)

-- the link that is computed has the place
pub link_at_has : (weights : List ℕ) (place : ℕ) → place < sum weights → HasPlace weights place (link_at weights place)
link_at_has [] place lt = absurd (omega (arith, lt))
link_at_has (weight ∷ weights) place lt =
    elim (nat_lt place weight) as (λ c. nat_lt place weight ≡ c → HasPlace (weight ∷ weights) place (if c then 0 else suc (link_at weights (place - weight)))) [
      | true ↦ λ e. let less : place < weight = grind (arith, e) in record { among = omega arith; from = omega arith; below = omega (arith, less, sum_cons weight []) }
      | false ↦ λ e.
          let least : weight ≤ place = grind (arith, e) in
          let rest = link_at_has weights (place - weight) (omega (arith, lt, least, sum_cons weight weights)) in
          let link = link_at weights (place - weight) in
          record { among = omega (arith, rest.among); from = omega (arith, rest.from, least, sum_cons weight (take link weights)); below = omega (arith, rest.below, least, sum_cons weight (take (suc link) weights)) }
    ] refl

-- no other link has it
pub has_only : (weights : List ℕ) (place link : ℕ) → HasPlace weights place link → link ≡ link_at weights place
has_only [] place link h = absurd (omega (arith, h.among))
has_only (weight ∷ weights) place zero h =
    let yes : nat_lt place weight ≡ true = grind (arith, h.below, sum_cons weight []) in rw yes refl
has_only (weight ∷ weights) place (suc link) h =
    let least : weight ≤ place = omega (arith, h.from, sum_cons weight (take link weights)) in
    let no : nat_lt place weight ≡ false = grind (arith, least) in
    rw no (ap suc (has_only weights (place - weight) link (record { among = omega (arith, h.among); from = omega (arith, h.from, least, sum_cons weight (take link weights)); below = omega (arith, h.below, least, sum_cons weight (take (suc link) weights)) })))
