-- How many steps a line keeps.
use Rattle.std.proofs.Common.{◌≡◌, ◌<◌, ◌==◌, ℕ, arith, Bool, true, false, None, Some, is_some, refl, sym, ap}
use Rattle.std.proofs.Common.{if◌then◌else◌}
use Rattle.std.proofs.lemmas.Bool.Decides.{nat_tests}

-- a line that keeps steps limits them, and one that keeps none doesn't
pub kept_some : (n : ℕ) → 0 < n → Some n ≡ (if n == 0 then None else Some n)
kept_some n some = elim (n == 0) as (λ b. (n == 0) ≡ b → Some n ≡ (if b then None else Some n)) [
  | true ↦ λ t. let is : n ≡ 0 = grind (arith, nat_tests) in absurd (omega (arith, some, is))
  | false ↦ λ t. refl
] refl

-- a kind of trace that keeps steps where a line says so keeps as many as it says
pub kept_as : (b t : Bool) (n : ℕ) → b ≡ is_some (if t then None else Some n) → (if b then Some n else None) ≡ (if t then None else Some n)
kept_as true true n is = absurd (cc (is))
kept_as true false n is = refl
kept_as false true n is = refl
kept_as false false n is = absurd (cc (is))

pub kept_none : (n : ℕ) → n ≡ 0 → None ≡ (if n == 0 then None else Some n)
kept_none n is = ap (λ (k : ℕ). if k == 0 then None else Some k) (sym is)

-- a line that keeps no steps has no limit on them
pub no_limit : (keep : ℕ) → keep ≡ 0 → (if keep == 0 then None else Some keep) ≡ None
no_limit keep is = ap (λ (n : ℕ). if n == 0 then None else Some n) is
