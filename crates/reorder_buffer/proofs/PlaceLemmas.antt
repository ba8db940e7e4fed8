-- Places in a ring: which numbers stand where.
use Rattle.std.proofs.Common.{◌≡◌, ℕ, ◌+◌, ◌-◌, ◌*◌, ◌/◌, ◌%◌, ◌<◌, ◌≤◌, ap, arith, inl, inr}
use Rattle.std.proofs.lemmas.Bool.{cases_lt}
use Rattle.std.proofs.lemmas.Nat.{div-add-mod', mod_below}
use Rattle.std.proofs.Math.Nat.{mul-le-mul_left}

-- the quotients of two numbers that lie less than the divisor apart
quotient_low : (c q p r s : ℕ) → r < c → c * p + s ≤ c * q + r → p ≤ q
quotient_low c q p r s h low =
    elim (cases_lt q p) [
      | inl under ↦ absurd (omega (arith, mul-le-mul_left c (more under)))
      | inr above ↦ above
    ]
  where
    more : q < p → q + 1 ≤ p
    more h = omega arith

-- where a number stands, of those from a lowest one on that lie less than the number of places above it
pub stands_from : (c low n : ℕ) → 0 < c → low ≤ n → n < low + c → low % c ≤ n % c → n ≡ low + (n % c - low % c)
stands_from c low n some from below side =
    let a : low / c * c + low % c ≡ low = div-add-mod' low c in
    let b : n / c * c + n % c ≡ n = div-add-mod' n c in
    let m : n % c < c = mod_below n c some in
    let k : low % c < c = mod_below low c some in
    let up : low / c ≤ n / c = quotient_low c (n / c) (low / c) (n % c) (low % c) m (omega arith) in
    elim (cases_lt (low / c) (n / c)) [
      | inl over ↦ absurd (omega (arith, mul-le-mul_left c (more over)))
      | inr same ↦ let e : low / c ≡ n / c = omega arith in omega (arith, ap (λ q. q * c) e)
    ]
  where
    more : low / c < n / c → low / c + 1 ≤ n / c
    more h = omega arith

pub stands_wrapped : (c low n : ℕ) → 0 < c → low ≤ n → n < low + c → n % c < low % c → n ≡ low + (n % c + c - low % c)
stands_wrapped c low n some from below side =
    let a : low / c * c + low % c ≡ low = div-add-mod' low c in
    let b : n / c * c + n % c ≡ n = div-add-mod' n c in
    let m : n % c < c = mod_below n c some in
    let k : low % c < c = mod_below low c some in
    elim (cases_lt (low / c) (n / c)) [
      | inr under ↦ absurd (omega (arith, mul-le-mul_left c (under)))
      | inl over ↦ elim (cases_lt (low / c + 1) (n / c)) [
        | inl far ↦ absurd (omega (arith, mul-le-mul_left c (twice far)))
        | inr near ↦ let e : low / c + 1 ≡ n / c = omega arith in omega (arith, ap (λ q. q * c) e)
      ]
    ]
  where
    twice : low / c + 1 < n / c → low / c + 2 ≤ n / c
    twice h = omega arith

-- two numbers of one place that lie less than the number of places apart are the same
pub same_place : (c a b : ℕ) → 0 < c → a % c ≡ b % c → a ≤ b → b < a + c → a ≡ b
same_place c a b some e low high = let s = stands_from c a b some low high (omega arith) in omega arith
