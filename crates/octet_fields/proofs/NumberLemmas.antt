-- Numbers that are read: how great they are, and that the octets from which they are read spell them, whatever
-- follows.
use Rattle.std.proofs.Common.{◌≡◌, ℕ, ◌+◌, ◌^◌, ◌<◌, ◌≤◌, List, ◌++◌, length, take, drop, refl, sym, ap, ◌∙◌, arith, length-drop}
use Rattle.std.specs.Int.{w16, w32, from_be_bytes, to_be_bytes}
use Rattle.std.proofs.lemmas.List.{take-append-drop, drop-drop, length-take}
use Rattle.std.proofs.lemmas.Nat.{be_bytes_2, be_bytes_4}
use Rattle.octet_fields.proofs.OctetLemmas.{AreOctets, AreOctets-drop, AreOctets-take}

-- so many octets from a place on, and those behind them
part-behind : (size at : ℕ) (octets : List ℕ) → take size (drop at octets) ++ drop (at + size) octets ≡ drop at octets
part-behind size at octets =
    ap (λ (x : List ℕ). take size (drop at octets) ++ x) (sym (drop-drop size at octets)) ∙ take-append-drop size (drop at octets)

part-len : (size at : ℕ) (octets : List ℕ) → at + size ≤ length octets → length (take size (drop at octets)) ≡ size
part-len size at octets long = omega (arith, length-take size (drop at octets), length-drop at octets, long)

pub u16-back : (at : ℕ) (octets : List ℕ) → AreOctets octets → at + 2 ≤ length octets
    → to_be_bytes w16 (from_be_bytes w16 (take 2 (drop at octets))) ++ drop (at + 2) octets ≡ drop at octets
u16-back at octets are long =
    let part : List ℕ = take 2 (drop at octets) in
    let fits = AreOctets-take 2 (drop at octets) (AreOctets-drop at octets are) in
    ap (λ (x : List ℕ). x ++ drop (at + 2) octets) (be_bytes_2 part (from_be_bytes w16 part) (part-len 2 at octets long) fits refl)
    ∙ part-behind 2 at octets

pub u32-back : (at : ℕ) (octets : List ℕ) → AreOctets octets → at + 4 ≤ length octets
    → to_be_bytes w32 (from_be_bytes w32 (take 4 (drop at octets))) ++ drop (at + 4) octets ≡ drop at octets
u32-back at octets are long =
    let part : List ℕ = take 4 (drop at octets) in
    let fits = AreOctets-take 4 (drop at octets) (AreOctets-drop at octets are) in
    ap (λ (x : List ℕ). x ++ drop (at + 4) octets) (be_bytes_4 part (from_be_bytes w32 part) (part-len 4 at octets long) fits refl)
    ∙ part-behind 4 at octets

pub u16-fits : (at : ℕ) (octets : List ℕ) → AreOctets octets → from_be_bytes w16 (take 2 (drop at octets)) < 2 ^ 16
u16-fits at octets are =
    let fits = AreOctets-take 2 (drop at octets) (AreOctets-drop at octets are) in
    omega (arith, fits 0, fits 1)

pub u32-fits : (at : ℕ) (octets : List ℕ) → AreOctets octets → from_be_bytes w32 (take 4 (drop at octets)) < 2 ^ 32
u32-fits at octets are =
    let fits = AreOctets-take 4 (drop at octets) (AreOctets-drop at octets are) in
    omega (arith, fits 0, fits 1, fits 2, fits 3)
