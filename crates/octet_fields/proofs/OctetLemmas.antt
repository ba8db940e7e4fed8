-- Lists of octets, octet by octet.
use Rattle.std.proofs.Common.{ℕ, suc, ◌+◌, ◌<◌, List, [], ◌∷◌, ◌++◌, length, get_or, take, drop, arith, inl, inr}
use Rattle.std.specs.Prelude.{All}
use Rattle.std.proofs.lemmas.Bool.{cases_lt}
use Rattle.std.proofs.lemmas.List.{get_or_past, get_or-drop, get_or-take, length-take}

-- each is an octet; past the end 0 stands for one
abbrev pub AreOctets : List ℕ → Type 0
AreOctets octets = (i : ℕ) → get_or octets i 0 < 256

pub AreOctets-from_all : (octets : List ℕ) → All (λ octet. octet < 256) octets → AreOctets octets
AreOctets-from_all octets all i =
    elim (cases_lt i (length octets)) [ inl lt ↦ all i 0 lt | inr le ↦ rw (get_or_past octets i 0 le) (omega arith) ]

pub AreOctets-drop : (n : ℕ) (octets : List ℕ) → AreOctets octets → AreOctets (drop n octets)
AreOctets-drop n octets are i = rw get_or-drop (are (n + i))

pub AreOctets-take : (n : ℕ) (octets : List ℕ) → AreOctets octets → AreOctets (take n octets)
AreOctets-take n octets are i =
    elim (cases_lt i n) [
      | inl lt ↦ rw (get_or-take n octets i 0 lt) (are i)
      | inr le ↦ rw (get_or_past (take n octets) i 0 (omega (arith, length-take n octets))) (omega arith)
    ]

-- those behind a front part
pub AreOctets-behind : (front rest : List ℕ) → AreOctets (front ++ rest) → AreOctets rest
AreOctets-behind [] rest are = are
AreOctets-behind (octet ∷ front) rest are = AreOctets-behind front rest (λ i. are (suc i))
