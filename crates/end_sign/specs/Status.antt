-- Which signals wait for a process, by the text of its status file (proc(5)): `ShdPnd` is the mask of those that wait
-- for it, as 16 hexadecimal digits. SIGINT is signal 2 and SIGTERM signal 15 (signal(7)): bits 1 and 14 of the mask.
use Rattle.std.specs.Prelude.{◌≡◌, ℕ, suc, zero, ◌+◌, List, codes, slice_index_or, [], ◌∷◌, Bool, true, false, ◌||◌}
use Rattle.std.specs.Prelude.{◌==◌, Option, None, Some}
use Rattle.std.specs.List.{list_any}
use Rattle.memchr.specs.Find.{FindsNeedle}

-- the octets before the mask: the name, a colon and a tabulator
abbrev pub name : List ℕ
name = 83 ∷ 104 ∷ 100 ∷ 80 ∷ 110 ∷ 100 ∷ 58 ∷ 9 ∷ []

-- a digit is one of these
abbrev pub has_any : ℕ → List ℕ → Bool
has_any digit digits = list_any (λ other. digit == other) digits

-- the digit of bits 12 to 15 has bit 14, or that of bits 0 to 3 has bit 1
abbrev pub asks : ℕ → ℕ → Bool
asks high low = has_any high (codes "4567cdef") || has_any low (codes "2367abef")

-- where the name stands at a place, the mask is behind it
abbrev pub asks_at : List ℕ → Option ℕ → Bool
asks_at text None = false
asks_at text (Some place) = asks (slice_index_or text (place + 20) 0) (slice_index_or text (place + 23) 0)

-- SIGINT or SIGTERM waits, by the first mask of the text
pub record TellsEnd (text : List ℕ) (asked : Bool) : Type 0 where
  pub place : Option ℕ
  pub found : FindsNeedle text name 0 place
  pub is : asked ≡ asks_at text place

-- the answers of a sign that says no so many times, and then yes
abbrev pub asked_after : ℕ → ℕ → Bool
asked_after zero k = true
asked_after (suc n) zero = false
asked_after (suc n) (suc k) = asked_after n k

-- what a sign of the system tells: nothing where it looks, and else that it says no for ever
abbrev pub answers_of : Bool → Option (ℕ → Bool)
answers_of true = None
answers_of false = Some (λ k. false)
