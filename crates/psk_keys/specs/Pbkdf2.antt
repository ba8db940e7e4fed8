-- PBKDF2 (RFC 8018, section 5.2) with HMAC over SHA-256, for a key of one block of 32 octets.
use Rattle.std.specs.Prelude.{ℕ, zero, suc, ◌-◌, List, [], ◌∷◌, ◌++◌, bit_xor}
use Rattle.std.specs.Simd.Lanes.{zip2}
use Rattle.psk_keys.specs.Hmac.{hmac}

-- the block's number, 1, as the standard writes it behind the salt
abbrev pub block_number : List ℕ
block_number = 0 ∷ 0 ∷ 0 ∷ 1 ∷ []

-- the value of the round that follows n others: U 1 is of the salt and the block's number, and each
-- next is the code of the one before
unfoldable pub round_value : List ℕ → List ℕ → ℕ → List ℕ
round_value pass salt zero = hmac pass (salt ++ block_number)
round_value pass salt (suc n) = hmac pass (round_value pass salt n)

-- the exclusive or of the values of n + 1 rounds
unfoldable pub sum_of_rounds : List ℕ → List ℕ → ℕ → List ℕ
sum_of_rounds pass salt zero = round_value pass salt 0
sum_of_rounds pass salt (suc n) = zip2 bit_xor (sum_of_rounds pass salt n) (round_value pass salt (suc n))

-- the key that so many rounds, at least one, derive from a passphrase and a salt
abbrev pub pbkdf2 : List ℕ → List ℕ → ℕ → List ℕ
pbkdf2 pass salt rounds = sum_of_rounds pass salt (rounds - 1)
