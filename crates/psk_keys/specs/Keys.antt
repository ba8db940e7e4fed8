-- The keys of a session (this profile): what PBKDF2 (RFC 8018, section 5.2) derives from its passphrase and the four
-- octets of a nonce.
use Rattle.std.specs.Prelude.{◌≡◌, ℕ, ◌-◌, ◌/◌, ◌⊎◌, List, [], ◌∷◌, take, if◌then◌else◌, ◌==◌}
use Rattle.psk_keys.specs.declared.cached.TheConstants.{CACHED_KEYS}
use Rattle.psk_keys.specs.Pbkdf2.{pbkdf2}

-- the rounds of a derivation
abbrev pub round_count : ℕ
round_count = 1024

-- the octets of the key of so many bits, of a passphrase and a nonce
unfoldable pub key_of : List ℕ → ℕ → List ℕ → List ℕ
key_of pass bits nonce = take (bits / 8) (pbkdf2 pass nonce round_count)

-- a key has 128 or 256 bits
abbrev pub IsKeyLength : ℕ → Type 0
IsKeyLength bits = (bits ≡ 128) ⊎ (bits ≡ 256)

-- ---- the cache

-- without the first of these nonces that is this one
abbrev pub without : ℕ → List ℕ → List ℕ
without nonce [] = []
without nonce (n ∷ rest) = if nonce == n then rest else n ∷ without nonce rest

-- what a contract sees of the keys: the passphrase, the bits of a key, and the nonces whose keys are cached, the one
-- that was used last first
pub record KeysState : Type 0 where
  pub phrase : List ℕ
  pub bits : ℕ
  pub cached : List ℕ

-- the keys once that of a nonce was used: it is the latest, and the last of four made room
abbrev pub after_use : ℕ → KeysState → KeysState
after_use nonce keys = record keys { cached = nonce ∷ take (CACHED_KEYS - 1) (without nonce keys.cached) }
