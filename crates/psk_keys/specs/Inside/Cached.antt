-- The places of the keys that are cached.
use Rattle.std.specs.Prelude.{◌≡◌, ◌==◌, ℕ, zero, suc, List, [], ◌∷◌, Bool, false, Option, Some, None, if◌then◌else◌}
use Rattle.std.specs.Prelude.{Contains, IfSome, MatchOption, length}
use Rattle.std.specs.Option.{option_map_or}
use Rattle.std.specs.Int.{w32, to_be_bytes}
use Rattle.psk_keys.specs.declared.cached.TheConstants.{CACHED_KEYS}
use Rattle.psk_keys.specs.declared.cached.Cached.{Cached}
use Rattle.psk_keys.specs.Keys.{key_of}

-- places that are filled have the keys of their nonces
pub record AreDerived (pass : List ℕ) (bits : ℕ) (places : List (ℕ × Option Cached)) : Type 0 where
  pub each : (place : ℕ × Option Cached) → Contains places place
      → IfSome place.1 (λ c. c.cipher ≡ key_of pass bits (to_be_bytes w32 c.nonce))

-- the nonces of the keys in some places
abbrev pub nonces_of : List (ℕ × Option Cached) → List ℕ
nonces_of [] = []
nonces_of (place ∷ places) = option_map_or (λ (c : Cached). c.nonce ∷ nonces_of places) place.1 (nonces_of places)

-- behind an empty place there is no key
abbrev pub AreFilledFromFront : List (ℕ × Option Cached) → Type 0
AreFilledFromFront [] = Unit {0}
AreFilledFromFront (place ∷ places) =
    MatchOption place.1 (nonces_of places ≡ []) (λ c. AreFilledFromFront places)

-- what holds of a session's places
pub record AreKept (pass : List ℕ) (bits : ℕ) (places : List (ℕ × Option Cached)) : Type 0 where
  pub derived : AreDerived pass bits places
  pub filled : AreFilledFromFront places
  pub four : length places ≡ CACHED_KEYS

-- whether a place has the key of this nonce
abbrev pub has_key_of : ℕ → Option Cached → Bool
has_key_of nonce kept = option_map_or (λ (c : Cached). nonce == c.nonce) kept false

-- the first place that has the key of this nonce
abbrev pub place_of : ℕ → List (ℕ × Option Cached) → Option ℕ
place_of nonce [] = None
place_of nonce (place ∷ places) = if has_key_of nonce place.1 then Some place.0 else place_of nonce places

-- so many places without a key
abbrev pub empty_places : ℕ → List (ℕ × Option Cached)
empty_places zero = []
empty_places (suc n) = (n, None) ∷ empty_places n
