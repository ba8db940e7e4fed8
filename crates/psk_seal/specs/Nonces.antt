-- The nonces that random words give (this profile): the nonce of a word is the first of it and the numbers after it,
-- modulo 2^32, that isn't 0 and isn't one of the earlier nonces.
use Rattle.std.specs.Prelude.{◌≡◌, ◌≢◌, ℕ, ◌+◌, ◌-◌, ◌%◌, ◌^◌, ◌<◌, List, length, take, get_or, Contains, Option}
use Rattle.outside_io.specs.Told.{Takes}
use Rattle.psk_seal.specs.declared.sealer.TheConstants.{NONCE_COUNT}

-- a number that can be the next nonce after these
pub record IsFree (earlier : List ℕ) (number : ℕ) : Type 0 where
  pub some : number ≢ 0
  pub new : Contains earlier number → ⊥

-- how many steps of one lead from a number of 32 bits to another, modulo 2^32
abbrev pub steps_between : ℕ → ℕ → ℕ
steps_between from to = (to + 2 ^ 32 - from) % 2 ^ 32

-- the nonce of a word after these
pub record IsFirstFree (earlier : List ℕ) (word nonce : ℕ) : Type 0 where
  pub drawn : word < 2 ^ 32
  pub within : nonce < 2 ^ 32
  pub free : IsFree earlier nonce
  pub first : (k : ℕ) → k < steps_between word nonce → IsFree earlier ((word + k) % 2 ^ 32) → ⊥

-- these words give the first nonces of the list
pub record GiveNonces (words nonces : List ℕ) (count : ℕ) : Type 0 where
  pub drawn : length words ≡ count
  pub size : length nonces ≡ NONCE_COUNT
  pub each : (i : ℕ) → i < count → IsFirstFree (take i nonces) (get_or words i 0) (get_or nonces i 0)

-- the words that give the first nonces of the list were taken from the front of those that remained
pub record Draws (old new : Option (List ℕ)) (nonces : List ℕ) (count : ℕ) : Type 0 where
  pub words : List ℕ
  pub taken : Takes old new words
  pub given : GiveNonces words nonces count

-- The draw came to its end at the first call that failed: the source as that call found it, fewer than sixteen words
-- on, had had no fault, and nothing was taken from it after that.
pub record EndsAtFault {E : Type 0} (remaining : E → Option (List ℕ)) (faults : E → ℕ) (old new : E) : Type 0 where
  pub found : E
  pub words : List ℕ
  pub few : length words < NONCE_COUNT
  pub taken : Takes (remaining old) (remaining found) words
  pub none_before : faults found ≡ faults old
  pub none_after : remaining new ≡ remaining found

-- sixteen numbers of 32 bits, all different and none of them 0
pub record AreNonces (nonces : List ℕ) : Type 0 where
  pub size : length nonces ≡ NONCE_COUNT
  pub each : (i : ℕ) → i < NONCE_COUNT → (0 < get_or nonces i 0) × (get_or nonces i 0 < 2 ^ 32)
  pub apart : (i j : ℕ) → i < j → j < NONCE_COUNT → get_or nonces i 0 ≢ get_or nonces j 0
