-- What a keyed hasher keeps.
use Rattle.std.specs.Prelude.{List, ℕ}
use Rattle.sha2.specs.Hashers.{Holds256}
use Rattle.psk_keys.specs.Hmac.{block_key, inner_pad, outer_pad, padded_key}
use Rattle.psk_keys.specs.declared.mac.Mac.{Mac}

-- the two hashers have taken in the key under the inner and the outer pad
pub record IsKeyed (m : Mac) (key : List ℕ) : Type 0 where
  pub inner : Holds256 m.inner (padded_key inner_pad (block_key key))
  pub outer : Holds256 m.outer (padded_key outer_pad (block_key key))
