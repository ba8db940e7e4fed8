-- The pairs of a sealer (this profile).
use Rattle.std.specs.Prelude.{ℕ, ◌/◌, ◌%◌, ◌^◌, List, get_or}
use Rattle.psk_seal.specs.declared.sealer.Pair.{Pair}

-- pair number p, from 0: 2^32 sequence numbers under each nonce
abbrev pub pair_at : List ℕ → ℕ → Pair
pair_at nonces p = record { nonce = get_or nonces (p / 2 ^ 32) 0; sequence = p % 2 ^ 32 }
