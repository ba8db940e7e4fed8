-- The datagrams of pieces, and the pairs that they are enciphered under.
use Rattle.std.proofs.Common.{◌≡◌, ℕ, ◌+◌, ◌≤◌, Bool, true, false, List, length, Option, Some, None, is_some, refl, ap, arith}
use Rattle.ts_nulls.specs.Shape.{Shape}
use Rattle.ts_nulls.specs.Nulls.{stripping_of}
use Rattle.ts_nulls.proofs.LawLemmas.{told-stripped}
use Rattle.psk_seal.specs.declared.sealer.Pair.{Pair}
use Rattle.psk_seal.specs.Pairs.{pair_at}
use Rattle.psk_seal.specs.Sealer.{SealerState}
use Rattle.rist_wire.specs.declared.session.Session.{Session}
use Rattle.rist_wire.specs.Writing.{next_pair, after_pair}
use Rattle.rist_wire.proofs.MediaLemmas.{length-datagram}
use Rattle.rist_pack.specs.Capture.{sent_with, sent_of, media_of, nonces_of, pair_of, piece_octets, record_with, packed_record, HasGiven}
use Rattle.rist_pack.specs.declared.settings.PackSettings.{PackSettings}

with-within : (piece : List ℕ) (told : Option (Shape × List ℕ)) → stripping_of piece ≡ told → length (sent_with piece told).payload ≤ length piece
with-within piece None is = omega arith
with-within piece (Some (shape, kept)) is = (told-stripped piece kept shape is).1

-- no more is sent than the piece
pub sent-within : (nulls : Bool) (piece : List ℕ) → length (sent_of nulls piece).payload ≤ length piece
sent-within true piece = with-within piece (stripping_of piece) refl
sent-within false piece = omega arith

pub piece-len : (session : Session) (pair : Option Pair) (settings : PackSettings) (k : ℕ) (piece : List ℕ)
    → length (piece_octets session pair settings k piece) ≤ length piece + 60
unfolding piece_octets
piece-len session pair settings k piece =
    omega (arith, length-datagram session pair (media_of session.nulls settings k piece), sent-within session.nulls piece)

-- ---- the pairs of a sealer

pub next-is : (sealer : Option SealerState) (k : ℕ) → HasGiven k sealer → next_pair sealer ≡ pair_of (nonces_of sealer) k
next-is None k given = refl
next-is (Some sealer) k given = ap (λ (n : ℕ). Some (pair_at sealer.nonces n)) given

pub after-given : (sealer : Option SealerState) (k : ℕ) → HasGiven k sealer → HasGiven (k + 1) (after_pair sealer)
after-given None k given = tt
after-given (Some sealer) k given = ap (λ (n : ℕ). n + 1) given

pub after-nonces : (sealer : Option SealerState) → nonces_of (after_pair sealer) ≡ nonces_of sealer
after-nonces None = refl
after-nonces (Some sealer) = refl

pub after-some : (sealer : Option SealerState) → is_some (after_pair sealer) ≡ is_some sealer
after-some None = refl
after-some (Some sealer) = refl

-- the record under the next pair is that of the piece, where the sealer gave a pair for each earlier one
pub record-is : (session : Session) (sealer : Option SealerState) (settings : PackSettings) (k : ℕ) (piece : List ℕ) → HasGiven k sealer
    → record_with session (next_pair sealer) settings k piece ≡ packed_record session (nonces_of sealer) settings k piece
record-is session sealer settings k piece given = ap (λ (pair : Option Pair). record_with session pair settings k piece) (next-is sealer k given)
