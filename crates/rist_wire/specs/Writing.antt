-- What is written: media, and under which pair of a sealer.
use Rattle.std.specs.Prelude.{ℕ, ◌+◌, ◌-◌, ◌^◌, ◌<◌, Bool, false, List, ◌==◌, Option, Some, None, IfSome}
use Rattle.ts_nulls.specs.Shape.{Shape}
use Rattle.psk_seal.specs.declared.sealer.Pair.{Pair}
use Rattle.psk_seal.specs.declared.sealer.TheConstants.{MAX_PAIRS}
use Rattle.psk_seal.specs.Pairs.{pair_at}
use Rattle.psk_seal.specs.Sealer.{SealerState}
use Rattle.rist_wire.specs.declared.session.Session.{Session}

-- Media that is to be written. `strip` says which null packets were deleted from the payload, if any were.
pub record MediaOut : Type 0 where
  pub flow : ℕ
  pub again : Bool
  pub number : ℕ
  pub stamp : ℕ
  pub strip : Option Shape
  pub payload : List ℕ

-- media of these parts
abbrev pub media_out : ℕ → Bool → ℕ → ℕ → Option Shape → List ℕ → MediaOut
media_out flow again number stamp strip payload =
    record { flow = flow; again = again; number = number; stamp = stamp; strip = strip; payload = payload }

-- ---- the pair under which a datagram is enciphered, where it is

-- the key field of its header
abbrev pub nonce_of : Option Pair → Option ℕ
nonce_of None = None
nonce_of (Some pair) = Some pair.nonce

-- the sequence field of its header
abbrev pub sequence_of : Option Pair → Option ℕ
sequence_of None = None
sequence_of (Some pair) = Some pair.sequence

-- a nonce and a sequence number of 32 bits
pub record IsPair (pair : Option Pair) : Type 0 where
  pub nonce : IfSome (nonce_of pair) (λ n. n < 2 ^ 32)
  pub sequence : IfSome (sequence_of pair) (λ n. n < 2 ^ 32)

-- ---- what is written next

-- a session, and its sealer where it has one
pub record ShutterState : Type 0 where
  pub session : Session
  pub sealer : Option SealerState

-- the pair of the next datagram, where a sealer gives one
abbrev pub next_pair : Option SealerState → Option Pair
next_pair None = None
next_pair (Some sealer) = Some (pair_at sealer.nonces sealer.given)

-- the sealer after that
abbrev pub after_pair : Option SealerState → Option SealerState
after_pair None = None
after_pair (Some sealer) = Some (record sealer { given = sealer.given + 1 })

-- all pairs were given
abbrev pub is_spent : Option SealerState → Bool
is_spent None = false
is_spent (Some sealer) = sealer.given == MAX_PAIRS

-- how many pairs are left
abbrev pub pairs_left : Option SealerState → Option ℕ
pairs_left None = None
pairs_left (Some sealer) = Some (MAX_PAIRS - sealer.given)
