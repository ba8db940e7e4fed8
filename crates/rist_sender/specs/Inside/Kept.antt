-- What a sender keeps true of its parts.
use Rattle.std.specs.Prelude.{◌≡◌, ◌<◌, ◌≤◌, ℕ, ◌+◌, ◌%◌, ◌^◌, List, set, length, Bool, true, IsSome, is_some}
use Rattle.link_channels.specs.declared.bounds.TheConstants.{MAX_PAYLOAD}
use Rattle.std.specs.List.{AllByRecursion}
use Rattle.sender_rules.specs.Sendings.{Packet}
use Rattle.retransmit_store.specs.State.{StoreState, packets_in, IsNext}
use Rattle.rist_wire.specs.Session.{IsSession}
use Rattle.rist_wire.specs.Media.{can_restore}
use Rattle.rist_wire.specs.Writing.{ShutterState}
use Rattle.rist_sender.specs.declared.answer.Answer.{Answer}
use Rattle.rist_sender.specs.declared.answer.Answer.TheVariants.{Took, NoPeer, Failed}
use Rattle.rist_sender.specs.Sender.{has_keepalives}

-- a packet can be sent: its payload fits, and null packets were deleted from it only where the session deletes them, so
-- that they can be put back
pub record IsSendable (nulls : Bool) (packet : Packet) : Type 0 where
  pub payload : length packet.payload ≤ MAX_PAYLOAD
  pub strip : IsSome packet.strip → nulls ≡ true
  pub whole : can_restore packet.strip packet.payload ≡ true

-- the flow is even; a sealer is there exactly where there is a passphrase; what is known of the session is its own; the
-- next packet follows on those that are stored, each of which can be sent again
pub record IsKept (nulls alive : Bool) (flow first hold : ℕ) (shutter : ShutterState) (store : StoreState)
    (time count : ℕ) : Type 0 where
  pub session : IsSession shutter.session
  pub paired : is_some shutter.sealer ≡ is_some shutter.session.pass
  pub deletes : nulls ≡ shutter.session.nulls
  pub lives : alive ≡ has_keepalives shutter.session.profile
  pub even : flow % 2 ≡ 0
  pub holds : (1 ≤ hold) × (hold ≤ 90000)
  pub begins : first < 2 ^ 32
  pub numbers : first + count ≤ 2 ^ 62
  pub next : IsNext store.packets (first + count)
  pub sendable : AllByRecursion (IsSendable shutter.session.nulls) (packets_in store)
  pub within : time < 2 ^ 61

-- of each link whether it is down, after one more answer
abbrev pub down_with : ℕ → Answer → List Bool → List Bool
down_with link Took down = down
down_with link NoPeer down = down
down_with link Failed down = set down link true
