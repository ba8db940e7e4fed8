-- A piece that was read.
use Rattle.std.proofs.Common.{◌≡◌, ℕ, ◌<◌, List, [], ◌∷◌, length, Result, Ok, refl, arith}
use Rattle.rist_send.specs.declared.fault.SendFault.{SendFault}
use Rattle.rist_send.specs.Run.{Setup, Run}
use Rattle.rist_send.specs.Turns.{SendsPiece, SendsRead, with_piece}

-- no octet is the end, and nothing is sent
pub sends_none : (setup : Setup) (k least : ℕ) (piece : List ℕ) (from : Run) → length piece ≡ 0
    → SendsRead setup k least (Ok piece) (Ok tt) from (with_piece k least (length piece) from)
sends_none setup k least [] from none = (refl, refl)
sends_none setup k least (x ∷ xs) from none = absurd (omega (arith, none))

-- a piece with an octet is sent
pub sends_some : (setup : Setup) (k least : ℕ) (piece : List ℕ) (result : Result Unit SendFault) (from to : Run) → 0 < length piece
    → SendsPiece setup piece result (with_piece k least (length piece) from) to → SendsRead setup k least (Ok piece) result from to
sends_some setup k least [] result from to some sends = absurd (omega (arith, some))
sends_some setup k least (x ∷ xs) result from to some sends = sends
