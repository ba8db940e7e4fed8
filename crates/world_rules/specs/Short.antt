-- Scripts in which words tell numbers and timestamps apart.
use Rattle.std.specs.Prelude.{◌≡◌, ◌≤◌, ◌<◌, ℕ, ◌+◌, ◌^◌, ◌/◌, List, [], ◌∷◌, length, Bool, true, false, if◌then◌else◌}
use Rattle.seq_unwrap.specs.declared.width.Width.{Width}
use Rattle.seq_unwrap.specs.Nearest.{cycle_of}
use Rattle.receiver_rules.specs.Steps.{tick_of}
use Rattle.world_rules.specs.declared.moves.Move.{Move}
use Rattle.world_rules.specs.declared.moves.Move.TheVariants.{Send, Carry, CarryBack, SenderTick, Tick, End, Renew}

-- a move is an end
abbrev pub is_end : Move → Bool
is_end (Send micros payload) = false
is_end (Carry link place micros) = false
is_end (CarryBack link place micros) = false
is_end (SenderTick micros) = false
is_end (Tick link micros) = false
is_end (End micros) = true
is_end (Renew flow first) = false

-- a move sends a payload
abbrev pub is_send : Move → Bool
is_send (Send micros payload) = true
is_send (Carry link place micros) = false
is_send (CarryBack link place micros) = false
is_send (SenderTick micros) = false
is_send (Tick link micros) = false
is_send (End micros) = false
is_send (Renew flow first) = false

-- a moment in ticks lies in the 2^31 ticks from one on
pub record IsWithin (least micros : ℕ) : Type 0 where
  pub low : least ≤ tick_of micros
  pub high : tick_of micros < least + 2 ^ 31

-- a move's moment does, where it has one
abbrev pub IsMoveWithin : ℕ → Move → Type 0
IsMoveWithin low (Send micros payload) = IsWithin low micros
IsMoveWithin low (Carry link place micros) = IsWithin low micros
IsMoveWithin low (CarryBack link place micros) = IsWithin low micros
IsMoveWithin low (SenderTick micros) = IsWithin low micros
IsMoveWithin low (Tick link micros) = IsWithin low micros
IsMoveWithin low (End micros) = IsWithin low micros
IsMoveWithin low (Renew flow first) = Unit {0}

-- each move's does
abbrev pub AreWithin : ℕ → List Move → Type 0
AreWithin low [] = Unit {0}
AreWithin low (move ∷ before) = IsMoveWithin low move × AreWithin low before

-- no move is an end
abbrev pub AreNoEnds : List Move → Type 0
AreNoEnds [] = Unit {0}
AreNoEnds (move ∷ before) = (is_end move ≡ false) × AreNoEnds before

-- how many moves send a payload
abbrev pub send_count : List Move → ℕ
send_count [] = 0
send_count (move ∷ before) = if is_send move then send_count before + 1 else send_count before

-- A script, the newest move first, is short: the last move, and no other, is an end; it has fewer than 2^27 moves;
-- all its moments lie within 2^31 ticks; and where numbers have 16 bits it sends fewer than 2^15 payloads.
pub record IsShort (width : Width) (script : List Move) : Type 0 where
  pub last : Move
  pub before : List Move
  pub is : script ≡ last ∷ before
  pub ends : is_end last ≡ true
  pub once : AreNoEnds before
  pub few : length script < 2 ^ 27
  pub least : ℕ
  pub within : AreWithin least script
  pub sends : send_count script < cycle_of width / 2
