-- Reading a source in pieces of 1,316 octets, by the octets that it had and has left, where it tells them (this
-- profile).
use Rattle.std.specs.Prelude.{ℕ, ◌+◌, ◌*◌, ◌^◌, ◌<◌, ◌≤◌, List, length, take, Result, Ok, Err, Option}
use Rattle.outside_io.specs.Causes.{Fault, NoFault, Read}
use Rattle.outside_io.specs.Told.{Takes, IsEmpty}
use Rattle.block_source.specs.declared.fault.PieceFault.{PieceFault}
use Rattle.block_source.specs.declared.fault.PieceFault.TheVariants.{ReadFault, TooLong}

-- fewer octets than a whole piece has were read and dropped, and this holds of their number
pub record DropsPart (had left : Option (List ℕ)) (P : ℕ → Type 0) : Type 0 where
  pub part : List ℕ
  pub few : length part < 1316
  pub taken : Takes had left part
  pub fact : P (length part)

-- piece k was read: what the source has left of it, where that is less
pub record TakesPiece (k : ℕ) (had left : Option (List ℕ)) (piece : List ℕ) : Type 0 where
  pub few : length piece ≤ 1316
  pub within : 1316 * k + length piece ≤ 2 ^ 40
  pub taken : Takes had left piece
  pub last : length piece < 1316 → IsEmpty left

-- what the reading of piece k gives, or why it gives none: a read fails, or the source goes past 2^40 octets
abbrev pub ReadsPiece : ℕ → Option (List ℕ) → Option (List ℕ) → Result (List ℕ) PieceFault → Type 0
ReadsPiece k had left (Ok piece) = TakesPiece k had left piece
ReadsPiece k had left (Err ReadFault) = DropsPart had left (λ count. 1316 * k + count ≤ 2 ^ 40)
ReadsPiece k had left (Err TooLong) = DropsPart had left (λ count. 2 ^ 40 < 1316 * k + count)

-- the piece at the front of a block
abbrev pub front_of : List ℕ → Result ℕ PieceFault → Result (List ℕ) PieceFault
front_of block (Ok count) = Ok (take count block)
front_of block (Err fault) = Err fault

-- which call on the source failed, by a fault
abbrev pub piece_fault : PieceFault → Fault
piece_fault ReadFault = Read
piece_fault TooLong = NoFault
