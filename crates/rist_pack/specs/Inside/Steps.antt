-- What the steps of a packing answer, by the octets that a source had and has left, and those that a capture held and
-- holds, where these are told.
use Rattle.std.specs.Prelude.{◌≡◌, ℕ, ◌+◌, ◌*◌, ◌^◌, ◌<◌, ◌≤◌, List, [], length, flat_map, Result, Ok, Err}
use Rattle.outside_io.specs.Told.{Passage, Takes, IsEmpty, Appends, AppendsPart}
use Rattle.capture_file.specs.Capture.{Record, spelling}
use Rattle.block_source.specs.Pieces.{pieces_of}
use Rattle.block_source.specs.Reading.{DropsPart}
use Rattle.rist_pack.specs.Capture.{records_of, capture_of}
use Rattle.rist_pack.specs.Packing.{Reads}
use Rattle.rist_pack.specs.declared.packing.Turn.{Turn}
use Rattle.rist_pack.specs.declared.packing.Turn.TheVariants.{On, Over}
use Rattle.rist_pack.specs.declared.bad.PackBad.{PackBad}
use Rattle.rist_pack.specs.declared.bad.PackBad.TheVariants.{ReadFault, WriteFault, TooLong}

-- the octets of the records of pieces of which the first is piece k
abbrev pub spelled_from : (ℕ → List ℕ → Record) → ℕ → List (List ℕ) → List ℕ
spelled_from record_of k pieces = flat_map spelling (records_of record_of k pieces)

-- what the packing of piece k answers: a whole piece was packed, the source ended in it, or why it is not packed
abbrev pub PacksPiece : (ℕ → List ℕ → Record) → ℕ → Passage → Result Turn PackBad → Type 0
PacksPiece record_of k p (Ok On) =
    Reads p.had p.left (λ b. (length b ≡ 1316) × (1316 * k + length b ≤ 2 ^ 40)
    × Appends p.held p.holds (spelled_from record_of k (pieces_of b)))
PacksPiece record_of k p (Ok Over) =
    Reads p.had p.left (λ b. IsEmpty p.left × (1316 * k + length b ≤ 2 ^ 40)
    × Appends p.held p.holds (spelled_from record_of k (pieces_of b)))
PacksPiece record_of k p (Err ReadFault) =
    DropsPart p.had p.left (λ n. 1316 * k + n ≤ 2 ^ 40) × Appends p.held p.holds []
PacksPiece record_of k p (Err TooLong) = DropsPart p.had p.left (λ n. 2 ^ 40 < 1316 * k + n) × Appends p.held p.holds []
PacksPiece record_of k p (Err WriteFault) =
    Reads p.had p.left (λ b. ((0 < length b) × (length b ≤ 1316)) × (1316 * k + length b ≤ 2 ^ 40)
    × AppendsPart p.held p.holds (spelled_from record_of k (pieces_of b)))

-- k whole pieces were packed
pub record Sofar (record_of : ℕ → List ℕ → Record) (k : ℕ) (p : Passage) : Type 0 where
  pub read : List ℕ
  pub taken : Takes p.had p.left read
  pub size : length read ≡ 1316 * k
  pub written : Appends p.held p.holds (capture_of record_of (pieces_of read))
