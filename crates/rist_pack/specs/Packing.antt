-- What a packing answers, by the octets that a source had and has left, and those that a capture held and holds, where
-- these are told.
use Rattle.std.specs.Prelude.{◌≡◌, ◌⊎◌, ℕ, ◌^◌, ◌<◌, ◌≤◌, List, [], length, Result, Ok, Err, Option}
use Rattle.outside_io.specs.Causes.{Fault, NoFault, Read, Write}
use Rattle.outside_io.specs.Told.{Passage, Takes, IsEmpty, Appends, AppendsPart, AppendsBetween}
use Rattle.capture_file.specs.Capture.{Record, magic}
use Rattle.capture_file.specs.Writer.{WriterState}
use Rattle.block_source.specs.Pieces.{pieces_of, pieces_before_last, whole_pieces_of}
use Rattle.rist_pack.specs.Capture.{capture_of}
use Rattle.rist_pack.specs.declared.bad.PackBad.{PackBad}
use Rattle.rist_pack.specs.declared.bad.PackBad.TheVariants.{ReadFault, WriteFault, TooLong}

-- octets were read of a source, and this holds of them
abbrev pub Reads : Option (List ℕ) → Option (List ℕ) → (List ℕ → Type 0) → Type 0
Reads had left P = (b : List ℕ) × Takes had left b × P b

-- A write failed: of the name, before anything was read, or of the record of the last piece that was read. What stands
-- before it is written, and a front part of it.
abbrev pub FailsAtWrite : (ℕ → List ℕ → Record) → Passage → List ℕ → Type 0
FailsAtWrite record_of p b =
    ((b ≡ []) × AppendsPart p.held p.holds magic)
    ⊎ AppendsBetween p.held p.holds (capture_of record_of (pieces_before_last b)) (capture_of record_of (pieces_of b))

-- The capture gained the records of all pieces, where the source was read to its end; those of the whole pieces of what
-- was read, where a read failed or the source is too long; and a front part of them, where a write failed.
abbrev pub Packs : (ℕ → List ℕ → Record) → Passage → Result Unit PackBad → Type 0
Packs record_of p (Ok done) =
    Reads p.had p.left (λ b. IsEmpty p.left × (length b ≤ 2 ^ 40)
    × Appends p.held p.holds (capture_of record_of (pieces_of b)))
Packs record_of p (Err ReadFault) =
    Reads p.had p.left (λ b. (length b ≤ 2 ^ 40) × Appends p.held p.holds (capture_of record_of (whole_pieces_of b)))
Packs record_of p (Err TooLong) =
    Reads p.had p.left (λ b. (2 ^ 40 < length b) × Appends p.held p.holds (capture_of record_of (whole_pieces_of b)))
Packs record_of p (Err WriteFault) = Reads p.had p.left (λ b. (length b ≤ 2 ^ 40) × FailsAtWrite record_of p b)

-- what a source and a writer were before a packing, and are after it
abbrev pub passage : Option (List ℕ) → Option (List ℕ) → WriterState → WriterState → Passage
passage had left old new = record { had = had; left = left; held = old.contents; holds = new.contents }

-- which call failed, by a packing's error
abbrev pub pack_fault : PackBad → Fault
pack_fault ReadFault = Read
pack_fault WriteFault = Write
pack_fault TooLong = NoFault
