-- A piece that was read and written.
use Rattle.std.proofs.Common.{◌≡◌, ℕ, ◌<◌, ◌≤◌, List, length, take, sym, ap, ◌∙◌, subst, arith, Ok, Err}
use Rattle.std.specs.Prelude.{Option}
use Rattle.std.proofs.lemmas.List.{length-take-le}
use Rattle.outside_io.specs.Told.{Appends, AppendsPart}
use Rattle.outside_io.proofs.ToldLemmas.{appends_none}
use Rattle.capture_file.specs.Capture.{Record, spelling}
use Rattle.block_source.specs.Pieces.{pieces_of}
use Rattle.block_source.specs.Reading.{TakesPiece}
use Rattle.block_source.proofs.PieceLemmas.{no_piece, one_piece}
use Rattle.rist_pack.specs.Inside.Steps.{PacksPiece, spelled_from}
use Rattle.rist_pack.specs.declared.packing.Turn.TheVariants.{On, Over}
use Rattle.rist_pack.specs.declared.bad.PackBad.TheVariants.{WriteFault}
use Rattle.rist_pack.proofs.CaptureLemmas.{one_record}

-- one piece is one record
one : (f : ℕ → List ℕ → Record) (k : ℕ) (b : List ℕ) → 0 < length b → length b ≤ 1316 → spelling (f k b) ≡ spelled_from f k (pieces_of b)
one f k b some few = sym (ap (spelled_from f k) (one_piece b some few) ∙ one_record f k b)

pub nothing_left : (f : ℕ → List ℕ → Record) (k n : ℕ) (had left told : Option (List ℕ)) (block : List ℕ) → length block ≡ 1316
    → TakesPiece k had left (take n block) → n ≡ 0 → PacksPiece f k (record { had = had; left = left; held = told; holds = told }) (Ok Over)
nothing_left f k n had left told block long piece none =
    let size : length (take n block) ≡ n = length-take-le n block (omega arith) in (
      take n block,
      piece.taken,
      (
        piece.last (omega (arith, size)),
        piece.within,
        subst (λ ps. Appends told told (spelled_from f k ps)) (sym (no_piece (take n block) (size ∙ none))) (appends_none told),
      ),
    )

pub whole_piece : (f : ℕ → List ℕ → Record) (k n : ℕ) (had left old new : Option (List ℕ)) (block : List ℕ) → length block ≡ 1316
    → TakesPiece k had left (take n block) → n ≡ 1316 → Appends old new (spelling (f k (take n block))) → PacksPiece f k (record { had = had; left = left; held = old; holds = new }) (Ok On)
whole_piece f k n had left old new block long piece all written =
    let size : length (take n block) ≡ n = length-take-le n block (omega arith) in (
      take n block,
      piece.taken,
      (
        omega (arith, size),
        piece.within,
        subst (Appends old new) (one f k (take n block) (omega (arith, size)) piece.few) written,
      ),
    )

pub last_piece : (f : ℕ → List ℕ → Record) (k n : ℕ) (had left old new : Option (List ℕ)) (block : List ℕ) → length block ≡ 1316
    → TakesPiece k had left (take n block) → 0 < n → n < 1316 → Appends old new (spelling (f k (take n block))) → PacksPiece f k (record { had = had; left = left; held = old; holds = new }) (Ok Over)
last_piece f k n had left old new block long piece some short written =
    let size : length (take n block) ≡ n = length-take-le n block (omega arith) in (
      take n block,
      piece.taken,
      (
        piece.last (omega (arith, size)),
        piece.within,
        subst (Appends old new) (one f k (take n block) (omega (arith, size)) piece.few) written,
      ),
    )

pub part_written : (f : ℕ → List ℕ → Record) (k n : ℕ) (had left old new : Option (List ℕ)) (block : List ℕ) → length block ≡ 1316
    → n ≤ 1316 → TakesPiece k had left (take n block) → 0 < n → AppendsPart old new (spelling (f k (take n block))) → PacksPiece f k (record { had = had; left = left; held = old; holds = new }) (Err WriteFault)
part_written f k n had left old new block long few piece some written =
    let size : length (take n block) ≡ n = length-take-le n block (omega arith) in (
      take n block,
      piece.taken,
      (
        (omega (arith, size), piece.few),
        piece.within,
        subst (AppendsPart old new) (one f k (take n block) (omega (arith, size)) piece.few) written,
      ),
    )
