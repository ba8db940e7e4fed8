use Rattle.std.proofs.Common.{subst, arith}
use Rattle.outside_io.specs.Told.{Appends, AppendsPart}
use Rattle.capture_file.specs.Capture.{Record, spelling}
use Rattle.rist_pack.specs.Capture.{packed_record, nonces_of}
use Rattle.rist_pack.proofs.DatagramLemmas.{record-is}
use Rattle.rist_pack.proofs.StepLemmas.{nothing_left, whole_piece, last_piece, part_written}
use Rattle.rist_pack.proofs.packing.pack_piece.Goals as goal

pub returns-then-count-eq0-clause-value : goal.returns-then-count-eq0-clause-value
returns-then-count-eq0-clause-value g c =
    nothing_left (packed_record c.args.shutter.now.session (nonces_of c.args.shutter.now.sealer) c.args.settings.now) c.args.k c.in-Ok.count _ _ c.args.capture.now.contents c.read_piece.new.piece
    c.read_piece.array_long c.in-Ok.ensures.value (omega arith)

pub returns-in-Ok-write_piece-clause-value : goal.returns-in-Ok-write_piece-clause-value
returns-in-Ok-write_piece-clause-value g c =
    let is = record-is c.args.shutter.now.session c.args.shutter.now.sealer c.args.settings.now c.args.k _ c.requires.given in
    whole_piece (packed_record c.args.shutter.now.session (nonces_of c.args.shutter.now.sealer) c.args.settings.now) c.args.k c.in-Ok.count _ _ c.args.capture.now.contents c.write_piece.new.capture.contents c.read_piece.new.piece
    c.read_piece.array_long c.in-Ok.ensures.value (omega arith)
    (subst (λ (r : Record). Appends c.args.capture.now.contents c.write_piece.new.capture.contents (spelling r)) is c.in-Ok-write_piece.ensures.ok)

pub returns-in-Ok-2-clause-value : goal.returns-in-Ok-2-clause-value
returns-in-Ok-2-clause-value g c =
    let is = record-is c.args.shutter.now.session c.args.shutter.now.sealer c.args.settings.now c.args.k _ c.requires.given in
    last_piece (packed_record c.args.shutter.now.session (nonces_of c.args.shutter.now.sealer) c.args.settings.now) c.args.k c.in-Ok.count _ _ c.args.capture.now.contents c.write_piece.new.capture.contents c.read_piece.new.piece
    c.read_piece.array_long c.in-Ok.ensures.value (omega arith) (omega (arith, c.in-Ok.ensures.within))
    (subst (λ (r : Record). Appends c.args.capture.now.contents c.write_piece.new.capture.contents (spelling r)) is c.in-Ok-2.ensures.ok)

pub returns-in-Err-clause-value : goal.returns-in-Err-clause-value
returns-in-Err-clause-value g c =
    let is = record-is c.args.shutter.now.session c.args.shutter.now.sealer c.args.settings.now c.args.k _ c.requires.given in
    part_written (packed_record c.args.shutter.now.session (nonces_of c.args.shutter.now.sealer) c.args.settings.now) c.args.k c.in-Ok.count _ _ c.args.capture.now.contents c.write_piece.new.capture.contents c.read_piece.new.piece
    c.read_piece.array_long c.in-Ok.ensures.within.0 c.in-Ok.ensures.value (omega arith)
    (subst (λ (r : Record). AppendsPart c.args.capture.now.contents c.write_piece.new.capture.contents (spelling r)) is c.in-Err.ensures.err)
