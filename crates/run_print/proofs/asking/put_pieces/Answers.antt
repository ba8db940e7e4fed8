use Rattle.std.proofs.Common.{◌∙◌, [], subst, sym}
use Rattle.outside_io.proofs.ToldLemmas.{appends_both}
use Rattle.outside_io.specs.Told.{Appends}
use Rattle.run_print.proofs.PieceLemmas.{part_of_pieces, pieces_more, pieces_whole}
use Rattle.run_print.proofs.asking.put_pieces.Goals as goal

pub returns-in-Err-clause-part : goal.returns-in-Err-clause-part
returns-in-Err-clause-part g c failed =
    part_of_pieces _ _ _ _ _ _ _ c.loop-piece.invariant.told c.in-Err.ensures.err
    (pieces_whole c.args.pieces.now c.loop-piece.piece-index (record { ref_ptr = (0, 0); now = [] }) c.as_bytes.result.now c.loop-piece-test.true c.as_bytes.ensures.value)

pub loop-piece-preserved : goal.loop-piece-preserved
loop-piece-preserved g c = record {
  told =
      subst (Appends (g.K.Sink.contents c.args.sink.now) (g.K.Sink.contents c.put.new.self))
      (sym (pieces_more c.args.pieces.now c.loop-piece.piece-index (record { ref_ptr = (0, 0); now = [] }) c.as_bytes.result.now c.loop-piece-test.true c.as_bytes.ensures.value))
      (appends_both _ _ _ _ _ c.loop-piece.invariant.told c.in-Ok.ensures.ok);
  faults = c.in-Ok.ensures.cause ∙ c.loop-piece.invariant.faults;
}
