use Rattle.std.proofs.Common.{◌≡◌, map, take}
use Rattle.std.specs.List.{concat}
use Rattle.outside_io.specs.Told.{Appends}
use Rattle.run_print.proofs.asking.put_pieces.Given as goal

abbrev pub invariant-loop-piece : goal.invariant-loop-piece
invariant-loop-piece g l = record {
  told : Appends (g.K.Sink.contents l.fn.sink) (g.K.Sink.contents l.sink) (concat (map (λ piece. piece.now) (take l.piece-index l.pieces)));
  faults : g.K.Sink.faults l.sink ≡ g.K.Sink.faults l.fn.sink;
}
