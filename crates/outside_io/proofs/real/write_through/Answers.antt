use Rattle.std.proofs.Common.{◌≡◌, ◌≤◌, drop, take, length, arith, ◌-◌, length-drop}
use Rattle.std.proofs.lemmas.Slice.{between_to_end}
use Rattle.outside_io.proofs.WriterLemmas.{written_more}
use Rattle.outside_io.proofs.real.write_through.Goals as goal

pub loop-done-preserved : goal.loop-done-preserved
loop-done-preserved g c =
    let piece = c.args.piece.now in
    let at = c.loop-done.done in
    let rest : take (length piece - at) (drop at piece) ≡ drop at piece = between_to_end piece at (length piece) (omega arith) in
    let bound : c.in-Ok.count ≤ length (drop at piece) = rw rest at c.in-Ok.ensures.bound in
    record {
      inside = omega (arith, length-drop at piece);
      told = written_more _ _ _ piece at c.in-Ok.count c.loop-done.invariant.told (rw rest at c.in-Ok.ensures.bytes);
    }
