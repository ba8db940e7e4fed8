use Rattle.std.proofs.Common.{◌≡◌, ◌≤◌, take, drop, length, arith, ◌-◌, length-drop, ap, ◌∙◌}
use Rattle.std.proofs.lemmas.Slice.{between_to_end}
use Rattle.outside_io.proofs.FillingLemmas.{filled_more, length_kept}
use Rattle.outside_io.proofs.filling.read_full.Goals as goal

pub loop-filled-preserved : goal.loop-filled-preserved
loop-filled-preserved g c =
    let xs = c.loop-filled.buf in
    let ys = c.read.new.buf in
    let at = c.loop-filled.filled in
    let rest : take (length xs - at) (drop at xs) ≡ drop at xs = between_to_end xs at (length xs) (omega arith) in
    let size : length ys ≡ length xs - at = omega (arith, c.read.auto.buf, ap length rest, length-drop at xs) in
    let bound : c.in-Ok.count ≤ length ys = c.in-Ok.ensures.within.0 in
    record {
      inside = omega (arith, length_kept at xs ys c.loop-filled.invariant.inside size);
      told = filled_more _ _ _ at c.in-Ok.count _ xs ys c.loop-filled.invariant.inside bound c.loop-filled.invariant.told c.in-Ok.ensures.ok;
      faults = c.in-Ok.ensures.cause ∙ c.loop-filled.invariant.faults;
    }
