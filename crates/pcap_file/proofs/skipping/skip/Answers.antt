use Rattle.std.proofs.Common.{◌++◌, length, ◌∙◌, refl, arith, length-append}
use Rattle.outside_io.proofs.ToldLemmas.{takes_both}
use Rattle.pcap_file.proofs.TakenLemmas.{skips-bad}
use Rattle.pcap_file.proofs.skipping.skip.Goals as goal

pub loop-left-preserved : goal.loop-left-preserved
loop-left-preserved g c =
    let t = c.loop-left.invariant.taken in
    let s = c.in-Ok.ensures.value in
    record {
      most = omega arith;
      taken = (t.0 ++ s.0, omega (arith, length-append t.0 s.0, t.1, s.1, c.min-part.ensures), takes_both _ _ _ t.0 s.0 t.2 s.2);
      faults = c.in-Ok.ensures.cause ∙ c.loop-left.invariant.faults;
    }

pub returns-in-Err-clause-value : goal.returns-in-Err-clause-value
returns-in-Err-clause-value g c =
    let t = c.loop-left.invariant.taken in
    skips-bad c.args.at (length t.0) c.min-part.result c.args.count c.args.source.now.remaining c.loop-left.source.remaining c.skip_part.new.source.remaining
    t.0 c.in-Err.bad refl (omega (arith, t.1, c.min-part.ensures)) t.2 c.in-Err.ensures.value
