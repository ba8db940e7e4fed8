-- whole pieces were packed, each under a pair where there is a sealer, and the source went on after each
use Rattle.std.proofs.Common.{◌≡◌, ◌≤◌, ◌*◌, ◌-◌, ◌^◌, true, is_some}
use Rattle.rist_pack.specs.Capture.{packed_record, nonces_of, HasGiven}
use Rattle.rist_pack.specs.Inside.Steps.{Sofar}
use Rattle.rist_pack.proofs.packing.pack.Given as goal

abbrev pub invariant-loop-k : goal.invariant-loop-k
invariant-loop-k g l = record {
  sofar : Sofar (packed_record l.session (nonces_of l.initial.shutter.sealer) l.settings) l.k
      (record { had = g.S.Source.remaining l.fn.source; left = g.S.Source.remaining l.source; held = l.fn.capture.contents; holds = l.capture.contents });
  place : 1316 * l.k ≤ 2 ^ 40;
  begun : l.capture.begun ≡ true;
  session : l.shutter.session ≡ l.session;
  nonces : nonces_of l.shutter.sealer ≡ nonces_of l.initial.shutter.sealer;
  paired : is_some l.shutter.sealer ≡ is_some l.session.pass;
  given : HasGiven l.k l.shutter.sealer;
  source_faults : g.S.Source.faults l.source ≡ g.S.Source.faults l.fn.source;
  sink_faults : l.capture.faults ≡ l.fn.capture.faults;
}

abbrev pub decreases-loop-k : goal.decreases-loop-k
decreases-loop-k g l = 2 ^ 40 - 1316 * l.k
