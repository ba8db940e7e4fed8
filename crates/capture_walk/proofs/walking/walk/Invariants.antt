-- the records read so far were taken, and the walk goes on
use Rattle.std.proofs.Common.{◌≡◌, ◌-◌, ◌^◌, false}
use Rattle.capture_walk.specs.Inside.Sofar.{Sofar}
use Rattle.capture_walk.proofs.walking.walk.Given as goal

abbrev pub invariant-loop-bad : goal.invariant-loop-bad
invariant-loop-bad g l = record {
  sofar : Sofar (g.V.Visitor.so_far l.fn.visitor) g.R.Records.has_read g.V.Visitor.has_seen (g.R.Records.remaining l.fn.reader) l.reader l.visitor (g.K.Sink.contents l.fn.sink) (g.K.Sink.contents l.sink);
  fresh : g.R.Records.spent l.reader ≡ false;
  so_far : g.V.Visitor.so_far l.visitor ≡ g.V.Visitor.so_far l.fn.visitor;
  whole : g.V.Visitor.whole l.visitor ≡ g.V.Visitor.whole l.fn.visitor;
  form : g.R.Records.form l.reader ≡ g.R.Records.form l.fn.reader;
  source_faults : g.R.Records.faults l.reader ≡ g.R.Records.faults l.fn.reader;
  sink_faults : g.K.Sink.faults l.sink ≡ g.K.Sink.faults l.fn.sink;
}

abbrev pub decreases-loop-bad : goal.decreases-loop-bad
decreases-loop-bad g l = 2 ^ 40 - g.R.Records.at l.reader
