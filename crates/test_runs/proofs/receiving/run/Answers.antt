-- The receiver, the trace and the sink are new.
use Rattle.std.proofs.Common.{ap, subst}
use Rattle.outside_io.specs.Memory.{MemorySink}
use Rattle.outside_io.specs.Told.{IsEmpty}
use Rattle.test_runs.proofs.receiving.run.Goals as goal

pub receive-requires-clause-unused : goal.receive-requires-clause-unused
receive-requires-clause-unused g c κs within =
    record {
      receiver = c.in_ok-receiver.ensures.state;
      running = c.in_ok-receiver.ensures.running;
      steps = c.requires.empty;
      octets = λ octets is. subst IsEmpty is (ap (λ (s : MemorySink). s.contents) c.in_ok-sink.ensures.value);
    }
