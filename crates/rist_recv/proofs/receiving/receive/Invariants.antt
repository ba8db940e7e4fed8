-- The name of this run's desk.
use Rattle.rist_desk.specs.Desk.{state_of}
use Rattle.desk_run.specs.Receiving.{given_by}
use Rattle.rist_recv.proofs.receiving.receive.Given as goal

abbrev pub ghosts-named_run : goal.ghosts-named_run
ghosts-named_run g a =
    record { given = given_by (state_of a.receiver (g.T.Trace.list a.trace) (g.T.Trace.limit a.trace) (g.K.Sink.contents a.sink) (g.K.Sink.faults a.sink)) }
