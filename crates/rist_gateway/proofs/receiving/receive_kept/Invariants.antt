-- The name of this run's desk.
use Rattle.rist_desk.specs.Desk.{state_of}
use Rattle.desk_run.specs.Receiving.{given_by}
use Rattle.rist_gateway.proofs.receiving.receive_kept.Given as goal

abbrev pub ghosts-named_run : goal.ghosts-named_run
ghosts-named_run g a =
    record { given = given_by (state_of a.end.made.receiver (g.T.Trace.list a.end.made.trace) (g.T.Trace.limit a.end.made.trace) (g.K.Sink.contents a.sink) (g.K.Sink.faults a.sink)) }
