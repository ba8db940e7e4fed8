-- The name of this run's desk.
use Rattle.desk_run.specs.Setup.{given_to, setup_in_turns}
use Rattle.rist_recv.proofs.in_turns.receive_in_turns.Given as goal

abbrev pub ghosts-named_in_turns : goal.ghosts-named_in_turns
ghosts-named_in_turns g a = record { given = given_to (setup_in_turns a.made) (g.K.Sink.contents a.sink) (g.K.Sink.faults a.sink) }
