-- The name of this run's desk.
use Rattle.std.proofs.Common.{length}
use Rattle.rist_fan.specs.Fan.{flows_in}
use Rattle.fan_desk.specs.Origin.{given_at}
use Rattle.fan_run.proofs.running.receive_flows.Given as goal

abbrev pub ghosts-named_flows : goal.ghosts-named_flows
ghosts-named_flows g a = record { given = given_at g.K.Sink.contents g.K.Sink.faults (flows_in a.fan); places = length (flows_in a.fan); ports = a.ports.items }
