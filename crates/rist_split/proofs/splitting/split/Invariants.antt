-- A split is named by what it begins with.
use Rattle.rist_fan.specs.Fan.{flows_in}
use Rattle.rist_split.specs.Split.{limits_in}
use Rattle.rist_split.specs.Inside.Splitting.{start_of}
use Rattle.rist_split.proofs.splitting.split.Given as goal

abbrev pub ghosts-named_split : goal.ghosts-named_split
ghosts-named_split g a = record { start = start_of g.K.Sink.contents g.K.Sink.faults a.ports.now a.opener (limits_in a.fan) (flows_in a.fan) }
