-- What is said of the name is said of what it is picked by.
use Rattle.std.proofs.Common.{◌∷◌}
use Rattle.rist_fan.specs.Fan.{flows_in}
use Rattle.rist_split.specs.Split.{limits_in}
use Rattle.rist_split.proofs.SplitLemmas.{begins, brought_as, split_as}
use Rattle.rist_split.proofs.splitting.split.Goals as goal

pub named_split-requires-clause-begun : goal.named_split-requires-clause-begun
named_split-requires-clause-begun g c = begins g.K.Sink.contents g.K.Sink.faults c.args.ports.now c.args.opener (limits_in c.args.fan) (flows_in c.args.fan) c.requires.places c.requires.fresh

pub returns-clause-work : goal.returns-clause-work
returns-clause-work g c =
    brought_as _ _ _ _ _ _ (λ rs all. split_as g.K.Sink.contents g.K.Sink.faults c.args.ports.now c.args.opener (limits_in c.args.fan) (flows_in c.args.fan) (c.named_split.result.first ∷ c.named_split.result.more.items) c.named_split.result.came.items rs all) c.named_split.ensures.work
