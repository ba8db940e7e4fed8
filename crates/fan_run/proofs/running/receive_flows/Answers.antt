-- Receivers that were told nothing are new.
use Rattle.rist_fan.specs.Fan.{flows_in}
use Rattle.fan_desk.proofs.OneLemmas.{all_new}
use Rattle.fan_run.proofs.running.receive_flows.Goals as goal

pub named_flows-requires-clause-new : goal.named_flows-requires-clause-new
named_flows-requires-clause-new g c κs within = all_new g.K.Sink.contents g.K.Sink.faults (flows_in c.args.fan) c.requires.untold
