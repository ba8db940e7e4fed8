-- What was told nothing stands for no rows.
use Rattle.std.proofs.Common.{[], sym, subst}
use Rattle.rist_fan.specs.declared.fan.Fan.{Fan}
use Rattle.rist_fan.specs.Fan.{FanStands, flows_in}
use Rattle.rist_fan.proofs.FanLemmas.{all_new}
use Rattle.fan_desk.proofs.desk.FanDesk.open.Goals as goal

pub open-requires-clause-stands : goal.open-requires-clause-stands
open-requires-clause-stands g c =
    subst (λ (f : Fan _). FanStands g.N.FanOrigin.given g.K.Sink.contents g.K.Sink.faults (flows_in f) []) (sym c.in-Ok.ensures.ok)
    (all_new g.K.Sink.contents g.K.Sink.faults g.N.FanOrigin.given (flows_in c.args.fan) c.requires.fresh)
