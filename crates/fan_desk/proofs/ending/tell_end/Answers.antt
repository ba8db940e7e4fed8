-- Each place was told the end.
use Rattle.std.proofs.Common.{◌∷◌, List, sym, subst, ◌∙◌}
use Rattle.std.proofs.lemmas.List.{with_items_is}
use Rattle.rist_fan.specs.declared.flow.Came.{Came}
use Rattle.rist_fan.specs.Fan.{FanEnded}
use Rattle.fan_desk.proofs.ending.tell_end.Goals as goal

pub returns-clause-ended : goal.returns-clause-ended
returns-clause-ended g c = λ history old.
    subst (λ (l : List Came). FanEnded g.N.FanOrigin.given g.K.Sink.contents g.K.Sink.faults (c.finish.result.0 ∷ c.finish.result.1.items) history l)
    (sym (with_items_is c.args.came.now c.finish.new.came (c.finish.ensures.room ∙ c.deref_mut.ensures.len))) (c.finish.ensures.ended g.N.FanOrigin.given history old)
