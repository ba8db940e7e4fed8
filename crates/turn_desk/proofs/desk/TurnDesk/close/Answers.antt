-- What comes out of the box is what the lock gave.
use Rattle.std.proofs.Common.{sym, subst}
use Rattle.turn_lock.specs.Turns.{entries}
use Rattle.turn_desk.specs.Stands.{StandAs}
use Rattle.turn_desk.proofs.desk.TurnDesk.close.Goals as goal

pub returns : goal.returns
returns g c =
    let h = c.close-parts.ensures.closed in
    record {
      closed = record {
        turns = h.turns;
        stood = subst (λ parts. StandAs g.N.DeskOrigin.given g.K.Sink.contents g.K.Sink.faults parts (entries h.turns)) (sym c.into_inner.ensures) h.stood;
        own = h.own;
        others = h.others;
        saw = h.saw;
      };
    }
