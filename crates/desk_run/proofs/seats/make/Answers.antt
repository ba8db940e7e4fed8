-- All is made in one session, for traces of one kind.
use Rattle.std.proofs.Common.{ap, sym, subst, arith}
use Rattle.std.specs.List.{All}
use Rattle.desk_run.specs.Setup.{IsSeat}
use Rattle.desk_run.proofs.SeatLemmas.{new_list}
use Rattle.desk_run.proofs.seats.make.Goals as goal

pub returns-clause-made : goal.returns-clause-made
returns-clause-made g c =
    record {
      running = c.in_ok-with.ensures.running;
      told = c.in_ok-with.ensures.state;
      delay = omega (arith, ap (λ s. s.limits.playout_delay) c.in_ok-with.ensures.settings, c.requires.settings.some_delay);
      list_is = new_list g.T.MadeTrace.told c.args.keep _ _ c.in_ok-with_room.ensures.list c.in_ok-with_room.ensures.limit;
      seats =
          subst (λ s. All (IsSeat g.T.Trace.list g.T.Trace.limit s (g.T.Trace.limit c.in_ok-with_room.field-0)) c.in_ok-seats.field-0.items) (sym (ap (λ x. x.session) c.in_ok-with.ensures.shutter))
          (subst (λ k. All (IsSeat g.T.Trace.list g.T.Trace.limit c.args.session.now k) c.in_ok-seats.field-0.items) (sym c.in_ok-with_room.ensures.limit) c.in_ok-seats.ensures.each);
      places = c.in_ok-seats.ensures.count;
      room = c.in_ok-with_capacity.ensures.capacity;
      none = c.in_ok-with_capacity.ensures.items;
    }
