-- All is made in one session.
use Rattle.std.proofs.Common.{◌≡◌, ap, sym, subst, arith}
use Rattle.std.specs.List.{All}
use Rattle.desk_run.proofs.turn_seats.make_in_turns.Goals as goal

pub returns-clause-made : goal.returns-clause-made
returns-clause-made c =
    record {
      running = c.in_ok-with.ensures.running;
      told = c.in_ok-with.ensures.state;
      delay = omega (arith, ap (λ s. s.limits.playout_delay) c.in_ok-with.ensures.settings, c.requires.settings.some_delay);
      openers = subst (λ s. All (λ x. x ≡ s) c.in_ok-openers.field-0.items) (sym (ap (λ x. x.session) c.in_ok-with.ensures.shutter)) c.in_ok-openers.ensures.each;
      places = c.in_ok-openers.ensures.count;
    }
