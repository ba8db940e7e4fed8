-- The clock comes back, and what was sent by it is the line's.
use Rattle.std.proofs.Common.{◌≡◌, ◌∙◌, sym, ap, subst}
use Rattle.outside_host.specs.declared.host.Place.TheVariants.{Here, Out}
use Rattle.run_parts.specs.Causes.{CanRefuse}
use Rattle.run_parts.proofs.HandedLemmas.{drawn_between}
use Rattle.run_send.proofs.SendLemmas.{sends_same}
use Rattle.run_send.proofs.sending.send_by_clock.Goals as goal
use Rattle.run_send.proofs.sending.send_by_clock.Goals.{in-Ok-sealer_for, in-Err-sealer_for}

pub returns-clause-sent : goal.returns-clause-sent
returns-clause-sent g c told clock_is entropy_is ran =
    elim c.match-sealer_for.branch [
      | in-Ok-sealer_for w ↦ record {
        clock = c.in-Ok.clock;
        later = c.match-sealer_for.clock;
        sealer = w.in-Ok-sealer_for.sealer;
        took = subst (λ p. (g.H.Host.shelf c.args.host.now).clocks p ≡ Here c.in-Ok.clock) clock_is (c.in-Ok.ensures.ok told).was;
        gave = (c.back_clock.ensures.state told).now
            (ap (λ f. f 0) (c.sealer_for.ensures.others told).live.clocks ∙ subst (λ p. (g.H.Host.shelf c.clock.new.self).clocks p ≡ Out) clock_is (c.in-Ok.ensures.ok told).now);
        fresh = w.in-Ok-sealer_for.ensures.ok;
        drawn = drawn_between _ _ _ _ _ _ (ap (λ s. s.entropies) (c.in-Ok.ensures.same told)) (ap (λ s. s.entropies) (c.back_clock.ensures.same told))
            (w.in-Ok-sealer_for.ensures.drawn (told, ap (λ s. s.next_entropy) (c.in-Ok.ensures.same told) ∙ entropy_is));
        sends = sends_same _ g.H.Time.Clock.moments g.H.Input.Source.remaining g.H.Input.LiveSource.payloads _ _ _ _ _ _ _ _ _ _ _ _ w.clock-is w.source-is w.links-is w.status-is
            (w.send_with-status.ensures.work (λ r. ran (subst CanRefuse (sym w.status-is) r)));
      }
      | in-Err-sealer_for w ↦ absurd (ran (subst CanRefuse (sym w.status-is) w.in-Err-sealer_for.ensures.err))
    ]
