-- The clocks come back, and what was received by them is the line's.
use Rattle.std.proofs.Common.{◌≡◌, ◌∙◌, sym, ap, subst, length, arith}
use Rattle.run_parts.specs.Causes.{CanRefuse}
use Rattle.run_parts.proofs.FrameLemmas.{links_back}
use Rattle.run_parts.proofs.HandedLemmas.{drawn_between, links_as_they_were, from_first}
use Rattle.run_receive.proofs.ReceiveLemmas.{receives_same}
use Rattle.run_receive.proofs.receiving.receive_by_clocks.Goals as goal
use Rattle.run_receive.proofs.receiving.receive_by_clocks.Goals.{in-Ok-sealer_for, in-Err-sealer_for}

pub returns-clause-received : goal.returns-clause-received
returns-clause-received g c told clock_is entropy_is ran =
    let many : length c.in-Ok.clocks.items ≡ length c.args.line.now.links.items = omega (arith, c.in-Ok.ensures.count, c.len.ensures, c.requires.count) in
    elim c.match-sealer_for.branch [
      | in-Ok-sealer_for w ↦
          let hears = w.receive_sealed.ensures.work (λ r. ran (subst CanRefuse (sym (ap (λ x. x.1) w.sink-is)) r)) in
          record {
            were = c.in-Ok.clocks.items;
            are = c.match-sealer_for.clocks.items;
            count = many;
            places = from_first _ _ _ _ _ _ (c.in-Ok.ensures.ok (told, clock_is))
                (ap (λ h. (g.H.Host.shelf h).clocks) w.host-is ∙ (ap (λ s. s.clocks) (w.receive_sealed.ensures.same told) ∙ (c.sealer_for.ensures.others told).live.clocks))
                (c.back_clocks.ensures.state told) (ap (λ v. length v.items) w.clocks-is ∙ w.receive_sealed.ensures.clocks);
            did = record {
              sealer = w.in-Ok-sealer_for.sealer;
              fresh = w.in-Ok-sealer_for.ensures.ok;
              drawn = drawn_between _ _ _ _ _ _ (ap (λ s. s.entropies) (c.in-Ok.ensures.same told))
                  (ap (λ s. s.entropies) (c.back_clocks.ensures.same told)
                  ∙ (ap (λ h. (g.H.Host.shelf h).entropies) w.host-is ∙ ap (λ s. s.entropies) (w.receive_sealed.ensures.same told)))
                  (w.in-Ok-sealer_for.ensures.drawn (told, ap (λ s. s.next_entropy) (c.in-Ok.ensures.same told) ∙ entropy_is));
              counts = hears.counts;
              reported = ap (λ s. s.report) (c.back_clocks.ensures.same told) ∙ (ap (λ h. (g.H.Host.shelf h).report) w.host-is ∙ hears.reported told);
              receives = receives_same g.H.Output.Sink.contents g.H.Output.Sink.faults _ _ _ _ _ _ _ _ _ _ _ _ _ (ap (λ v. v.items) w.links-is) (ap (λ v. v.items) w.clocks-is) w.sink-is hears.receives;
            };
          }
      | in-Err-sealer_for w ↦ absurd (ran (subst CanRefuse (sym (ap (λ x. x.1) w.sink-is)) w.in-Err-sealer_for.ensures.err))
    ]

pub returns-clause-clocks : goal.returns-clause-clocks
returns-clause-clocks g c told clock_is refused =
    elim c.match-sealer_for.branch [
      | in-Ok-sealer_for w ↦
          let none = w.receive_sealed.ensures.refused (subst CanRefuse (ap (λ x. x.1) w.sink-is) refused) in
          links_as_they_were _ _ _ _ _ _ (c.in-Ok.ensures.ok (told, clock_is))
          (ap (λ h. (g.H.Host.shelf h).clocks) w.host-is ∙ (ap (λ s. s.clocks) (w.receive_sealed.ensures.same told) ∙ (c.sealer_for.ensures.others told).live.clocks))
          (ap (λ v. v.items) (w.clocks-is ∙ none.2)) (c.back_clocks.ensures.state told)
      | in-Err-sealer_for w ↦
          links_as_they_were _ _ _ _ _ _ (c.in-Ok.ensures.ok (told, clock_is))
          (ap (λ h. (g.H.Host.shelf h).clocks) w.host-is ∙ (c.sealer_for.ensures.others told).live.clocks)
          (ap (λ v. v.items) w.clocks-is) (c.back_clocks.ensures.state told)
    ]

pub returns-clause-unreported : goal.returns-clause-unreported
returns-clause-unreported g c told refused =
    elim c.match-sealer_for.branch [
      | in-Ok-sealer_for w ↦
          let none = w.receive_sealed.ensures.refused (subst CanRefuse (ap (λ x. x.1) w.sink-is) refused) in
          ap (λ s. s.report) (c.back_clocks.ensures.same told)
          ∙ (ap (λ h. (g.H.Host.shelf h).report) (w.host-is ∙ none.4) ∙ ((c.sealer_for.ensures.others told).live.report ∙ ap (λ s. s.report) (c.in-Ok.ensures.same told)))
      | in-Err-sealer_for w ↦
          ap (λ s. s.report) (c.back_clocks.ensures.same told)
          ∙ (ap (λ h. (g.H.Host.shelf h).report) w.host-is ∙ ((c.sealer_for.ensures.others told).live.report ∙ ap (λ s. s.report) (c.in-Ok.ensures.same told)))
    ]

pub returns-clause-times : goal.returns-clause-times
returns-clause-times g c told clock_is =
    let some : length c.in-Ok.clocks.items ≡ length c.args.line.now.links.items = omega (arith, c.in-Ok.ensures.count, c.len.ensures, c.requires.count) in
    elim c.match-sealer_for.branch [
      | in-Ok-sealer_for w ↦
          links_back _ _ _ _ _ _ _ some (c.in-Ok.ensures.ok (told, clock_is))
          (ap (λ h. (g.H.Host.shelf h).clocks) w.host-is ∙ (ap (λ s. s.clocks) (w.receive_sealed.ensures.same told) ∙ (c.sealer_for.ensures.others told).live.clocks))
          (ap (λ v. length v.items) w.clocks-is ∙ w.receive_sealed.ensures.clocks) (c.back_clocks.ensures.state told)
      | in-Err-sealer_for w ↦
          links_back _ _ _ _ _ _ _ some (c.in-Ok.ensures.ok (told, clock_is))
          (ap (λ h. (g.H.Host.shelf h).clocks) w.host-is ∙ (c.sealer_for.ensures.others told).live.clocks)
          (ap (λ v. length v.items) w.clocks-is) (c.back_clocks.ensures.state told)
    ]
