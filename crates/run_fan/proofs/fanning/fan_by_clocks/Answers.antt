-- The clocks come back, and what was received by them is the line's.
use Rattle.std.proofs.Common.{◌≡◌, ◌∙◌, sym, ap, subst, length, is_some, arith}
use Rattle.run_parts.specs.Causes.{CanRefuse}
use Rattle.run_parts.proofs.FrameLemmas.{links_back}
use Rattle.run_parts.proofs.HandedLemmas.{links_as_they_were, from_first}
use Rattle.run_fan.proofs.FannedLemmas.{drawn_between, fans_same}
use Rattle.run_fan.proofs.fanning.fan_by_clocks.Goals as goal
use Rattle.run_fan.proofs.fanning.fan_by_clocks.Goals.{in-Ok-sealers_for, in-Err-sealers_for}

pub returns-clause-fanned : goal.returns-clause-fanned
returns-clause-fanned g c told clock_is entropy_is ran =
    let many : length c.in-Ok.clocks.items ≡ length c.args.line.now.links.items = omega (arith, c.in-Ok.ensures.count, c.len.ensures, c.requires.count) in
    elim c.match-sealers_for.branch [
      | in-Ok-sealers_for w ↦
          let fans = w.fan_sealed-status.ensures.work (λ r. ran (subst CanRefuse (sym w.status-is) r)) in
          record {
            were = c.in-Ok.clocks.items;
            are = c.match-sealers_for.clocks.items;
            count = many;
            places = from_first _ _ _ _ _ _ (c.in-Ok.ensures.ok (told, clock_is))
                (ap (λ h. (g.H.Host.shelf h).clocks) w.host-is ∙ (ap (λ s. s.clocks) (w.fan_sealed-status.ensures.same told) ∙ (c.sealers_for.ensures.others told).live.clocks))
                (c.back_clocks.ensures.state told) (ap (λ v. length v.items) w.clocks-is ∙ w.fan_sealed-status.ensures.clocks);
            did = record {
              sealers = w.in-Ok-sealers_for.sealers.items;
              sealer_count = omega (arith, w.in-Ok-sealers_for.ensures.count, c.len-2.ensures);
              fresh = w.in-Ok-sealers_for.ensures.fresh;
              drawn = drawn_between _ (is_some _) _ _ _ _ _ (ap (λ s. s.entropies) (c.in-Ok.ensures.same told))
                  (ap (λ s. s.entropies) (c.back_clocks.ensures.same told)
                  ∙ (ap (λ h. (g.H.Host.shelf h).entropies) w.host-is ∙ ap (λ s. s.entropies) (w.fan_sealed-status.ensures.same told)))
                  (w.in-Ok-sealers_for.ensures.drawn (told, ap (λ s. s.next_entropy) (c.in-Ok.ensures.same told) ∙ entropy_is));
              counts = fans.counts;
              reported = λ v one last at.
                  ap (λ s. s.report) (c.back_clocks.ensures.same told) ∙ (ap (λ h. (g.H.Host.shelf h).report) w.host-is ∙ fans.reported told v one last at);
              fans = fans_same _ _ _ _ _ _ _ _ _ _ _ _ _ _ _ _ (ap (λ v. v.items) w.links-is) (ap (λ v. v.items) w.clocks-is) (ap (λ v. v.items) w.sinks-is) w.status-is fans.fans;
            };
          }
      | in-Err-sealers_for w ↦ absurd (ran (subst CanRefuse (sym w.status-is) w.in-Err-sealers_for.ensures.err))
    ]

pub returns-clause-clocks : goal.returns-clause-clocks
returns-clause-clocks g c told clock_is refused =
    elim c.match-sealers_for.branch [
      | in-Ok-sealers_for w ↦
          let none = w.fan_sealed-status.ensures.refused (subst CanRefuse w.status-is refused) in
          links_as_they_were _ _ _ _ _ _ (c.in-Ok.ensures.ok (told, clock_is))
          (ap (λ h. (g.H.Host.shelf h).clocks) w.host-is ∙ (ap (λ s. s.clocks) (w.fan_sealed-status.ensures.same told) ∙ (c.sealers_for.ensures.others told).live.clocks))
          (ap (λ v. v.items) (w.clocks-is ∙ none.2)) (c.back_clocks.ensures.state told)
      | in-Err-sealers_for w ↦
          links_as_they_were _ _ _ _ _ _ (c.in-Ok.ensures.ok (told, clock_is))
          (ap (λ h. (g.H.Host.shelf h).clocks) w.host-is ∙ (c.sealers_for.ensures.others told).live.clocks)
          (ap (λ v. v.items) w.clocks-is) (c.back_clocks.ensures.state told)
    ]

pub returns-clause-unreported : goal.returns-clause-unreported
returns-clause-unreported g c told refused =
    elim c.match-sealers_for.branch [
      | in-Ok-sealers_for w ↦
          let none = w.fan_sealed-status.ensures.refused (subst CanRefuse w.status-is refused) in
          ap (λ s. s.report) (c.back_clocks.ensures.same told)
          ∙ (ap (λ h. (g.H.Host.shelf h).report) (w.host-is ∙ none.4) ∙ ((c.sealers_for.ensures.others told).live.report ∙ ap (λ s. s.report) (c.in-Ok.ensures.same told)))
      | in-Err-sealers_for w ↦
          ap (λ s. s.report) (c.back_clocks.ensures.same told)
          ∙ (ap (λ h. (g.H.Host.shelf h).report) w.host-is ∙ ((c.sealers_for.ensures.others told).live.report ∙ ap (λ s. s.report) (c.in-Ok.ensures.same told)))
    ]

pub returns-clause-times : goal.returns-clause-times
returns-clause-times g c told clock_is =
    let some : length c.in-Ok.clocks.items ≡ length c.args.line.now.links.items = omega (arith, c.in-Ok.ensures.count, c.len.ensures, c.requires.count) in
    elim c.match-sealers_for.branch [
      | in-Ok-sealers_for w ↦
          links_back _ _ _ _ _ _ _ some (c.in-Ok.ensures.ok (told, clock_is))
          (ap (λ h. (g.H.Host.shelf h).clocks) w.host-is ∙ (ap (λ s. s.clocks) (w.fan_sealed-status.ensures.same told) ∙ (c.sealers_for.ensures.others told).live.clocks))
          (ap (λ v. length v.items) w.clocks-is ∙ w.fan_sealed-status.ensures.clocks) (c.back_clocks.ensures.state told)
      | in-Err-sealers_for w ↦
          links_back _ _ _ _ _ _ _ some (c.in-Ok.ensures.ok (told, clock_is))
          (ap (λ h. (g.H.Host.shelf h).clocks) w.host-is ∙ (c.sealers_for.ensures.others told).live.clocks)
          (ap (λ v. length v.items) w.clocks-is) (c.back_clocks.ensures.state told)
    ]
