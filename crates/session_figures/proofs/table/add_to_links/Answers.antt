-- One more link has its octets.
use Rattle.std.proofs.Common.{◌∷◌, ◌∙◌, ℕ, subst, arith}
use Rattle.std.specs.Prelude.{slice_index_or}
use Rattle.time_series.specs.Points.{IsSeriesOf}
use Rattle.session_figures.specs.Amounts.{on_link}
use Rattle.session_figures.proofs.FigureLemmas.{links_more}
use Rattle.session_figures.proofs.table.add_to_links.Goals as goal

pub loop-link-preserved : goal.loop-link-preserved
loop-link-preserved c =
    let i = c.loop-link.invariant in
    let s = c.add_at.ensures in
    record {
      count = s.count ∙ i.count;
      done = λ w d marks low is.
          links_more c.args.links.now c.loop-link.links c.add_at.new.links c.loop-link.link (λ v. record { second = c.args.second; amount = on_link v c.args.from c.args.amount })
          i.done i.rest
          (λ e ms was. subst (λ (n : ℕ). IsSeriesOf (slice_index_or c.add_at.new.links c.loop-link.link e) (record { second = c.args.second; amount = n } ∷ ms)) c.on_link.ensures.value (s.added e ms was))
          s.others w d marks low is;
      rest = λ w d high. s.others w d (λ same. omega (arith, high, same)) ∙ i.rest w d (omega (arith, high));
    }

pub returns-clause-each : goal.returns-clause-each
returns-clause-each c link d marks low is = c.loop-link.invariant.done link d marks (omega (arith, low)) is
