-- What is added to the slice is added to the vector.
use Rattle.std.proofs.Common.{◌∷◌, ◌∙◌, List, length, ap, sym, subst, arith}
use Rattle.std.specs.Prelude.{slice_index_or}
use Rattle.std.proofs.lemmas.List.{with_items_is}
use Rattle.time_series.specs.Points.{SeriesState, IsSeriesOf}
use Rattle.session_figures.specs.Amounts.{on_link}
use Rattle.session_figures.proofs.table.add_to_all.Goals as goal

pub returns : goal.returns
returns c =
    let links = with_items_is c.args.links.now c.add_to_links.new.links (c.add_to_links.ensures.count ∙ c.deref_mut.ensures.len) in
    record {
      count = ap length links ∙ c.add_to_links.ensures.count ∙ ap length c.deref_mut.ensures.value;
      each = λ link d marks low is.
          subst (λ (l : List SeriesState). IsSeriesOf (slice_index_or l link d) (record { second = c.args.second; amount = on_link link c.args.from c.args.amount } ∷ marks)) (sym links)
          (c.add_to_links.ensures.each link d marks (omega (arith, low, ap length c.deref_mut.ensures.value))
          (subst (λ (l : List SeriesState). IsSeriesOf (slice_index_or l link d) marks) (sym c.deref_mut.ensures.value) is));
    }
