-- Each series has what the step added.
use Rattle.session_figures.specs.Amounts.{first_on, octets_on, recovered_on, used_before}
use Rattle.session_figures.specs.Figures.{marks_by}
use Rattle.std.proofs.Common.{◌∷◌, ℕ, subst}
use Rattle.time_series.specs.Peaks.{IsPeaksOf}
use Rattle.session_figures.proofs.FigureLemmas.{links_added}
use Rattle.session_figures.proofs.table.Table.add.Goals as goal

pub returns : goal.returns
returns c = record {
  series = λ entries are. record {
    of_links = links_added c.args.self.now.links.items c.add_to_all.new.links.items octets_on entries c.args.second c.args.amounts.now c.add_to_all.ensures.count c.add_to_all.ensures.each are.of_links;
    of_first_links = links_added c.args.self.now.first_links.items c.add_to_all-2.new.links.items first_on entries c.args.second c.args.amounts.now c.add_to_all-2.ensures.count c.add_to_all-2.ensures.each are.of_first_links;
    of_recovered_links = links_added c.args.self.now.recovered_links.items c.add_to_all-3.new.links.items recovered_on entries c.args.second c.args.amounts.now c.add_to_all-3.ensures.count c.add_to_all-3.ensures.each are.of_recovered_links;
    of_kept = c.add.ensures.state (marks_by (λ a. a.kept) entries) are.of_kept;
    of_first = c.add-2.ensures.state (marks_by (λ a. a.first) entries) are.of_first;
    of_recovered = c.add-3.ensures.state (marks_by (λ a. a.recovered) entries) are.of_recovered;
    of_missing = c.add-4.ensures.state (marks_by (λ a. a.passed.missing) entries) are.of_missing;
    of_late = c.add-5.ensures.state (marks_by (λ a. a.late) entries) are.of_late;
    of_restarts = c.add-6.ensures.state (marks_by (λ a. a.passed.restarts) entries) are.of_restarts;
    of_fill = c.add-7.ensures.state (marks_by (λ a. a.passed.playout.fill) entries) are.of_fill;
    of_used =
        subst (λ (n : ℕ). IsPeaksOf c.add-8.new.self (record { second = c.args.second; amount = n } ∷ marks_by used_before entries)) c.used_before.ensures.value
        (c.add-8.ensures.state (marks_by used_before entries) are.of_used);
    of_later = c.add-9.ensures.state (marks_by (λ a. a.passed.playout.later) entries) are.of_later;
    of_earlier = c.add-10.ensures.state (marks_by (λ a. a.passed.playout.earlier) entries) are.of_earlier;
  };
}
