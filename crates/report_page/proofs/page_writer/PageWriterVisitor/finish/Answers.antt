-- What is put is the page of the figures, with the end after the records.
use Rattle.std.proofs.Common.{◌≡◌, ◌≢◌, ◌∷◌, ◌∙◌, ℕ, List, [], length, map, take, ap, sym, subst}
use Rattle.std.proofs.lemmas.List.{with_items_is, length-map}
use Rattle.std.proofs.lemmas.List.FromFn.{length-map-range_with_len}
use Rattle.capture_file.specs.Capture.{Record}
use Rattle.outside_io.specs.Told.{Appends, AppendsPart, IsPrefix, Writes, WritesPart}
use Rattle.time_series.specs.Points.{SeriesState, shown_points}
use Rattle.receiver_rules.specs.declared.limits.Limits.{Limits}
use Rattle.reorder_buffer.specs.declared.phase.Phase.{Phase}
use Rattle.reorder_buffer.specs.declared.phase.Phase.TheVariants.{Ended, Failed}
use Rattle.request_rules.specs.Steps.{Step}
use Rattle.rist_replay.specs.Steps.{receiver_history}
use Rattle.session_figures.specs.declared.amounts.Amounts.{Amounts}
use Rattle.session_figures.specs.declared.figures.Figures.{Figures as Shown}
use Rattle.session_figures.specs.Figures.{Entry, Figures, entries_of, figures_of, links_by, sums_by}
use Rattle.session_figures.specs.Amounts.{first_on, octets_on, recovered_on}
use Rattle.session_figures.specs.Counting.{end_told, figures_seen}
use Rattle.report_page.specs.Page.{HasAllLinks, page_of}
use Rattle.report_page.specs.Reported.{HasReported, reported}
use Rattle.report_page.proofs.PageLemmas.{on_ok_to, on_err_to}
use Rattle.report_page.proofs.page_writer.PageWriterVisitor.finish.Goals as goal

over : (phase : Phase) → phase ≡ Ended → phase ≢ Failed
over phase e f = cc

-- there are as many series as links
as_many : (links : List SeriesState) (amount : ℕ → Amounts → ℕ) (entries : List Entry) → map shown_points links ≡ links_by amount entries → length links ≡ 16
as_many links amount entries same =
    sym (length-map links shown_points) ∙ ap length same ∙ length-map-range_with_len (λ link. sums_by (amount link) entries) 0 16

all_links : (limits : Limits) (history : List Step) (f : Shown) → figures_seen f ≡ figures_of limits history → HasAllLinks f.table.now
all_links limits history f same = record {
  octets = as_many f.table.now.links.items octets_on (entries_of limits history) (ap (λ (x : Figures). x.links) same);
  first = as_many f.table.now.first_links.items first_on (entries_of limits history) (ap (λ (x : Figures). x.first_links) same);
  recovered = as_many f.table.now.recovered_links.items recovered_on (entries_of limits history) (ap (λ (x : Figures). x.recovered_links) same);
}

pub returns-clause-sink : goal.returns-clause-sink
returns-clause-sink g c =
    let opener = c.args.self.now.opener in
    let limits : Limits = c.args.self.now.counter.buffer.limits in
    let text : List ℕ = take c.put_page-end.result c.deref.result.now in
    let items = c.deref.ensures.value ∙ with_items_is c.args.self.now.page c.put_page-end.new.out (c.put_page-end.auto.out ∙ c.deref_mut.ensures.len) in
    let is : (done : List Record) → HasReported opener c.args.self.now.counter done → text ≡ reported opener limits done = λ done has.
    let history : List Step = end_told ∷ receiver_history opener done in
    let figures = c.figures.ensures.value (over c.finish.new.self.buffer.phase (c.finish.ensures.ended has.running)) history (c.finish.ensures.state has.running (receiver_history opener done) has.counted) in
    ap (take c.put_page-end.result) items
    ∙ c.put_page-end.ensures.octets (all_links c.finish.new.self.buffer.limits history c.figures.result figures)
    ∙ ap page_of figures ∙ ap (λ (l : Limits). page_of (figures_of l history)) c.finish.ensures.limits in
    on_ok_to c.put.result (Appends (g.K.Sink.contents c.args.sink.now) (g.K.Sink.contents c.put.new.self) text)
    ((done : List Record) → HasReported opener c.args.self.now.counter done → Writes (g.K.Sink.contents c.args.sink.now) (g.K.Sink.contents c.put.new.self) [] (reported opener limits done))
    c.put.ensures.ok
    (λ puts done has. (text, puts, sym (is done has)))

pub returns-clause-part : goal.returns-clause-part
returns-clause-part g c =
    let opener = c.args.self.now.opener in
    let limits : Limits = c.args.self.now.counter.buffer.limits in
    let text : List ℕ = take c.put_page-end.result c.deref.result.now in
    let items = c.deref.ensures.value ∙ with_items_is c.args.self.now.page c.put_page-end.new.out (c.put_page-end.auto.out ∙ c.deref_mut.ensures.len) in
    let is : (done : List Record) → HasReported opener c.args.self.now.counter done → text ≡ reported opener limits done = λ done has.
    let history : List Step = end_told ∷ receiver_history opener done in
    let figures = c.figures.ensures.value (over c.finish.new.self.buffer.phase (c.finish.ensures.ended has.running)) history (c.finish.ensures.state has.running (receiver_history opener done) has.counted) in
    ap (take c.put_page-end.result) items
    ∙ c.put_page-end.ensures.octets (all_links c.finish.new.self.buffer.limits history c.figures.result figures)
    ∙ ap page_of figures ∙ ap (λ (l : Limits). page_of (figures_of l history)) c.finish.ensures.limits in
    on_err_to c.put.result (AppendsPart (g.K.Sink.contents c.args.sink.now) (g.K.Sink.contents c.put.new.self) text)
    ((done : List Record) → HasReported opener c.args.self.now.counter done → WritesPart (g.K.Sink.contents c.args.sink.now) (g.K.Sink.contents c.put.new.self) [] (reported opener limits done))
    c.put.ensures.err
    (λ part done has. (part.0, part.2, subst (IsPrefix part.0) (is done has) part.1))
