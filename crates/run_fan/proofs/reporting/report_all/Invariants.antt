-- the counts of the last place so far came last
use Rattle.std.proofs.Common.{◌≡◌, ◌+◌, ℕ, slice_get, Some}
use Rattle.std.specs.Prelude.{IsTrue, slice_index}
use Rattle.outside_host.specs.Shelf.{ChangesReport}
use Rattle.rist_ends.specs.declared.counts.Counts.{Counts}
use Rattle.run_fan.specs.Counting.{counts_at}
use Rattle.run_fan.proofs.reporting.report_all.Given as goal

abbrev pub invariant-loop-place : goal.invariant-loop-place
invariant-loop-place g l = record {
  last : IsTrue g.H.Host.tells → (v : ℕ) (one : Counts) → v + 1 ≡ l.place → slice_get l.counts v ≡ Some one → (g.H.Host.shelf l.host).report ≡ Some (counts_at (slice_index l.ports v) one);
  same : IsTrue g.H.Host.tells → ChangesReport (g.H.Host.shelf l.initial.host) (g.H.Host.shelf l.host);
  cause : g.H.Host.faults l.host ≡ g.H.Host.faults l.initial.host;
}
