use Rattle.std.proofs.Common.{[], refl, sym, subst}
use Rattle.reorder_buffer.proofs.PhaseLemmas.{not_failed}
use Rattle.rist_ends.specs.declared.counts.Counts.{Counts}
use Rattle.rist_ends.specs.Counts.{AreCountsOf}
use Rattle.rist_ends.proofs.CountLemmas.{none_counted}
use Rattle.rist_ends.proofs.receiver.Receiver.«with».Goals as goal

pub returns-clause-state : goal.returns-clause-state
returns-clause-state c = record {
  buffer = c.in_ok-buffer.ensures.state;
  counted = λ live. record {
    counts = subst (λ (x : Counts). AreCountsOf x c.in_ok-buffer.buffer.limits []) (sym c.none.ensures.value) (none_counted c.in_ok-buffer.buffer.limits);
    again = refl;
    asked = refl;
    numbers = c.none-2.ensures.state;
  };
  stayed = λ failed. absurd (not_failed c.in_ok-buffer.buffer.phase c.in_ok-buffer.ensures.running failed);
  reporter = λ running. c.in_ok-reporter.ensures.state c.in_ok-buffer.buffer.limits c.in_ok-buffer.ensures.span;
}
