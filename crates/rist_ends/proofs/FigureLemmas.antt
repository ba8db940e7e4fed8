-- The figures that a receiver keeps are those of its history.
use Rattle.std.proofs.Common.{◌≡◌, ◌≢◌, ℕ, ◌/◌, List, length, refl, ap, ◌∙◌}
use Rattle.receiver_rules.specs.declared.verdict.Verdict.{Verdict}
use Rattle.receiver_rules.specs.declared.verdict.Verdict.TheVariants as verdicts
use Rattle.receiver_rules.specs.Packets.{Packet, playout_floor}
use Rattle.receiver_rules.specs.Steps.{Step as BufferStep}
use Rattle.receiver_rules.specs.Epochs.{Epoch, epochs_of}
use Rattle.receiver_rules.specs.History.{accepted_packets, current_moment}
use Rattle.reorder_buffer.specs.State.{State}
use Rattle.reorder_buffer.specs.StateAfter.{Shows}
use Rattle.reorder_buffer.specs.declared.phase.Phase.TheVariants.{Failed}
use Rattle.request_rules.specs.Steps.{Step, buffer_history}
use Rattle.rist_ends.specs.declared.numbers.Numbers.{Numbers}
use Rattle.rist_ends.specs.Counts.{capped, count_of}
use Rattle.rist_ends.specs.Numbers.{AreNumbersOf, missing_at, missing_count}
use Rattle.rist_ends.specs.Taking.{missing_of}
use Rattle.rist_ends.proofs.FillLemmas.{fill_shown}
use Rattle.rist_ends.proofs.NumberLemmas.{missing_shown}
use Rattle.rist_ends.specs.Receiver.{ReceiverState, IsReceiverAfter, settings_of}
use Rattle.rist_ends.specs.Figures.{AreFiguresOf, figure_of, figures_of}

figure_is : (v : Verdict) (r : ReceiverState) → figure_of v (figures_of r) ≡ count_of v r.counts
figure_is verdicts.Kept r = refl
figure_is verdicts.Stranger r = refl
figure_is verdicts.Exhausted r = refl
figure_is verdicts.Late r = refl
figure_is verdicts.Behind r = refl
figure_is verdicts.Early r = refl
figure_is verdicts.Twice r = refl
figure_is verdicts.Span r = refl

lost_is : (n : Numbers) (b : State) (history : List BufferStep) → Shows b history → AreNumbersOf n (epochs_of b.limits history) → missing_of n b.floor (length b.held) ≡ capped (missing_count b.limits history)
lost_is n b history shows are =
    let epochs : List Epoch = epochs_of b.limits history in
    let floor : ℕ = playout_floor (accepted_packets b.limits history) (current_moment history) in
    missing_shown n epochs b.floor (length b.held) (current_moment history) shows.floor are
    ∙ ap (λ (f : ℕ). capped (missing_at epochs f (length b.held))) shows.floor
    ∙ ap (λ (ps : List Packet). capped (missing_at epochs floor (length ps))) shows.held

pub figures_are : (r : ReceiverState) (history : List Step) → IsReceiverAfter r history → r.buffer.phase ≢ Failed → AreFiguresOf (figures_of r) (settings_of r) history
figures_are r history s live = record {
  each = λ v. figure_is v r ∙ (s.counted live).counts.each v;
  again = (s.counted live).again;
  bad = (s.counted live).counts.refused;
  waiting = ap (λ (ps : List Packet). length ps) (s.buffer live).held;
  wanted = (s.counted live).asked;
  passed = lost_is r.numbers r.buffer (buffer_history history) (s.buffer live) (s.counted live).numbers;
  full = ap (λ n. n / 90) (fill_shown r.buffer (buffer_history history) (s.buffer live));
}
