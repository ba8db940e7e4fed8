-- the sealers that are left, and the receivers of the places behind them
use Rattle.std.proofs.Common.{◌≡◌, ◌≤◌, ◌+◌, ◌++◌, ℕ, length, map, slice_get, Some}
use Rattle.std.specs.Prelude.{slice_index, vec_capacity}
use Rattle.rist_ends.specs.Receiver.{ReceiverState}
use Rattle.rist_words.specs.Shown.{shown_fan}
use Rattle.run_fan.specs.Inside.Making.{IsNewWith, sealer_of}
use Rattle.run_fan.proofs.making.receivers.Given as goal

abbrev pub invariant-loop-sealer : goal.invariant-loop-sealer
invariant-loop-sealer l = record {
  room : length l.receivers.items + length l.sealers.items ≤ vec_capacity l.receivers;
  sealers_are : l.sealers.items ++ map sealer_of l.receivers.items ≡ l.initial.sealers.items;
  new : (k : ℕ) (r : ReceiverState) → slice_get l.receivers.items k ≡ Some r → IsNewWith (shown_fan l.line) (slice_index (shown_fan l.line).ports (length l.sealers.items + k)) (sealer_of r) r;
}

abbrev pub decreases-loop-sealer : goal.decreases-loop-sealer
decreases-loop-sealer l = length l.sealers.items
