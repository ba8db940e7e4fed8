-- What the places of a desk were made with, as their receivers and sinks stand.
use Rattle.std.specs.Prelude.{◌≡◌, ℕ, List, [], true, slice_get, unwrap_or, is_some, Option, None, Some}
use Rattle.std.specs.Option.{option_map}
use Rattle.outside_io.specs.Told.{IsEmpty}
use Rattle.reorder_buffer.specs.declared.phase.Phase.TheVariants.{Open}
use Rattle.rist_ends.specs.Receiver.{IsReceiverAfter, settings_of}
use Rattle.rist_desk.specs.Desk.{Given, nothing_given}
use Rattle.rist_fan.specs.declared.flow.Flow.{Flow}

module _ {K : Type 0} (contents : K → Option (List ℕ)) (faults : K → ℕ) where
  -- what this receiver and this sink are made with
  abbrev pub given_of : Flow K → Given
  given_of flow =
      record {
        settings = settings_of flow.receiver;
        shutter = flow.receiver.reporter.shutter;
        limit = None;
        tells_steps = true;
        tells_octets = is_some (contents flow.sink);
        faults = faults flow.sink;
      }

  -- and those at each place
  abbrev pub given_at : List (Flow K) → ℕ → Given
  given_at flows v = unwrap_or (option_map given_of (slice_get flows v)) nothing_given

-- the receiver was told nothing, and its sink, where it tells, holds nothing
pub record IsUntold {K : Type 0} (contents : K → Option (List ℕ)) (flow : Flow K) : Type 0 where
  pub receiver : IsReceiverAfter flow.receiver []
  pub running : flow.receiver.buffer.phase ≡ Open
  pub empty : IsEmpty (contents flow.sink)

-- so of each
abbrev pub AreUntold : {K : Type 0} → (K → Option (List ℕ)) → List (Flow K) → Type 0
AreUntold {K} contents flows = (v : ℕ) (flow : Flow K) → slice_get flows v ≡ Some flow → IsUntold contents flow
