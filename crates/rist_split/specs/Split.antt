-- What a split of a capture leaves: each output what a replay in the session of its port writes.
use Rattle.std.specs.Prelude.{◌≡◌, ℕ, Bool, true, false, List, [], slice_get, Option, Some}
use Rattle.outside_io.specs.Causes.{RoseWhere}
use Rattle.outside_io.specs.Told.{Appends, AppendsPart}
use Rattle.capture_file.specs.Capture.{Record}
use Rattle.receiver_rules.specs.declared.limits.Limits.{Limits}
use Rattle.reorder_buffer.specs.declared.phase.Phase.TheVariants.{Open}
use Rattle.rist_wire.specs.declared.session.Session.{Session}
use Rattle.rist_wire.specs.Among.{session_at}
use Rattle.rist_ends.specs.Receiver.{ReceiverState, IsReceiverAfter}
use Rattle.rist_desk.specs.Desk.{is_cut_off}
use Rattle.rist_fan.specs.declared.fan.Fan.{Fan}
use Rattle.rist_fan.specs.declared.flow.Flow.{Flow}
use Rattle.rist_fan.specs.declared.flow.Came.{Came}
use Rattle.rist_replay.specs.Replay.{replayed}

-- the limits of the receiver at place 0
abbrev pub limits_in : {K : Type 0} → Fan K → Limits
limits_in fan = fan.first.receiver.buffer.limits

-- a receiver that sends nothing back and was told nothing, with these limits
pub record IsFresh (limits : Limits) (receiver : ReceiverState) : Type 0 where
  pub state : IsReceiverAfter receiver []
  pub running : receiver.buffer.phase ≡ Open
  pub limits_are : receiver.buffer.limits ≡ limits
  pub muted : receiver.reporter.is_muted ≡ true

-- each is one
abbrev pub AreFresh : {K : Type 0} → Limits → List (Flow K) → Type 0
AreFresh {K} limits flows = (v : ℕ) (flow : Flow K) → slice_get flows v ≡ Some flow → IsFresh limits flow.receiver

-- a sink gained the whole, or a front part of it where a write failed
abbrev pub IsWritten : Bool → Option (List ℕ) → Option (List ℕ) → List ℕ → Type 0
IsWritten false held holds whole = Appends held holds whole
IsWritten true held holds whole = AppendsPart held holds whole

-- One output: it gained the whole; or, where a write of its own failed, a front part of that, and its count of faults
-- rose exactly then.
pub record IsSplitOff (whole : List ℕ) (held holds : Option (List ℕ)) (before now : ℕ) (failed : Bool) : Type 0 where
  pub written : IsWritten failed held holds whole
  pub cause : RoseWhere failed before now

-- each output has what a replay of these records writes in the session at its place, by what came of the end there
abbrev pub AllSplit : {K : Type 0} → (K → Option (List ℕ)) → (K → ℕ) → List ℕ → Session → Limits → List (Flow K)
    → List (Flow K) → List Came → List Record → Type 0
AllSplit {K} contents faults ports session limits old new is rs =
    (v : ℕ) (flow next : Flow K) (came : Came)
    → slice_get old v ≡ Some flow → slice_get new v ≡ Some next → slice_get is v ≡ Some came
    → IsSplitOff (replayed (session_at ports v session) limits rs) (contents flow.sink) (contents next.sink)
    (faults flow.sink) (faults next.sink) (is_cut_off came.answer)
