-- Receivers and sinks of a split, apart and together.
use Rattle.std.specs.Prelude.{◌≡◌, ℕ, Bool, List, length}
use Rattle.std.specs.List.{All}
use Rattle.receiver_rules.specs.declared.limits.Limits.{Limits}
use Rattle.rist_ends.specs.Receiver.{ReceiverState}
use Rattle.rist_desk.specs.Desk.{is_cut_off}
use Rattle.rist_fan.specs.declared.flow.Flow.{Flow}
use Rattle.rist_fan.specs.declared.flow.Came.{Came}
use Rattle.rist_split.specs.Split.{IsFresh}

-- the sink of a flow
abbrev pub sink_of : {K : Type 0} → Flow K → K
sink_of flow = flow.sink

-- its receiver
abbrev pub receiver_of : {K : Type 0} → Flow K → ReceiverState
receiver_of flow = flow.receiver

-- so many receivers that were told nothing, with these limits
pub record AreReceivers (limits : Limits) (count : ℕ) (receivers : List ReceiverState) : Type 0 where
  pub each : All (IsFresh limits) receivers
  pub many : length receivers ≡ count

-- a write failed in the end or before it
abbrev pub is_cut : Came → Bool
is_cut came = is_cut_off came.answer
