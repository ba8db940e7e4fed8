-- What a run over several flows takes memory for, and its receivers and sinks apart and together.
use Rattle.std.specs.Prelude.{◌≡◌, ◌≤◌, ◌%◌, ℕ, List, [], length, map, slice_get, slice_index, Option, Some}
use Rattle.std.specs.Prelude.{IfSome, is_some, true, vec_capacity}
use Rattle.std.specs.List.{All}
use Rattle.psk_seal.specs.Nonces.{AreNonces}
use Rattle.psk_seal.specs.Sealer.{SealerState}
use Rattle.reorder_buffer.specs.declared.phase.Phase.TheVariants.{Open}
use Rattle.rist_ends.specs.declared.counts.Counts.{Counts}
use Rattle.rist_ends.specs.Receiver.{IsReceiverAfter, ReceiverState, settings_of}
use Rattle.rist_ends.specs.Settings.{control_settings}
use Rattle.rist_fan.specs.declared.flow.Flow.{Flow}
use Rattle.rist_wire.specs.Among.{with_port}
use Rattle.rist_words.specs.CommandLine.{FanCommand}
use Rattle.run_parts.specs.Sessions.{session_read}
use Rattle.run_fan.specs.declared.making.FanMemory.{FanMemory}
use Rattle.run_fan.specs.Sessions.{settings_fanned}

-- a sealer that has given no pair
pub record IsNewSealer (sealer : Option SealerState) : Type 0 where
  pub some : is_some sealer ≡ true
  pub fresh : IfSome sealer (λ s. s.given ≡ 0)
  pub nonces : IfSome sealer (λ s. AreNonces s.nonces)

-- the port of an output: an even one that has a next one
pub record IsPort (port : ℕ) : Type 0 where
  pub even : port % 2 ≡ 0
  pub low : 2 ≤ port
  pub high : port ≤ 65534

-- a receiver that was told nothing, set for an output at this port and under this sealer
pub record IsNewWith (c : FanCommand) (port : ℕ) (sealer : Option SealerState) (receiver : ReceiverState) : Type 0 where
  pub settings : settings_of receiver ≡ control_settings (settings_fanned c) (with_port port (session_read c.session))
  pub shutter : receiver.reporter.shutter
      ≡ record { session = with_port port (session_read c.session); sealer = sealer }
  pub told : IsReceiverAfter receiver []
  pub running : receiver.buffer.phase ≡ Open

-- what a receiver seals by
abbrev pub sealer_of : ReceiverState → Option SealerState
sealer_of receiver = receiver.reporter.shutter.sealer

-- each of these is set for its place
abbrev pub AreNewFor : FanCommand → List ReceiverState → Type 0
AreNewFor c receivers =
    (v : ℕ) (receiver : ReceiverState) → slice_get receivers v ≡ Some receiver
    → IsNewWith c (slice_index c.ports v) (sealer_of receiver) receiver

-- the sealers that were set into the receivers
abbrev pub sealers_in : {K : Type 0} → FanMemory K → List (Option SealerState)
sealers_in made = map sealer_of made.receivers.items

-- memory for the run of a line on so many links
pub record IsMade {K : Type 0} (c : FanCommand) (links : ℕ) (made : FanMemory K) : Type 0 where
  pub receivers : AreNewFor c made.receivers.items
  pub none : made.flows.items ≡ []
  pub room : length made.receivers.items ≤ vec_capacity made.flows
  pub ports : made.ports.items ≡ c.ports
  pub openers : All (λ opener. opener ≡ session_read c.session) made.openers.items
  pub links_are : length made.openers.items ≡ links
  pub uncounted : made.counts.items ≡ []
  pub counts_room : length made.receivers.items ≤ vec_capacity made.counts

-- the sink of a flow
abbrev pub sink_of : {K : Type 0} → Flow K → K
sink_of flow = flow.sink

-- its receiver
abbrev pub receiver_of : {K : Type 0} → Flow K → ReceiverState
receiver_of flow = flow.receiver

-- and what that counted
abbrev pub counts_of : {K : Type 0} → Flow K → Counts
counts_of flow = flow.receiver.counts
