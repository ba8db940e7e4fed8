-- What a contract sees of the system's host.
use Rattle.std.specs.Prelude.{◌≡◌, ◌≢◌, ℕ, min, List, [], Bool, true, false, Option, Some, None, Ok, Err, IfErr, Result}
use Rattle.outside_io.specs.Real.{IsSinkNamed, IsSourceNamed, file_of, sink_faults, source_faults}
use Rattle.outside_io.specs.declared.file_identity.FileIdentity.{FileIdentity}
use Rattle.end_sign.specs.Until.{source_behind}
use Rattle.gathered_source.specs.Gathered.{HasGathered, most_gathered}
use Rattle.media_address.specs.Address.{address_of}
use Rattle.media_address.specs.declared.address.MediaAddress.{MediaAddress}
use Rattle.media_address.specs.declared.bad.AddressBad.{AddressBad}
use Rattle.outside_net.specs.Links.{Datagram}
use Rattle.outside_net.specs.declared.link_spec.Role.{Role}
use Rattle.outside_net.specs.declared.link_spec.Role.TheVariants as roles
use Rattle.outside_host.specs.declared.host.HostBad.{HostBad}
use Rattle.outside_host.specs.declared.host.HostBad.TheVariants.{Failed}
use Rattle.outside_host.specs.declared.real_input.NamedInput.{NamedInput}
use Rattle.outside_host.specs.declared.real_input.RealInput.{RealInput}
use Rattle.outside_host.specs.declared.real_input.RealInput.TheVariants as inputs
use Rattle.outside_host.specs.declared.real_output.RealOutput.{RealOutput}
use Rattle.outside_host.specs.declared.real_output.RealOutput.TheVariants as outputs

-- how many of its calls failed, and the regular file that is read as the source
pub record RealHostState : Type 0 where
  pub faults : ℕ
  pub read : Option FileIdentity

-- what a link over UDP took is not told
abbrev pub untold : Option (List Datagram)
untold = None

-- nor which payloads a source has still to give
abbrev pub no_payloads : Option (List (List ℕ))
no_payloads = None

-- a sender sends on a link in this role what its source gives
abbrev pub is_senders : Role → Bool
is_senders roles.Receives = false
is_senders roles.ReceivesCalling = false
is_senders roles.Sends = true
is_senders roles.SendsListening = true
is_senders roles.Forwards = false

-- where nothing is handed out a call of the system failed: no want of memory is answered
abbrev pub FailsAlone : {T : Type 0} → Result T HostBad → Type 0
FailsAlone result = IfErr result (λ bad. bad ≡ Failed)

-- how many calls of a file or of standard input failed
abbrev pub named_faults : {R F I : Type 0} → NamedInput R F I → ℕ
named_faults input = source_faults (source_behind input.source)

-- how many reads of a source told a fault
abbrev pub input_faults : {A B C D E : Type 0} → RealInput A B C D E → ℕ
input_faults (inputs.Named input) = input.faults
input_faults (inputs.Network input) = input.source.faults

-- the octets that were gathered of a source and not read
abbrev pub input_ahead : {A B C D E : Type 0} → RealInput A B C D E → List ℕ
input_ahead (inputs.Named input) = input.ahead
input_ahead (inputs.Network input) = []

-- so many octets of a source under a name stand ahead, or all that are left, or a fault behind them; at most 16,384 do
abbrev pub input_stands : {A B C D E : Type 0} → RealInput A B C D E → ℕ → Type 0
input_stands (inputs.Named input) count = HasGathered (min count most_gathered) true input
input_stands (inputs.Network input) count = Unit {0}

-- how many calls of a sink failed
abbrev pub output_faults : {R F O : Type 0} → RealOutput R F O → ℕ
output_faults (outputs.Named sink line) = sink_faults sink
output_faults (outputs.Network sink) = sink.faults

-- the regular file that a source reads, if it reads one
abbrev pub file_read : {A B C D E : Type 0} → RealInput A B C D E → Option FileIdentity
file_read (inputs.Named input) = file_of (source_behind input.source.source)
file_read (inputs.Network source) = None

-- a source that stands under its name: in the form of its address where the name is one, and else a file or standard
-- input
abbrev pub IsInputNamed : {A B C D E : Type 0} → List ℕ → RealInput A B C D E → Type 0
IsInputNamed name (inputs.Named input) =
    (address_of name ≡ Ok None) × IsSourceNamed name (source_behind input.source.source)
IsInputNamed name (inputs.Network input) =
    (address_of name ≢ Ok None)
    × ((address : MediaAddress) → address_of name ≡ Ok (Some address) → input.source.form ≡ address.form)

-- a source comes in datagrams, each a piece of the stream
abbrev pub in_datagrams : {A B C D E : Type 0} → RealInput A B C D E → Bool
in_datagrams (inputs.Named input) = false
in_datagrams (inputs.Network input) = true

-- an address of UDP stands in a word
abbrev pub is_address : Result (Option MediaAddress) AddressBad → Bool
is_address (Ok None) = false
is_address (Ok (Some address)) = true
is_address (Err bad) = false

-- a name is an address of UDP, as it is or as RTP
abbrev pub is_network : List ℕ → Bool
is_network name = is_address (address_of name)

-- likewise of a sink
abbrev pub IsOutputNamed : {R F O : Type 0} → List ℕ → RealOutput R F O → Type 0
IsOutputNamed name (outputs.Named sink line) = (address_of name ≡ Ok None) × IsSinkNamed name sink
IsOutputNamed name (outputs.Network sink) =
    (address_of name ≢ Ok None)
    × ((address : MediaAddress) → address_of name ≡ Ok (Some address) → sink.form ≡ address.form)
