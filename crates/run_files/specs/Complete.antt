-- A command whose calls don't fail comes to its end, or memory is refused.
use Rattle.std.specs.Prelude.{◌≡◌, ◌⊎◌, ◌≤◌, ◌^◌, ℕ, List, length, Some}
use Rattle.outside_host.specs.Shelf.{Shelf}
use Rattle.outside_host.specs.declared.host.Place.TheVariants.{Here}
use Rattle.capture_file.specs.Capture.{Record}
use Rattle.capture_walk.specs.Form.{Form, IsFile}
use Rattle.rist_words.specs.CommandLine.{CommandLine, Replay, Show, Count, Report, Pack, Split, Send, Recv, Fan, Gate}
use Rattle.rist_words.specs.CommandLine.{Drill}
use Rattle.run_parts.specs.Names.{source_name}
use Rattle.run_parts.specs.Objects.{Tells}
use Rattle.run_files.specs.Works.{form_of}
use Rattle.run_parts.specs.declared.status.Status.{Status}
use Rattle.run_parts.specs.declared.status.Status.TheVariants as statuses
use Rattle.run_parts.specs.Complete.{NoneFailed}

-- octets are a file of this form within the greatest offset
abbrev pub IsWholeFile : Form → List ℕ → Type 0
IsWholeFile form b = ((rs : List Record) × IsFile form rs b) × (length b ≤ 2 ^ 40)

-- octets that a command takes to their end: a capture or a pcap file, or for a packing or a sending any octets, within
-- the greatest offset; a receiving, of one flow or several, a gateway and a simulated run have no source
abbrev pub IsWholeInput : CommandLine → List ℕ → Type 0
IsWholeInput (Replay c) b = IsWholeFile (form_of c.session c.pcap) b
IsWholeInput (Show c) b = IsWholeFile (form_of c.session c.pcap) b
IsWholeInput (Count c) b = IsWholeFile (form_of c.session c.pcap) b
IsWholeInput (Report c) b = IsWholeFile (form_of c.session c.pcap) b
IsWholeInput (Pack c) b = length b ≤ 2 ^ 40
IsWholeInput (Split c) b = IsWholeFile (form_of c.session c.pcap) b
IsWholeInput (Send c) b = length b ≤ 2 ^ 40
IsWholeInput (Recv c) b = ⊥
IsWholeInput (Fan c) b = ⊥
IsWholeInput (Gate c) b = ⊥
IsWholeInput (Drill c) b = ⊥

-- a command over such a source in which nothing failed is done, or memory was refused
abbrev pub Completes : {I O E L C : Type 0} → Tells I O E → Shelf I O E L C → Shelf I O E L C → CommandLine → Status
    → Type 0
Completes {I} tells old new c status =
    (source : I) (b : List ℕ) → old.sources (source_name c) ≡ Here source → tells.remaining source ≡ Some b
    → IsWholeInput c b
    → NoneFailed tells old new c → (status ≡ statuses.Done) ⊎ (status ≡ statuses.Memory)
