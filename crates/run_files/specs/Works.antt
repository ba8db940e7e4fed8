-- What each command leaves, by its status.
use Rattle.std.specs.Prelude.{◌≡◌, ◌⊎◌, ℕ, List, [], Option, None, Some, Result, Ok, Err, IfSome}
use Rattle.psk_seal.specs.Sealer.{SealerState}
use Rattle.outside_io.specs.Told.{Passage}
use Rattle.capture_file.specs.Capture.{Record}
use Rattle.block_source.specs.Block.{most_ahead}
use Rattle.capture_walk.specs.Form.{Form, Capture, Pcap}
use Rattle.capture_walk.specs.Leaves.{Leaves}
use Rattle.capture_walk.specs.declared.walk_bad.WalkBad.{WalkBad}
use Rattle.rist_replay.specs.Replay.{released_so_far, replayed}
use Rattle.rist_replay.specs.Counted.{counted}
use Rattle.report_page.specs.Reported.{reported}
use Rattle.rist_show.specs.Lines.{lines}
use Rattle.rist_pack.specs.Packing.{Packs}
use Rattle.rist_pack.specs.Capture.{packed_record, nonces_of}
use Rattle.rist_pack.specs.declared.bad.PackBad.{PackBad}
use Rattle.rist_pack.specs.declared.bad.PackBad.TheVariants as packs
use Rattle.rist_words.specs.CommandLine.{CommandLine, Replay, Show, Count, Report, Pack, Split, Send, Recv, Fan, Gate}
use Rattle.rist_words.specs.CommandLine.{Drill}
use Rattle.rist_words.specs.CommandLine.{Session, ReplayCommand, ShowCommand, CountCommand, PackCommand}
use Rattle.run_parts.specs.Sessions.{session_with, session_read}
use Rattle.run_files.specs.Sessions.{replay_limits, count_limits, pack_settings}
use Rattle.run_parts.specs.declared.status.Status.{Status}
use Rattle.run_parts.specs.declared.status.Status.TheVariants as statuses
use Rattle.run_parts.specs.Statuses.{walk_status}
use Rattle.run_parts.specs.Sealing.{IsFreshFor}

-- how a packing ended, as a status
abbrev pub pack_status : Result Unit PackBad → Status
pack_status (Ok x) = statuses.Done
pack_status (Err packs.ReadFault) = statuses.ReadFault
pack_status (Err packs.WriteFault) = statuses.WriteFault
pack_status (Err packs.TooLong) = statuses.TooLong

-- a walk over the source's records ended so, and left this
abbrev pub Walks : Form → (List Record → List ℕ) → (List Record → List ℕ) → Passage → Status → Type 0
Walks form so_far whole p status =
    (end : Result Unit WalkBad) × (status ≡ walk_status end) × Leaves form so_far whole most_ahead p end

-- the form of a line's file: a pcap file where a UDP port is given
abbrev pub form_of : Session → Option ℕ → Form
form_of session None = Capture
form_of session (Some port) = Pcap session.profile port

-- a packing under a sealer, where there is one, ended so, and left this
abbrev pub PacksAs : PackCommand → Option SealerState → Passage → Status → Type 0
PacksAs c sealer p status =
    (end : Result Unit PackBad) × (status ≡ pack_status end)
    × Packs (packed_record (session_with c.session c.stream.nulls c.stream.wide) (nonces_of sealer) (pack_settings c)) p
    end

-- what a replay of a file of this form leaves
abbrev pub ReplaysAs : Form → ReplayCommand → Passage → Status → Type 0
ReplaysAs form c p status =
    Walks form (released_so_far (session_read c.session) (replay_limits c))
    (replayed (session_read c.session) (replay_limits c)) p status

-- what a replay leaves
abbrev pub Replays : ReplayCommand → Passage → Status → Type 0
Replays c p status = ReplaysAs (form_of c.session c.pcap) c p status

-- what a showing of a file of this form leaves
abbrev pub ShowsAs : Form → ShowCommand → Passage → Status → Type 0
ShowsAs form c p status = Walks form (lines (session_read c.session)) (lines (session_read c.session)) p status

-- what a showing leaves
abbrev pub Shows : ShowCommand → Passage → Status → Type 0
Shows c p status = ShowsAs (form_of c.session c.pcap) c p status

-- what a counting of a file of this form leaves: nothing is written before its end
abbrev pub CountsAs : Form → CountCommand → Passage → Status → Type 0
CountsAs form c p status = Walks form (λ rs. []) (counted (session_read c.session) (count_limits c)) p status

-- what a counting leaves
abbrev pub Counts : CountCommand → Passage → Status → Type 0
Counts c p status = CountsAs (form_of c.session c.pcap) c p status

-- what a report of a file of this form leaves: nothing is written before its end
abbrev pub ReportsAs : Form → ReplayCommand → Passage → Status → Type 0
ReportsAs form c p status = Walks form (λ rs. []) (reported (session_read c.session) (replay_limits c)) p status

-- what a report leaves
abbrev pub Reports : ReplayCommand → Passage → Status → Type 0
Reports c p status = ReportsAs (form_of c.session c.pcap) c p status

-- a command over a source and a sink: any but a split, which has a sink for each output, those over links, and a
-- simulated run, which reads nothing
abbrev pub IsOverFiles : CommandLine → Type 0
IsOverFiles (Replay c) = Unit {0}
IsOverFiles (Show c) = Unit {0}
IsOverFiles (Count c) = Unit {0}
IsOverFiles (Report c) = Unit {0}
IsOverFiles (Pack c) = Unit {0}
IsOverFiles (Split c) = ⊥
IsOverFiles (Send c) = ⊥
IsOverFiles (Recv c) = ⊥
IsOverFiles (Fan c) = ⊥
IsOverFiles (Gate c) = ⊥
IsOverFiles (Drill c) = ⊥

-- what a command leaves of its source and its sink, where they tell, and what else is known of the sealer of a packing.
-- A split has several sinks: `Splits` is for it. A sending has no sink: `Sent` is. A simulated run has no source:
-- `DoesDrill` is.
abbrev pub Works : (SealerState → Type 0) → CommandLine → Passage → Status → Type 0
Works IsKnown (Replay c) p status = Replays c p status
Works IsKnown (Show c) p status = Shows c p status
Works IsKnown (Count c) p status = Counts c p status
Works IsKnown (Report c) p status = Reports c p status
Works IsKnown (Pack c) p status =
    ((status ≡ statuses.EntropyFault) × (p.left ≡ p.had) × (p.holds ≡ p.held))
    ⊎ ((sealer : Option SealerState) × IsFreshFor c.session sealer × IfSome sealer IsKnown × PacksAs c sealer p status)
Works IsKnown (Split c) p status = ⊥
Works IsKnown (Send c) p status = ⊥
Works IsKnown (Recv c) p status = ⊥
Works IsKnown (Fan c) p status = ⊥
Works IsKnown (Gate c) p status = ⊥
Works IsKnown (Drill c) p status = ⊥
