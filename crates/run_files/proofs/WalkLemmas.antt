-- What a walk under a session and limits leaves is what a line of that session and of those limits leaves.
use Rattle.std.proofs.Common.{◌≡◌, [], subst}
use Rattle.outside_io.specs.Told.{Passage}
use Rattle.capture_walk.specs.Form.{Form}
use Rattle.receiver_rules.specs.declared.limits.Limits.{Limits}
use Rattle.report_page.specs.Reported.{reported}
use Rattle.rist_replay.specs.Counted.{counted}
use Rattle.rist_replay.specs.Replay.{released_so_far, replayed}
use Rattle.rist_wire.specs.declared.session.Session.{Session}
use Rattle.rist_words.specs.CommandLine.{CountCommand, ReplayCommand}
use Rattle.run_parts.specs.Sessions.{session_read}
use Rattle.run_parts.specs.declared.status.Status.{Status}
use Rattle.run_files.specs.Sessions.{count_limits, replay_limits}
use Rattle.run_files.specs.Works.{CountsAs, ReplaysAs, ReportsAs, Walks}

pub replayed_as : (form : Form) (c : ReplayCommand) (session : Session) (limits : Limits) (p : Passage) (status : Status) → session ≡ session_read c.session → limits ≡ replay_limits c
    → Walks form (released_so_far session limits) (replayed session limits) p status → ReplaysAs form c p status
replayed_as form c session limits p status same set walks =
    subst (λ (s : Session). Walks form (released_so_far s (replay_limits c)) (replayed s (replay_limits c)) p status) same
    (subst (λ (l : Limits). Walks form (released_so_far session l) (replayed session l) p status) set walks)

pub counted_as : (form : Form) (c : CountCommand) (session : Session) (limits : Limits) (p : Passage) (status : Status) → session ≡ session_read c.session → limits ≡ count_limits c
    → Walks form (λ rs. []) (counted session limits) p status → CountsAs form c p status
counted_as form c session limits p status same set walks =
    subst (λ (s : Session). Walks form (λ rs. []) (counted s (count_limits c)) p status) same
    (subst (λ (l : Limits). Walks form (λ rs. []) (counted session l) p status) set walks)

pub reported_as : (form : Form) (c : ReplayCommand) (session : Session) (limits : Limits) (p : Passage) (status : Status) → session ≡ session_read c.session → limits ≡ replay_limits c
    → Walks form (λ rs. []) (reported session limits) p status → ReportsAs form c p status
reported_as form c session limits p status same set walks =
    subst (λ (s : Session). Walks form (λ rs. []) (reported s (replay_limits c)) p status) same
    (subst (λ (l : Limits). Walks form (λ rs. []) (reported session l) p status) set walks)
