-- What the parts of a gateway leave.
use Rattle.std.specs.Prelude.{◌≡◌, ◌+◌, List, length, Option, Some, Bool, IsTrue}
use Rattle.outside_host.specs.Shelf.{Shelf}
use Rattle.psk_seal.specs.Sealer.{SealerState}
use Rattle.rist_ends.specs.declared.counts.Counts.{Counts}
use Rattle.desk_run.specs.Run.{timed_links}
use Rattle.rist_gateway.specs.declared.ending.GateEnding.{GateEnding}
use Rattle.rist_gateway.specs.Run.{Forwards}
use Rattle.rist_words.specs.CommandLine.{GateCommand}
use Rattle.run_links.specs.Counting.{named_counts}
use Rattle.run_gate.specs.Gated.{gate_status}
use Rattle.run_parts.specs.Places.{HandedOut}
use Rattle.run_parts.specs.Objects.{Tells, TellsLive}
use Rattle.run_gate.specs.Sealing.{AreDrawn}
use Rattle.run_gate.specs.Sessions.{setup_gated}
use Rattle.run_links.specs.Sessions.{limits_served}
use Rattle.run_parts.specs.Sealing.{IsFreshFor}
use Rattle.run_parts.specs.declared.status.Status.{Status}

-- a run under the sealers of its receiver and of its sender, where there are any, ended so
pub record GatesAs {L C : Type 0} (live : TellsLive L C) (c : GateCommand) (receiving sending : Option SealerState)
    (links_were links_are : List L) (clocks_were clocks_are : List C) (counts : Counts) (status : Status) : Type 0 where
  pub ending : GateEnding
  pub answer : status ≡ gate_status ending
  pub run : Forwards live.moments live.line (setup_gated c receiving sending) (limits_served c.serving)
      (length c.inputs) (timed_links links_were clocks_were) (timed_links links_are clocks_are) counts ending

-- it did, and the counts of its receiver reached the host, where it tells
pub record Passes {I O E L C : Type 0} (live : TellsLive L C) (told : Bool) (new : Shelf I O E L C) (c : GateCommand)
    (receiving sending : Option SealerState) (links_were links_are : List L) (clocks_were clocks_are : List C)
    (status : Status) : Type 0 where
  pub counts : Counts
  pub reported : IsTrue told → new.report ≡ Some (named_counts counts)
  pub gates : GatesAs live c receiving sending links_were links_are clocks_were clocks_are counts status

-- it did so under sealers of its sessions
pub record PassesSealed {I O E L C : Type 0} (tells : Tells I O E) (live : TellsLive L C) (old new : Shelf I O E L C)
    (c : GateCommand) (status : Status) (links_were links_are : List L) (clocks_were clocks_are : List C)
    : Type 0 where
  pub receiving : Option SealerState
  pub sending : Option SealerState
  pub fresh_receiving : IsFreshFor c.incoming receiving
  pub fresh_sending : IsFreshFor c.session sending
  pub drawn : AreDrawn tells old.entropies new.entropies receiving sending
  pub counts : Counts
  pub reported : new.report ≡ Some (named_counts counts)
  pub gates : GatesAs live c receiving sending links_were links_are clocks_were clocks_are counts status

-- by clocks that were handed out
abbrev pub PassesByClocks : {I O E L C : Type 0} → Tells I O E → TellsLive L C → Shelf I O E L C → Shelf I O E L C
    → GateCommand → Status → List L → List L → Type 0
PassesByClocks tells live old new c status links_were links_are =
    HandedOut old.clocks new.clocks (length c.inputs + length c.outputs + 1)
    (PassesSealed tells live old new c status links_were links_are)
