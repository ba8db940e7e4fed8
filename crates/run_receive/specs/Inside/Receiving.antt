-- What the parts of a receiving leave.
use Rattle.std.specs.Prelude.{◌≡◌, ℕ, List, length, Option, Some, IfSome, Bool, IsTrue}
use Rattle.outside_host.specs.Shelf.{Shelf}
use Rattle.psk_seal.specs.Sealer.{SealerState}
use Rattle.rist_ends.specs.declared.counts.Counts.{Counts}
use Rattle.desk_run.specs.declared.ending.Ending.{Ending}
use Rattle.desk_run.specs.Run.{Receives, outside}
use Rattle.rist_words.specs.CommandLine.{RecvCommand}
use Rattle.run_links.specs.Counting.{named_counts}
use Rattle.run_parts.specs.Places.{HandedOut}
use Rattle.run_parts.specs.Objects.{Tells, TellsLive}
use Rattle.run_receive.specs.Received.{receive_status}
use Rattle.run_parts.specs.Sealing.{DrawnFirst, IsFreshFor}
use Rattle.run_receive.specs.Sessions.{setup_received, limits_received}
use Rattle.run_parts.specs.declared.status.Status.{Status}

-- a run under a sealer, where there is one, ended so
pub record ReceivesAs {L C : Type 0} (live : TellsLive L C) (c : RecvCommand) (sealer : Option SealerState)
    (links_were links_are : List L) (clocks_were clocks_are : List C) (contents_were contents_are : Option (List ℕ))
    (faults_were faults_are : ℕ) (counts : Counts) (status : Status) : Type 0 where
  pub ending : Ending
  pub answer : status ≡ receive_status ending
  pub run : Receives live.moments live.line (setup_received c sealer) (limits_received c)
      (outside links_were clocks_were contents_were faults_were)
      (outside links_are clocks_are contents_are faults_are) counts ending

-- it did, and the counts of the receiver reached the host, where it tells
pub record Hears {I O E L C : Type 0} (tells : Tells I O E) (live : TellsLive L C) (told : Bool) (new : Shelf I O E L C)
    (c : RecvCommand) (sealer : Option SealerState) (links_were links_are : List L) (clocks_were clocks_are : List C)
    (sink filled : O) (status : Status) : Type 0 where
  pub counts : Counts
  pub reported : IsTrue told → new.report ≡ Some (named_counts counts)
  pub receives : ReceivesAs live c sealer links_were links_are clocks_were clocks_are (tells.contents sink)
      (tells.contents filled)
      (tells.write_faults sink) (tells.write_faults filled) counts status

-- it did so under a sealer of its session
pub record HearsSealed {I O E L C : Type 0} (tells : Tells I O E) (live : TellsLive L C) (old new : Shelf I O E L C)
    (c : RecvCommand) (sink filled : O) (status : Status) (links_were links_are : List L)
    (clocks_were clocks_are : List C) : Type 0 where
  pub sealer : Option SealerState
  pub fresh : IsFreshFor c.session sealer
  pub drawn : IfSome sealer (DrawnFirst tells old.entropies new.entropies)
  pub counts : Counts
  pub reported : new.report ≡ Some (named_counts counts)
  pub receives : ReceivesAs live c sealer links_were links_are clocks_were clocks_are (tells.contents sink)
      (tells.contents filled)
      (tells.write_faults sink) (tells.write_faults filled) counts status

-- by clocks that were handed out
abbrev pub HearsByClocks : {I O E L C : Type 0} → Tells I O E → TellsLive L C → Shelf I O E L C → Shelf I O E L C
    → RecvCommand → O → O → Status → List L → List L → Type 0
HearsByClocks tells live old new c sink filled status links_were links_are =
    HandedOut old.clocks new.clocks (length c.links)
    (HearsSealed tells live old new c sink filled status links_were links_are)

-- and on links that were
abbrev pub HearsOnLinks : {I O E L C : Type 0} → Tells I O E → TellsLive L C → Shelf I O E L C → Shelf I O E L C
    → RecvCommand → O → O → Status → Type 0
HearsOnLinks tells live old new c sink filled status =
    HandedOut old.links new.links (length c.links) (HearsByClocks tells live old new c sink filled status)
