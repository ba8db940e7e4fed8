-- What the parts of a receiving of several flows leave.
use Rattle.std.specs.Prelude.{◌≡◌, ◌+◌, ℕ, List, length, map, slice_get, slice_index, Option, Some}
use Rattle.std.specs.Prelude.{Bool, IsTrue, true, is_some}
use Rattle.std.specs.List.{All}
use Rattle.outside_host.specs.Counts.{NamedCount}
use Rattle.outside_host.specs.Shelf.{Shelf}
use Rattle.psk_seal.specs.Sealer.{SealerState}
use Rattle.rist_ends.specs.declared.counts.Counts.{Counts}
use Rattle.desk_run.specs.declared.ending.Ending.{Ending}
use Rattle.desk_run.specs.Run.{timed_links}
use Rattle.rist_fan.specs.declared.flow.Came.{Came}
use Rattle.rist_fan.specs.declared.flow.Flow.{Flow}
use Rattle.fan_run.specs.Run.{ReceivesFlows, flows_of}
use Rattle.rist_words.specs.CommandLine.{FanCommand}
use Rattle.run_parts.specs.Objects.{Tells, TellsLive}
use Rattle.run_parts.specs.Places.{HandedOut}
use Rattle.run_parts.specs.Sealing.{IsFreshFor}
use Rattle.run_parts.specs.Sessions.{session_read}
use Rattle.run_parts.specs.declared.status.Status.{Status}
use Rattle.run_fan.specs.Counting.{counts_at}
use Rattle.run_fan.specs.Ends.{fan_status}
use Rattle.run_fan.specs.Inside.Making.{counts_of, sink_of}
use Rattle.run_fan.specs.Sealing.{DrawnInOrder}
use Rattle.run_fan.specs.Sessions.{IsSetAt, limits_fanned}

-- what the sinks of a run tell
pub record TellsSinks (K : Type 0) : Type 0 where
  pub contents : K → Option (List ℕ)
  pub faults : K → ℕ

-- of sinks that tell this
abbrev pub tells_sinks : {K : Type 0} → (K → Option (List ℕ)) → (K → ℕ) → TellsSinks K
tells_sinks contents faults = record { contents = contents; faults = faults }

-- those of a host
abbrev pub sinks_of : {I O E : Type 0} → Tells I O E → TellsSinks O
sinks_of tells = tells_sinks tells.contents tells.write_faults

-- a run under these sealers ended so, and its receivers counted this
pub record FansAs {K L C : Type 0} (live : TellsLive L C) (sinks : TellsSinks K) (c : FanCommand)
    (sealers : List (Option SealerState)) (links_were links_are : List L) (clocks_were clocks_are : List C)
    (sinks_were sinks_are : List K) (counts : List Counts) (ending : Ending) : Type 0 where
  pub flows : List (Flow K)
  pub left : List (Flow K)
  pub had : map sink_of flows ≡ sinks_were
  pub has : map sink_of left ≡ sinks_are
  pub set : (v : ℕ) (flow : Flow K) (sealer : Option SealerState) → slice_get flows v ≡ Some flow
      → slice_get sealers v ≡ Some sealer → IsSetAt c v sealer flow.receiver
  pub counted : map counts_of left ≡ counts
  pub came : List Came
  pub run : ReceivesFlows live.moments live.line sinks.contents sinks.faults
      (flows_of sinks.contents sinks.faults flows c.ports) (session_read c.session) (limits_fanned c)
      (timed_links links_were clocks_were) (timed_links links_are clocks_are) left came ending

-- a run did, with this status
pub record FansWith {K L C : Type 0} (live : TellsLive L C) (sinks : TellsSinks K) (c : FanCommand)
    (sealers : List (Option SealerState)) (links_were links_are : List L) (clocks_were clocks_are : List C)
    (sinks_were sinks_are : List K) (counts : List Counts) (status : Status) : Type 0 where
  pub ending : Ending
  pub answer : status ≡ fan_status ending
  pub fans : FansAs live sinks c sealers links_were links_are clocks_were clocks_are sinks_were sinks_are counts ending

-- the counts of the last of so many places came last
abbrev pub IsReported : Option (List NamedCount) → List ℕ → List Counts → Type 0
IsReported report ports counts = (v : ℕ) (one : Counts) → v + 1 ≡ length ports → slice_get counts v ≡ Some one
    → report ≡ Some (counts_at (slice_index ports v) one)

-- it did so, and the counts of the receivers reached the host, where it tells
pub record Fans {I O E L C : Type 0} (tells : Tells I O E) (live : TellsLive L C) (told : Bool) (new : Shelf I O E L C)
    (c : FanCommand) (sealers : List (Option SealerState)) (links_were links_are : List L)
    (clocks_were clocks_are : List C) (sinks_were sinks_are : List O) (status : Status) : Type 0 where
  pub counts : List Counts
  pub reported : IsTrue told → IsReported new.report c.ports counts
  pub fans : FansWith live (sinks_of tells) c sealers links_were links_are clocks_were clocks_are sinks_were sinks_are
      counts status

-- it did so under sealers of its session
pub record FansSealed {I O E L C : Type 0} (tells : Tells I O E) (live : TellsLive L C) (old new : Shelf I O E L C)
    (c : FanCommand) (sinks_were sinks_are : List O) (status : Status) (links_were links_are : List L)
    (clocks_were clocks_are : List C) : Type 0 where
  pub sealers : List (Option SealerState)
  pub sealer_count : length sealers ≡ length c.ports
  pub fresh : All (IsFreshFor c.session) sealers
  pub drawn : is_some c.session.pass ≡ true → DrawnInOrder tells old.entropies new.entropies sealers
  pub counts : List Counts
  pub reported : IsReported new.report c.ports counts
  pub fans : FansWith live (sinks_of tells) c sealers links_were links_are clocks_were clocks_are sinks_were sinks_are
      counts status

-- by clocks that were handed out
abbrev pub FansByClocks : {I O E L C : Type 0} → Tells I O E → TellsLive L C → Shelf I O E L C → Shelf I O E L C
    → FanCommand → List O → List O → Status → List L → List L → Type 0
FansByClocks tells live old new c sinks_were sinks_are status links_were links_are =
    HandedOut old.clocks new.clocks (length c.links)
    (FansSealed tells live old new c sinks_were sinks_are status links_were links_are)

-- and on links that were
abbrev pub FansOnLinks : {I O E L C : Type 0} → Tells I O E → TellsLive L C → Shelf I O E L C → Shelf I O E L C
    → FanCommand → List O → List O → Status → Type 0
FansOnLinks tells live old new c sinks_were sinks_are status =
    HandedOut old.links new.links (length c.links) (FansByClocks tells live old new c sinks_were sinks_are status)
