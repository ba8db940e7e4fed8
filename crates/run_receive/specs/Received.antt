-- What a receiving leaves.
use Rattle.std.specs.Prelude.{◌≡◌, List, Option, Some, IfSome, length}
use Rattle.outside_io.specs.Told.{IsEmpty}
use Rattle.outside_host.specs.Shelf.{Shelf}
use Rattle.outside_host.specs.declared.host.Place.TheVariants.{Here, Back}
use Rattle.outside_host.specs.Links.{AreAsTheyWere}
use Rattle.psk_seal.specs.Sealer.{SealerState}
use Rattle.rist_ends.specs.declared.counts.Counts.{Counts}
use Rattle.desk_run.specs.declared.ending.Ending.{Ending}
use Rattle.desk_run.specs.declared.ending.Ending.TheVariants as endings
use Rattle.desk_run.specs.Run.{Receives, outside}
use Rattle.rist_words.specs.CommandLine.{RecvCommand}
use Rattle.run_links.specs.Counting.{named_counts}
use Rattle.run_parts.specs.Objects.{Tells, TellsLive}
use Rattle.run_parts.specs.Places.{FromTheFirst, IsAsItWas}
use Rattle.run_parts.specs.Sealing.{DrawnFirst, IsFreshFor}
use Rattle.run_receive.specs.Sessions.{setup_received, limits_received}
use Rattle.run_parts.specs.declared.status.Status.{Status}
use Rattle.run_parts.specs.declared.status.Status.TheVariants as statuses

-- how a receiving ended, as a status
abbrev pub receive_status : Ending → Status
receive_status endings.WriteFault = statuses.WriteFault
receive_status endings.Spent = statuses.Spent
receive_status endings.TraceFull = statuses.TraceFull
receive_status (endings.Torn tear) = statuses.Torn tear
receive_status endings.LinksDown = statuses.LinksDown
receive_status endings.Done = statuses.Done

-- a receiving of a line ran
pub record Received {I O E L C : Type 0} (tells : Tells I O E) (live : TellsLive L C) (old new : Shelf I O E L C)
    (c : RecvCommand) (status : Status) : Type 0 where
  -- its sink was handed out, empty, and came back
  pub sink : O
  pub filled : O
  pub took : old.sinks c.out ≡ Here sink
  pub gave : new.sinks c.out ≡ Back filled
  pub empty : IsEmpty (tells.contents sink)
  -- likewise its links, in the line's order
  pub links_were : List L
  pub links_are : List L
  pub link_count : length links_were ≡ length c.links
  pub links : FromTheFirst old.links new.links links_were links_are
  -- and a clock for each: the first of both is that of the first link
  pub clocks_were : List C
  pub clocks_are : List C
  pub clock_count : length clocks_were ≡ length c.links
  pub clocks : FromTheFirst old.clocks new.clocks clocks_were clocks_are
  -- under a passphrase there is a sealer, of which the nonces are drawn from the first random words
  pub sealer : Option SealerState
  pub fresh : IsFreshFor c.session sealer
  pub drawn : IfSome sealer (DrawnFirst tells old.entropies new.entropies)
  -- the counts of the receiver reach the host
  pub counts : Counts
  pub reported : new.report ≡ Some (named_counts counts)
  -- the status says how it ended
  pub ending : Ending
  pub answer : status ≡ receive_status ending
  -- links and clocks have given and taken just what their workers' turns say, and the sink holds what the receiver
  -- released
  pub run : Receives live.moments live.line (setup_received c sealer) (limits_received c)
      (outside links_were clocks_were (tells.contents sink) (tells.write_faults sink))
      (outside links_are clocks_are (tells.contents filled) (tells.write_faults filled)) counts ending

-- a receiving didn't begin: its sink, its links and its clocks stand as they stood, or came back as they were
pub record Unreceived {I O E L C : Type 0} (old new : Shelf I O E L C) (c : RecvCommand) : Type 0 where
  pub sink : IsAsItWas (old.sinks c.out) (new.sinks c.out)
  pub links : AreAsTheyWere old.links new.links
  pub clocks : AreAsTheyWere old.clocks new.clocks
  pub report : new.report ≡ old.report
