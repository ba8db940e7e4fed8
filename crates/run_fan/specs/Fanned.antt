-- What a receiving of several flows leaves.
use Rattle.std.specs.Prelude.{◌≡◌, ◌<◌, ◌+◌, ℕ, List, length, slice_get, slice_index, true, Option, Some, is_some}
use Rattle.std.specs.List.{All}
use Rattle.outside_io.specs.Told.{IsEmpty}
use Rattle.outside_host.specs.Shelf.{Shelf}
use Rattle.outside_host.specs.declared.host.Place.TheVariants.{Here, Back}
use Rattle.outside_host.specs.Links.{AreAsTheyWere}
use Rattle.psk_seal.specs.Sealer.{SealerState}
use Rattle.desk_run.specs.declared.ending.Ending.{Ending}
use Rattle.desk_run.specs.Run.{timed_links}
use Rattle.rist_fan.specs.declared.flow.Came.{Came}
use Rattle.rist_fan.specs.declared.flow.Flow.{Flow}
use Rattle.fan_run.specs.Run.{ReceivesFlows, flows_of}
use Rattle.rist_words.specs.CommandLine.{FanCommand}
use Rattle.run_parts.specs.Objects.{Tells, TellsLive}
use Rattle.run_parts.specs.Places.{FromTheFirst, IsAsItWas}
use Rattle.run_parts.specs.Sealing.{IsFreshFor}
use Rattle.run_parts.specs.Sessions.{session_read}
use Rattle.run_parts.specs.declared.status.Status.{Status}
use Rattle.run_fan.specs.Counting.{counts_at}
use Rattle.run_fan.specs.Ends.{fan_status}
use Rattle.run_fan.specs.Sealing.{DrawnInOrder}
use Rattle.run_fan.specs.Sessions.{IsSetAt, limits_fanned, output_name}

-- a receiving of a line ran
pub record Fanned {I O E L C : Type 0} (tells : Tells I O E) (live : TellsLive L C) (old new : Shelf I O E L C)
    (c : FanCommand) (status : Status) : Type 0 where
  -- of each output the receiver and the sink, before and after: the sink was handed out under its name, empty, and came
  -- back there
  pub flows : List (Flow O)
  pub left : List (Flow O)
  pub places : length flows ≡ length c.ports
  pub took : (v : ℕ) (flow : Flow O) → slice_get flows v ≡ Some flow → old.sinks (output_name c v) ≡ Here flow.sink
  pub gave : (v : ℕ) (flow : Flow O) → slice_get left v ≡ Some flow → new.sinks (output_name c v) ≡ Back flow.sink
  pub empty : (v : ℕ) (flow : Flow O) → slice_get flows v ≡ Some flow → IsEmpty (tells.contents flow.sink)
  -- likewise its links, in the line's order
  pub links_were : List L
  pub links_are : List L
  pub link_count : length links_were ≡ length c.links
  pub links : FromTheFirst old.links new.links links_were links_are
  -- and a clock for each: the first of both is that of the first link
  pub clocks_were : List C
  pub clocks_are : List C
  pub clock_count : length clocks_were ≡ length c.links
  pub clocks : FromTheFirst old.clocks new.clocks clocks_were clocks_are
  -- under a passphrase there is a sealer for each output; their nonces are drawn in the order of the outputs
  pub sealers : List (Option SealerState)
  pub sealer_count : length sealers ≡ length c.ports
  pub fresh : All (IsFreshFor c.session) sealers
  pub drawn : is_some c.session.pass ≡ true → DrawnInOrder tells old.entropies new.entropies sealers
  -- each receiver writes at the port of its output, and seals by the sealer of its output
  pub set : (v : ℕ) (flow : Flow O) (sealer : Option SealerState) → slice_get flows v ≡ Some flow
      → slice_get sealers v ≡ Some sealer → IsSetAt c v sealer flow.receiver
  -- the counts of the receivers reach the host one after another: those of the last are the ones that came last
  pub reported : (v : ℕ) (flow : Flow O) → v + 1 ≡ length c.ports → slice_get left v ≡ Some flow
      → new.report ≡ Some (counts_at (slice_index c.ports v) flow.receiver.counts)
  -- the status says how it ended
  pub ending : Ending
  pub answer : status ≡ fan_status ending
  -- there is one history of what the links gave; each link took just what the rules make of it at each output, and each
  -- output holds what its receiver released of what it saw of that history
  pub came : List Came
  pub run : ReceivesFlows live.moments live.line tells.contents tells.write_faults
      (flows_of tells.contents tells.write_faults flows c.ports) (session_read c.session) (limits_fanned c)
      (timed_links links_were clocks_were) (timed_links links_are clocks_are) left came ending

-- it didn't begin: its sinks, its links and its clocks stand as they stood, or came back as they were
pub record Unfanned {I O E L C : Type 0} (old new : Shelf I O E L C) (c : FanCommand) : Type 0 where
  pub sinks : (v : ℕ) → v < length c.ports → IsAsItWas (old.sinks (output_name c v)) (new.sinks (output_name c v))
  pub links : AreAsTheyWere old.links new.links
  pub clocks : AreAsTheyWere old.clocks new.clocks
  pub report : new.report ≡ old.report
