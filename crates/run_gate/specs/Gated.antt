-- What a gateway leaves.
use Rattle.std.specs.Prelude.{◌≡◌, ◌<◌, ◌+◌, ◌-◌, ◌^◌, ◌++◌, ℕ, List, length, slice_index_or, Option, Some}
use Rattle.std.specs.Option.{option_map}
use Rattle.outside_net.specs.Links.{LinkTells}
use Rattle.outside_host.specs.Shelf.{Shelf}
use Rattle.outside_host.specs.Links.{AreAsTheyWere}
use Rattle.psk_seal.specs.Sealer.{SealerState}
use Rattle.rist_ends.specs.declared.counts.Counts.{Counts}
use Rattle.desk_run.specs.Run.{timed_links}
use Rattle.rist_gateway.specs.declared.ending.GateEnding.{GateEnding}
use Rattle.rist_gateway.specs.declared.ending.GateEnding.TheVariants as gates
use Rattle.rist_gateway.specs.Run.{Forwards}
use Rattle.rist_sender.specs.History.{Event, tried_as, tried_on}
use Rattle.rist_sender.specs.Links.{datagrams_given}
use Rattle.rist_sender.specs.Served.{KnowsPeers}
use Rattle.rist_words.specs.CommandLine.{GateCommand}
use Rattle.run_links.specs.Counting.{named_counts}
use Rattle.run_parts.specs.Objects.{Tells, TellsLive}
use Rattle.run_parts.specs.Places.{FromTheFirst}
use Rattle.run_gate.specs.Sealing.{AreDrawn}
use Rattle.run_gate.specs.Sessions.{session_gated, setup_gated}
use Rattle.run_links.specs.Sessions.{limits_served}
use Rattle.run_parts.specs.Sealing.{IsFreshFor}
use Rattle.run_parts.specs.declared.status.Status.{Status}
use Rattle.run_parts.specs.declared.status.Status.TheVariants as statuses

-- how a gateway ended, as a status
abbrev pub gate_status : GateEnding → Status
gate_status gates.Spent = statuses.Spent
gate_status gates.TraceFull = statuses.TraceFull
gate_status (gates.Torn tear) = statuses.Torn tear
gate_status gates.LinksDown = statuses.LinksDown
gate_status gates.Done = statuses.Done

-- a link that is sent on knew its peers, and where none of its calls failed it took all that was written on it
pub record TookAll {L : Type 0} (line : LinkTells L) (c : GateCommand) (history : List Event) (link : ℕ) (was is : L)
    : Type 0 where
  pub known : KnowsPeers (session_gated c) (line.knows was)
  pub taken : line.faults was < 2 ^ 64 - 1 → line.faults is ≡ line.faults was
      → line.taken is
      ≡ option_map (λ held. held ++ datagrams_given (tried_on (tried_as c.stream.flow (session_gated c)) link history))
      (line.taken was)

-- a gateway of a line ran
pub record Gated {I O E L C : Type 0} (tells : Tells I O E) (live : TellsLive L C) (old new : Shelf I O E L C)
    (c : GateCommand) (status : Status) : Type 0 where
  -- its links were handed out and came back: first those that are received on, then those that are sent on
  pub links_were : List L
  pub links_are : List L
  pub link_count : length links_were ≡ length c.inputs + length c.outputs
  pub links : FromTheFirst old.links new.links links_were links_are
  -- likewise a clock for each, and one more for its sender
  pub clocks_were : List C
  pub clocks_are : List C
  pub clock_count : length clocks_were ≡ length c.inputs + length c.outputs + 1
  pub clocks : FromTheFirst old.clocks new.clocks clocks_were clocks_are
  -- under a passphrase of its receiver, or of its sender, there is a sealer for it
  pub receiving : Option SealerState
  pub sending : Option SealerState
  pub fresh_receiving : IsFreshFor c.incoming receiving
  pub fresh_sending : IsFreshFor c.session sending
  -- the sender's nonces are drawn behind the receiver's
  pub drawn : AreDrawn tells old.entropies new.entropies receiving sending
  -- the counts of the receiver reach the host
  pub counts : Counts
  pub reported : new.report ≡ Some (named_counts counts)
  -- the status says how it ended
  pub ending : GateEnding
  pub answer : status ≡ gate_status ending
  -- what was received went on over the links that are sent on, payload by payload
  pub run : Forwards live.moments live.line (setup_gated c receiving sending) (limits_served c.serving)
      (length c.inputs) (timed_links links_were clocks_were) (timed_links links_are clocks_are) counts ending
  -- A link that is sent on knew its peers at first. So where none of its calls failed (its count of faults has 64 bits)
  -- it took, in order, all that the sender's work says was written on it.
  pub taken : (link : ℕ) (d : L) → link < length c.outputs
      → TookAll live.line c run.sends.onward.moved.to.work.history link
      (slice_index_or links_were (length c.inputs + link) d) (slice_index_or links_are (length c.inputs + link) d)

-- a gateway didn't begin: its links and its clocks stand as they stood, or came back as they were
pub record Ungated {I O E L C : Type 0} (old new : Shelf I O E L C) : Type 0 where
  pub links : AreAsTheyWere old.links new.links
  pub clocks : AreAsTheyWere old.clocks new.clocks
  pub report : new.report ≡ old.report
