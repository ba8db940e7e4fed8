-- What a sending leaves of the objects of its host.
use Rattle.std.specs.Prelude.{◌≡◌, ◌<◌, ℕ, List, [], length, map, slice_index_or, false, Option, IfSome, Result, Ok}
use Rattle.std.specs.Prelude.{Err}
use Rattle.outside_io.specs.Causes.{HasReadCause}
use Rattle.outside_host.specs.Shelf.{Shelf}
use Rattle.outside_host.specs.declared.host.Place.TheVariants.{Here, Back}
use Rattle.outside_host.specs.Links.{AreAsTheyWere}
use Rattle.psk_seal.specs.Sealer.{SealerState}
use Rattle.rist_sender.specs.Calls.{Work}
use Rattle.rist_send.specs.Run.{Run}
use Rattle.rist_send.specs.Sending.{SendsSource}
use Rattle.rist_sender.specs.Served.{AreServed, KnowsPeers}
use Rattle.rist_send.specs.Served.{Outside, new_run}
use Rattle.rist_send.specs.declared.fault.SendFault.{SendFault}
use Rattle.rist_send.specs.declared.fault.SendFault.TheVariants as faults
use Rattle.rist_words.specs.CommandLine.{SendCommand}
use Rattle.run_parts.specs.Causes.{fault_of}
use Rattle.run_parts.specs.Objects.{Tells, TellsLive}
use Rattle.run_parts.specs.Places.{FromTheFirst, IsAsItWas}
use Rattle.run_parts.specs.Sealing.{DrawnFirst, IsFreshFor}
use Rattle.run_send.specs.Sessions.{session_sent, setup_sent}
use Rattle.run_parts.specs.declared.status.Status.{Status}
use Rattle.run_parts.specs.declared.status.Status.TheVariants as statuses

-- how a sending ended, as a status
abbrev pub send_status : Result Unit SendFault → Status
send_status (Ok x) = statuses.Done
send_status (Err faults.ReadFault) = statuses.ReadFault
send_status (Err faults.LinksDown) = statuses.LinksDown
send_status (Err faults.Spent) = statuses.Spent
send_status (Err faults.TooLong) = statuses.TooLong
send_status (Err faults.TurnsSpent) = statuses.TurnsSpent

-- a sender has done nothing yet, under a sealer, where there is one
abbrev pub no_work : Option SealerState → Work
no_work sealer = record { history = []; sealer = sealer; is_short = false }

-- what a clock, a source and links of a host have still to give
abbrev pub outside_of : {I O E L C : Type 0} → Tells I O E → TellsLive L C → C → I → List L → Outside
outside_of tells live clock source links = record {
  moments = live.moments clock;
  octets = tells.remaining source;
  payloads = tells.payloads source;
  answers = map live.line.reads links;
}

-- what a run has left of them
abbrev pub outside_left : Run → Outside
outside_left run =
    record { moments = run.moments; octets = run.octets; payloads = run.payloads; answers = run.answers }

-- a sending of a line ran
pub record Sent {I O E L C : Type 0} (tells : Tells I O E) (live : TellsLive L C) (old new : Shelf I O E L C)
    (c : SendCommand) (status : Status) : Type 0 where
  -- its source was handed out and came back, and its count rose exactly at ReadFault
  pub source : I
  pub spent : I
  pub took : old.sources c.source ≡ Here source
  pub gave : new.sources c.source ≡ Back spent
  pub read : HasReadCause (fault_of status) (tells.read_faults source) (tells.read_faults spent)
  -- likewise its links, in the line's order
  pub links_were : List L
  pub links_are : List L
  pub link_count : length links_were ≡ length c.links
  pub links : FromTheFirst old.links new.links links_were links_are
  -- and the first clock
  pub clock : C
  pub later : C
  pub took_clock : old.clocks 0 ≡ Here clock
  pub gave_clock : new.clocks 0 ≡ Back later
  -- under a passphrase there is a sealer, of which the nonces are drawn from the first random words
  pub sealer : Option SealerState
  pub fresh : IsFreshFor c.session sealer
  pub drawn : IfSome sealer (DrawnFirst tells old.entropies new.entropies)
  -- the status says how it ended
  pub end : Result Unit SendFault
  pub answer : status ≡ send_status end
  -- the source was sent onto the links: clock, source and links have given just what the run took
  pub to : Run
  pub sends : SendsSource (setup_sent c) end (new_run (no_work sealer) (outside_of tells live clock source links_were))
      to
  pub left : outside_left to ≡ outside_of tells live later spent links_are
  -- and each link was given just the datagrams that the sender made for it
  pub given : AreServed live.line c.stream.flow (session_sent c) [] to.work.history links_were links_are
  -- whose peers it knew at first, unless the sender listens
  pub known : c.listens ≡ false → (link : ℕ) (d : L) → link < length links_were
      → KnowsPeers (session_sent c) (live.line.knows (slice_index_or links_were link d))

-- a sending didn't begin: its source, its links and its clock stand as they stood, or came back as they were
pub record Unsent {I O E L C : Type 0} (old new : Shelf I O E L C) (c : SendCommand) : Type 0 where
  pub source : IsAsItWas (old.sources c.source) (new.sources c.source)
  pub links : AreAsTheyWere old.links new.links
  pub clock : IsAsItWas (old.clocks 0) (new.clocks 0)
