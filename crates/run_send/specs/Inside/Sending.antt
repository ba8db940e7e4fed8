-- What the parts of a sending leave.
use Rattle.std.specs.Prelude.{◌≡◌, List, [], length, Option, IfSome, Result}
use Rattle.outside_host.specs.Links.{KnowStatedFrom}
use Rattle.outside_host.specs.Shelf.{Shelf}
use Rattle.outside_host.specs.declared.host.Place.TheVariants.{Here, Back}
use Rattle.psk_seal.specs.Sealer.{SealerState}
use Rattle.outside_net.specs.Links.{LinkTells}
use Rattle.rist_send.specs.Run.{Run}
use Rattle.rist_send.specs.Sending.{SendsSource}
use Rattle.rist_sender.specs.Served.{AreServed}
use Rattle.rist_send.specs.Served.{Outside, new_run}
use Rattle.rist_send.specs.declared.fault.SendFault.{SendFault}
use Rattle.rist_words.specs.CommandLine.{SendCommand}
use Rattle.run_parts.specs.Places.{HandedOut}
use Rattle.run_parts.specs.Objects.{Tells, TellsLive}
use Rattle.rist_words.specs.Links.{sending_role}
use Rattle.run_parts.specs.Sealing.{DrawnFirst, IsFreshFor}
use Rattle.run_send.specs.Sent.{no_work, outside_left, outside_of, send_status}
use Rattle.run_send.specs.Sessions.{session_sent, setup_sent}
use Rattle.run_parts.specs.declared.status.Status.{Status}

-- a source was sent onto links under a sealer, where there is one, and it ended so
pub record SendsAs {L : Type 0} (line : LinkTells L) (c : SendCommand) (sealer : Option SealerState) (had has : Outside)
    (was is : List L) (status : Status) : Type 0 where
  pub end : Result Unit SendFault
  pub answer : status ≡ send_status end
  pub to : Run
  pub sends : SendsSource (setup_sent c) end (new_run (no_work sealer) had) to
  pub left : outside_left to ≡ has
  pub given : AreServed line c.stream.flow (session_sent c) [] to.work.history was is

-- it was, by the first clock, and under a sealer of its session
pub record SendsByClock {I O E L C : Type 0} (tells : Tells I O E) (live : TellsLive L C) (old new : Shelf I O E L C)
    (c : SendCommand) (source spent : I) (status : Status) (was is : List L) : Type 0 where
  pub clock : C
  pub later : C
  pub took : old.clocks 0 ≡ Here clock
  pub gave : new.clocks 0 ≡ Back later
  pub sealer : Option SealerState
  pub fresh : IsFreshFor c.session sealer
  pub drawn : IfSome sealer (DrawnFirst tells old.entropies new.entropies)
  pub sends : SendsAs live.line c sealer (outside_of tells live clock source was)
      (outside_of tells live later spent is) was is status

-- by links that knew the peers that their addresses state
pub record SendsKnowing {I O E L C : Type 0} (tells : Tells I O E) (live : TellsLive L C) (old new : Shelf I O E L C)
    (c : SendCommand) (source spent : I) (status : Status) (was is : List L) : Type 0 where
  pub know : KnowStatedFrom live.line.knows (sending_role c.listens) c.session.profile 0 was
  pub by_clock : SendsByClock tells live old new c source spent status was is

-- and on links that were handed out
abbrev pub SendsOnLinks : {I O E L C : Type 0} → Tells I O E → TellsLive L C → Shelf I O E L C → Shelf I O E L C
    → SendCommand → I → I → Status → Type 0
SendsOnLinks tells live old new c source spent status =
    HandedOut old.links new.links (length c.links) (SendsKnowing tells live old new c source spent status)
