-- What each move of a script makes of a sender, a receiver, and all the datagrams that were ever put on the links
-- between them. Nothing that was put is removed: a datagram is carried where a move says so, at any time, as often as
-- moves say so.
use Rattle.std.specs.Prelude.{◌≡◌, ◌≤◌, ◌<◌, ◌^◌, ℕ, ◌%◌, List, [], ◌∷◌, ◌++◌, length, map, replicate, set, get_or}
use Rattle.link_channels.specs.declared.bounds.TheConstants.{MAX_PAYLOAD}
use Rattle.std.specs.Prelude.{All, slice_get, Bool, false, not, ◌&&◌, nat_le, nat_lt, ◌==◌, if◌then◌else◌, Option, None}
use Rattle.std.specs.Prelude.{Some, is_some, IfSome, Result, Ok, Err}
use Rattle.receiver_rules.specs.Steps.{tick_of, has_ended}
use Rattle.sender_rules.specs.Bonding.{Bonding, link_count}
use Rattle.rtcp_compound.specs.Compound.{Content}
use Rattle.outside_net.specs.Links.{Datagram}
use Rattle.psk_seal.specs.declared.sealer.Spent.{Spent}
use Rattle.psk_seal.specs.Nonces.{AreNonces}
use Rattle.psk_seal.specs.Sealer.{SealerState}
use Rattle.request_rules.specs.Steps.{Step, Tick, End, buffer_history}
use Rattle.rist_wire.specs.declared.session.Session.{Session}
use Rattle.rist_wire.specs.declared.bad.WireBad.{WireBad}
use Rattle.rist_wire.specs.declared.item.Item.{Item}
use Rattle.rist_wire.specs.declared.item.Item.TheVariants as items
use Rattle.rist_wire.specs.Session.{IsSession}
use Rattle.rist_wire.specs.Item.{item_of}
use Rattle.rist_reporter.specs.Control.{ControlSettings}
use Rattle.rist_reporter.specs.declared.out.Outs.{Outs}
use Rattle.rist_reporter.specs.Made.{OutOf}
use Rattle.rist_reporter.specs.OneMore.{AnswersAfter, after_pairs, answer_count, step_answered, outs_of}
use Rattle.rist_ends.specs.Items.{input_read}
use Rattle.sender_rules.specs.declared.send_bad.SendBad.{SendBad}
use Rattle.rist_sender.specs.Links.{datagrams_taken}
use Rattle.rist_sender.specs.History.{Event}
use Rattle.rist_sender.specs.Calls.{Work, Rules, Sends, FeedsBack, Ticks, renewed_as, IfElse}
use Rattle.world_rules.specs.declared.moves.Move.{Move}
use Rattle.world_rules.specs.declared.moves.Move.TheVariants as moves
use Rattle.world_rules.specs.SentFlows.{is_known}
use Rattle.world_rules.specs.Flows.{flows_of, flow_after, first_after, put_on}

-- what both ends are set to: their session, the sender's first flow and that flow's first number, for how many ticks
-- a packet isn't sent again, how many packets it stores, its links, whether it writes keepalives, and the receiver's
-- settings
pub record Setup : Type 0 where
  pub session : Session
  pub flow : ℕ
  pub first : ℕ
  pub hold : ℕ
  pub size : ℕ
  pub bonding : Bonding
  pub keepalives : Bool
  pub control : ControlSettings

-- the session is one, the first flow is an SSRC with its lowest bit cleared, and payloads wait at the receiver
pub record IsSetup (setup : Setup) : Type 0 where
  pub session : IsSession setup.session
  pub even : setup.flow % 2 ≡ 0
  pub small : setup.flow < 2 ^ 32
  pub delay : 1 ≤ setup.control.limits.playout_delay

-- the sender's sealer: it stands exactly with a passphrase, with nonces of 32 bits
pub record IsSealerOf (session : Session) (sealer : Option SealerState) : Type 0 where
  pub paired : is_some sealer ≡ is_some session.pass
  pub nonces : IfSome sealer (λ s. AreNonces s.nonces)

-- a datagram that came to the receiver, the link that it came on, and its place there, from 0
pub record Carried : Type 0 where
  pub link : ℕ
  pub place : ℕ
  pub datagram : Datagram

-- a run: what the sender did, the receiver's steps, the newest first, its sealer, the datagrams that it put on each
-- link, the oldest first, and those that came to it, the newest first
pub record Course : Type 0 where
  pub work : Work
  pub steps : List Step
  pub sealer : Option SealerState
  pub backward : List (List Datagram)
  pub carried : List Carried

-- how many links there are
abbrev pub links_of : Setup → ℕ
links_of setup = link_count setup.bonding

-- what the sender is set to after a history
abbrev pub rules_after : Setup → List Event → Rules
rules_after setup history = record {
  flow = flow_after setup.flow history;
  first = first_after setup.first history;
  hold = setup.hold;
  size = setup.size;
  bonding = setup.bonding;
  nulls = setup.session.nulls;
  keepalives = setup.keepalives;
}

-- the datagrams that the sender put on a link, the oldest first
abbrev pub forward_on : Setup → Course → ℕ → List Datagram
forward_on setup course link = datagrams_taken (put_on setup.flow setup.session link course.work.history)

-- a datagram that the sender put on a link, by its place from 0, if it is there
abbrev pub forward_at : Setup → Course → ℕ → ℕ → Option Datagram
forward_at setup course link place =
    if nat_lt link (links_of setup) then slice_get (forward_on setup course link) place else None

-- a datagram that the receiver put on a link
abbrev pub backward_at : Course → ℕ → ℕ → Option Datagram
backward_at course link place = slice_get (get_or course.backward link []) place

-- ---- the sender's moves

-- the sender's work goes on, and nothing else changes
pub record Works (P : Work → Work → Type 0) (from to : Course) : Type 0 where
  pub works : P from.work to.work
  pub is : to ≡ record {
    work = to.work;
    steps = from.steps;
    sealer = from.sealer;
    backward = from.backward;
    carried = from.carried;
  }

-- a payload, which is octets, is sent
pub record SendsIn (setup : Setup) (micros : ℕ) (payload : List ℕ) (from to : Work) : Type 0 where
  pub octets : All (λ octet. octet < 256) payload
  pub result : Result Unit SendBad
  pub sends : Sends (rules_after setup from.history) (links_of setup) micros payload result from to

-- its clock ticks
pub record TicksIn (setup : Setup) (micros : ℕ) (from to : Work) : Type 0 where
  pub result : Result Unit SendBad
  pub ticks : Ticks (rules_after setup from.history) (links_of setup) micros result from to

-- a compound comes back
pub record FeedsIn (setup : Setup) (micros link : ℕ) (compound : List Content) (from to : Work) : Type 0 where
  pub result : Result ℕ SendBad
  pub feeds : FeedsBack (rules_after setup from.history) (links_of setup) micros link compound result from to

-- the compound that an item is, if it is one
abbrev pub compound_read : Result Item WireBad → Option (List Content)
compound_read (Ok (items.Media media)) = None
compound_read (Ok (items.Control packets)) = Some packets
compound_read (Ok (items.Keepalive keepalive)) = None
compound_read (Err bad) = None

-- the compound that comes back by a move, if the datagram is there and is one
abbrev pub compound_carried : Setup → Option Datagram → Option (List Content)
compound_carried setup None = None
compound_carried setup (Some d) = compound_read (item_of setup.session d.channel d.octets)

-- it is answered
abbrev pub FeedsIf : Setup → ℕ → ℕ → Option (List Content) → Course → Course → Type 0
FeedsIf setup micros link None from to = to ≡ from
FeedsIf setup micros link (Some compound) from to = Works (FeedsIn setup micros link compound) from to

-- ---- the receiver's moves

-- a datagram as it was put
abbrev pub datagram_made : OutOf → Datagram
datagram_made out = record { channel = out.channel; octets = out.octets }

-- the datagrams that were made
abbrev pub datagrams_made : Result (Option Outs) Spent → List Datagram
datagrams_made (Ok None) = []
datagrams_made (Ok (Some outs)) = map datagram_made (outs_of outs)
datagrams_made (Err spent) = []

-- the receiver makes a step, unless it has ended: what it makes goes on the step's link
pub record Receives (setup : Setup) (step : Step) (from to : Course) : Type 0 where
  pub result : Result (Option Outs) Spent
  pub answers : AnswersAfter setup.control (record { session = setup.session; sealer = from.sealer }) from.steps step
      result
  pub is : to ≡ record {
    work = from.work;
    steps = step_answered step result ∷ from.steps;
    sealer = after_pairs (answer_count result) from.sealer;
    backward = set from.backward step.link (get_or from.backward step.link [] ++ datagrams_made result);
    carried = from.carried;
  }

-- unless it has ended
abbrev pub ReceivesIf : Setup → Step → Course → Course → Type 0
ReceivesIf setup step from to = IfElse (has_ended (buffer_history from.steps)) (to ≡ from) (Receives setup step from to)

-- what comes with a datagram, as a step of the receiver
abbrev pub step_carried : Setup → ℕ → ℕ → Datagram → Step
step_carried setup link micros d =
    record { link = link; tick = tick_of micros; input = input_read micros (item_of setup.session d.channel d.octets) }

-- one more datagram has come
abbrev pub with_carried : ℕ → ℕ → Datagram → Course → Course
with_carried link place d from = record {
  work = from.work;
  steps = from.steps;
  sealer = from.sealer;
  backward = from.backward;
  carried = record { link = link; place = place; datagram = d } ∷ from.carried;
}

-- a datagram comes to the receiver, if it is there: also to one that has ended
abbrev pub CarriesIf : Setup → ℕ → ℕ → ℕ → Option Datagram → Course → Course → Type 0
CarriesIf setup link place micros None from to = to ≡ from
CarriesIf setup link place micros (Some d) from to =
    ReceivesIf setup (step_carried setup link micros d) (with_carried link place d from) to

-- ---- another flow

-- the next flow begins
abbrev pub renewed_in : ℕ → ℕ → Course → Course
renewed_in flow first from = record {
  work = renewed_as flow first from.work;
  steps = from.steps;
  sealer = from.sealer;
  backward = from.backward;
  carried = from.carried;
}

-- an SSRC of 32 bits is even, and none of the earlier flows'
abbrev pub is_new : Setup → Course → ℕ → Bool
is_new setup from flow =
    nat_lt flow (2 ^ 32) && (flow % 2 == 0) && not (is_known (flows_of setup.flow setup.first from.work.history) flow)

-- ---- moves

-- a link that isn't there, a datagram that was never put, a payload of more than 1,500 octets and a flow that isn't
-- new do nothing
abbrev pub Makes : Setup → Move → Course → Course → Type 0
Makes setup (moves.Send micros payload) from to =
    IfElse (nat_le (length payload) MAX_PAYLOAD) (Works (SendsIn setup micros payload) from to) (to ≡ from)
Makes setup (moves.Carry link place micros) from to =
    CarriesIf setup link place micros (forward_at setup from link place) from to
Makes setup (moves.CarryBack link place micros) from to =
    FeedsIf setup micros link (compound_carried setup (backward_at from link place)) from to
Makes setup (moves.SenderTick micros) from to = Works (TicksIn setup micros) from to
Makes setup (moves.Tick link micros) from to =
    IfElse (nat_lt link (links_of setup))
    (ReceivesIf setup (record { link = link; tick = tick_of micros; input = Tick micros }) from to) (to ≡ from)
Makes setup (moves.End micros) from to =
    ReceivesIf setup (record { link = 0; tick = tick_of micros; input = End }) from to
Makes setup (moves.Renew flow first) from to =
    IfElse (is_new setup from flow) (to ≡ renewed_in flow first from) (to ≡ from)

-- before any move
abbrev pub beginning : Option SealerState → Option SealerState → ℕ → Course
beginning near far links = record {
  work = record { history = []; sealer = near; is_short = false };
  steps = [];
  sealer = far;
  backward = replicate links [];
  carried = [];
}

-- moves, the newest first
abbrev pub MakesAll : Setup → List Move → Course → Course → Type 0
MakesAll setup [] from to = to ≡ from
MakesAll setup (move ∷ before) from to =
    (between : Course) × MakesAll setup before from between × Makes setup move between to
