-- What a contract sees of a simulated network.
use Rattle.std.specs.Prelude.{◌≡◌, ◌<◌, ◌*◌, ◌++◌, ℕ, List, [], length, map, drop, get_or, Bool, true, false, Option}
use Rattle.std.specs.List.{AllByRecursion}
use Rattle.outside_net.specs.Links.{Datagram}
use Rattle.receiver_rules.specs.Steps.{has_ended}
use Rattle.receiver_rules.specs.History.{released_bytes}
use Rattle.reorder_buffer.specs.declared.phase.Phase.{Phase}
use Rattle.reorder_buffer.specs.declared.phase.Phase.TheVariants.{Open, Ended}
use Rattle.request_rules.specs.Steps.{buffer_history}
use Rattle.rist_wire.specs.declared.session.Session.{Session}
use Rattle.rist_ends.specs.declared.settings.Settings.{Settings as ReceiverSettings}
use Rattle.rist_ends.specs.Settings.{control_settings}
use Rattle.rist_ends.specs.Receiver.{ReceiverState, IsReceiverAfter, settings_of}
use Rattle.rist_sender.specs.declared.settings.Settings.{Settings as SenderSettings}
use Rattle.rist_sender.specs.declared.answer.Answer.TheVariants.{Took}
use Rattle.rist_sender.specs.Sender.{SenderState, IsSenderAfter, has_keepalives, rules_of}
use Rattle.world_rules.specs.SentFlows.{SentFlow}
use Rattle.world_rules.specs.Flows.{flows_of, put_on}
use Rattle.world_rules.specs.World.{Setup, Course, links_of, rules_after, forward_on}
use Rattle.world_rules.specs.Counts.{media_of}
use Rattle.rist_world.specs.Tally.{TallyState, IsTallyOf}

-- the datagrams that were put on a link one way, the oldest first, and how many writes failed for want of memory
pub record WireState : Type 0 where
  pub put : List Datagram
  pub faults : ℕ

-- a link on which nothing was put
abbrev pub none : WireState
none = record { put = []; faults = 0 }

-- what was written, and how many writes failed for want of memory
pub record WrittenState : Type 0 where
  pub octets : List ℕ
  pub faults : ℕ

-- the sender, and what opens the datagrams that come back to it; the receiver, what opens those that come to it, and
-- what it wrote; the links each way; of each datagram that the sender put on each link, whether it is media and says
-- that it is a retransmission; the SSRCs of the flows so far, the newest first; and what is counted
pub record WorldState : Type 0 where
  pub sender : SenderState
  pub near : Session
  pub receiver : ReceiverState
  pub far : Session
  pub written : WrittenState
  pub forward : List WireState
  pub backward : List WireState
  pub media : List (List (Option Bool))
  pub flows : List ℕ
  pub tally : TallyState

-- what both ends are set to
abbrev pub setup_of : Session → SenderSettings → ReceiverSettings → Setup
setup_of session near far = record {
  session = session;
  flow = near.flow;
  first = near.first;
  hold = 90 * near.hold;
  size = near.store;
  bonding = near.bond;
  keepalives = has_keepalives session.profile;
  control = control_settings far session;
}

-- the receiver is open until an end
abbrev pub phase_of : Bool → Phase
phase_of true = Ended
phase_of false = Open

-- no write on these links has failed
abbrev pub AreSound : List WireState → Type 0
AreSound wires = (link : ℕ) → link < length wires → (get_or wires link none).faults ≡ 0

-- each datagram that the sender wrote was taken by its link: none was refused, and none was left
abbrev pub AreAllTaken : Setup → Course → Type 0
AreAllTaken setup course =
    (link : ℕ) → link < links_of setup
    → AllByRecursion (λ tried. tried.answer ≡ Took) (put_on setup.flow setup.session link course.work.history)

-- the datagrams of each link
abbrev pub datagrams_on : List WireState → List (List Datagram)
datagrams_on wires = map (λ (w : WireState). w.put) wires

-- the marks of a link, and those of the datagrams that were put since
abbrev pub marked : Session → List (Option Bool) → List Datagram → List (Option Bool)
marked session marks put = marks ++ map (media_of session) (drop (length marks) put)

-- what was put on each link since is marked, where it has marks
abbrev pub AreMarked : Session → List (List (Option Bool)) → List WireState → List (List (Option Bool)) → Type 0
AreMarked session old wires new =
    (link : ℕ) → link < length wires → link < length old
    → get_or new link [] ≡ marked session (get_or old link []) (get_or wires link none).put

-- each datagram that the sender put is marked as it reads
pub record AreMarks (setup : Setup) (media : List (List (Option Bool))) (course : Course) : Type 0 where
  pub links : length media ≡ links_of setup
  pub marks : (link : ℕ) → link < links_of setup
      → get_or media link [] ≡ map (media_of setup.session) (forward_on setup course link)

-- A world stands for a course: its sender for the work, its receiver for the steps, and each link holds what was put on
-- it, which is all that the sender wrote on it. What was written is what the steps released, the marks are those of
-- what the sender put, and what is counted is what came of it.
pub record IsWorldAfter (setup : Setup) (w : WorldState) (course : Course) : Type 0 where
  pub sender : IsSenderAfter w.sender course.work
  pub rules : rules_of w.sender ≡ rules_after setup course.work.history
  pub sending : w.sender.session ≡ setup.session
  pub near : w.near ≡ setup.session
  pub far : w.far ≡ setup.session
  pub links : length w.forward ≡ links_of setup
  pub forward : (link : ℕ) (d : WireState) → link < links_of setup
      → (get_or w.forward link d).put ≡ forward_on setup course link
  pub taken : AreAllTaken setup course
  pub receiver : IsReceiverAfter w.receiver course.steps
  pub control : settings_of w.receiver ≡ setup.control
  pub shutter : w.receiver.reporter.shutter ≡ record { session = setup.session; sealer = course.sealer }
  pub phase : w.receiver.buffer.phase ≡ phase_of (has_ended (buffer_history course.steps))
  pub written : w.written.octets ≡ released_bytes setup.control.limits (buffer_history course.steps)
  pub backward : datagrams_on w.backward ≡ course.backward
  pub media : AreMarks setup w.media course
  pub flows : w.flows ≡ map (λ (f : SentFlow). f.flow) (flows_of setup.flow setup.first course.work.history)
  pub tally : IsTallyOf setup w.tally course

-- there is a course of which this holds, and the world is as it says
pub record GoesTo (setup : Setup) (w : WorldState) (P : Course → Type 0) : Type 0 where
  pub to : Course
  pub fact : P to
  pub stands : IsWorldAfter setup w to

-- whatever course it stands for, it goes on to one that this leads to
abbrev pub GoesOn : WorldState → WorldState → (Setup → Course → Course → Type 0) → Type 0
GoesOn old new P = (setup : Setup) (from : Course) → IsWorldAfter setup old from → GoesTo setup new (P setup from)
