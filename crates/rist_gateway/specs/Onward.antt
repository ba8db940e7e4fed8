-- What a contract sees of a gateway's sending end.
use Rattle.std.specs.Prelude.{◌≡◌, ◌<◌, ◌≤◌, ℕ, List, [], length, map, slice_index_or, Bool, false, Option, None, Some}
use Rattle.link_channels.specs.declared.bounds.TheConstants.{MAX_LINKS}
use Rattle.std.specs.Prelude.{Result, Ok, Err}
use Rattle.outside_io.specs.Causes.{Rose}
use Rattle.link_channels.specs.declared.channel.Channel.{Channel}
use Rattle.outside_net.specs.Links.{Answer, Datagram}
use Rattle.sender_rules.specs.Bonding.{Duplicate, link_count}
use Rattle.rist_wire.specs.declared.session.Session.{Session}
use Rattle.rist_wire.specs.Session.{no_session}
use Rattle.sender_rules.specs.declared.send_bad.SendBad.{SendBad}
use Rattle.sender_rules.specs.declared.send_bad.SendBad.TheVariants.{LinksDown}
use Rattle.outside_net.specs.Links.{LinkTells}
use Rattle.rist_sender.specs.Calls.{Work}
use Rattle.rist_sender.specs.Sender.{SenderState, IsSenderAfter, rules_of}
use Rattle.rist_sender.specs.Served.{AreServed}
use Rattle.rist_desk.specs.declared.beside.Side.{Side}
use Rattle.rist_desk.specs.declared.beside.Side.TheVariants as sides
use Rattle.rist_gateway.specs.Course.{Setup, Passed, Course, Deed, SendsOn, LooksAt, DoesAll}

-- a link, by what it tells and its counts
pub record LinkState : Type 0 where
  pub taken : Option (List Datagram)
  pub knows : Channel → Bool
  pub faults : ℕ
  pub reads : Option (ℕ → Answer)
  pub ends : ℕ

-- what a link of some kind shows
abbrev pub shown : {L : Type 0} → LinkTells L → L → LinkState
shown line link =
    record {
      taken = line.taken link;
      knows = line.knows link;
      faults = line.faults link;
      reads = line.reads link;
      ends = line.ends link;
    }

-- the same of one that is shown
abbrev pub plain : LinkTells LinkState
plain =
    record {
      taken = λ s. s.taken;
      knows = λ s. s.knows;
      faults = λ s. s.faults;
      reads = λ s. s.reads;
      ends = λ s. s.ends;
    }

-- its sender; its opener's session; its links; the moments that its clock has still to give, and the octets of the
-- payloads that its sender took; how often it was put to; how many puts failed; and why the last put and the last aside
-- that were refused were
pub record OnwardState : Type 0 where
  pub sender : SenderState
  pub opener : Session
  pub links : List LinkState
  pub passed : Passed
  pub puts : ℕ
  pub faults : ℕ
  pub put_bad : Option SendBad
  pub aside_bad : Option SendBad

-- one of these parts
abbrev pub onward_of : {L : Type 0} → LinkTells L → SenderState → Session → List L → Passed → ℕ → ℕ → Option SendBad
    → Option SendBad → OnwardState
onward_of line sender opener links passed puts faults put_bad aside_bad =
    record {
      sender = sender;
      opener = opener;
      links = map (shown line) links;
      passed = passed;
      puts = puts;
      faults = faults;
      put_bad = put_bad;
      aside_bad = aside_bad;
    }

-- the parts of one, over links and a clock of some kinds
pub record OnwardParts (L C : Type 0) : Type 0 where
  pub sender : SenderState
  pub opener : Session
  pub links : List L
  pub clock : C
  pub handed : List ℕ
  pub puts : ℕ
  pub faults : ℕ
  pub put_bad : Option SendBad
  pub aside_bad : Option SendBad

-- a clock that tells these moments, and these octets
abbrev pub passed_of : Option (ℕ → ℕ) → List ℕ → Passed
passed_of moments sent = record { moments = moments; sent = sent }

-- what these show
abbrev pub shows : {L C : Type 0} → LinkTells L → (C → Option (ℕ → ℕ)) → OnwardParts L C → OnwardState
shows line moments p =
    onward_of line p.sender p.opener p.links (passed_of (moments p.clock) p.handed) p.puts p.faults p.put_bad
    p.aside_bad

-- why a put was refused, or, where none was, an aside
abbrev pub why_of : Option SendBad → Option SendBad → Option SendBad
why_of (Some bad) aside = Some bad
why_of None aside = aside

-- what it is set to
abbrev pub setup_of : OnwardState → Setup
setup_of o = record { rules = rules_of o.sender; session = o.sender.session; links = length o.links }

-- the sending end is as far as this
pub record IsAt (o : OnwardState) (course : Course) : Type 0 where
  pub sender : IsSenderAfter o.sender course.work
  pub passed : course.passed ≡ o.passed
  pub answers : course.answers ≡ map (λ s. s.reads) o.links

-- from as far as that it has come to something of which this holds, and each link was given just the datagrams of its
-- sender's work
pub record Moves (old new : OnwardState) (from : Course) (P : Course → Type 0) : Type 0 where
  pub to : Course
  pub fact : P to
  pub stands : IsAt new to
  pub given : AreServed plain old.sender.flow old.sender.session from.work.history to.work.history old.links new.links

-- ---- from the first deed on

-- a sender that did nothing
abbrev pub no_work : SenderState → Work
no_work s = record { history = []; sealer = s.sealer; is_short = false }

-- the start
abbrev pub start_of : OnwardState → Course
start_of o = record { work = no_work o.sender; passed = o.passed; answers = map (λ s. s.reads) o.links }

-- since every link is down the count of each has risen
abbrev pub HasRisen : Option SendBad → List LinkState → List LinkState → Type 0
HasRisen why first now =
    why ≡ Some LinksDown → (link : ℕ) (d : LinkState) → link < length first
    → Rose (slice_index_or first link d).faults (slice_index_or now link d).faults

-- What holds of every one that was made as this: it is set as it was; it has come to where it is by deeds, one after
-- another; each link was given just the datagrams of these; where a put failed it tells why; and where it tells that
-- all links are down, a call on each failed.
pub record IsOnward (first o : OnwardState) : Type 0 where
  pub rules : rules_of o.sender ≡ rules_of first.sender
  pub session : o.sender.session ≡ first.sender.session
  pub opener : o.opener ≡ first.sender.session
  pub count : length o.links ≡ length first.links
  pub bonded : length first.links ≡ link_count (rules_of first.sender).bonding
  pub few : length first.links ≤ MAX_LINKS
  pub deeds : List Deed
  pub moved : Moves first o (start_of first) (λ to. DoesAll (setup_of first) deeds (start_of first) to)
  pub refused : o.put_bad ≡ None → o.faults ≡ first.faults
  pub put_down : HasRisen o.put_bad first.links o.links
  pub aside_down : HasRisen o.aside_bad first.links o.links

-- a sending end that nobody called yet: its sender is new, and has these 1 to 16 links
pub record IsUncalled (o : OnwardState) : Type 0 where
  pub sender : IsSenderAfter o.sender (no_work o.sender)
  pub opener : o.opener ≡ o.sender.session
  pub some : 0 < length o.links
  pub few : length o.links ≤ MAX_LINKS
  pub bonded : length o.links ≡ link_count o.sender.bonding

-- ---- calls

-- a put answers as the sender did, and keeps why it was refused
abbrev pub AnswersPut : {E : Type 0} → Result Unit E → Result Unit SendBad → Option SendBad → Option SendBad → Type 0
AnswersPut (Ok done) answer was bad = (answer ≡ Ok tt) × (bad ≡ was)
AnswersPut (Err failed) (Ok done) was bad = ⊥
AnswersPut (Err failed) (Err refusal) was bad = bad ≡ Some refusal

-- a put hands its piece to the sender
pub record PutsOn {E : Type 0} (setup : Setup) (piece : List ℕ) (result : Result Unit E) (was bad : Option SendBad)
    (from to : Course) : Type 0 where
  pub answer : Result Unit SendBad
  pub sends : SendsOn setup piece answer from to
  pub told : AnswersPut result answer was bad

-- what a put does, wherever it stands
abbrev pub Puts : {E : Type 0} → OnwardState → OnwardState → List ℕ → Result Unit E → Type 0
Puts old new piece result =
    (from : Course) → IsAt old from
    → Moves old new from (PutsOn (setup_of old) piece result old.put_bad new.put_bad from)

-- what an aside does, wherever it stands
abbrev pub Looks : OnwardState → OnwardState → ℕ → ℕ → Side → Type 0
Looks old new micros link side =
    (from : Course) → IsAt old from
    → Moves old new from (λ to. LooksAt (setup_of old) micros link old.puts side from to)

-- an aside of one that was made as this: before it and after it holds what holds of every such one
pub record LooksOnce (first old new : OnwardState) (micros link : ℕ) (side : Side) : Type 0 where
  pub was : IsOnward first old
  pub is : IsOnward first new
  pub looks : Looks old new micros link side

-- what a name holds that was picked for nothing
abbrev pub nothing_first : OnwardState
nothing_first =
    record {
      sender = record {
        flow = 0;
        first = 0;
        hold = 0;
        bonding = Duplicate 0;
        session = no_session;
        sealer = None;
        store = record { size = 0; packets = [] };
        time = 0;
        count = 0;
        octets = 0;
        down = [];
        reports = [];
        keepalives = [];
      };
      opener = no_session;
      links = [];
      passed = passed_of None [];
      puts = 0;
      faults = 0;
      put_bad = None;
      aside_bad = None;
    }

-- an aside that is refused is kept, and any other leaves what was kept
abbrev pub bad_after : Option SendBad → Side → Option SendBad
bad_after was (sides.Took puts) = was
bad_after was (sides.Quiet puts) = was
bad_after was sides.End = was
bad_after was sides.Failed = was
bad_after was (sides.Bad bad) = Some bad
