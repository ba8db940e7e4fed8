-- What holds of a sender's history, event after event: what it wrote are copies of what it sent.
use Rattle.std.proofs.Common.{◌≡◌, ◌∙◌, ℕ, zero, suc, ◌+◌, ◌%◌, ◌^◌, ◌<◌, ◌≤◌, Bool, true, false, not, List, [], ◌∷◌, ◌++◌, length, map, take, Option, None, Some, is_some, Result, refl, sym, ap, subst, arith}
use Rattle.std.specs.Prelude.{nat_le, nat_lt, ◌==◌, ◌&&◌, if◌then◌else◌, All}
use Rattle.std.specs.List.{filter, filter_map, find, range_with_len}
use Rattle.std.proofs.lemmas.Bool.{eq-eqb, le-leb, lt-ltb}
use Rattle.std.proofs.lemmas.Bool.Decides.{nat_tests}
use Rattle.seq_unwrap.specs.declared.width.Width.{Width}
use Rattle.seq_unwrap.specs.Nearest.{cycle_of}
use Rattle.receiver_rules.specs.Steps.{tick_of}
use Rattle.receiver_rules.specs.Sent.{copy_of}
use Rattle.sender_rules.specs.Sendings.{Packet, Sending, sent_packets, last_sent_again}
use Rattle.sender_rules.specs.Stored.{stored_packets, packet_for as stored_packet}
use Rattle.link_channels.specs.Intervals.{has_passed_since}
use Rattle.sender_rules.specs.Retransmissions.{AskedNumber, each_once}
use Rattle.rtcp_compound.specs.Compound.{Content}
use Rattle.psk_seal.specs.declared.sealer.Pair.{Pair}
use Rattle.psk_seal.specs.Sealer.{SealerState}
use Rattle.rist_rtt.specs.Echo.{EchoOf, echoes_in}
use Rattle.rist_wire.specs.declared.session.Session.{Session}
use Rattle.rist_wire.specs.Writing.{IsPair, next_pair, after_pair, is_spent}
use Rattle.rist_sender.specs.declared.answer.Answer.{Answer}
use Rattle.sender_rules.specs.declared.send_bad.SendBad.{SendBad}
use Rattle.rist_sender.specs.Links.{Tried}
use Rattle.rist_wire.specs.Packets.{media_value}
use Rattle.ts_nulls.specs.Shape.{Shape}
use Rattle.ts_nulls.specs.Nulls.{stripping_of}
use Rattle.rist_ends.specs.Items.{arrival_of}
use Rattle.rist_rtt.specs.Echo.{first_request}
use Rattle.rist_sender.specs.Messages.{Message, Original, Retransmission, Report, RttAnswer, Alive, Status, media_of}
use Rattle.rist_sender.specs.History.{Write, Event, Wrote, effective_time, sendings_of, sending_as, packet_count, is_down, tried_as}
use Rattle.rist_sender.specs.Calls.{Work, Due, Rules, IfElse, WritesInTurn, Spreads, SendsPacket, SendsNext, TicksInTurn, Sends, FeedsBack, Ticks, after_due, after_write, without_pair, called_at, written_as, with_event, after_copy, after_sent, is_settled, is_ended, packet_with, packet_for, is_sharing, links_tried, asked_numbers, packets_again, rtt_answer, on_link, renewed_as, status_at}
use Rattle.rist_sender.proofs.LawLemmas.{media-is, octets-are}
use Rattle.world_rules.specs.SentFlows.{SentPayload, SentFlow, is_known, with_sent, tick_at, payload_at, stream_in, stream_of, was_sent, AreSteady}
use Rattle.world_rules.proofs.GrowLemmas.{Grows, grows_not, grows_sent, grows_flow}
use Rattle.world_rules.specs.Flows.{payload_of, flows_of, flow_after, first_after, put_on}
use Rattle.world_rules.specs.World.{Setup, IsSetup, rules_after}
use Rattle.world_rules.proofs.MessageLemmas.{Brings, IsPacketSent, IsMessage, HasPairs, packet_grows, tried_grows, next_is_pair, next_is_some, message_brings}

-- ---- lists

abbrev pub AllPackets : Width → List SentFlow → ℕ → List Packet → Type 0
AllPackets width flows flow [] = Unit {0}
AllPackets width flows flow (p ∷ ps) = IsPacketSent width flows flow p × AllPackets width flows flow ps

abbrev pub AllBring : Session → List SentFlow → List Tried → Type 0
AllBring session flows [] = Unit {0}
AllBring session flows (t ∷ ts) = Brings session flows t × AllBring session flows ts

abbrev AllMessages : Width → List SentFlow → ℕ → List Due → Type 0
AllMessages width flows flow [] = Unit {0}
AllMessages width flows flow (d ∷ ds) = IsMessage width flows flow d.message × AllMessages width flows flow ds

packets_grow : (width : Width) (old new : List SentFlow) (flow : ℕ) (ps : List Packet) → Grows width old new → AllPackets width old flow ps → AllPackets width new flow ps
packets_grow width old new flow [] g a = a
packets_grow width old new flow (p ∷ ps) g a = (packet_grows width old new flow p g a.0, packets_grow width old new flow ps g a.1)

all_bring_grow : (session : Session) (old new : List SentFlow) (ts : List Tried) → Grows session.width old new → AllBring session old ts → AllBring session new ts
all_bring_grow session old new [] g a = a
all_bring_grow session old new (t ∷ ts) g a = (tried_grows session old new t g a.0, all_bring_grow session old new ts g a.1)

bring_append : (session : Session) (flows : List SentFlow) (ts us : List Tried) → AllBring session flows ts → AllBring session flows us → AllBring session flows (ts ++ us)
bring_append session flows [] us a b = b
bring_append session flows (t ∷ ts) us a b = (a.0, bring_append session flows ts us a.1 b)

all_take : (width : Width) (flows : List SentFlow) (flow n : ℕ) (ps : List Packet) → AllPackets width flows flow ps → AllPackets width flows flow (take n ps)
all_take width flows flow zero ps a = tt
all_take width flows flow (suc n) [] a = tt
all_take width flows flow (suc n) (p ∷ ps) a = (a.0, all_take width flows flow n ps a.1)

all_filter : (width : Width) (flows : List SentFlow) (flow : ℕ) (f : Packet → Bool) (ps : List Packet) → AllPackets width flows flow ps → AllPackets width flows flow (filter f ps)
all_filter width flows flow f [] a = tt
all_filter width flows flow f (p ∷ ps) a =
    elim (f p) as (λ (c : Bool). AllPackets width flows flow (if c then p ∷ filter f ps else filter f ps)) [
      | true ↦ (a.0, all_filter width flows flow f ps a.1)
      | false ↦ all_filter width flows flow f ps a.1
    ]

all_once : (width : Width) (flows : List SentFlow) (flow : ℕ) (ps : List Packet) → AllPackets width flows flow ps → AllPackets width flows flow (each_once ps)
all_once width flows flow [] a = tt
all_once width flows flow (p ∷ ps) a = (a.0, all_filter width flows flow (λ other. not (other.number == p.number)) (each_once ps) (all_once width flows flow ps a.1))

-- a packet that is found among others is one of them
abbrev IfFound : Width → List SentFlow → ℕ → Option Packet → Type 0
IfFound width flows flow None = Unit {0}
IfFound width flows flow (Some p) = IsPacketSent width flows flow p

all_found : (width : Width) (flows : List SentFlow) (flow : ℕ) (f : Packet → Bool) (ps : List Packet) → AllPackets width flows flow ps → IfFound width flows flow (find f ps)
all_found width flows flow f [] a = tt
all_found width flows flow f (p ∷ ps) a =
    elim (f p) as (λ (c : Bool). IfFound width flows flow (if c then Some p else find f ps)) [
      | true ↦ a.0
      | false ↦ all_found width flows flow f ps a.1
    ]

all_mapped : (width : Width) (flows : List SentFlow) (flow : ℕ) (stored : List Packet) (ns : List AskedNumber) → AllPackets width flows flow stored
    → AllPackets width flows flow (filter_map (λ n. stored_packet stored n.width n.word) ns)
all_mapped width flows flow stored [] a = tt
all_mapped width flows flow stored (n ∷ ns) a =
    with_found (stored_packet stored n.width n.word) refl (all_found width flows flow (λ packet. packet.number % cycle_of n.width == n.word) stored a) (all_mapped width flows flow stored ns a)
  where
    with_found : (o : Option Packet) → stored_packet stored n.width n.word ≡ o → IfFound width flows flow o → AllPackets width flows flow (filter_map (λ n. stored_packet stored n.width n.word) ns)
        → AllPackets width flows flow (filter_map (λ n. stored_packet stored n.width n.word) (n ∷ ns))
    with_found None is f rest = rw is rest
    with_found (Some p) is f rest = rw is (f, rest)

-- ---- what holds of a sender's work

-- the payloads of a flow: their ticks never fall, and there are so many at most
pub record IsSteadyFlow (low count : ℕ) (f : SentFlow) : Type 0 where
  pub steady : AreSteady low f.sent
  pub few : length f.sent ≤ count

abbrev pub AreSteadyFlows : ℕ → ℕ → List SentFlow → Type 0
AreSteadyFlows low count [] = Unit {0}
AreSteadyFlows low count (f ∷ fs) = IsSteadyFlow low count f × AreSteadyFlows low count fs

-- The flow that is sent now and those before it; each packet of it, and each datagram of all of them, is a copy of what was sent.
pub record IsSound (setup : Setup) (low count : ℕ) (current : SentFlow) (older : List SentFlow) (work : Work) : Type 0 where
  pub is : flows_of setup.flow setup.first work.history ≡ current ∷ older
  pub flow : flow_after setup.flow work.history ≡ current.flow
  pub first : first_after setup.first work.history ≡ current.first
  pub many : packet_count work.history ≡ length current.sent
  pub even : current.flow % 2 ≡ 0
  pub small : current.flow < 2 ^ 32
  pub last : tick_at 0 current.sent (length current.sent) ≤ effective_time work.history
  pub time : effective_time work.history < low + 2 ^ 31
  pub flows : AreSteadyFlows low count (current ∷ older)
  pub packets : AllPackets setup.session.width (current ∷ older) current.flow (sent_packets (sendings_of work.history))
  pub forward : (link : ℕ) → AllBring setup.session (current ∷ older) (put_on setup.flow setup.session link work.history)
  pub sealer : HasPairs setup.session work.sealer

-- ---- a call begins

called : (setup : Setup) (low count : ℕ) (current : SentFlow) (older : List SentFlow) (micros : ℕ) (work : Work) → tick_of micros < low + 2 ^ 31
    → IsSound setup low count current older work → IsSound setup low count current older (called_at micros work)
called setup low count current older micros work within s = record {
  is = s.is;
  flow = s.flow;
  first = s.first;
  many = s.many;
  even = s.even;
  small = s.small;
  last = omega (arith, s.last);
  time = omega (arith, s.time, within);
  flows = s.flows;
  packets = s.packets;
  forward = s.forward;
  sealer = s.sealer;
}

unpaired : (setup : Setup) (low count : ℕ) (current : SentFlow) (older : List SentFlow) (work : Work) → IsSound setup low count current older work → IsSound setup low count current older (without_pair work)
unpaired setup low count current older work s = record {
  is = s.is;
  flow = s.flow;
  first = s.first;
  many = s.many;
  even = s.even;
  small = s.small;
  last = s.last;
  time = s.time;
  flows = s.flows;
  packets = s.packets;
  forward = s.forward;
  sealer = s.sealer;
}

-- ---- a datagram is written

message_keeps : (tick : ℕ) (message : Message) (before : List Sending) → sent_packets (sending_as tick message before) ≡ sent_packets before
message_keeps tick (Original packet) before = refl
message_keeps tick (Retransmission packet) before = refl
message_keeps tick (Report status) before = refl
message_keeps tick (RttAnswer status echo) before = refl
message_keeps tick Alive before = refl

one_brings : (setup : Setup) (flows : List SentFlow) (flow : ℕ) (write : Write) (link : ℕ) → flow < 2 ^ 32 → IsSetup setup → IsPair write.pair → is_some write.pair ≡ is_some setup.session.pass
    → IsMessage setup.session.width flows flow write.message → AllBring setup.session flows (if write.link == link then tried_as flow setup.session write ∷ [] else [])
unfolding tried_as
one_brings setup flows flow write link small legal fits paired is =
    elim (write.link == link) as (λ (c : Bool). AllBring setup.session flows (if c then tried_as flow setup.session write ∷ [] else [])) [
      | true ↦ (record { is = λ us. message_brings setup.session flows write.pair flow write.message us small legal.session fits paired is }, tt)
      | false ↦ tt
    ]

-- the same work with one more datagram, and a sealer that may have given a pair
wrote : (setup : Setup) (low count : ℕ) (current : SentFlow) (older : List SentFlow) (write : Write) (work to : Work) → IsSetup setup → IsSound setup low count current older work
    → to.history ≡ Wrote write ∷ work.history → HasPairs setup.session to.sealer → IsPair write.pair → is_some write.pair ≡ is_some setup.session.pass
    → IsMessage setup.session.width (current ∷ older) current.flow write.message → IsSound setup low count current older to
wrote setup low count current older write work to legal s is sealer fits paired message = record {
  is = ap (flows_of setup.flow setup.first) is ∙ s.is;
  flow = ap (flow_after setup.flow) is ∙ s.flow;
  first = ap (first_after setup.first) is ∙ s.first;
  many = ap packet_count is ∙ ap length (message_keeps write.tick write.message (sendings_of work.history)) ∙ s.many;
  even = s.even;
  small = s.small;
  last = subst (λ h. tick_at 0 current.sent (length current.sent) ≤ effective_time h) (sym is) s.last;
  time = subst (λ h. effective_time h < low + 2 ^ 31) (sym is) s.time;
  flows = s.flows;
  packets = subst (λ h. AllPackets setup.session.width (current ∷ older) current.flow (sent_packets (sendings_of h))) (sym is)
      (subst (λ ps. AllPackets setup.session.width (current ∷ older) current.flow ps) (sym (message_keeps write.tick write.message (sendings_of work.history))) s.packets);
  forward = λ link. subst (λ h. AllBring setup.session (current ∷ older) (put_on setup.flow setup.session link h)) (sym is)
      (bring_append setup.session (current ∷ older) (put_on setup.flow setup.session link work.history) _ (s.forward link)
      (subst (λ flow. AllBring setup.session (current ∷ older) (if write.link == link then tried_as flow setup.session write ∷ [] else [])) (sym s.flow)
      (one_brings setup (current ∷ older) current.flow write link s.small legal fits paired message)));
  sealer = sealer;
}

after_pair_of : (session : Session) (sealer : Option SealerState) → HasPairs session sealer → HasPairs session (after_pair sealer)
after_pair_of session None s = s
after_pair_of session (Some sealer) s = record { paired = s.paired; nonces = s.nonces }

copied : (setup : Setup) (low count : ℕ) (current : SentFlow) (older : List SentFlow) (tick : ℕ) (pair : Option Pair) (message : Message) (link : ℕ) (answer : Answer) (work : Work) → IsSetup setup
    → IsPair pair → is_some pair ≡ is_some setup.session.pass → IsMessage setup.session.width (current ∷ older) current.flow message → IsSound setup low count current older work
    → IsSound setup low count current older (after_copy tick pair message link answer work)
copied setup low count current older tick pair message link answer work legal fits paired is s =
    elim (is_down work.history link) as (λ (c : Bool). IsSound setup low count current older (if c then work else with_event (Wrote (written_as tick pair (record { link = link; message = message }) answer)) work)) [
      | true ↦ s
      | false ↦ wrote setup low count current older (written_as tick pair (record { link = link; message = message }) answer) work _ legal s refl s.sealer fits paired is
    ]

put : (setup : Setup) (low count : ℕ) (current : SentFlow) (older : List SentFlow) (tick : ℕ) (due : Due) (answer : Answer) (work : Work) → IsSetup setup
    → IsMessage setup.session.width (current ∷ older) current.flow due.message → IsSound setup low count current older work → IsSound setup low count current older (after_due tick due answer work)
put setup low count current older tick due answer work legal is s =
    elim (is_down work.history due.link) as (λ (c : Bool). IsSound setup low count current older (if c then work else (if is_spent work.sealer then without_pair work else after_write tick due answer work))) [
      | true ↦ s
      | false ↦ elim (is_spent work.sealer) as (λ (c : Bool). IsSound setup low count current older (if c then without_pair work else after_write tick due answer work)) [
        | true ↦ unpaired setup low count current older work s
        | false ↦
            wrote setup low count current older (written_as tick (next_pair work.sealer) due answer) work (after_write tick due answer work) legal s refl (after_pair_of setup.session work.sealer s.sealer)
            (next_is_pair work.sealer s.sealer.nonces) (next_is_some work.sealer ∙ s.sealer.paired) is
      ]
    ]

writes : (setup : Setup) (low count : ℕ) (current : SentFlow) (older : List SentFlow) (tick : ℕ) (dues : List Due) (from to : Work) → IsSetup setup
    → AllMessages setup.session.width (current ∷ older) current.flow dues → WritesInTurn tick dues from to → IsSound setup low count current older from → IsSound setup low count current older to
writes setup low count current older tick [] from to legal all is s = subst (λ w. IsSound setup low count current older w) (sym is) s
writes setup low count current older tick (due ∷ dues) from to legal all (answer, rest) s =
    writes setup low count current older tick dues (after_due tick due answer from) to legal all.1 rest (put setup low count current older tick due answer from legal all.0 s)

-- ---- a payload's datagram

spreads : (setup : Setup) (low count : ℕ) (current : SentFlow) (older : List SentFlow) (one : Bool) (tick : ℕ) (pair : Option Pair) (message : Message) (links : List ℕ) (from to : Work) → IsSetup setup
    → IsPair pair → is_some pair ≡ is_some setup.session.pass → IsMessage setup.session.width (current ∷ older) current.flow message → Spreads one tick pair message links from to
    → IsSound setup low count current older from → IsSound setup low count current older to
spreads setup low count current older one tick pair message [] from to legal fits paired is done s = subst (λ w. IsSound setup low count current older w) (sym done) s
spreads setup low count current older one tick pair message (link ∷ links) from to legal fits paired is (answer, rest) s =
    settled (is_settled one link answer from) (λ more. spreads setup low count current older one tick pair message links (after_copy tick pair message link answer from) to legal fits paired is more (copied setup low count current older tick pair message link answer from legal fits paired is s)) rest
  where
    settled : (c : Bool) → (Spreads one tick pair message links (after_copy tick pair message link answer from) to → IsSound setup low count current older to) → IfElse c (to ≡ after_copy tick pair message link answer from) (Spreads one tick pair message links (after_copy tick pair message link answer from) to) → IsSound setup low count current older to
    settled true on done = subst (λ w. IsSound setup low count current older w) (sym done) (copied setup low count current older tick pair message link answer from legal fits paired is s)
    settled false on more = on more

-- ---- what a call writes besides

answer_messages : (width : Width) (flows : List SentFlow) (flow link : ℕ) (status : Status) (echo : Option EchoOf) → AllMessages width flows flow (on_link link (rtt_answer status echo))
answer_messages width flows flow link status None = tt
answer_messages width flows flow link status (Some echo) = (tt, tt)

report_messages : (width : Width) (flows : List SentFlow) (flow link micros : ℕ) (history : List Event) (due : Bool) → AllMessages width flows flow (on_link link (if due then Report (status_at micros history) ∷ [] else []))
report_messages width flows flow link micros history true = (tt, tt)
report_messages width flows flow link micros history false = tt

alive_messages : (width : Width) (flows : List SentFlow) (flow link : ℕ) (due : Bool) → AllMessages width flows flow (on_link link (if due then Alive ∷ [] else []))
alive_messages width flows flow link true = (tt, tt)
alive_messages width flows flow link false = tt

sent_again : (width : Width) (flows : List SentFlow) (flow link : ℕ) (ps : List Packet) → AllPackets width flows flow ps → AllMessages width flows flow (on_link link (map Retransmission ps))
sent_again width flows flow link [] a = tt
sent_again width flows flow link (p ∷ ps) a = (a.0, sent_again width flows flow link ps a.1)

again_messages : (width : Width) (flows : List SentFlow) (flow link : ℕ) (rules : Rules) (history : List Event) (compound : List Content) → AllPackets width flows flow (sent_packets (sendings_of history))
    → AllMessages width flows flow (on_link link (map Retransmission (packets_again rules history compound)))
again_messages width flows flow link rules history compound a =
    let asked : List AskedNumber = take 65536 (asked_numbers rules.flow compound) in
    let stored : List Packet = stored_packets rules.size (sendings_of history) in
    let found : List Packet = filter_map (λ n. stored_packet stored n.width n.word) asked in
    let rested : Packet → Bool = λ packet. has_passed_since rules.hold (effective_time history) (last_sent_again (sendings_of history) packet.number) in
    let known = all_mapped width flows flow stored asked (all_take width flows flow rules.size (sent_packets (sendings_of history)) a) in
    sent_again width flows flow link (packets_again rules history compound)
    (all_take width flows flow 256 (filter rested (each_once found)) (all_filter width flows flow rested (each_once found) (all_once width flows flow found known)))

-- ---- calls

spread_of : (setup : Setup) (rules : Rules) (low count : ℕ) (current : SentFlow) (older : List SentFlow) (k tick : ℕ) (packet : Packet) (from to : Work) → IsSetup setup → HasPairs setup.session from.sealer
    → IsPacketSent setup.session.width (current ∷ older) current.flow packet → SendsPacket rules k tick packet from to → IsSound setup low count current older (after_sent packet from)
    → IsSound setup low count current older to
spread_of setup rules low count current older k tick packet from to legal sealer is sends s =
    spreads setup low count current older (is_sharing rules.bonding) tick (next_pair from.sealer) (Original packet) (links_tried rules.bonding k) (after_sent packet from) to legal
    (next_is_pair from.sealer sealer.nonces) (next_is_some from.sealer ∙ sealer.paired) is sends s

-- a flow with one more payload
abbrev pub flow_with : SentPayload → SentFlow → SentFlow
flow_with p f = record { flow = f.flow; first = f.first; sent = p ∷ f.sent }

more_flows : (low count : ℕ) (fs : List SentFlow) → AreSteadyFlows low count fs → AreSteadyFlows low (suc count) fs
more_flows low count [] a = tt
more_flows low count (f ∷ fs) a = (record { steady = a.0.steady; few = omega (arith, a.0.few) }, more_flows low count fs a.1)

-- the last number of a flow was sent, when and as it says
last_sent : (f : SentFlow) (p : SentPayload) (older : List SentFlow) → was_sent (flow_with p f ∷ older) f.flow (f.first + length f.sent) ≡ true
last_sent f p older =
    ap (λ (c : Bool). if c then nat_le f.first (f.first + length f.sent) && nat_lt (f.first + length f.sent) (f.first + suc (length f.sent)) else was_sent older f.flow (f.first + length f.sent)) (eq-eqb f.flow f.flow refl)
    ∙ ap (λ (c : Bool). c && nat_lt (f.first + length f.sent) (f.first + suc (length f.sent))) (le-leb _ _ (omega arith))
    ∙ lt-ltb _ _ (omega arith)

last_stream : (width : Width) (f : SentFlow) (p : SentPayload) (older : List SentFlow) (again : Bool) → copy_of (stream_of width (flow_with p f ∷ older) f.flow) (f.first + length f.sent) again
    ≡ record { flow = f.flow; again = again; width = width; word = (f.first + length f.sent) % cycle_of width; timestamp = p.tick % 2 ^ 32; payload = p.payload }
last_stream width f p older again =
    let here : stream_of width (flow_with p f ∷ older) f.flow ≡ stream_in width (flow_with p f)
    = ap (λ (c : Bool). if c then stream_in width (flow_with p f) else stream_of width older f.flow) (eq-eqb f.flow f.flow refl) in
    let t : tick_at f.first (p ∷ f.sent) (f.first + length f.sent) ≡ p.tick
    = ap (λ (c : Bool). if c then p.tick else tick_at f.first f.sent (f.first + length f.sent)) (le-leb (f.first + length f.sent) (f.first + length f.sent) (omega arith)) in
    let q : payload_at f.first (p ∷ f.sent) (f.first + length f.sent) ≡ p.payload
    = ap (λ (c : Bool). if c then p.payload else payload_at f.first f.sent (f.first + length f.sent)) (eq-eqb (f.first + length f.sent) (f.first + length f.sent) refl) in
    ap (λ stream. copy_of stream (f.first + length f.sent) again) here
    ∙ (λ i. record { flow = f.flow; again = again; width = width; word = (f.first + length f.sent) % cycle_of width; timestamp = t i % 2 ^ 32; payload = q i })

-- the packet of a payload is one that was sent
numbered : (number timestamp : ℕ) (payload : List ℕ) (told : Option (Shape × List ℕ)) → (packet_with number timestamp payload told).number ≡ number
numbered number timestamp payload None = refl
numbered number timestamp payload (Some told) = refl

as_sent : (width : Width) (f : SentFlow) (older : List SentFlow) (tick : ℕ) (payload : List ℕ) (told : Option (Shape × List ℕ)) (again : Bool)
    → arrival_of (media_value width (media_of f.flow again (packet_with (f.first + length f.sent) (tick % 2 ^ 32) payload told)))
    ≡ copy_of (stream_of width (flow_with (payload_of tick (packet_with (f.first + length f.sent) (tick % 2 ^ 32) payload told)) f ∷ older) f.flow) (packet_with (f.first + length f.sent) (tick % 2 ^ 32) payload told).number again
as_sent width f older tick payload None again = sym (last_stream width f (payload_of tick (packet_with (f.first + length f.sent) (tick % 2 ^ 32) payload None)) older again)
as_sent width f older tick payload (Some told) again = sym (last_stream width f (payload_of tick (packet_with (f.first + length f.sent) (tick % 2 ^ 32) payload (Some told))) older again)

new_packet : (width : Width) (nulls : Bool) (f : SentFlow) (older : List SentFlow) (tick : ℕ) (payload : List ℕ) → f.flow % 2 ≡ 0 → f.flow < 2 ^ 32 → length payload ≤ 1500 → All (λ octet. octet < 256) payload
    → IsPacketSent width (flow_with (payload_of tick (packet_for nulls (f.first + length f.sent) tick payload)) f ∷ older) f.flow (packet_for nulls (f.first + length f.sent) tick payload)
new_packet width nulls f older tick payload even small few are =
    let packet = packet_for nulls (f.first + length f.sent) tick payload in
    record {
      sends = subst (λ n. was_sent (flow_with (payload_of tick packet) f ∷ older) f.flow n ≡ true)
          (sym (numbered (f.first + length f.sent) (tick % 2 ^ 32) payload (if nulls then stripping_of payload else None)))
          (last_sent f (payload_of tick packet) older);
      is = λ again. as_sent width f older tick payload (if nulls then stripping_of payload else None) again;
      out = λ again. media-is nulls again f.flow (f.first + length f.sent) tick payload even small few;
      octets = octets-are nulls (f.first + length f.sent) tick payload are;
    }

-- a payload took its number
sent : (setup : Setup) (low count : ℕ) (f : SentFlow) (older : List SentFlow) (nulls : Bool) (payload : List ℕ) (work : Work) → low ≤ effective_time work.history → length payload ≤ 1500 → All (λ octet. octet < 256) payload
    → IsSound setup low count f older work
    → IsSound setup low (suc count) (flow_with (payload_of (effective_time work.history) (packet_for nulls (f.first + length f.sent) (effective_time work.history) payload)) f) older
    (after_sent (packet_for nulls (f.first + length f.sent) (effective_time work.history) payload) work)
sent setup low count f older nulls payload work within few are s =
    let tick : ℕ = effective_time work.history in
    let packet = packet_for nulls (f.first + length f.sent) tick payload in
    let p : SentPayload = payload_of tick packet in
    let g = grows_sent setup.session.width p f older in
    let steady : AreSteady low f.sent = s.flows.0.steady in
    record {
      is = ap (with_sent p) s.is;
      flow = s.flow;
      first = s.first;
      many = ap suc s.many;
      even = s.even;
      small = s.small;
      last = last_tick;
      time = s.time;
      flows = (record { steady = (record { low = within; high = s.time; rises = s.last }, steady); few = omega (arith, s.flows.0.few) }, more_flows low count older s.flows.1);
      packets = (new_packet setup.session.width nulls f older tick payload s.even s.small few are, packets_grow setup.session.width (f ∷ older) (flow_with p f ∷ older) f.flow (sent_packets (sendings_of work.history)) g s.packets);
      forward = λ link. all_bring_grow setup.session (f ∷ older) (flow_with p f ∷ older) (put_on setup.flow setup.session link work.history) g (s.forward link);
      sealer = after_pair_of setup.session work.sealer s.sealer;
    }
  where
    last_tick : tick_at 0 (payload_of (effective_time work.history) (packet_for nulls (f.first + length f.sent) (effective_time work.history) payload) ∷ f.sent) (suc (length f.sent)) ≤ effective_time work.history
    last_tick = grind (arith, nat_tests)

-- there may be more payloads
pub more_room : (setup : Setup) (low count : ℕ) (f : SentFlow) (older : List SentFlow) (work : Work) → IsSound setup low count f older work → IsSound setup low (suc count) f older work
more_room setup low count f older work s = record {
  is = s.is;
  flow = s.flow;
  first = s.first;
  many = s.many;
  even = s.even;
  small = s.small;
  last = s.last;
  time = s.time;
  flows = more_flows low count (f ∷ older) s.flows;
  packets = s.packets;
  forward = s.forward;
  sealer = s.sealer;
}

-- ---- calls

-- what holds after a call, in which more may have been sent
pub record Leaves (setup : Setup) (low count : ℕ) (flows : List SentFlow) (to : Work) : Type 0 where
  pub current : SentFlow
  pub older : List SentFlow
  pub sound : IsSound setup low count current older to
  pub grows : Grows setup.session.width flows (current ∷ older)

send_next : (setup : Setup) (rules : Rules) (low count : ℕ) (f : SentFlow) (older : List SentFlow) (payload : List ℕ) (from to : Work) → IsSetup setup → length payload ≤ 1500 → All (λ octet. octet < 256) payload → low ≤ effective_time from.history
    → rules.first + packet_count from.history ≡ f.first + length f.sent → IsSound setup low count f older from → SendsNext rules payload from to → Leaves setup low (suc count) (f ∷ older) to
send_next setup rules low count f older payload from to legal few are within number s sends = by (is_ended (rules.first + packet_count from.history) from) sends
  where
    by : (c : Bool)
        → IfElse c (to ≡ without_pair from) (SendsPacket rules (packet_count from.history) (effective_time from.history) (packet_for rules.nulls (rules.first + packet_count from.history) (effective_time from.history) payload) from to)
        → Leaves setup low (suc count) (f ∷ older) to
    by true done = record {
      current = f;
      older = older;
      sound = subst (λ w. IsSound setup low (suc count) f older w) (sym done) (unpaired setup low (suc count) f older from (more_room setup low count f older from s));
      grows = grows_not setup.session.width (f ∷ older);
    }
    by false more =
        let tick : ℕ = effective_time from.history in
        let p : SentPayload = payload_of tick (packet_for rules.nulls (f.first + length f.sent) tick payload) in
        let packet : SendsPacket rules (packet_count from.history) tick (packet_for rules.nulls (f.first + length f.sent) tick payload) from to
        = subst (λ n. SendsPacket rules (packet_count from.history) tick (packet_for rules.nulls n tick payload) from to) number more in
        record {
          current = flow_with p f;
          older = older;
          sound = spread_of setup rules low (suc count) (flow_with p f) older (packet_count from.history) tick (packet_for rules.nulls (f.first + length f.sent) tick payload) from to legal s.sealer
              (new_packet setup.session.width rules.nulls f older tick payload s.even s.small few are) packet
              (sent setup low count f older rules.nulls payload from within few are s);
          grows = grows_sent setup.session.width p f older;
        }

pub sends_leaves : (setup : Setup) (low count links micros : ℕ) (f : SentFlow) (older : List SentFlow) (payload : List ℕ) (result : Result Unit SendBad) (from to : Work) → IsSetup setup → length payload ≤ 1500 → All (λ octet. octet < 256) payload
    → low ≤ tick_of micros → tick_of micros < low + 2 ^ 31 → IsSound setup low count f older from → Sends (rules_after setup from.history) links micros payload result from to → Leaves setup low (suc count) (f ∷ older) to
sends_leaves setup low count links micros f older payload result from to legal few are above below s sends =
    send_next setup (rules_after setup from.history) low count f older payload (called_at micros from) to legal few are (omega (arith, above))
    (λ i. s.first i + s.many i) (called setup low count f older micros from below s) sends.writes

pub feeds_leaves : (setup : Setup) (low count links micros link : ℕ) (f : SentFlow) (older : List SentFlow) (compound : List Content) (result : Result ℕ SendBad) (from to : Work) → IsSetup setup
    → tick_of micros < low + 2 ^ 31 → IsSound setup low count f older from → FeedsBack (rules_after setup from.history) links micros link compound result from to → IsSound setup low count f older to
feeds_leaves setup low count links micros link f older compound result from to legal below s feeds =
    let w = feeds.writes in
    let flows : List SentFlow = f ∷ older in
    let between = writes setup low count f older _ _ (called_at micros from) w.between legal
    (answer_messages setup.session.width flows f.flow link _ (first_request (echoes_in compound))) w.request (called setup low count f older micros from below s) in
    writes setup low count f older _ _ w.between to legal
    (again_messages setup.session.width flows f.flow link (rules_after setup from.history) w.between.history compound between.packets) w.again between

ticks_in_turn : (setup : Setup) (low count micros : ℕ) (f : SentFlow) (older : List SentFlow) (keepalives : Bool) (links : List ℕ) (from to : Work) → IsSetup setup
    → IsSound setup low count f older from → TicksInTurn keepalives micros links from to → IsSound setup low count f older to
ticks_in_turn setup low count micros f older keepalives [] from to legal s is = subst (λ w. IsSound setup low count f older w) (sym is) s
ticks_in_turn setup low count micros f older keepalives (link ∷ links) from to legal s (between, one, rest) =
    let flows : List SentFlow = f ∷ older in
    let first = writes setup low count f older _ _ from one.between legal (report_messages setup.session.width flows f.flow link micros from.history _) one.report s in
    let second = writes setup low count f older _ _ one.between between legal (alive_messages setup.session.width flows f.flow link _) one.keepalive first in
    ticks_in_turn setup low count micros f older keepalives links between to legal second rest

pub ticks_leaves : (setup : Setup) (low count links micros : ℕ) (f : SentFlow) (older : List SentFlow) (result : Result Unit SendBad) (from to : Work) → IsSetup setup
    → tick_of micros < low + 2 ^ 31 → IsSound setup low count f older from → Ticks (rules_after setup from.history) links micros result from to → IsSound setup low count f older to
ticks_leaves setup low count links micros f older result from to legal below s ticks =
    ticks_in_turn setup low count micros f older setup.keepalives (range_with_len 0 links) (called_at micros from) to legal (called setup low count f older micros from below s) ticks.writes

-- another flow begins
pub renew_leaves : (setup : Setup) (low count flow first : ℕ) (f : SentFlow) (older : List SentFlow) (work : Work) → flow % 2 ≡ 0 → flow < 2 ^ 32 → is_known (f ∷ older) flow ≡ false
    → IsSound setup low count f older work → Leaves setup low count (f ∷ older) (renewed_as flow first work)
renew_leaves setup low count flow first f older work even small new s =
    let next : SentFlow = record { flow = flow; first = first; sent = [] } in
    let g = grows_flow setup.session.width next (f ∷ older) new in
    record {
      current = next;
      older = f ∷ older;
      sound = record {
        is = ap (λ fs. next ∷ fs) s.is;
        flow = refl;
        first = refl;
        many = refl;
        even = even;
        small = small;
        last = omega arith;
        time = s.time;
        flows = (record { steady = tt; few = omega arith }, s.flows);
        packets = tt;
        forward = λ link. all_bring_grow setup.session (f ∷ older) (next ∷ f ∷ older) (put_on setup.flow setup.session link work.history) g (s.forward link);
        sealer = s.sealer;
      };
      grows = g;
    }
