-- What a call adds to a sender's history: no other flow begins in it.
use Rattle.std.proofs.Common.{◌≡◌, ◌∙◌, ℕ, ◌+◌, Bool, true, false, List, [], ◌∷◌, ◌++◌, map, Option, Result, refl, sym, ap, append_assoc, append-nil, drop}
use Rattle.std.specs.Prelude.{◌==◌, ◌||◌, if◌then◌else◌}
use Rattle.std.specs.List.{list_any}
use Rattle.sender_rules.specs.Sendings.{Packet}
use Rattle.rtcp_compound.specs.Compound.{Content}
use Rattle.outside_net.specs.Links.{Datagram}
use Rattle.psk_seal.specs.declared.sealer.Pair.{Pair}
use Rattle.rist_wire.specs.declared.session.Session.{Session}
use Rattle.rist_wire.specs.Writing.{is_spent}
use Rattle.rist_sender.specs.declared.answer.Answer.{Answer}
use Rattle.sender_rules.specs.declared.send_bad.SendBad.{SendBad}
use Rattle.rist_sender.specs.Links.{Tried, taken_as, datagrams_taken}
use Rattle.rist_sender.specs.Messages.{Message}
use Rattle.rist_sender.specs.History.{Write, Event, Called, Sent, Wrote, Renewed, effective_time, packet_count, is_down, tried_as, tried_on}
use Rattle.rist_sender.specs.Calls.{Work, Due, Rules, IfElse, WritesInTurn, Spreads, SendsPacket, SendsNext, TicksInTurn, Sends, FeedsBack, Ticks, after_due, after_write, without_pair, called_at, written_as, with_event, after_copy, after_sent, is_settled, is_ended, packet_for}
use Rattle.world_rules.specs.SentFlows.{SentPayload, SentFlow, with_sent, is_known}
use Rattle.world_rules.specs.Flows.{payload_of, flows_of, flow_after, first_after, put_on}

-- an event begins no flow
abbrev pub IsOfFlow : Event → Type 0
IsOfFlow (Called micros) = Unit {0}
IsOfFlow (Sent packet) = Unit {0}
IsOfFlow (Wrote write) = Unit {0}
IsOfFlow (Renewed flow first) = ⊥

abbrev pub AreOfFlow : List Event → Type 0
AreOfFlow [] = Unit {0}
AreOfFlow (event ∷ before) = IsOfFlow event × AreOfFlow before

-- these events were added, and none of them begins a flow
pub record Adds (from to : Work) : Type 0 where
  pub added : List Event
  pub is : to.history ≡ added ++ from.history
  pub same : AreOfFlow added

adds_none : (from to : Work) → to.history ≡ from.history → Adds from to
adds_none from to is = record { added = []; is = is; same = tt }

of_flow_append : (xs ys : List Event) → AreOfFlow xs → AreOfFlow ys → AreOfFlow (xs ++ ys)
of_flow_append [] ys a b = b
of_flow_append (x ∷ xs) ys a b = (a.0, of_flow_append xs ys a.1 b)

adds_then : (from between to : Work) → Adds from between → Adds between to → Adds from to
adds_then from between to a b = record {
  added = b.added ++ a.added;
  is = b.is ∙ ap (λ h. b.added ++ h) a.is ∙ sym (append_assoc b.added a.added from.history);
  same = of_flow_append b.added a.added b.same a.same;
}

adds_called : (micros : ℕ) (from : Work) → Adds from (called_at micros from)
adds_called micros from = record { added = Called micros ∷ []; is = refl; same = (tt, tt) }

adds_due : (tick : ℕ) (due : Due) (answer : Answer) (from : Work) → Adds from (after_due tick due answer from)
adds_due tick due answer from =
    elim (is_down from.history due.link) as (λ (c : Bool). Adds from (if c then from else (if is_spent from.sealer then without_pair from else after_write tick due answer from))) [
      | true ↦ adds_none from from refl
      | false ↦ elim (is_spent from.sealer) as (λ (c : Bool). Adds from (if c then without_pair from else after_write tick due answer from)) [
        | true ↦ adds_none from (without_pair from) refl
        | false ↦ record { added = _ ∷ []; is = refl; same = (tt, tt) }
      ]
    ]

adds_writes : (tick : ℕ) (dues : List Due) (from to : Work) → WritesInTurn tick dues from to → Adds from to
adds_writes tick [] from to is = adds_none from to (ap (λ (w : Work). w.history) is)
adds_writes tick (due ∷ dues) from to (answer, rest) =
    adds_then from (after_due tick due answer from) to (adds_due tick due answer from) (adds_writes tick dues (after_due tick due answer from) to rest)

adds_copy : (tick : ℕ) (pair : Option Pair) (message : Message) (link : ℕ) (answer : Answer) (from : Work) → Adds from (after_copy tick pair message link answer from)
adds_copy tick pair message link answer from =
    elim (is_down from.history link) as (λ (c : Bool). Adds from (if c then from else with_event (Wrote (written_as tick pair (record { link = link; message = message }) answer)) from)) [
      | true ↦ adds_none from from refl
      | false ↦ record { added = Wrote (written_as tick pair (record { link = link; message = message }) answer) ∷ []; is = refl; same = (tt, tt) }
    ]

adds_spreads : (one : Bool) (tick : ℕ) (pair : Option Pair) (message : Message) (links : List ℕ) (from to : Work) → Spreads one tick pair message links from to → Adds from to
adds_spreads one tick pair message [] from to is = adds_none from to (ap (λ (w : Work). w.history) is)
adds_spreads one tick pair message (link ∷ links) from to (answer, rest) =
    settled (is_settled one link answer from) (λ more. adds_spreads one tick pair message links (after_copy tick pair message link answer from) to more) rest
  where
    settled : (c : Bool) → (Spreads one tick pair message links (after_copy tick pair message link answer from) to → Adds (after_copy tick pair message link answer from) to)
        → IfElse c (to ≡ after_copy tick pair message link answer from) (Spreads one tick pair message links (after_copy tick pair message link answer from) to) → Adds from to
    settled true on done =
        adds_then from (after_copy tick pair message link answer from) to (adds_copy tick pair message link answer from) (adds_none (after_copy tick pair message link answer from) to (ap (λ (w : Work). w.history) done))
    settled false on more = adds_then from (after_copy tick pair message link answer from) to (adds_copy tick pair message link answer from) (on more)

adds_packet : (rules : Rules) (k tick : ℕ) (packet : Packet) (from to : Work) → SendsPacket rules k tick packet from to → Adds from to
adds_packet rules k tick packet from to sends =
    adds_then from (after_sent packet from) to (record { added = Sent packet ∷ []; is = refl; same = (tt, tt) }) (adds_spreads _ _ _ _ _ (after_sent packet from) to sends)

adds_next : (rules : Rules) (payload : List ℕ) (from to : Work) → SendsNext rules payload from to → Adds from to
adds_next rules payload from to sends = by (is_ended (rules.first + packet_count from.history) from) sends
  where
    by : (c : Bool) → IfElse c (to ≡ without_pair from) (SendsPacket rules (packet_count from.history) (effective_time from.history) (packet_for rules.nulls (rules.first + packet_count from.history) (effective_time from.history) payload) from to)
        → Adds from to
    by true is = adds_none from to (ap (λ (w : Work). w.history) is)
    by false more = adds_packet rules (packet_count from.history) (effective_time from.history) (packet_for rules.nulls (rules.first + packet_count from.history) (effective_time from.history) payload) from to more

pub adds_sends : (rules : Rules) (links micros : ℕ) (payload : List ℕ) (result : Result Unit SendBad) (from to : Work) → Sends rules links micros payload result from to → Adds from to
adds_sends rules links micros payload result from to s = adds_then from (called_at micros from) to (adds_called micros from) (adds_next rules payload (called_at micros from) to s.writes)

pub adds_feeds : (rules : Rules) (links micros link : ℕ) (compound : List Content) (result : Result ℕ SendBad) (from to : Work) → FeedsBack rules links micros link compound result from to → Adds from to
adds_feeds rules links micros link compound result from to s =
    let w = s.writes in
    adds_then from (called_at micros from) to (adds_called micros from)
    (adds_then (called_at micros from) w.between to (adds_writes _ _ (called_at micros from) w.between w.request) (adds_writes _ _ w.between to w.again))

adds_ticks_in_turn : (keepalives : Bool) (micros : ℕ) (links : List ℕ) (from to : Work) → TicksInTurn keepalives micros links from to → Adds from to
adds_ticks_in_turn keepalives micros [] from to is = adds_none from to (ap (λ (w : Work). w.history) is)
adds_ticks_in_turn keepalives micros (link ∷ links) from to (between, one, rest) =
    adds_then from between to (adds_then from one.between between (adds_writes _ _ from one.between one.report) (adds_writes _ _ one.between between one.keepalive))
    (adds_ticks_in_turn keepalives micros links between to rest)

pub adds_ticks : (rules : Rules) (links micros : ℕ) (result : Result Unit SendBad) (from to : Work) → Ticks rules links micros result from to → Adds from to
adds_ticks rules links micros result from to s = adds_then from (called_at micros from) to (adds_called micros from) (adds_ticks_in_turn _ micros _ (called_at micros from) to s.writes)

-- ---- what that means

pub flow_stays : (flow : ℕ) (added from : List Event) → AreOfFlow added → flow_after flow (added ++ from) ≡ flow_after flow from
flow_stays flow [] from a = refl
flow_stays flow (Called micros ∷ added) from a = flow_stays flow added from a.1
flow_stays flow (Sent packet ∷ added) from a = flow_stays flow added from a.1
flow_stays flow (Wrote write ∷ added) from a = flow_stays flow added from a.1
flow_stays flow (Renewed next number ∷ added) from a = absurd a.0

pub first_stays : (first : ℕ) (added from : List Event) → AreOfFlow added → first_after first (added ++ from) ≡ first_after first from
first_stays first [] from a = refl
first_stays first (Called micros ∷ added) from a = first_stays first added from a.1
first_stays first (Sent packet ∷ added) from a = first_stays first added from a.1
first_stays first (Wrote write ∷ added) from a = first_stays first added from a.1
first_stays first (Renewed next number ∷ added) from a = absurd a.0

-- the SSRCs of flows
abbrev pub names : List SentFlow → List ℕ
names flows = map (λ (f : SentFlow). f.flow) flows

with_names : (p : SentPayload) (flows : List SentFlow) → names (with_sent p flows) ≡ names flows
with_names p [] = refl
with_names p (f ∷ fs) = refl

pub names_stay : (flow first : ℕ) (added from : List Event) → AreOfFlow added → names (flows_of flow first (added ++ from)) ≡ names (flows_of flow first from)
names_stay flow first [] from a = refl
names_stay flow first (Called micros ∷ added) from a = names_stay flow first added from a.1
names_stay flow first (Sent packet ∷ added) from a = with_names (payload_of (effective_time (added ++ from)) packet) (flows_of flow first (added ++ from)) ∙ names_stay flow first added from a.1
names_stay flow first (Wrote write ∷ added) from a = names_stay flow first added from a.1
names_stay flow first (Renewed next number ∷ added) from a = absurd a.0

-- a flow is known where its SSRC is among the names
pub known_by_name : (flows : List SentFlow) (flow : ℕ) → is_known flows flow ≡ list_any (λ n. n == flow) (names flows)
known_by_name [] flow = refl
known_by_name (f ∷ fs) flow = ap (λ b. f.flow == flow || b) (known_by_name fs flow)

-- ---- what was put on a link

abbrev one : Bool → Tried → List Tried
one here tried = if here then tried ∷ [] else []

tried_added : (seen : Write → Tried) (link : ℕ) (added from : List Event) → tried_on seen link (added ++ from) ≡ tried_on seen link from ++ tried_on seen link added
tried_added seen link [] from = sym (append-nil (tried_on seen link from))
tried_added seen link (Called micros ∷ added) from = tried_added seen link added from
tried_added seen link (Sent packet ∷ added) from = tried_added seen link added from
tried_added seen link (Wrote write ∷ added) from =
    ap (λ ts. ts ++ one (write.link == link) (seen write)) (tried_added seen link added from)
    ∙ append_assoc (tried_on seen link from) (tried_on seen link added) (one (write.link == link) (seen write))
tried_added seen link (Renewed next number ∷ added) from = tried_added seen link added from

put_added : (flow : ℕ) (session : Session) (link : ℕ) (added from : List Event) → AreOfFlow added
    → put_on flow session link (added ++ from) ≡ put_on flow session link from ++ tried_on (tried_as (flow_after flow from) session) link added
put_added flow session link [] from a = sym (append-nil (put_on flow session link from))
put_added flow session link (Called micros ∷ added) from a = put_added flow session link added from a.1
put_added flow session link (Sent packet ∷ added) from a = put_added flow session link added from a.1
put_added flow session link (Wrote write ∷ added) from a =
    let f : ℕ = flow_after flow from in
    ap (λ k. put_on flow session link (added ++ from) ++ one (write.link == link) (tried_as k session write)) (flow_stays flow added from a.1)
    ∙ ap (λ ts. ts ++ one (write.link == link) (tried_as f session write)) (put_added flow session link added from a.1)
    ∙ append_assoc (put_on flow session link from) (tried_on (tried_as f session) link added) (one (write.link == link) (tried_as f session write))
put_added flow session link (Renewed next number ∷ added) from a = absurd a.0

same_behind : (xs ys zs : List Tried) → xs ++ ys ≡ xs ++ zs → ys ≡ zs
same_behind [] ys zs e = e
same_behind (x ∷ xs) ys zs e = same_behind xs ys zs (ap (drop 1) e)

taken_append : (ts us : List Tried) → datagrams_taken (ts ++ us) ≡ datagrams_taken ts ++ datagrams_taken us
taken_append [] us = refl
taken_append (t ∷ ts) us =
    ap (λ ds. taken_as t.channel t.octets t.answer ++ ds) (taken_append ts us)
    ∙ sym (append_assoc (taken_as t.channel t.octets t.answer) (datagrams_taken ts) (datagrams_taken us))

-- what a link was given in a call stands behind what was put on it before
pub put_since : (flow : ℕ) (session : Session) (link : ℕ) (from to : Work) (gained : List Tried) → Adds from to
    → tried_on (tried_as (flow_after flow from.history) session) link to.history ≡ tried_on (tried_as (flow_after flow from.history) session) link from.history ++ gained
    → put_on flow session link to.history ≡ put_on flow session link from.history ++ gained
put_since flow session link from to gained a is =
    let seen = tried_as (flow_after flow from.history) session in
    let behind : tried_on seen link a.added ≡ gained
    = same_behind (tried_on seen link from.history) (tried_on seen link a.added) gained
    (sym (tried_added seen link a.added from.history) ∙ ap (tried_on seen link) (sym a.is) ∙ is) in
    ap (put_on flow session link) a.is
    ∙ put_added flow session link a.added from.history a.same
    ∙ ap (λ ts. put_on flow session link from.history ++ ts) behind

-- and so does what it took
pub taken_since : (flow : ℕ) (session : Session) (link : ℕ) (from to : Work) (gained : List Tried) → Adds from to
    → tried_on (tried_as (flow_after flow from.history) session) link to.history ≡ tried_on (tried_as (flow_after flow from.history) session) link from.history ++ gained
    → datagrams_taken (put_on flow session link to.history) ≡ datagrams_taken (put_on flow session link from.history) ++ datagrams_taken gained
taken_since flow session link from to gained a is =
    ap datagrams_taken (put_since flow session link from to gained a is)
    ∙ taken_append (put_on flow session link from.history) gained
