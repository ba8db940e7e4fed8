-- What holds of a run, move after move.
use Rattle.std.proofs.Common.{◌≡◌, ◌∙◌, ℕ, zero, suc, ◌+◌, ◌/◌, ◌%◌, ◌^◌, ◌<◌, ◌≤◌, Bool, true, false, not, List, [], ◌∷◌, ◌++◌, length, Option, None, Some, Result, Ok, Err, refl, sym, ap, subst, arith, slice_get, drop}
use Rattle.std.specs.Prelude.{nat_le, nat_lt, ◌==◌, ◌&&◌, ◌||◌, if◌then◌else◌, is_err, unwrap_or}
use Rattle.std.proofs.lemmas.Bool.{eqb-true, leb-true, ltb-true, le-ltb, true≢false}
use Rattle.seq_unwrap.specs.declared.width.Width.{Width}
use Rattle.seq_unwrap.specs.Nearest.{cycle_of}
use Rattle.receiver_rules.specs.Steps.{tick_of, has_ended, is_end as ends_stream, Event}
use Rattle.receiver_rules.specs.Steps as buffer
use Rattle.receiver_rules.specs.History.{released_payloads}
use Rattle.rtcp_compound.specs.Compound.{Content}
use Rattle.outside_net.specs.Links.{Datagram}
use Rattle.psk_seal.specs.declared.sealer.Spent.{Spent}
use Rattle.psk_seal.specs.Sealer.{SealerState}
use Rattle.request_rules.specs.Steps.{Step, Tick, End, buffer_history, receiver_input, effective_time}
use Rattle.receiver_rules.specs.ReceiverSteps.{buffer_event}
use Rattle.rist_wire.specs.declared.session.Session.{Session}
use Rattle.rist_wire.specs.Item.{item_of}
use Rattle.rist_wire.specs.Writing.{pairs_left}
use Rattle.rist_reporter.specs.Control.{ControlSettings, datagrams_of, input_datagrams}
use Rattle.rist_reporter.specs.declared.out.Outs.{Outs}
use Rattle.rist_reporter.specs.OneMore.{step_answered, is_short}
use Rattle.rist_sender.specs.declared.answer.Answer.{Answer}
use Rattle.rist_sender.specs.declared.answer.Answer.TheVariants.{Took, NoPeer, Failed}
use Rattle.rist_sender.specs.Links.{Tried, taken_as, datagrams_taken}
use Rattle.rist_sender.specs.Calls.{Work, IfElse}
use Rattle.world_rules.specs.SentFlows.{SentFlow, is_known, AreShortFlows, BringsCopy, BringCopies}
use Rattle.world_rules.specs.Reached.{PlaysReached}
use Rattle.world_rules.proofs.GrowLemmas.{all_grow}
use Rattle.world_rules.proofs.RunLemmas.{plays_reached}
use Rattle.world_rules.specs.declared.moves.Move.{Move}
use Rattle.world_rules.specs.declared.moves.Move.TheVariants as moves
use Rattle.world_rules.specs.Flows.{flows_of, put_on}
use Rattle.world_rules.specs.Short.{IsWithin, IsMoveWithin, AreWithin, AreNoEnds, is_end, is_send, send_count, IsShort}
use Rattle.world_rules.specs.World.{Setup, IsSetup, Course, links_of, forward_on, forward_at, backward_at, Works, SendsIn, FeedsIf, compound_carried, Receives, ReceivesIf, step_carried, with_carried, CarriesIf, renewed_in, is_new, Makes, beginning, MakesAll, IsSealerOf}
use Rattle.world_rules.proofs.MessageLemmas.{Brings, HasPairs, has_pairs, event_read}
use Rattle.world_rules.proofs.SenderLemmas.{AllBring, AreSteadyFlows, IsSound, Leaves, more_room, sends_leaves, feeds_leaves, ticks_leaves, renew_leaves}

-- The sender is sound, and each packet that came to the receiver is a copy of what it sent.
pub record IsTrue (setup : Setup) (low count : ℕ) (course : Course) : Type 0 where
  pub current : SentFlow
  pub older : List SentFlow
  pub sound : IsSound setup low count current older course.work
  pub brings : BringCopies setup.session.width (current ∷ older) (buffer_history course.steps)

-- ---- the sender's moves

-- after a call of the sender
left : (setup : Setup) (low count : ℕ) (flows : List SentFlow) (from to : Course) → to.steps ≡ from.steps → BringCopies setup.session.width flows (buffer_history from.steps) → Leaves setup low count flows to.work
    → IsTrue setup low count to
left setup low count flows from to same brings l = record {
  current = l.current;
  older = l.older;
  sound = l.sound;
  brings = subst (λ steps. BringCopies setup.session.width (l.current ∷ l.older) (buffer_history steps)) (sym same)
      (all_grow setup.session.width flows (l.current ∷ l.older) (buffer_history from.steps) l.grows brings);
}

-- after one that sends no payload
left_same : (setup : Setup) (low count : ℕ) (from to : Course) → to.steps ≡ from.steps → (t : IsTrue setup low count from) → IsSound setup low count t.current t.older to.work → IsTrue setup low count to
left_same setup low count from to same t s = record {
  current = t.current;
  older = t.older;
  sound = s;
  brings = subst (λ steps. BringCopies setup.session.width (t.current ∷ t.older) (buffer_history steps)) (sym same) t.brings;
}

-- ---- the receiver's moves

-- a step that was made or couldn't be answered brings a copy where it would
answered : (width : Width) (flows : List SentFlow) (step : Step) (result : Result (Option Outs) Spent) → BringsCopy width flows (buffer_event (receiver_input step.input))
    → BringsCopy width flows (buffer_event (receiver_input (step_answered step result).input))
answered width flows step (Ok made) b = b
answered width flows step (Err spent) b = tt

received : (setup : Setup) (low count : ℕ) (step : Step) (from to : Course) → (t : IsTrue setup low count from) → BringsCopy setup.session.width (t.current ∷ t.older) (buffer_event (receiver_input step.input))
    → Receives setup step from to → IsTrue setup low count to
received setup low count step from to t b r = record {
  current = t.current;
  older = t.older;
  sound = subst (λ (c : Course). IsSound setup low count t.current t.older c.work) (sym r.is) t.sound;
  brings = subst (λ (c : Course). BringCopies setup.session.width (t.current ∷ t.older) (buffer_history c.steps)) (sym r.is)
      (answered setup.session.width (t.current ∷ t.older) step r.result b, t.brings);
}

received_if : (setup : Setup) (low count : ℕ) (step : Step) (from to : Course) (ended : Bool) → (t : IsTrue setup low count from) → BringsCopy setup.session.width (t.current ∷ t.older) (buffer_event (receiver_input step.input))
    → IfElse ended (to ≡ from) (Receives setup step from to) → IsTrue setup low count to
received_if setup low count step from to true t b same = subst (λ (c : Course). IsTrue setup low count c) (sym same) t
received_if setup low count step from to false t b r = received setup low count step from to t b r

-- ---- a datagram that was put

some_same : (x y : Datagram) → ◌≡◌ {A = Option Datagram} (Some x) (Some y) → x ≡ y
some_same x y e = ap (λ (o : Option Datagram). unwrap_or o x) e

suc_is : (n : ℕ) → suc n ≡ n + 1
suc_is n = omega arith

-- the three tests of a new flow
record IsNewFlow (a b c : Bool) : Type 0 where
  small : a ≡ true
  even : b ≡ true
  new : c ≡ false

three : (a b c : Bool) → (a && b && not c) ≡ true → IsNewFlow a b c
three true true false e = record { small = refl; even = refl; new = refl }
three true true true e = cc
three true false c e = cc
three false b c e = cc

taken_brings : (session : Session) (flows : List SentFlow) (tried : Tried) (answer : Answer) (rest : List Datagram) (d : Datagram) (k : ℕ) → Brings session flows tried
    → ((j : ℕ) → slice_get rest j ≡ Some d → (us : ℕ) → BringsCopy session.width flows (event_read us (item_of session d.channel d.octets)))
    → slice_get (taken_as tried.channel tried.octets answer ++ rest) k ≡ Some d → (us : ℕ) → BringsCopy session.width flows (event_read us (item_of session d.channel d.octets))
taken_brings session flows tried Took rest d zero b on is us =
    let e : (let x : Datagram = record { channel = tried.channel; octets = tried.octets } in x) ≡ d = some_same _ _ is in
    subst (λ (x : Datagram). BringsCopy session.width flows (event_read us (item_of session x.channel x.octets))) e (b.is us)
taken_brings session flows tried Took rest d (suc k) b on is us = on k is us
taken_brings session flows tried NoPeer rest d k b on is us = on k is us
taken_brings session flows tried Failed rest d k b on is us = on k is us

put_brings : (session : Session) (flows : List SentFlow) (ts : List Tried) (d : Datagram) (k : ℕ) → AllBring session flows ts → slice_get (datagrams_taken ts) k ≡ Some d
    → (us : ℕ) → BringsCopy session.width flows (event_read us (item_of session d.channel d.octets))
put_brings session flows [] d zero a is us = cc
put_brings session flows [] d (suc k) a is us = cc
put_brings session flows (t ∷ ts) d k a is us = taken_brings session flows t t.answer (datagrams_taken ts) d k a.0 (λ j e. put_brings session flows ts d j a.1 e) is us

-- ---- a move

-- one more datagram on its way changes nothing of that
true_with : (setup : Setup) (low count link place : ℕ) (d : Datagram) (from : Course) → IsTrue setup low count from → IsTrue setup low count (with_carried link place d from)
true_with setup low count link place d from t = record { current = t.current; older = t.older; sound = t.sound; brings = t.brings }

carried : (setup : Setup) (low count link place micros : ℕ) (d : Option Datagram) (from to : Course) → (t : IsTrue setup low count from)
    → ((x : Datagram) → d ≡ Some x → (us : ℕ) → BringsCopy setup.session.width (t.current ∷ t.older) (event_read us (item_of setup.session x.channel x.octets)))
    → CarriesIf setup link place micros d from to → IsTrue setup low count to
unfolding true_with
carried setup low count link place micros None from to t b same = subst (λ (c : Course). IsTrue setup low count c) (sym same) t
carried setup low count link place micros (Some d) from to t b r =
    received_if setup low count (step_carried setup link micros d) (with_carried link place d from) to (has_ended (buffer_history from.steps))
    (true_with setup low count link place d from t) (b d refl micros) r

at_brings : (setup : Setup) (low count link place : ℕ) (from : Course) (t : IsTrue setup low count from) (c : Bool) (x : Datagram)
    → (if c then slice_get (forward_on setup from link) place else None) ≡ Some x → (us : ℕ) → BringsCopy setup.session.width (t.current ∷ t.older) (event_read us (item_of setup.session x.channel x.octets))
at_brings setup low count link place from t true x is us = put_brings setup.session (t.current ∷ t.older) (put_on setup.flow setup.session link from.work.history) x place (t.sound.forward link) is us
at_brings setup low count link place from t false x is us = cc

fed : (setup : Setup) (low count link micros : ℕ) (compound : Option (List Content)) (from to : Course) → IsSetup setup → tick_of micros < low + 2 ^ 31 → IsTrue setup low count from
    → FeedsIf setup micros link compound from to → IsTrue setup low count to
fed setup low count link micros None from to legal below t same = subst (λ (c : Course). IsTrue setup low count c) (sym same) t
fed setup low count link micros (Some compound) from to legal below t w =
    left_same setup low count from to (ap (λ (c : Course). c.steps) w.is) t
    (feeds_leaves setup low count (links_of setup) micros link t.current t.older compound w.works.result from.work to.work legal below t.sound w.works.feeds)

more_true : (setup : Setup) (low count : ℕ) (course : Course) → IsTrue setup low count course → IsTrue setup low (suc count) course
more_true setup low count course t = record { current = t.current; older = t.older; sound = more_room setup low count t.current t.older course.work t.sound; brings = t.brings }

sent_if : (setup : Setup) (low count micros : ℕ) (payload : List ℕ) (fits : Bool) (from to : Course) → IsSetup setup → IsWithin low micros → nat_le (length payload) 1500 ≡ fits → IsTrue setup low count from
    → IfElse fits (Works (SendsIn setup micros payload) from to) (to ≡ from) → IsTrue setup low (suc count) to
sent_if setup low count micros payload true from to legal within few t w =
    left setup low (suc count) (t.current ∷ t.older) from to (ap (λ (c : Course). c.steps) w.is) t.brings
    (sends_leaves setup low count (links_of setup) micros t.current t.older payload w.works.result from.work to.work legal (leb-true _ _ few) w.works.octets within.low within.high t.sound w.works.sends)
sent_if setup low count micros payload false from to legal within few t same = subst (λ (c : Course). IsTrue setup low (suc count) c) (sym same) (more_true setup low count from t)

renewed_if : (setup : Setup) (low count flow first : ℕ) (new : Bool) (from to : Course) → is_new setup from flow ≡ new → IsTrue setup low count from
    → IfElse new (to ≡ renewed_in flow first from) (to ≡ from) → IsTrue setup low count to
renewed_if setup low count flow first true from to is t done =
    let facts = three (nat_lt flow (2 ^ 32)) (flow % 2 == 0) (is_known (flows_of setup.flow setup.first from.work.history) flow) is in
    left setup low count (t.current ∷ t.older) from to (ap (λ (c : Course). c.steps) done) t.brings
    (subst (λ (c : Course). Leaves setup low count (t.current ∷ t.older) c.work) (sym done)
    (renew_leaves setup low count flow first t.current t.older from.work (eqb-true _ _ facts.even) (ltb-true _ _ facts.small) (subst (λ fs. is_known fs flow ≡ false) t.sound.is facts.new) t.sound))
renewed_if setup low count flow first false from to is t same = subst (λ (c : Course). IsTrue setup low count c) (sym same) t

ticked_if : (setup : Setup) (low count link micros : ℕ) (among : Bool) (from to : Course) → IsTrue setup low count from
    → IfElse among (ReceivesIf setup (record { link = link; tick = tick_of micros; input = Tick micros }) from to) (to ≡ from) → IsTrue setup low count to
ticked_if setup low count link micros true from to t r =
    received_if setup low count (record { link = link; tick = tick_of micros; input = Tick micros }) from to (has_ended (buffer_history from.steps)) t tt r
ticked_if setup low count link micros false from to t same = subst (λ (c : Course). IsTrue setup low count c) (sym same) t

-- how many payloads there may be after a move
abbrev count_with : Move → ℕ → ℕ
count_with move count = if is_send move then count + 1 else count

move_true : (setup : Setup) (low count : ℕ) (move : Move) (from to : Course) → IsSetup setup → IsMoveWithin low move → is_end move ≡ false → IsTrue setup low count from → Makes setup move from to
    → IsTrue setup low (count_with move count) to
move_true setup low count (moves.Send micros payload) from to legal within goes t m =
    subst (λ n. IsTrue setup low n to) (suc_is count) (sent_if setup low count micros payload (nat_le (length payload) 1500) from to legal within refl t m)
move_true setup low count (moves.Carry link place micros) from to legal within goes t m =
    carried setup low count link place micros (forward_at setup from link place) from to t (λ x is us. at_brings setup low count link place from t (nat_lt link (links_of setup)) x is us) m
move_true setup low count (moves.CarryBack link place micros) from to legal within goes t m =
    fed setup low count link micros (compound_carried setup (backward_at from link place)) from to legal within.high t m
move_true setup low count (moves.SenderTick micros) from to legal within goes t m =
    left_same setup low count from to (ap (λ (c : Course). c.steps) m.is) t
    (ticks_leaves setup low count (links_of setup) micros t.current t.older m.works.result from.work to.work legal within.high t.sound m.works.ticks)
move_true setup low count (moves.Tick link micros) from to legal within goes t m = ticked_if setup low count link micros (nat_lt link (links_of setup)) from to t m
move_true setup low count (moves.End micros) from to legal within goes t m = cc
move_true setup low count (moves.Renew flow first) from to legal within goes t m = renewed_if setup low count flow first (is_new setup from flow) from to refl t m

-- ---- a script

begins_true : (setup : Setup) (low : ℕ) (near far : Option SealerState) (links : ℕ) → IsSetup setup → HasPairs setup.session near → IsTrue setup low 0 (beginning near far links)
begins_true setup low near far links legal sealer = record {
  current = record { flow = setup.flow; first = setup.first; sent = [] };
  older = [];
  sound = record {
    is = refl;
    flow = refl;
    first = refl;
    many = refl;
    even = legal.even;
    small = legal.small;
    last = omega arith;
    time = omega arith;
    flows = (record { steady = tt; few = omega arith }, tt);
    packets = tt;
    forward = λ link. tt;
    sealer = sealer;
  };
  brings = tt;
}

script_true : (setup : Setup) (low : ℕ) (near far : Option SealerState) (links : ℕ) (script : List Move) (to : Course) → IsSetup setup → HasPairs setup.session near → AreWithin low script → AreNoEnds script
    → MakesAll setup script (beginning near far links) to → IsTrue setup low (send_count script) to
script_true setup low near far links [] to legal sealer within goes is = subst (λ (c : Course). IsTrue setup low 0 c) (sym is) (begins_true setup low near far links legal sealer)
script_true setup low near far links (move ∷ before) to legal sealer within goes (between, first, last) =
    move_true setup low (send_count before) move between to legal within.0 goes.0 (script_true setup low near far links before between legal sealer within.1 goes.1 first) last

-- ---- the end

not_ended : (width : Width) (flows : List SentFlow) (h : List buffer.Step) → BringCopies width flows h → has_ended h ≡ false
not_ended width flows [] b = refl
not_ended width flows (step ∷ before) b = one step.event b.0 ∙ not_ended width flows before b.1
  where
    one : (event : Event) → BringsCopy width flows event → (ends_stream event || has_ended before) ≡ has_ended before
    one (buffer.Media a) b = refl
    one buffer.TimeOnly b = refl
    one buffer.End b = absurd b

short_flows : (width : Width) (low count : ℕ) (flows : List SentFlow) → count < cycle_of width / 2 → AreSteadyFlows low count flows → AreShortFlows width low flows
short_flows width low count [] few a = tt
short_flows width low count (f ∷ fs) few a = (record { few = omega (arith, few, a.0.few); steady = a.0.steady }, short_flows width low count fs few a.1)

-- no pairs are always there
pub none_short : (left : Option ℕ) → is_short left 0 ≡ false
none_short None = refl
none_short (Some n) = le-ltb n 0 (omega arith)

no_datagrams : (settings : ControlSettings) (before : List Step) (tick : ℕ) → length (datagrams_of settings before (record { link = 0; tick = tick; input = End })) ≡ 0
no_datagrams settings before tick = by settings.is_muted
  where
    by : (c : Bool) → length (if c then [] else input_datagrams settings before 0 (effective_time (record { link = 0; tick = tick; input = End } ∷ before)) End) ≡ 0
    by true = refl
    by false = refl

-- the end is always made
end_made : (result : Result (Option Outs) Spent) (step : Step) → is_err result ≡ false → step_answered step result ≡ step
end_made (Ok made) step is = refl
end_made (Err spent) step is = absurd (true≢false is)

ended_by : (setup : Setup) (low count micros : ℕ) (from to : Course) → IsSetup setup → count < cycle_of setup.session.width / 2 → IsTrue setup low count from
    → Receives setup (record { link = 0; tick = tick_of micros; input = End }) from to
    → PlaysReached setup.control.limits setup.session.width (flows_of setup.flow setup.first to.work.history) (drop 1 (buffer_history to.steps)) (released_payloads setup.control.limits (buffer_history to.steps))
ended_by setup low count micros from to legal few t r =
    let step : Step = record { link = 0; tick = tick_of micros; input = End } in
    let ok : is_err r.result ≡ false
    = r.answers.spent ∙ ap (is_short (pairs_left from.sealer)) (no_datagrams setup.control from.steps (tick_of micros)) ∙ none_short (pairs_left from.sealer) in
    let steps : to.steps ≡ step ∷ from.steps = ap (λ (c : Course). c.steps) r.is ∙ ap (λ s. s ∷ from.steps) (end_made r.result step ok) in
    let work : to.work ≡ from.work = ap (λ (c : Course). c.work) r.is in
    let flows : flows_of setup.flow setup.first to.work.history ≡ t.current ∷ t.older = ap (λ (w : Work). flows_of setup.flow setup.first w.history) work ∙ t.sound.is in
    subst (λ fs. PlaysReached setup.control.limits setup.session.width fs (drop 1 (buffer_history to.steps)) (released_payloads setup.control.limits (buffer_history to.steps))) (sym flows)
    (subst (λ ss. PlaysReached setup.control.limits setup.session.width (t.current ∷ t.older) (drop 1 (buffer_history ss)) (released_payloads setup.control.limits (buffer_history ss))) (sym steps)
    (plays_reached setup.control.limits setup.session.width low (t.current ∷ t.older) (buffer_history from.steps) legal.delay
    (short_flows setup.session.width low count (t.current ∷ t.older) few t.sound.flows) t.brings))

last_ends : (setup : Setup) (low count : ℕ) (move : Move) (from to : Course) → IsSetup setup → count < cycle_of setup.session.width / 2 → is_end move ≡ true → IsTrue setup low count from → Makes setup move from to
    → PlaysReached setup.control.limits setup.session.width (flows_of setup.flow setup.first to.work.history) (drop 1 (buffer_history to.steps)) (released_payloads setup.control.limits (buffer_history to.steps))
last_ends setup low count (moves.Send micros payload) from to legal few is t m = cc
last_ends setup low count (moves.Carry link place micros) from to legal few is t m = cc
last_ends setup low count (moves.CarryBack link place micros) from to legal few is t m = cc
last_ends setup low count (moves.SenderTick micros) from to legal few is t m = cc
last_ends setup low count (moves.Tick link micros) from to legal few is t m = cc
last_ends setup low count (moves.End micros) from to legal few is t m =
    ended_by setup low count micros from to legal few t
    (subst (λ (c : Bool). IfElse c (to ≡ from) (Receives setup (record { link = 0; tick = tick_of micros; input = End }) from to)) (not_ended setup.session.width (t.current ∷ t.older) (buffer_history from.steps) t.brings) m)
last_ends setup low count (moves.Renew flow first) from to legal few is t m = cc

last_count : (move : Move) (before : List Move) → send_count before ≤ send_count (move ∷ before)
last_count move before = by (is_send move)
  where
    by : (c : Bool) → send_count before ≤ (if c then send_count before + 1 else send_count before)
    by true = omega arith
    by false = omega arith

at_last : (setup : Setup) (near far : Option SealerState) (last : Move) (before : List Move) (course : Course) (low : ℕ) → IsSetup setup → HasPairs setup.session near → AreWithin low (last ∷ before) → AreNoEnds before
    → is_end last ≡ true → send_count before < cycle_of setup.session.width / 2 → MakesAll setup (last ∷ before) (beginning near far (links_of setup)) course
    → PlaysReached setup.control.limits setup.session.width (flows_of setup.flow setup.first course.work.history) (drop 1 (buffer_history course.steps)) (released_payloads setup.control.limits (buffer_history course.steps))
at_last setup near far last before course low legal sealer within once ends few (between, first, move) =
    last_ends setup low (send_count before) last between course legal few ends
    (script_true setup low near far (links_of setup) before between legal sealer within.1 once first) move

pub plays_short : (setup : Setup) (near far : Option SealerState) (script : List Move) (course : Course) → IsSetup setup → IsSealerOf setup.session near → IsShort setup.session.width script
    → MakesAll setup script (beginning near far (links_of setup)) course
    → PlaysReached setup.control.limits setup.session.width (flows_of setup.flow setup.first course.work.history) (drop 1 (buffer_history course.steps)) (released_payloads setup.control.limits (buffer_history course.steps))
plays_short setup near far script course legal sealer short makes =
    let all = subst (λ s. AreWithin short.least s) short.is short.within in
    let made = subst (λ s. MakesAll setup s (beginning near far (links_of setup)) course) short.is makes in
    let few : send_count short.before < cycle_of setup.session.width / 2
    = omega (arith, last_count short.last short.before, subst (λ s. send_count s < cycle_of setup.session.width / 2) short.is short.sends) in
    at_last setup near far short.last short.before course short.least legal (has_pairs setup.session near sealer) all short.once short.ends few made
