-- A world after a move of its sender.
use Rattle.std.proofs.Common.{◌≡◌, ◌∙◌, ℕ, ◌+◌, ◌%◌, ◌^◌, ◌<◌, Bool, true, false, not, List, [], ◌∷◌, ◌++◌, length, map, get_or, Option, None, Some, Result, Ok, Err, IfOk, refl, sym, ap, subst, arith, slice_get}
use Rattle.std.specs.Prelude.{All, ◌==◌, ◌&&◌, nat_lt, if◌then◌else◌, unwrap_or}
use Rattle.std.specs.List.{AllByRecursion, list_any}
use Rattle.std.proofs.lemmas.Bool.{ltb-true, lt-ltb}
use Rattle.rtcp_compound.specs.Compound.{Content}
use Rattle.outside_net.specs.Links.{Datagram, Quiet}
use Rattle.rist_wire.specs.declared.session.Session.{Session}
use Rattle.rist_wire.specs.declared.item.Item.TheVariants as items
use Rattle.rist_wire.specs.Item.{item_of}
use Rattle.std.proofs.lemmas.List.{get_or-map}
use Rattle.sender_rules.specs.declared.send_bad.SendBad.{SendBad}
use Rattle.outside_net.specs.Links.{LinkTells}
use Rattle.rist_sender.specs.declared.answer.Answer.TheVariants.{Took}
use Rattle.rist_sender.specs.Links.{Tried, datagrams_taken}
use Rattle.rist_sender.specs.History.{tried_as, tried_on}
use Rattle.rist_sender.specs.Calls.{Work, IfElse, Sends, FeedsBack, Ticks, renewed_as}
use Rattle.rist_sender.specs.Sender.{SenderState, IsSenderAfter, StaysSet, DoesWork, rules_of}
use Rattle.world_rules.specs.SentFlows.{SentFlow, is_known}
use Rattle.world_rules.specs.Flows.{flows_of, flow_after, put_on}
use Rattle.world_rules.specs.World.{Setup, Course, links_of, rules_after, Works, SendsIn, TicksIn, FeedsIn, FeedsIf, compound_carried, compound_read, backward_at, renewed_in, is_new}
use Rattle.world_rules.proofs.CountLemmas.{sends_count, feeds_count, ticks_count}
use Rattle.world_rules.proofs.AddLemmas.{Adds, adds_sends, adds_feeds, adds_ticks, flow_stays, first_stays, names_stay, known_by_name, put_since, taken_since}
use Rattle.world_rules.specs.Counts.{sent_count, sent_by, media_of}
use Rattle.rist_ends.specs.Counts.{capped}
use Rattle.rist_world.specs.Tally.{TallyState, IsTallyOf}
use Rattle.rist_world.proofs.MarkLemmas.{marked_since}
use Rattle.rist_world.proofs.SoundLemmas.{none_failed, each_taken, all_more}
use Rattle.rist_world.specs.World.{WireState, WorldState, IsWorldAfter, GoesTo, GoesOn, AreMarked, AreSound, datagrams_on, marked, none}

-- what a wire tells
abbrev pub wire_line : LinkTells WireState
wire_line = record { taken = λ w. Some w.put; knows = λ w c. true; faults = λ w. w.faults; reads = λ w. Some (λ k. Quiet); ends = λ w. 0 }

-- what follows where a call succeeds
pub ok_then : {A E P Q : Type 0} → (r : Result A E) → IfOk r (λ done. P) → (P → Q) → IfOk r (λ done. Q)
ok_then (Ok x) p goes = goes p
ok_then (Err e) p goes = tt

pub some_same : {A : Type 0} → (x y : A) → ◌≡◌ {A = Option A} (Some x) (Some y) → x ≡ y
some_same {A} x y e = ap (λ (o : Option A). unwrap_or o x) e

-- the rules go on
rules_stay : (setup : Setup) (from to : Work) → Adds from to → rules_after setup to.history ≡ rules_after setup from.history
rules_stay setup from to a =
    ap (rules_after setup) a.is
    ∙ (λ i. record {
      flow = flow_stays setup.flow a.added from.history a.same i;
      first = first_stays setup.first a.added from.history a.same i;
      hold = setup.hold;
      size = setup.size;
      bonding = setup.bonding;
      nulls = setup.session.nulls;
      keepalives = setup.keepalives;
    })

-- what a link was given in a call, as it was put on it
gained_more : (setup : Setup) (old : WorldState) (s : SenderState) (f : List WireState) (from : Course) (Q : Work → Type 0) (d : DoesWork wire_line old.sender s old.forward f from.work Q)
    → IsWorldAfter setup old from → (link : ℕ) (w : WireState) (among : link < length old.forward)
    → tried_on (tried_as (flow_after setup.flow from.work.history) setup.session) link d.to.history
    ≡ tried_on (tried_as (flow_after setup.flow from.work.history) setup.session) link from.work.history ++ (d.given link w among).gained
gained_more setup old s f from Q d is link w among =
    let flow : old.sender.flow ≡ flow_after setup.flow from.work.history = λ i. (is.rules i).flow in
    let g = d.given link w among in
    subst (λ session. tried_on (tried_as (flow_after setup.flow from.work.history) session) link d.to.history ≡ tried_on (tried_as (flow_after setup.flow from.work.history) session) link from.work.history ++ g.gained) is.sending
    (subst (λ flow. tried_on (tried_as flow old.sender.session) link d.to.history ≡ tried_on (tried_as flow old.sender.session) link from.work.history ++ g.gained) flow g.more)

-- a link holds what was put on it, after a call too
forward_goes : (setup : Setup) (old : WorldState) (s : SenderState) (f : List WireState) (from : Course) (Q : Work → Type 0) (d : DoesWork wire_line old.sender s old.forward f from.work Q) → Adds from.work d.to
    → IsWorldAfter setup old from → (link : ℕ) (w : WireState) → link < links_of setup
    → (get_or f link w).put ≡ datagrams_taken (put_on setup.flow setup.session link d.to.history)
forward_goes setup old s f from Q d a is link w among =
    let within : link < length old.forward = omega (arith, among, is.links) in
    let g = d.given link w within in
    some_same _ _ g.delivers.taken
    ∙ ap (λ ds. ds ++ datagrams_taken g.gained) (is.forward link w among)
    ∙ sym (taken_since setup.flow setup.session link from.work d.to g.gained a (gained_more setup old s f from Q d is link w within))

-- and it took all of that, after a call too
taken_goes : (setup : Setup) (old : WorldState) (s : SenderState) (f : List WireState) (from : Course) (Q : Work → Type 0) (d : DoesWork wire_line old.sender s old.forward f from.work Q) → Adds from.work d.to
    → length f ≡ length old.forward → AreSound f → IsWorldAfter setup old from → (link : ℕ) → link < links_of setup
    → AllByRecursion (λ (t : Tried). t.answer ≡ Took) (put_on setup.flow setup.session link d.to.history)
taken_goes setup old s f from Q d a size sound is link among =
    let within : link < length old.forward = omega (arith, among, is.links) in
    let g = d.given link none within in
    subst (λ ts. AllByRecursion (λ (t : Tried). t.answer ≡ Took) ts)
    (sym (put_since setup.flow setup.session link from.work d.to g.gained a (gained_more setup old s f from Q d is link none within)))
    (all_more (λ (t : Tried). t.answer ≡ Took) (put_on setup.flow setup.session link from.work.history) g.gained (is.taken link among)
    (each_taken g.gained (none_failed _ _ _ g.delivers.faults (sound link (omega (arith, within, size)))) g.delivers.answers))

-- a link's marks are those of what was put on it, after a call too
marks_go : (setup : Setup) (old : WorldState) (s : SenderState) (f : List WireState) (m : List (List (Option Bool))) (from : Course) (Q : Work → Type 0) (d : DoesWork wire_line old.sender s old.forward f from.work Q) → Adds from.work d.to
    → length m ≡ length old.media → AreMarked old.far old.media f m → length f ≡ length old.forward → IsWorldAfter setup old from → (link : ℕ) → link < links_of setup
    → get_or m link [] ≡ map (media_of setup.session) (datagrams_taken (put_on setup.flow setup.session link d.to.history))
marks_go setup old s f m from Q d a count marks size is link among =
    let g = d.given link none (omega (arith, among, is.links)) in
    marks link (omega (arith, among, size, is.links)) (omega (arith, among, is.media.links))
    ∙ ap (λ session. marked session (get_or old.media link []) (get_or f link none).put) is.far
    ∙ marked_since setup.session (get_or old.media link []) (get_or old.forward link none).put (datagrams_taken g.gained) (get_or f link none).put
    (is.media.marks link among ∙ ap (map (media_of setup.session)) (sym (is.forward link none among))) (some_same _ _ g.delivers.taken)
    ∙ ap (map (media_of setup.session)) (forward_goes setup old s f from Q d a is link none among)

-- the sender's work goes on
abbrev worked : Work → Course → Course
worked to from = record { work = to; steps = from.steps; sealer = from.sealer; backward = from.backward; carried = from.carried }

-- so many more payloads were counted
tally_sent : (setup : Setup) (old new : TallyState) (from : Course) (to : Work) (more : ℕ) → new ≡ record old { sent = capped (old.sent + more) } → sent_count to.history ≡ sent_count from.work.history + more
    → IsTallyOf setup old from → IsTallyOf setup new (worked to from)
tally_sent setup old new from to more is count t = subst (λ (x : TallyState). IsTallyOf setup x (worked to from)) (sym is)
    (record { sent = omega (arith, count, t.sent); carried = t.carried; links = t.links; came = t.came })

tally_same : (setup : Setup) (old : TallyState) (from : Course) (to : Work) → sent_count to.history ≡ sent_count from.work.history → IsTallyOf setup old from → IsTallyOf setup old (worked to from)
tally_same setup old from to count t = record { sent = t.sent ∙ ap capped (sym count); carried = t.carried; links = t.links; came = t.came }

-- after a call the world goes on
pub sender_goes : (setup : Setup) (old : WorldState) (far : Session) (s : SenderState) (f : List WireState) (m : List (List (Option Bool))) (t : TallyState) (from : Course) (Q : Work → Type 0) (R : Work → Work → Type 0) → ((to : Work) → Q to → Adds from.work to)
    → ((to : Work) → Q to → R from.work to) → ((to : Work) → Q to → IsTallyOf setup t (worked to from)) → far ≡ old.far → length m ≡ length old.media → AreMarked old.far old.media f m → IsWorldAfter setup old from → StaysSet old.sender s → length f ≡ length old.forward → AreSound f → DoesWork wire_line old.sender s old.forward f from.work Q
    → GoesTo setup (record { sender = s; near = old.near; receiver = old.receiver; far = far; written = old.written; forward = f; backward = old.backward; media = m; flows = old.flows; tally = t }) (λ to. Works R from to)
sender_goes setup old far s f m t from Q R adds means counts same count marks is stays size sound d =
    let a = adds d.to d.fact in
    record {
      to = worked d.to from;
      fact = record { works = means d.to d.fact; is = refl };
      stands = record {
        sender = d.stands;
        rules = stays.rules ∙ is.rules ∙ sym (rules_stay setup from.work d.to a);
        sending = stays.session ∙ is.sending;
        near = is.near;
        far = same ∙ is.far;
        links = size ∙ is.links;
        forward = λ link w among. forward_goes setup old s f from Q d a is link w among;
        taken = λ link among. taken_goes setup old s f from Q d a size sound is link among;
        receiver = is.receiver;
        control = is.control;
        shutter = is.shutter;
        phase = is.phase;
        written = is.written;
        backward = is.backward;
        media = record { links = count ∙ is.media.links; marks = λ link among. marks_go setup old s f m from Q d a count marks size is link among };
        flows = is.flows ∙ sym (ap (λ h. map (λ (x : SentFlow). x.flow) (flows_of setup.flow setup.first h)) a.is ∙ names_stay setup.flow setup.first a.added from.work.history a.same);
        tally = counts d.to d.fact;
      };
    }

-- the same where the links were lent as a slice, and came back
lent_goes : (setup : Setup) (old : WorldState) (far : Session) (s : SenderState) (lent f back shown checked : List WireState) (m : List (List (Option Bool))) (t : TallyState) (from : Course) (Q : List WireState → Work → Type 0) (R : Work → Work → Type 0) → lent ≡ old.forward → back ≡ f
    → far ≡ old.far → length m ≡ length old.media → shown ≡ back → AreMarked old.far old.media shown m
    → ((to : Work) → Q old.forward to → Adds from.work to) → ((to : Work) → Q old.forward to → R from.work to) → ((to : Work) → Q old.forward to → IsTallyOf setup t (worked to from)) → IsWorldAfter setup old from → StaysSet old.sender s → length f ≡ length lent → checked ≡ back → AreSound checked
    → DoesWork wire_line old.sender s lent f from.work (Q lent)
    → GoesTo setup (record { sender = s; near = old.near; receiver = old.receiver; far = far; written = old.written; forward = back; backward = old.backward; media = m; flows = old.flows; tally = t }) (λ to. Works R from to)
lent_goes setup old far s lent f back shown checked m t from Q R was now same count seen marks adds means counts is stays size looked sound d =
    subst (λ fs. GoesTo setup (record { sender = s; near = old.near; receiver = old.receiver; far = far; written = old.written; forward = fs; backward = old.backward; media = m; flows = old.flows; tally = t }) (λ to. Works R from to)) (sym now)
    (sender_goes setup old far s f m t from (Q old.forward) R adds means counts same count (subst (λ fs. AreMarked old.far old.media fs m) (seen ∙ now) marks) is stays (size ∙ ap length was) (subst AreSound (looked ∙ now) sound) (subst (λ fs. DoesWork wire_line old.sender s fs f from.work (Q fs)) was d))

-- what each call means in the setup
pub sends_in : (setup : Setup) (old : WorldState) (from : Course) (us : ℕ) (payload : List ℕ) (result : Result Unit SendBad) (to : Work) → All (λ octet. octet < 256) payload → IsWorldAfter setup old from
    → Sends (rules_of old.sender) (length old.forward) us payload result from.work to → SendsIn setup us payload from.work to
sends_in setup old from us payload result to are is sends = record {
  octets = are;
  result = result;
  sends = subst (λ links. Sends (rules_after setup from.work.history) links us payload result from.work to) is.links
      (subst (λ rules. Sends rules (length old.forward) us payload result from.work to) is.rules sends);
}

pub ticks_in : (setup : Setup) (old : WorldState) (from : Course) (us : ℕ) (result : Result Unit SendBad) (to : Work) → IsWorldAfter setup old from
    → Ticks (rules_of old.sender) (length old.forward) us result from.work to → TicksIn setup us from.work to
ticks_in setup old from us result to is ticks = record {
  result = result;
  ticks = subst (λ links. Ticks (rules_after setup from.work.history) links us result from.work to) is.links
      (subst (λ rules. Ticks rules (length old.forward) us result from.work to) is.rules ticks);
}

pub feeds_in : (setup : Setup) (old : WorldState) (from : Course) (us link : ℕ) (compound : List Content) (result : Result ℕ SendBad) (to : Work) → IsWorldAfter setup old from
    → FeedsBack (rules_of old.sender) (length old.forward) us link compound result from.work to → FeedsIn setup us link compound from.work to
feeds_in setup old from us link compound result to is feeds = record {
  result = result;
  feeds = subst (λ links. FeedsBack (rules_after setup from.work.history) links us link compound result from.work to) is.links
      (subst (λ rules. FeedsBack rules (length old.forward) us link compound result from.work to) is.rules feeds);
}

pub send_goes : (setup : Setup) (old : WorldState) (far : Session) (s : SenderState) (lent f back shown checked : List WireState) (m : List (List (Option Bool))) (t : TallyState) (from : Course) (us : ℕ) (payload : List ℕ) (result : Result Unit SendBad) → All (λ octet. octet < 256) payload → t ≡ record old.tally { sent = capped (old.tally.sent + sent_by result) } → IsWorldAfter setup old from → StaysSet old.sender s
    → lent ≡ old.forward → back ≡ f → far ≡ old.far → length m ≡ length old.media → shown ≡ back → AreMarked old.far old.media shown m → length f ≡ length lent → checked ≡ back → AreSound checked → DoesWork wire_line old.sender s lent f from.work (Sends (rules_of old.sender) (length lent) us payload result from.work)
    → GoesTo setup (record { sender = s; near = old.near; receiver = old.receiver; far = far; written = old.written; forward = back; backward = old.backward; media = m; flows = old.flows; tally = t }) (λ to. Works (SendsIn setup us payload) from to)
send_goes setup old far s lent f back shown checked m t from us payload result are counted is stays was now same count seen marks size looked sound d =
    lent_goes setup old far s lent f back shown checked m t from (λ fs. Sends (rules_of old.sender) (length fs) us payload result from.work) (SendsIn setup us payload) was now same count seen marks
    (λ to q. adds_sends _ _ us payload result from.work to q) (λ to q. sends_in setup old from us payload result to are is q)
    (λ to q. tally_sent setup old.tally t from to (sent_by result) counted (sends_count _ _ us payload result from.work to q) is.tally) is stays size looked sound d

pub tick_goes : (setup : Setup) (old : WorldState) (far : Session) (s : SenderState) (lent f back shown checked : List WireState) (m : List (List (Option Bool))) (from : Course) (us : ℕ) (result : Result Unit SendBad) → IsWorldAfter setup old from → StaysSet old.sender s
    → lent ≡ old.forward → back ≡ f → far ≡ old.far → length m ≡ length old.media → shown ≡ back → AreMarked old.far old.media shown m → length f ≡ length lent → checked ≡ back → AreSound checked → DoesWork wire_line old.sender s lent f from.work (Ticks (rules_of old.sender) (length lent) us result from.work)
    → GoesTo setup (record { sender = s; near = old.near; receiver = old.receiver; far = far; written = old.written; forward = back; backward = old.backward; media = m; flows = old.flows; tally = old.tally }) (λ to. Works (TicksIn setup us) from to)
tick_goes setup old far s lent f back shown checked m from us result is stays was now same count seen marks size looked sound d =
    lent_goes setup old far s lent f back shown checked m old.tally from (λ fs. Ticks (rules_of old.sender) (length fs) us result from.work) (TicksIn setup us) was now same count seen marks
    (λ to q. adds_ticks _ _ us result from.work to q) (λ to q. ticks_in setup old from us result to is q)
    (λ to q. tally_same setup old.tally from to (ticks_count _ _ us result from.work to q) is.tally) is stays size looked sound d

pub feedback_goes : (setup : Setup) (old : WorldState) (far : Session) (s : SenderState) (lent f back shown checked : List WireState) (m : List (List (Option Bool))) (from : Course) (us link : ℕ) (compound : List Content) (result : Result ℕ SendBad) → IsWorldAfter setup old from → StaysSet old.sender s
    → lent ≡ old.forward → back ≡ f → far ≡ old.far → length m ≡ length old.media → shown ≡ back → AreMarked old.far old.media shown m → length f ≡ length lent → checked ≡ back → AreSound checked → DoesWork wire_line old.sender s lent f from.work (FeedsBack (rules_of old.sender) (length lent) us link compound result from.work)
    → GoesTo setup (record { sender = s; near = old.near; receiver = old.receiver; far = far; written = old.written; forward = back; backward = old.backward; media = m; flows = old.flows; tally = old.tally }) (λ to. Works (FeedsIn setup us link compound) from to)
feedback_goes setup old far s lent f back shown checked m from us link compound result is stays was now same count seen marks size looked sound d =
    lent_goes setup old far s lent f back shown checked m old.tally from (λ fs. FeedsBack (rules_of old.sender) (length fs) us link compound result from.work) (FeedsIn setup us link compound) was now same count seen marks
    (λ to q. adds_feeds _ _ us link compound result from.work to q) (λ to q. feeds_in setup old from us link compound result to is q)
    (λ to q. tally_same setup old.tally from to (feeds_count _ _ us link compound result from.work to q) is.tally) is stays size looked sound d

-- ---- another flow

-- the tests of a new flow, as the world makes them
pub new_is : (setup : Setup) (old : WorldState) (from : Course) (flow : ℕ) → flow < 2 ^ 32 → IsWorldAfter setup old from
    → is_new setup from flow ≡ ((flow % 2 == 0) && not (list_any (λ n. n == flow) old.flows))
new_is setup old from flow small is =
    ap (λ c. c && (flow % 2 == 0) && not (is_known (flows_of setup.flow setup.first from.work.history) flow)) (lt-ltb _ _ small)
    ∙ ap (λ c. (flow % 2 == 0) && not c) (known_by_name (flows_of setup.flow setup.first from.work.history) flow ∙ ap (list_any (λ n. n == flow)) (sym is.flows))

pub not_new : (setup : Setup) (old whole : WorldState) (from : Course) (flow first : ℕ) → old ≡ whole → IsWorldAfter setup old from → is_new setup from flow ≡ false
    → GoesTo setup whole (λ to. IfElse (is_new setup from flow) (to ≡ renewed_in flow first from) (to ≡ from))
not_new setup old whole from flow first same is e =
    record { to = from; fact = subst (λ c. IfElse c (from ≡ renewed_in flow first from) (from ≡ from)) (sym e) refl; stands = subst (λ w. IsWorldAfter setup w from) same is }

pub renew_goes : (setup : Setup) (old : WorldState) (s : SenderState) (flow first : ℕ) (flows : List ℕ) (from : Course) → IsWorldAfter setup old from → flows ≡ flow ∷ old.flows → is_new setup from flow ≡ true
    → s ≡ record old.sender { flow = flow; first = first; store = record { size = old.sender.store.size; packets = [] }; count = 0; octets = 0 } → IsSenderAfter s (renewed_as flow first from.work)
    → GoesTo setup (record { sender = s; near = old.near; receiver = old.receiver; far = old.far; written = old.written; forward = old.forward; backward = old.backward; media = old.media; flows = flows; tally = old.tally })
    (λ to. IfElse (is_new setup from flow) (to ≡ renewed_in flow first from) (to ≡ from))
renew_goes setup old s flow first flows from is more new value state = record {
  to = renewed_in flow first from;
  fact = subst (λ c. IfElse c (renewed_in flow first from ≡ renewed_in flow first from) (renewed_in flow first from ≡ from)) (sym new) refl;
  stands = record {
    sender = state;
    rules = ap rules_of value ∙ (λ i. record { flow = flow; first = first; hold = (is.rules i).hold; size = (is.rules i).size; bonding = (is.rules i).bonding; nulls = (is.rules i).nulls; keepalives = (is.rules i).keepalives });
    sending = ap (λ (x : SenderState). x.session) value ∙ is.sending;
    near = is.near;
    far = is.far;
    links = is.links;
    forward = is.forward;
    taken = is.taken;
    receiver = is.receiver;
    control = is.control;
    shutter = is.shutter;
    phase = is.phase;
    written = is.written;
    backward = is.backward;
    media = record { links = is.media.links; marks = is.media.marks };
    flows = more ∙ ap (λ fs. flow ∷ fs) is.flows;
    tally = record { sent = is.tally.sent; carried = is.tally.carried; links = is.tally.links; came = is.tally.came };
  };
}

-- ---- a compound that comes back

-- the compound that a datagram is
pub carried_back : (setup : Setup) (old : WorldState) (from : Course) (link place : ℕ) (d : Datagram) (compound : List Content) → IsWorldAfter setup old from
    → Some d ≡ (if nat_lt link (length old.backward) then slice_get (get_or old.backward link none).put place else None) → item_of old.near d.channel d.octets ≡ Ok (items.Control compound)
    → compound_carried setup (backward_at from link place) ≡ Some compound
carried_back setup old from link place d compound is at item =
    ap (compound_carried setup) (ap (λ ds. slice_get (get_or ds link []) place) (sym is.backward) ∙ by (nat_lt link (length old.backward)) refl at)
    ∙ ap (λ session. compound_read (item_of session d.channel d.octets)) (sym is.near) ∙ ap compound_read item
  where
    by : (c : Bool) → nat_lt link (length old.backward) ≡ c → Some d ≡ (if c then slice_get (get_or old.backward link none).put place else None) → slice_get (get_or (datagrams_on old.backward) link []) place ≡ Some d
    by true among e = ap (λ ds. slice_get ds place) (get_or-map (λ (w : WireState). w.put) old.backward link none [] (ltb-true _ _ among)) ∙ sym e
    by false among e = cc

-- a datagram that is there comes, and is a compound
pub back_goes : {A E : Type 0} → (old new : WorldState) {whole : WorldState} (near : Session) (link place us : ℕ) (d : Datagram) (compound : List Content) (result : Result A E) → old ≡ whole → near ≡ old.near
    → Some d ≡ (if nat_lt link (length old.backward) then slice_get (get_or old.backward link none).put place else None) → item_of old.near d.channel d.octets ≡ Ok (items.Control compound)
    → IfOk result (λ done. GoesOn (record { sender = old.sender; near = near; receiver = old.receiver; far = old.far; written = old.written; forward = old.forward; backward = old.backward; media = old.media; flows = old.flows; tally = old.tally }) new
    (λ setup from to. Works (FeedsIn setup us link compound) from to))
    → IfOk result (λ done. GoesOn whole new (λ setup from to. FeedsIf setup us link (compound_carried setup (backward_at from link place)) from to))
back_goes old new near link place us d compound (Err e) same near_is there item goes = tt
back_goes old new near link place us d compound (Ok x) same near_is there item goes = λ setup from stands.
    let is = subst (λ w. IsWorldAfter setup w from) (sym same) stands in
    let g = goes setup from (subst (λ n. IsWorldAfter setup (record { sender = old.sender; near = n; receiver = old.receiver; far = old.far; written = old.written; forward = old.forward; backward = old.backward; media = old.media; flows = old.flows; tally = old.tally }) from) (sym near_is) is) in
    record {
      to = g.to;
      fact = subst (λ x. FeedsIf setup us link x from g.to) (sym (carried_back setup old from link place d compound is there item)) g.fact;
      stands = g.stands;
    }
