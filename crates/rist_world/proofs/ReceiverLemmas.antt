-- A world after a move of its receiver.
use Rattle.std.proofs.Common.{◌≡◌, ◌≢◌, ◌∙◌, ℕ, zero, suc, ◌+◌, ◌*◌, ◌<◌, Bool, true, false, List, [], ◌∷◌, ◌++◌, length, map, replicate, set, get_or, Option, None, Some, Result, Ok, Err, IfOk, refl, sym, ap, subst, arith, slice_get, append-nil}
use Rattle.std.specs.Prelude.{nat_lt, if◌then◌else◌, is_err, is_some, cond, ◌&&◌, ◌||◌, ◌==◌}
use Rattle.std.specs.List.{count_by}
use Rattle.std.proofs.lemmas.List.Sums.{sum_by-cons}
use Rattle.std.proofs.lemmas.Bool.{true≢false, ltb-true}
use Rattle.std.proofs.lemmas.List.{set-get_or, map-set, get_or-map, length-replicate, get_or-replicate}
use Rattle.outside_io.specs.Told.{Writes}
use Rattle.outside_net.specs.Links.{Datagram}
use Rattle.receiver_rules.specs.Steps.{tick_of, has_ended}
use Rattle.receiver_rules.specs.History.{released_bytes}
use Rattle.reorder_buffer.specs.declared.phase.Phase.{Phase}
use Rattle.reorder_buffer.specs.declared.phase.Phase.TheVariants.{Open}
use Rattle.psk_seal.specs.declared.sealer.Spent as seal
use Rattle.request_rules.specs.Steps.{Step, Input, Media, Control, Keepalive, Refused, Tick, End, buffer_history, receiver_input, effective_time}
use Rattle.receiver_rules.specs.ReceiverSteps.{buffer_event}
use Rattle.rist_wire.specs.Writing.{ShutterState, pairs_left}
use Rattle.rist_wire.specs.declared.session.Session.{Session}
use Rattle.rist_wire.specs.declared.bad.WireBad.{WireBad}
use Rattle.rist_wire.specs.declared.item.Item.{Item}
use Rattle.rist_wire.specs.Item.{item_of}
use Rattle.rist_ends.specs.Items.{input_read}
use Rattle.rist_reporter.specs.Control.{ControlSettings, Datagram as ControlDatagram, input_datagrams}
use Rattle.rist_reporter.specs.declared.out.Outs.{Outs}
use Rattle.rist_reporter.specs.OneMore.{AnswersAfter, step_answered, is_short, answer_count, after_pairs, outs_of}
use Rattle.rist_ends.specs.declared.told.Told.{Told}
use Rattle.rist_ends.specs.declared.told.What.{What}
use Rattle.rist_ends.specs.declared.told.What.TheVariants as whats
use Rattle.rist_ends.specs.declared.outcome.Outcome.{Outcome}
use Rattle.rist_ends.specs.declared.outcome.Outcome.TheVariants as outcomes
use Rattle.rist_ends.specs.Outcome.{IfStepped, is_stepped, result_of}
use Rattle.rist_ends.specs.Receiver.{ReceiverState, IsReceiverAfter, Steps, settings_of}
use Rattle.rist_ends.specs.Told.{step_of, input_of, phase_after}
use Rattle.sender_rules.specs.Bonding.{link_count}
use Rattle.psk_seal.specs.Sealer.{SealerState}
use Rattle.rist_ends.specs.declared.settings.Settings.{Settings as ReceiverSettings}
use Rattle.rist_ends.specs.Settings.{control_settings}
use Rattle.rist_sender.specs.declared.settings.Settings.{Settings as SenderSettings}
use Rattle.rist_sender.specs.Sender.{SenderState, IsSenderAfter, has_keepalives}
use Rattle.rist_sender.specs.Calls.{Work, IfElse}
use Rattle.world_rules.specs.World.{Setup, Course, Carried, beginning, links_of, forward_on, forward_at, datagram_made, datagrams_made, Receives, ReceivesIf, step_carried, with_carried, CarriesIf}
use Rattle.world_rules.specs.Counts.{sent_count, carried_count, was_carried, media_of, media_read}
use Rattle.rist_ends.specs.Counts.{capped}
use Rattle.world_rules.proofs.CourseLemmas.{none_short}
use Rattle.rist_world.specs.Tally.{TallyState, IsTallyOf, raised_if, came_at}
use Rattle.rist_world.specs.World.{WireState, WrittenState, WorldState, IsWorldAfter, GoesTo, GoesOn, phase_of, datagrams_on, none, setup_of}
use Rattle.rist_world.proofs.SenderLemmas.{some_same}
use Rattle.rist_world.proofs.TallyLemmas.{one_if}

-- ---- what is put back

pub put_back_is : {A E : Type 0} → (ws : List WireState) (i link : ℕ) (d now : WireState) (ds : List Datagram) (r : Result A E) → i < length ws → i ≡ link → IfOk r (λ done. now.put ≡ (get_or ws i d).put ++ ds)
    → IfOk r (λ done. datagrams_on (set ws i now) ≡ set (datagrams_on ws) link (get_or (datagrams_on ws) link [] ++ ds))
put_back_is ws i link d now ds (Err e) within same is = tt
put_back_is ws i link d now ds (Ok x) within same is =
    subst (λ k. datagrams_on (set ws i now) ≡ set (datagrams_on ws) k (get_or (datagrams_on ws) k [] ++ ds)) same
    (map-set (λ (w : WireState). w.put) ws i now
    ∙ ap (set (datagrams_on ws) i) (is ∙ ap (λ us. us ++ ds) (sym (get_or-map (λ (w : WireState). w.put) ws i d [] within))))

-- ---- the outcome of a step

if_stepped : {P : Type 0} → (outcome : Outcome) → is_stepped outcome ≡ true → IfStepped outcome P → P
if_stepped outcomes.Stopped is p = absurd (true≢false (sym is))
if_stepped outcomes.WriteFault is p = absurd (true≢false (sym is))
if_stepped (outcomes.Verdict v) is p = p
if_stepped outcomes.Spent is p = p
if_stepped (outcomes.Made outs) is p = p
if_stepped outcomes.Nothing is p = p

not_stopped : (outcome : Outcome) → is_stepped outcome ≡ true → outcome ≡ outcomes.Stopped → ⊥
not_stopped outcome is e = true≢false (sym is ∙ ap is_stepped e)

-- ---- a step that couldn't be answered

-- a step that makes no datagrams is always answered
silent : (settings : ControlSettings) (shutter : ShutterState) (before : List Step) (step : Step) (result : Result (Option Outs) seal.Spent) → AnswersAfter settings shutter before step result
    → ((muted : Bool) → length (if muted then [] else input_datagrams settings before step.link (effective_time (step ∷ before)) step.input) ≡ 0) → is_err result ≡ false
silent settings shutter before step result a nothing = a.spent ∙ ap (is_short (pairs_left shutter.sealer)) (nothing settings.is_muted) ∙ none_short (pairs_left shutter.sealer)

nothing_made : (muted : Bool) → length {A = ControlDatagram} (if muted then [] else []) ≡ 0
nothing_made true = refl
nothing_made false = refl

event_same : (settings : ControlSettings) (shutter : ShutterState) (before : List Step) (link tick : ℕ) (input : Input) (result : Result (Option Outs) seal.Spent)
    → AnswersAfter settings shutter before (record { link = link; tick = tick; input = input }) result
    → buffer_event (receiver_input (step_answered (record { link = link; tick = tick; input = input }) result).input) ≡ buffer_event (receiver_input input)
event_same settings shutter before link tick input (Ok made) a = refl
event_same settings shutter before link tick (Media arrival) (Err spent) a =
    absurd (true≢false (silent settings shutter before (record { link = link; tick = tick; input = Media arrival }) (Err spent) a nothing_made))
event_same settings shutter before link tick (Control sample request) (Err spent) a = refl
event_same settings shutter before link tick Keepalive (Err spent) a = refl
event_same settings shutter before link tick Refused (Err spent) a = refl
event_same settings shutter before link tick (Tick micros) (Err spent) a = refl
event_same settings shutter before link tick End (Err spent) a =
    absurd (true≢false (silent settings shutter before (record { link = link; tick = tick; input = End }) (Err spent) a nothing_made))

tick_same : (step : Step) (result : Result (Option Outs) seal.Spent) → (step_answered step result).tick ≡ step.tick
tick_same step (Ok made) = refl
tick_same step (Err spent) = refl

-- the buffer sees the same
history_same : (settings : ControlSettings) (shutter : ShutterState) (before : List Step) (step : Step) (result : Result (Option Outs) seal.Spent) → AnswersAfter settings shutter before step result
    → buffer_history (step_answered step result ∷ before) ≡ buffer_history (step ∷ before)
history_same settings shutter before step result a =
    λ i. record { tick = tick_same step result i; event = event_same settings shutter before step.link step.tick step.input result a i } ∷ buffer_history before

-- ---- phases

open_then : (ended : Bool) (phase : Phase) → phase ≡ phase_of ended → (phase ≢ Open → ⊥) → ended ≡ false
open_then false phase is opens = refl
open_then true phase is opens = absurd (opens (λ (e : phase ≡ Open). cc))

phase_then : (what : What) (us link tick : ℕ) (before : List Step) → has_ended (buffer_history before) ≡ false → phase_after what ≡ phase_of (has_ended (buffer_history (step_of (record { link = link; us = us; what = what }) ∷ before)))
phase_then (whats.Media arrival) us link tick before is = ap phase_of (sym is)
phase_then (whats.Control compound) us link tick before is = ap phase_of (sym is)
phase_then whats.Keepalive us link tick before is = ap phase_of (sym is)
phase_then whats.Refused us link tick before is = ap phase_of (sym is)
phase_then whats.Tick us link tick before is = ap phase_of (sym is)
phase_then whats.End us link tick before is = refl

ended_then : (ended : Bool) (phase : Phase) → phase ≡ phase_of ended → phase ≢ Open → ended ≡ true
ended_then true phase is closed = refl
ended_then false phase is closed = absurd (closed is)

-- ---- what was written

written_then : (was now first whole : List ℕ) → was ≡ first → Writes (Some was) (Some now) first whole → now ≡ whole
written_then was now first whole is (gain, more, all) = some_same _ _ more ∙ ap (λ o. o ++ gain) is ∙ sym all

limits_then : (r : ReceiverState) (setup : Setup) (from : Course) (step : Step) (was now : Option (List ℕ)) → settings_of r ≡ setup.control
    → Writes was now (released_bytes r.buffer.limits (buffer_history from.steps)) (released_bytes r.buffer.limits (buffer_history (step ∷ from.steps)))
    → Writes was now (released_bytes setup.control.limits (buffer_history from.steps)) (released_bytes setup.control.limits (buffer_history (step ∷ from.steps)))
limits_then r setup from step was now is w =
    subst (λ (c : ControlSettings). Writes was now (released_bytes c.limits (buffer_history from.steps)) (released_bytes c.limits (buffer_history (step ∷ from.steps)))) is w

-- ---- a step

-- a step of the receiver leaves the tally as it was
tally_stays : (setup : Setup) (t : TallyState) (from to : Course) → to.work ≡ from.work → to.carried ≡ from.carried → IsTallyOf setup t from → IsTallyOf setup t to
tally_stays setup t from to work carried is =
    record {
      sent = is.sent ∙ ap (λ (x : Work). capped (sent_count x.history)) (sym work);
      carried = is.carried ∙ ap (λ cs. capped (carried_count setup cs)) (sym carried);
      links = is.links;
      came = λ link place among. is.came link place among ∙ ap (λ cs. was_carried cs link place) (sym carried);
    }

pub step_goes : (setup : Setup) (old : WorldState) (r : ReceiverState) (w : WrittenState) (b : List WireState) (from : Course) (told : Told) (outcome : Outcome) → is_stepped outcome ≡ true → IsWorldAfter setup old from
    → Steps old.receiver r told outcome (Some old.written.octets) (Some w.octets)
    → datagrams_on b ≡ set (datagrams_on old.backward) told.link (get_or (datagrams_on old.backward) told.link [] ++ datagrams_made (result_of outcome))
    → GoesTo setup (record { sender = old.sender; near = old.near; receiver = r; far = old.far; written = w; forward = old.forward; backward = b; media = old.media; flows = old.flows; tally = old.tally }) (ReceivesIf setup (step_of told) from)
step_goes setup old r w b from told outcome stepped is s back =
    let running : has_ended (buffer_history from.steps) ≡ false
    = open_then (has_ended (buffer_history from.steps)) old.receiver.buffer.phase is.phase (λ closed. not_stopped outcome stepped (s.ended closed)) in
    let answers : AnswersAfter setup.control (record { session = setup.session; sealer = from.sealer }) from.steps (step_of told) (result_of outcome)
    = subst (λ control. AnswersAfter control (record { session = setup.session; sealer = from.sealer }) from.steps (step_of told) (result_of outcome)) is.control
    (subst (λ shutter. AnswersAfter (settings_of old.receiver) shutter from.steps (step_of told) (result_of outcome)) is.shutter (if_stepped outcome stepped s.made from.steps is.receiver)) in
    let same = history_same setup.control (record { session = setup.session; sealer = from.sealer }) from.steps (step_of told) (result_of outcome) answers in
    let to : Course = record {
      work = from.work;
      steps = step_answered (step_of told) (result_of outcome) ∷ from.steps;
      sealer = after_pairs (answer_count (result_of outcome)) from.sealer;
      backward = set from.backward told.link (get_or from.backward told.link [] ++ datagrams_made (result_of outcome));
      carried = from.carried;
    } in
    record {
      to = to;
      fact = subst (λ c. IfElse c (to ≡ from) (Receives setup (step_of told) from to)) (sym running) (record { result = result_of outcome; answers = answers; is = refl });
      stands = record {
        sender = is.sender;
        rules = is.rules;
        sending = is.sending;
        near = is.near;
        far = is.far;
        links = is.links;
        forward = is.forward;
        taken = is.taken;
        receiver = if_stepped outcome stepped s.state from.steps is.receiver;
        control = s.settings ∙ is.control;
        shutter = s.pairs ∙ ap (λ (x : ShutterState). record { session = x.session; sealer = after_pairs (answer_count (result_of outcome)) x.sealer }) is.shutter;
        phase = if_stepped outcome stepped s.phase ∙ phase_then told.what told.us told.link (tick_of told.us) from.steps running ∙ ap (λ h. phase_of (has_ended h)) (sym same);
        written = written_then old.written.octets w.octets _ _ is.written (limits_then old.receiver setup from (step_of told) (Some old.written.octets) (Some w.octets) is.control (if_stepped outcome stepped s.sink from.steps is.receiver))
            ∙ ap (released_bytes setup.control.limits) (sym same);
        backward = back ∙ ap (λ ds. set ds told.link (get_or ds told.link [] ++ datagrams_made (result_of outcome))) is.backward;
        media = record { links = is.media.links; marks = is.media.marks };
        flows = is.flows;
        tally = tally_stays setup old.tally from to refl refl is.tally;
      };
    }

-- a step that makes nothing
pub quiet_goes : (setup : Setup) (old : WorldState) (r : ReceiverState) (w : WrittenState) (from : Course) (told : Told) (outcome : Outcome) → is_stepped outcome ≡ true → datagrams_made (result_of outcome) ≡ []
    → IsWorldAfter setup old from → Steps old.receiver r told outcome (Some old.written.octets) (Some w.octets)
    → GoesTo setup (record { sender = old.sender; near = old.near; receiver = r; far = old.far; written = w; forward = old.forward; backward = old.backward; media = old.media; flows = old.flows; tally = old.tally }) (ReceivesIf setup (step_of told) from)
quiet_goes setup old r w from told outcome stepped nothing is s =
    step_goes setup old r w old.backward from told outcome stepped is s
    (sym (ap (λ ds. set (datagrams_on old.backward) told.link (get_or (datagrams_on old.backward) told.link [] ++ ds)) nothing
    ∙ ap (set (datagrams_on old.backward) told.link) (append-nil (get_or (datagrams_on old.backward) told.link []))
    ∙ set-get_or (datagrams_on old.backward) told.link []))

-- a step that makes datagrams, whose links were lent as a slice, and came back
pub made_goes : {A E : Type 0} → (old : WorldState) (r : ReceiverState) (w : WrittenState) (lent b back : List WireState) (told : Told) (outs : Outs) (result : Result A E) {whole : WorldState} → lent ≡ old.backward → back ≡ b
    → Steps old.receiver r told (outcomes.Made outs) (Some old.written.octets) (Some w.octets)
    → IfOk result (λ done. datagrams_on b ≡ set (datagrams_on lent) told.link (get_or (datagrams_on lent) told.link [] ++ map datagram_made (outs_of outs))) → old ≡ whole
    → IfOk result (λ done. GoesOn whole (record { sender = old.sender; near = old.near; receiver = r; far = old.far; written = w; forward = old.forward; backward = back; media = old.media; flows = old.flows; tally = old.tally }) (λ setup from. ReceivesIf setup (step_of told) from))
made_goes old r w lent b back told outs (Err e) was now s is whole = tt
made_goes old r w lent b back told outs (Ok x) was now s is whole = λ setup from stands.
    step_goes setup old r w back from told (outcomes.Made outs) refl (subst (λ w. IsWorldAfter setup w from) (sym whole) stands) s
    (ap datagrams_on now ∙ is ∙ ap (λ ws. set (datagrams_on ws) told.link (get_or (datagrams_on ws) told.link [] ++ map datagram_made (outs_of outs))) was)

-- nothing is done after an end
pub stopped_goes : (setup : Setup) (old : WorldState) (from : Course) (told : Told) → IsWorldAfter setup old from → old.receiver.buffer.phase ≢ Open → GoesTo setup old (ReceivesIf setup (step_of told) from)
stopped_goes setup old from told is closed =
    let ended : has_ended (buffer_history from.steps) ≡ true = ended_then (has_ended (buffer_history from.steps)) old.receiver.buffer.phase is.phase closed in
    record { to = from; fact = subst (λ c. IfElse c (from ≡ from) (Receives setup (step_of told) from from)) (sym ended) refl; stands = is }

-- ---- a datagram that is carried

pub carried_is : (setup : Setup) (old : WorldState) (from : Course) (link place : ℕ) (d : Option Datagram) → IsWorldAfter setup old from
    → d ≡ (if nat_lt link (length old.forward) then slice_get (get_or old.forward link none).put place else None) → forward_at setup from link place ≡ d
carried_is setup old from link place d is e =
    sym (e ∙ ap (λ n. if nat_lt link n then slice_get (get_or old.forward link none).put place else None) is.links ∙ by (nat_lt link (links_of setup)) refl)
  where
    by : (c : Bool) → nat_lt link (links_of setup) ≡ c → (if c then slice_get (get_or old.forward link none).put place else None) ≡ (if c then slice_get (forward_on setup from link) place else None)
    by true among = ap (λ ds. slice_get ds place) (is.forward link none (ltb-true _ _ among))
    by false among = refl

pub absent_goes : (setup : Setup) (old : WorldState) (from : Course) (link place us : ℕ) → IsWorldAfter setup old from → forward_at setup from link place ≡ None
    → GoesTo setup old (λ to. CarriesIf setup link place us (forward_at setup from link place) from to)
absent_goes setup old from link place us is e = record { to = from; fact = subst (λ d. CarriesIf setup link place us d from from) (sym e) refl; stands = is }

-- one where a datagram is media
abbrev one_of : Session → Carried → ℕ
one_of session c = cond (is_some (media_of session c.datagram)) 1 0

-- one more datagram was counted
counted_more : (session : Session) (link place : ℕ) (d : Datagram) (cs : List Carried) (count : ℕ) (media : Bool) → media ≡ is_some (media_of session d) → count ≡ capped (count_by (λ (c : Carried). is_some (media_of session c.datagram)) cs)
    → raised_if media count ≡ capped (count_by (λ (c : Carried). is_some (media_of session c.datagram)) (record { link = link; place = place; datagram = d } ∷ cs))
counted_more session link place d cs count true e is =
    omega (arith, is, sum_by-cons (one_of session) (record { link = link; place = place; datagram = d }) cs, one_if (is_some (media_of session d)) true (sym e))
counted_more session link place d cs count false e is =
    omega (arith, is, sum_by-cons (one_of session) (record { link = link; place = place; datagram = d }) cs, one_if (is_some (media_of session d)) false (sym e))

-- the world before the step, where the datagram was counted
pub carried_then : (setup : Setup) (old : WorldState) (t : TallyState) (from : Course) (link place : ℕ) (d : Datagram) (media : Bool) → media ≡ is_some (media_of setup.session d)
    → t ≡ record old.tally { carried = raised_if media old.tally.carried; came = t.came }
    → ((k at : ℕ) → k < length old.tally.came → came_at t.came k at ≡ ((link == k && place == at) || came_at old.tally.came k at)) → length t.came ≡ length old.tally.came
    → IsWorldAfter setup old from
    → IsWorldAfter setup (record { sender = old.sender; near = old.near; receiver = old.receiver; far = old.far; written = old.written; forward = old.forward; backward = old.backward; media = old.media; flows = old.flows; tally = t }) (with_carried link place d from)
carried_then setup old t from link place d media says counts came size is = record {
  sender = is.sender;
  rules = is.rules;
  sending = is.sending;
  near = is.near;
  far = is.far;
  links = is.links;
  forward = is.forward;
  taken = is.taken;
  receiver = is.receiver;
  control = is.control;
  shutter = is.shutter;
  phase = is.phase;
  written = is.written;
  backward = is.backward;
  media = record { links = is.media.links; marks = is.media.marks };
  flows = is.flows;
  tally = record {
    sent = ap (λ (x : TallyState). x.sent) counts ∙ is.tally.sent;
    carried = ap (λ (x : TallyState). x.carried) counts ∙ counted_more setup.session link place d from.carried old.tally.carried media says is.tally.carried;
    links = size ∙ is.tally.links;
    came = λ k at among. came k at (omega (arith, among, is.tally.links)) ∙ ap (λ b. (link == k && place == at) || b) (is.tally.came k at among);
  };
}

pub carry_goes : (setup : Setup) (new : WorldState) (from : Course) (link place us : ℕ) (d : Datagram) (step : Step) → forward_at setup from link place ≡ Some d → step ≡ step_carried setup link us d
    → GoesTo setup new (ReceivesIf setup step (with_carried link place d from)) → GoesTo setup new (λ to. CarriesIf setup link place us (forward_at setup from link place) from to)
carry_goes setup new from link place us d step at is g = record {
  to = g.to;
  fact = subst (λ x. CarriesIf setup link place us x from g.to) (sym at) (subst (λ s. ReceivesIf setup s (with_carried link place d from) g.to) is g.fact);
  stands = g.stands;
}

-- a datagram that is there comes, is counted, and makes a step
pub carry_all : {A E : Type 0} → (old new : WorldState) {whole : WorldState} (far : Session) (t : TallyState) (link place us : ℕ) (d : Datagram) (item : Result Item WireBad) (what : What) (media : Bool) (result : Result A E) → old ≡ whole
    → far ≡ old.far → Some d ≡ (if nat_lt link (length old.forward) then slice_get (get_or old.forward link none).put place else None) → item ≡ item_of old.far d.channel d.octets → media ≡ is_some (media_read item)
    → ((u : ℕ) → input_of u what ≡ input_read u item) → t ≡ record old.tally { carried = raised_if media old.tally.carried; came = t.came }
    → ((k at : ℕ) → k < length old.tally.came → came_at t.came k at ≡ ((link == k && place == at) || came_at old.tally.came k at)) → length t.came ≡ length old.tally.came
    → IfOk result (λ done. GoesOn (record { sender = old.sender; near = old.near; receiver = old.receiver; far = far; written = old.written; forward = old.forward; backward = old.backward; media = old.media; flows = old.flows; tally = t }) new
    (λ setup from. ReceivesIf setup (step_of (record { link = link; us = us; what = what })) from))
    → IfOk result (λ done. GoesOn whole new (λ setup from to. CarriesIf setup link place us (forward_at setup from link place) from to))
carry_all old new far t link place us d item what media (Err e) same far_is there read says input counts came size goes = tt
carry_all old new far t link place us d item what media (Ok x) same far_is there read says input counts came size goes = λ setup from stands.
    let is = subst (λ w. IsWorldAfter setup w from) (sym same) stands in
    let opened : item ≡ item_of setup.session d.channel d.octets = read ∙ ap (λ session. item_of session d.channel d.octets) is.far in
    let counted = carried_then setup old t from link place d media (says ∙ ap (λ i. is_some (media_read i)) opened) counts came size is in
    let before = subst (λ f. IsWorldAfter setup (record { sender = old.sender; near = old.near; receiver = old.receiver; far = f; written = old.written; forward = old.forward; backward = old.backward; media = old.media; flows = old.flows; tally = t }) (with_carried link place d from)) (sym far_is) counted in
    carry_goes setup new from link place us d (step_of (record { link = link; us = us; what = what })) (carried_is setup old from link place (Some d) is there)
    (ap (λ i. record { link = link; tick = tick_of us; input = i }) (input us ∙ ap (input_read us) opened)) (goes setup (with_carried link place d from) before)

-- ---- before any move

no_datagrams_on : (n : ℕ) → datagrams_on (replicate n none) ≡ replicate n []
no_datagrams_on zero = refl
no_datagrams_on (suc n) = ap (λ ds. [] ∷ ds) (no_datagrams_on n)

pub begins : (session : Session) (near : SenderSettings) (far : ReceiverSettings) (near_sealer far_sealer : Option SealerState) (links : ℕ) (s : SenderState) (n f : Session) (r : ReceiverState) (w : WrittenState) (forward backward : List WireState) (m : List (List (Option Bool))) (flows : List ℕ) (t : TallyState)
    → link_count near.bond ≡ links
    → s.flow ≡ near.flow → s.first ≡ near.first → s.hold ≡ 90 * near.hold → s.store.size ≡ near.store → s.bonding ≡ near.bond → s.session ≡ session
    → IsSenderAfter s (record { history = []; sealer = near_sealer; is_short = false }) → n ≡ session → f ≡ session → settings_of r ≡ control_settings far session
    → r.reporter.shutter ≡ record { session = session; sealer = far_sealer } → r.buffer.phase ≡ Open → IsReceiverAfter r [] → w ≡ record { octets = []; faults = 0 }
    → forward ≡ replicate links none → backward ≡ replicate links none → m ≡ replicate links [] → flows ≡ near.flow ∷ [] → t ≡ record { sent = 0; carried = 0; came = replicate links [] }
    → IsWorldAfter (setup_of session near far) (record { sender = s; near = n; receiver = r; far = f; written = w; forward = forward; backward = backward; media = m; flows = flows; tally = t }) (beginning near_sealer far_sealer links)
begins session near far near_sealer far_sealer links s n f r w forward backward m flows t count flow_is first_is hold_is size_is bond_is session_is state n_is f_is control shutter phase receiver w_is forward_is backward_is media_is flows_is tally_is = record {
  sender = state;
  rules = λ i. record {
    flow = flow_is i;
    first = first_is i;
    hold = hold_is i;
    size = size_is i;
    bonding = bond_is i;
    nulls = (session_is i).nulls;
    keepalives = has_keepalives (session_is i).profile;
  };
  sending = session_is;
  near = n_is;
  far = f_is;
  links = ap length forward_is ∙ length-replicate links none ∙ sym count;
  forward = λ link d among. ap (λ (ws : List WireState). (get_or ws link d).put) forward_is ∙ ap (λ (x : WireState). x.put) (get_or-replicate links link none d (omega (arith, among, count)));
  taken = λ link among. tt;
  receiver = receiver;
  control = control;
  shutter = shutter;
  phase = phase;
  written = ap (λ (x : WrittenState). x.octets) w_is;
  backward = ap datagrams_on backward_is ∙ no_datagrams_on links;
  media = record {
    links = ap length media_is ∙ length-replicate links [] ∙ sym count;
    marks = λ link among. ap (λ ms. get_or ms link []) media_is ∙ get_or-replicate links link [] [] (omega (arith, among, count));
  };
  flows = flows_is;
  tally = subst (λ (x : TallyState). IsTallyOf (setup_of session near far) x (beginning near_sealer far_sealer links)) (sym tally_is)
      (record { sent = refl; carried = refl; links = length-replicate links [] ∙ sym count; came = λ link place among. ap (λ bs. get_or bs place false) (get_or-replicate links link [] [] (omega (arith, among, count))) });
}
