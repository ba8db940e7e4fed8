-- The receivers of a split take one more record, and the end.
use Rattle.std.proofs.Common.{◌≡◌, ◌<◌, ℕ, Bool, true, false, ◌||◌, length, map, List, [], ◌∷◌, ◌++◌, slice_get, Option, None, Some, Result, Ok, Err, refl, ap, sym, ◌∙◌, subst, append_assoc, arith}
use Rattle.std.specs.Prelude.{unwrap_or, IsErrOf, IsTrue}
use Rattle.std.specs.Option.{option_map}
use Rattle.std.specs.List.{concat}
use Rattle.std.proofs.lemmas.Option.{slice_get_within}
use Rattle.outside_io.specs.Causes.{HasWriteCause, Rose, RoseWhere, fault_by}
use Rattle.outside_io.specs.Told.{Appends, AppendsPart, IsPrefix, Writes, WritesPart}
use Rattle.outside_io.proofs.ToldLemmas.{appends_both, appends_none}
use Rattle.capture_file.specs.Capture.{Record}
use Rattle.capture_walk.specs.Causes.{walk_fault}
use Rattle.capture_walk.specs.Form.{Form}
use Rattle.capture_walk.specs.Leaves.{Brought, IfBrought}
use Rattle.capture_walk.specs.declared.walk_bad.WalkBad.{WalkBad}
use Rattle.capture_walk.specs.declared.walk_bad.WalkBad.TheVariants as bads
use Rattle.capture_walk.proofs.GoingLemmas.{gained}
use Rattle.receiver_rules.specs.declared.limits.Limits.{Limits}
use Rattle.receiver_rules.specs.Packets.{Packet}
use Rattle.receiver_rules.specs.Steps.{Step, has_ended}
use Rattle.receiver_rules.specs.History.{played_out_packets, released_bytes}
use Rattle.receiver_rules.proofs.HistoryLemmas.{played_out_grows}
use Rattle.reorder_buffer.specs.declared.phase.Phase.TheVariants.{Open, Failed}
use Rattle.request_rules.specs.Steps.{Step as ReceiverStep, buffer_history}
use Rattle.rist_reporter.specs.Control.{ControlSettings}
use Rattle.rist_reporter.specs.declared.out.Outs.{Outs}
use Rattle.rist_ends.specs.declared.told.Told.{Told}
use Rattle.rist_ends.specs.declared.told.What.{What}
use Rattle.rist_ends.specs.declared.told.What.TheVariants as whats
use Rattle.rist_ends.specs.declared.outcome.Answer.{Answer}
use Rattle.rist_ends.specs.declared.outcome.Answer.TheVariants as answers
use Rattle.rist_ends.specs.declared.outcome.Outcome.{Outcome}
use Rattle.rist_ends.specs.declared.outcome.Outcome.TheVariants as outcomes
use Rattle.rist_ends.specs.Outcome.{is_write_fault, outcome_with, result_of}
use Rattle.rist_ends.specs.Told.{IsNoEnd, buffer_step, ended_at, phase_after, step_of}
use Rattle.rist_ends.specs.Receiver.{GoesOn, IsReceiverAfter, MakesStep, Plays, ReceiverState, Steps, settings_of, step_made}
use Rattle.rist_ends.proofs.SteppingLemmas.{concat-map-append}
use Rattle.rist_wire.specs.declared.session.Session.{Session}
use Rattle.rist_wire.specs.Among.{session_at}
use Rattle.rist_desk.specs.Made.{end_told}
use Rattle.rist_desk.specs.Desk.{is_cut_off}
use Rattle.rist_desk.proofs.DeskLemmas.{answer_stopped}
use Rattle.rist_fan.specs.declared.flow.Flow.{Flow}
use Rattle.rist_fan.specs.declared.flow.Came.{Came}
use Rattle.rist_fan.specs.Fan.{AllStep, StepsFlow}
use Rattle.rist_fan.specs.Seen.{is_for, told_for, what_for}
use Rattle.rist_fan.proofs.FanLemmas.{at_some}
use Rattle.rist_replay.specs.Replay.{replayed}
use Rattle.rist_replay.proofs.ReplayLemmas.{muted_step}
use Rattle.rist_split.specs.Split.{AllSplit, AreFresh, IsFresh, IsSplitOff}
use Rattle.rist_split.specs.Inside.Telling.{history_at, step_at}
use Rattle.rist_split.specs.Inside.Splitting.{AllSplitFrom, Fails, FlowsAfter, Goes, HasComeTo, HasSplit, SplitStart, StandsAfter, faults_in, held_in, start_of}
use Rattle.rist_split.proofs.TellingLemmas.{IsOneSessions, history_push, no_end_event, replayed_at}

-- ---- what is written grows

prefix_on : (a b c : List ℕ) → IsPrefix a b → IsPrefix b c → IsPrefix a c
prefix_on a b c p q = (p.0 ++ q.0, q.1 ∙ (ap (λ (l : List ℕ). l ++ q.0) p.1 ∙ append_assoc a p.0 q.0))

released_grows : (limits : Limits) (step : Step) (history : List Step) → has_ended history ≡ false → IsPrefix (released_bytes limits history) (released_bytes limits (step ∷ history))
released_grows limits step history going =
    let grows = played_out_grows limits step history going in (
      concat (map (λ (p : Packet). p.payload) grows.0),
      ap (λ ps. concat (map (λ (p : Packet). p.payload) ps)) grows.1 ∙ concat-map-append (played_out_packets limits history) grows.0,
    )

-- ---- one step of one receiver

-- what a step came to at a receiver and its sink, where the history with it releases the whole
pub data Comes (held : Option (List ℕ)) (before : ℕ) (told : Told) (history : List ReceiverStep) (whole : List ℕ) (answer : Answer) (receiver : ReceiverState) (holds : Option (List ℕ)) (now : ℕ) : Type 0 where
  On : is_cut_off answer ≡ false → IsReceiverAfter receiver history → receiver.buffer.phase ≡ ended_at told → Appends held holds whole → now ≡ before
      → Comes held before told history whole answer receiver holds now
  Off : is_cut_off answer ≡ true → receiver.buffer.phase ≡ Failed → AppendsPart held holds whole → Rose before now
      → Comes held before told history whole answer receiver holds now

module _ (limits : Limits) (held : Option (List ℕ)) (before : ℕ) (history : List ReceiverStep) (told : Told) where
  abbrev ComesTo : Answer → ReceiverState → Option (List ℕ) → ℕ → Type 0
  ComesTo answer receiver holds now = Comes held before told (step_of told ∷ history) (released_bytes limits (buffer_history (step_of told ∷ history))) answer receiver holds now

  made : (o : Outcome) (a : Answer) (r s : ReceiverState) (c e : Option (List ℕ)) (f n : ℕ) → is_cut_off a ≡ false
      → r.buffer.limits ≡ limits → r.reporter.is_muted ≡ true → IsReceiverAfter r history → Appends held c (released_bytes limits (buffer_history history)) → f ≡ before
      → GoesOn r s (step_made told o) → MakesStep r (step_of told) o → Plays r (step_of told) c e → s.buffer.phase ≡ ended_at told → n ≡ f
      → ComesTo a s e n
  made o a r s c e f n sound set muted state written count goes makes plays phase same =
      let step = muted_step (settings_of r) r.reporter.shutter history (step_of told) (result_of o) muted (makes history state) in
      let writes = subst (λ (l : Limits). Writes c e (released_bytes l (buffer_history history)) (released_bytes l (buffer_history (step_of told ∷ history)))) set (plays history state) in
      On sound (subst (λ (x : ReceiverStep). IsReceiverAfter s (x ∷ history)) step (goes history state)) phase (gained held c e _ _ written writes) (same ∙ count)

  -- where it went on
  going_on : (a : Answer) (outs : Outs) (r s : ReceiverState) (c e : Option (List ℕ)) (f n : ℕ)
      → Steps r s told (outcome_with a outs) c e → RoseWhere (is_write_fault (outcome_with a outs)) f n
      → r.buffer.limits ≡ limits → r.reporter.is_muted ≡ true → IsReceiverAfter r history → r.buffer.phase ≡ Open
      → Appends held c (released_bytes limits (buffer_history history)) → f ≡ before → ComesTo a s e n
  going_on answers.Stopped outs r s c e f n work cause set muted state phase written count = absurd (work.stopped refl phase)
  going_on answers.WriteFault outs r s c e f n work cause set muted state phase written count =
      let part = subst (λ (l : Limits). WritesPart c e (released_bytes l (buffer_history history)) (released_bytes l (buffer_history (step_of told ∷ history)))) set (work.part refl history state) in
      Off refl (work.failed refl).phase (released_bytes limits (buffer_history history) ++ part.0, part.2, appends_both held c e (released_bytes limits (buffer_history history)) part.0 written part.1)
      (subst (λ (k : ℕ). Rose k n) count cause)
  going_on (answers.Verdict v) outs r s c e f n work cause set muted state phase written count =
      made (outcomes.Verdict v) (answers.Verdict v) r s c e f n refl set muted state written count work.state work.made work.sink work.phase cause
  going_on answers.Spent outs r s c e f n work cause set muted state phase written count =
      made outcomes.Spent answers.Spent r s c e f n refl set muted state written count work.state work.made work.sink work.phase cause
  going_on answers.Made outs r s c e f n work cause set muted state phase written count =
      made (outcomes.Made outs) answers.Made r s c e f n refl set muted state written count work.state work.made work.sink work.phase cause
  going_on answers.Nothing outs r s c e f n work cause set muted state phase written count =
      made outcomes.Nothing answers.Nothing r s c e f n refl set muted state written count work.state work.made work.sink work.phase cause

  -- where a write had failed
  stopped : (a : Answer) (outs : Outs) (r s : ReceiverState) (c e : Option (List ℕ)) (f n : ℕ)
      → Steps r s told (outcome_with a outs) c e → (a ≡ answers.Stopped → (s ≡ r) × (e ≡ c) × (n ≡ f))
      → has_ended (buffer_history history) ≡ false → r.buffer.phase ≡ Failed
      → AppendsPart held c (released_bytes limits (buffer_history history)) → Rose before f → ComesTo a s e n
  stopped a outs r s c e f n work same going phase part rose =
      let is : a ≡ answers.Stopped = answer_stopped a outs (work.ended (λ running. cc (phase, running))) in
      let stays = same is in
      let grows = released_grows limits (buffer_step (step_of told)) (buffer_history history) going in
      let more : AppendsPart held c (released_bytes limits (buffer_history (step_of told ∷ history))) = (part.0, prefix_on part.0 _ _ part.1 grows, part.2) in
      Off (ap is_cut_off is) (ap (λ (x : ReceiverState). x.buffer.phase) stays.0 ∙ phase)
      (subst (λ (x : Option (List ℕ)). AppendsPart held x (released_bytes limits (buffer_history (step_of told ∷ history)))) (sym stays.1) more)
      (subst (λ (k : ℕ). Rose before k) (sym stays.2) rose)

  comes : (a : Answer) (outs : Outs) (r s : ReceiverState) (c e : Option (List ℕ)) (f n : ℕ)
      → Steps r s told (outcome_with a outs) c e → RoseWhere (is_write_fault (outcome_with a outs)) f n → (a ≡ answers.Stopped → (s ≡ r) × (e ≡ c) × (n ≡ f))
      → StandsAfter limits held before history r c f → ComesTo a s e n
  comes a outs r s c e f n work cause same old = by_state old.state
    where
      by_state : HasComeTo limits held before history r c f → ComesTo a s e n
      by_state (Goes state phase written count) = going_on a outs r s c e f n work cause old.limits_are old.muted state phase written count
      by_state (Fails phase part rose) = stopped a outs r s c e f n work same old.going phase part rose

  no_end_phase : (w : What) → IsNoEnd w → phase_after w ≡ Open
  no_end_phase (whats.Media a) n = refl
  no_end_phase (whats.Control c) n = refl
  no_end_phase whats.Keepalive n = refl
  no_end_phase whats.Refused n = refl
  no_end_phase whats.Tick n = refl
  no_end_phase whats.End n = absurd n

  -- it stands after one step more
  stands_on : (a : Answer) (outs : Outs) (r s : ReceiverState) (c e : Option (List ℕ)) (f n : ℕ)
      → IsNoEnd told.what → Steps r s told (outcome_with a outs) c e → ComesTo a s e n → StandsAfter limits held before history r c f
      → StandsAfter limits held before (step_of told ∷ history) s e n
  stands_on a outs r s c e f n none work came old = record {
    going = ap (λ (b : Bool). b || has_ended (buffer_history history)) (no_end_event told.us told.what none) ∙ old.going;
    limits_are = ap (λ (x : ControlSettings). x.limits) work.settings ∙ old.limits_are;
    muted = ap (λ (x : ControlSettings). x.is_muted) work.settings ∙ old.muted;
    state = by_came came;
  }
    where
      by_came : ComesTo a s e n → HasComeTo limits held before (step_of told ∷ history) s e n
      by_came (On sound state phase written count) = Goes state (phase ∙ no_end_phase told.what none) written count
      by_came (Off cut phase part rose) = Fails phase part rose

-- what came of the end
split_off : (held : Option (List ℕ)) (before : ℕ) (told : Told) (history : List ReceiverStep) (whole : List ℕ) (a : Answer) (s : ReceiverState) (e : Option (List ℕ)) (n : ℕ)
    → Comes held before told history whole a s e n → IsSplitOff whole held e before n (is_cut_off a)
split_off held before told history whole a s e n (On sound state phase written count) =
    subst (λ (b : Bool). IsSplitOff whole held e before n b) (sym sound) (record { written = written; cause = count })
split_off held before told history whole a s e n (Off cut phase part rose) =
    subst (λ (b : Bool). IsSplitOff whole held e before n b) (sym cut) (record { written = part; cause = rose })

-- ---- all of them

module _ {K : Type 0} (contents : K → Option (List ℕ)) (faults : K → ℕ) (start : SplitStart) where
  one_comes : (v : ℕ) (told : Told) (rs : List Record) (flow next : Flow K) (had came : Came) → StepsFlow contents faults told flow next had came
      → StandsAfter start.limits (start.held v) (start.before v) (history_at start.ports start.session v rs) flow.receiver (contents flow.sink) (faults flow.sink)
      → ComesTo start.limits (start.held v) (start.before v) (history_at start.ports start.session v rs) told came.answer next.receiver (contents next.sink) (faults next.sink)
  one_comes v told rs flow next had came step old =
      comes start.limits (start.held v) (start.before v) (history_at start.ports start.session v rs) told came.answer came.outs flow.receiver next.receiver (contents flow.sink) (contents next.sink) (faults flow.sink) (faults next.sink)
      step.work step.cause (λ is. let same = step.same is in (same.0, ap contents same.1, ap faults same.1)) old

  no_end : (own : Bool) (w : What) → IsNoEnd w → IsNoEnd (what_for own w)
  no_end true w n = n
  no_end false (whats.Media a) n = n
  no_end false (whats.Control c) n = n
  no_end false whats.Keepalive n = n
  no_end false whats.Refused n = n
  no_end false whats.Tick n = n
  no_end false whats.End n = absurd n

  -- each stands after one record more
  pub flows_on : (place : Option ℕ) (told : Told) (r : Record) (rs : List Record) (old new : List (Flow K)) (was is : List Came)
      → length new ≡ length old → length was ≡ length old → length is ≡ length was → IsNoEnd told.what
      → ((v : ℕ) → step_of (told_for (is_for place v) told) ≡ step_at start.ports start.session v r)
      → AllStep contents faults place told old new was is → FlowsAfter contents faults start old rs → FlowsAfter contents faults start new (rs ++ r ∷ [])
  flows_on place told r rs old new was is as_many room as_long none same steps before v next at =
      let inside : v < length old = subst (λ (n : ℕ). v < n) as_many (slice_get_within new v next at) in
      let held = at_some old v inside in
      let had = at_some was v (subst (λ (n : ℕ). v < n) (sym room) inside) in
      let came = at_some is v (subst (λ (n : ℕ). v < n) (sym (as_long ∙ room)) inside) in
      let flow : Flow K = held.0 in
      let one : Came = came.0 in
      let mine = told_for (is_for place v) told in
      let history = history_at start.ports start.session v rs in
      let step = steps v flow next had.0 one held.1 at had.1 came.1 in
      let stands = before v flow held.1 in
      let grown : step_of mine ∷ history ≡ history_at start.ports start.session v (rs ++ r ∷ []) =
      ap (λ (x : ReceiverStep). x ∷ history) (same v) ∙ sym (history_push start.ports start.session v rs r) in
      subst (λ (h : List ReceiverStep). StandsAfter start.limits (start.held v) (start.before v) h next.receiver (contents next.sink) (faults next.sink)) grown
      (stands_on start.limits (start.held v) (start.before v) history mine one.answer one.outs flow.receiver next.receiver (contents flow.sink) (contents next.sink) (faults flow.sink) (faults next.sink)
      (no_end (is_for place v) told.what none) step.work (one_comes v mine rs flow next had.0 one step stands) stands)

  -- each has what a replay writes
  pub flows_end : (rs : List Record) (old new : List (Flow K)) (was is : List Came)
      → length new ≡ length old → length was ≡ length old → length old ≡ length start.ports → IsOneSessions start.ports start.session
      → AllStep contents faults None end_told old new was is → FlowsAfter contents faults start old rs → AllSplitFrom contents faults start new is rs
  flows_end rs old new was is as_many room places sessions steps before v next one at at_is =
      let inside : v < length old = subst (λ (n : ℕ). v < n) as_many (slice_get_within new v next at) in
      let held = at_some old v inside in
      let had = at_some was v (subst (λ (n : ℕ). v < n) (sym room) inside) in
      let flow : Flow K = held.0 in
      let step : StepsFlow contents faults end_told flow next had.0 one = steps v flow next had.0 one held.1 at had.1 at_is in
      let came = one_comes v end_told rs flow next had.0 one step (before v flow held.1) in
      let low : v < length start.ports = subst (λ (n : ℕ). v < n) places inside in
      subst (λ (l : List ℕ). IsSplitOff l (start.held v) (contents next.sink) (start.before v) (faults next.sink) (is_cut_off one.answer)) (replayed_at start.ports start.session v sessions low start.limits rs)
      (split_off (start.held v) (start.before v) end_told _ _ one.answer next.receiver (contents next.sink) (faults next.sink) came)

-- ---- the whole

-- where nothing is written and no memory is wanted, the end is brought
pub was_brought : (end : Result Unit WalkBad) (P : Type 0) → IfBrought end P → HasWriteCause (fault_by walk_fault end) 0 0 → (IsErrOf end bads.Memory → IsTrue false) → P
was_brought (Ok x) P p w m = p
was_brought (Err (bads.BadCapture kind at)) P p w m = p
was_brought (Err (bads.BadPcap kind at)) P p w m = p
was_brought (Err bads.TooLong) P p w m = p
was_brought (Err bads.ReadFault) P p w m = p
was_brought (Err bads.WriteFault) P p w m = absurd (omega (arith, w))
was_brought (Err bads.Memory) P p w m = absurd (cc (m refl))

pub brought_as : (form : Form) (had left : Option (List ℕ)) (P Q : List Record → Type 0) (end : Result Unit WalkBad) → ((rs : List Record) → P rs → Q rs) → Brought form had left P end → Brought form had left Q end
brought_as form had left P Q end to b = record { done = b.done; seen = to b.done b.seen; read = b.read }

-- what a split begins with is what it is named by
module _ {K : Type 0} (contents : K → Option (List ℕ)) (faults : K → ℕ) (ports : List ℕ) (session : Session) (limits : Limits) (flows : List (Flow K)) where
  held_there : (v : ℕ) (flow : Flow K) → slice_get flows v ≡ Some flow → held_in contents flows v ≡ contents flow.sink
  held_there v flow at = ap (λ (o : Option (Flow K)). unwrap_or (option_map (λ (x : Flow K). contents x.sink) o) None) at

  faults_there : (v : ℕ) (flow : Flow K) → slice_get flows v ≡ Some flow → faults_in faults flows v ≡ faults flow.sink
  faults_there v flow at = ap (λ (o : Option (Flow K)). unwrap_or (option_map (λ (x : Flow K). faults x.sink) o) 0) at

  pub begins : length flows ≡ length ports → AreFresh limits flows → HasSplit contents faults (start_of contents faults ports session limits flows) session ports flows []
  begins places fresh = record {
    session_is = refl;
    ports_are = refl;
    places = places;
    flows_after = λ v flow at.
        let f : IsFresh limits flow.receiver = fresh v flow at in
        record {
          going = refl;
          limits_are = f.limits_are;
          muted = f.muted;
          state = Goes f.state f.running (subst (λ (o : Option (List ℕ)). Appends o (contents flow.sink) []) (sym (held_there v flow at)) (appends_none (contents flow.sink))) (sym (faults_there v flow at));
        };
  }

  pub split_as : (new : List (Flow K)) (is : List Came) (rs : List Record) → AllSplitFrom contents faults (start_of contents faults ports session limits flows) new is rs
      → AllSplit contents faults ports session limits flows new is rs
  split_as new is rs all v flow next came at at_new at_is =
      subst (λ (n : ℕ). IsSplitOff (replayed (session_at ports v session) limits rs) (contents flow.sink) (contents next.sink) n (faults next.sink) (is_cut_off came.answer)) (faults_there v flow at)
      (subst (λ (o : Option (List ℕ)). IsSplitOff (replayed (session_at ports v session) limits rs) o (contents next.sink) (faults_in faults flows v) (faults next.sink) (is_cut_off came.answer)) (held_there v flow at)
      (all v next came at_new at_is))

-- what is known of a session's datagrams at its ports is known of those of what a split begins with
pub sessions_at : (start : SplitStart) (session : Session) (ports : List ℕ) → session ≡ start.session → ports ≡ start.ports → IsOneSessions ports session → IsOneSessions start.ports start.session
sessions_at start session ports same places one =
    subst (λ (s : Session). IsOneSessions start.ports s) same (subst (λ (p : List ℕ). IsOneSessions p session) places one)

-- no write fails where nothing is written, and no memory is wanted
pub no_fault : (end : Result Unit WalkBad) → HasWriteCause (fault_by walk_fault end) 0 0 → end ≡ Err bads.WriteFault → ⊥
no_fault end w is = let rose : Rose 0 0 = subst (λ (x : Result Unit WalkBad). HasWriteCause (fault_by walk_fault x) 0 0) is w in omega (arith, rose)

pub no_want : (end : Result Unit WalkBad) → (IsErrOf end bads.Memory → IsTrue false) → end ≡ Err bads.Memory → ⊥
no_want end m is = cc (m is)
