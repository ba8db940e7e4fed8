-- What a step of all places made, place by place, and whether a worker goes on after it.
use Rattle.std.proofs.Common.{◌≡◌, ◌≢◌, ◌<◌, ℕ, zero, suc, ◌+◌, List, [], ◌∷◌, ◌++◌, length, map, reverse, slice_get, unwrap_or, Bool, true, false, ◌&&◌, ◌||◌, Option, None, Some, option_map, refl, ap, sym, ◌∙◌, subst, arith}
use Rattle.std.specs.List.{flat_map, list_all, list_any}
use Rattle.std.proofs.lemmas.List.{length-map, reverse-reverse}
use Rattle.std.proofs.lemmas.Option.{slice_get_within, slice_get-map}
use Rattle.link_channels.specs.declared.channel.Channel.{Channel}
use Rattle.outside_net.specs.Links.{Datagram}
use Rattle.receiver_rules.specs.Steps.{tick_of}
use Rattle.request_rules.specs.declared.word.AskWord.{AskWord}
use Rattle.request_rules.specs.Steps.{Input}
use Rattle.rist_reporter.specs.Control.{datagrams_of}
use Rattle.rist_reporter.specs.declared.out.Outs.{Outs}
use Rattle.rist_reporter.specs.Made.{OutOf}
use Rattle.rist_reporter.specs.OneMore.{AreOpened}
use Rattle.rist_ends.specs.declared.told.Told.{Told}
use Rattle.rist_ends.specs.declared.told.What.{What}
use Rattle.rist_ends.specs.declared.told.What.TheVariants as whats
use Rattle.rist_ends.specs.Told.{input_of as told_input}
use Rattle.rist_ends.specs.declared.outcome.Answer.{Answer}
use Rattle.rist_ends.specs.declared.outcome.Answer.TheVariants as answers
use Rattle.rist_ends.specs.declared.outcome.Outcome.{Outcome}
use Rattle.rist_ends.specs.Outcome.{outcome_with}
use Rattle.rist_desk.specs.declared.step.Event.{Event}
use Rattle.rist_desk.specs.declared.step.Mark.{Mark}
use Rattle.rist_desk.specs.declared.step.Mark.TheVariants as marks
use Rattle.rist_desk.specs.declared.step.Step.{Step}
use Rattle.rist_desk.specs.Steps.{history_of}
use Rattle.rist_desk.specs.Legal.{is_fault}
use Rattle.rist_desk.specs.Made.{event_of, made_count, step_after, step_of}
use Rattle.rist_desk.specs.Desk.{Given, IsDueAfter, is_cut_off, outs_in}
use Rattle.rist_desk.specs.Items.{told_plan}
use Rattle.rist_desk.proofs.SendLemmas.{spent_keyed}
use Rattle.turn_lock.specs.History.{added}
use Rattle.turn_desk.specs.Stands.{Answers as AnswersAlone}
use Rattle.rist_fan.specs.declared.flow.Came.{Came}
use Rattle.rist_fan.specs.Fan.{AllAnswer, outcome_in, step_come}
use Rattle.rist_fan.specs.Seen.{FanStep, is_for, row_from, seen, seen_in, told_for, what_for}
use Rattle.rist_fan.proofs.FanLemmas.{at_some, sees_own}
use Rattle.fan_desk.specs.Rows.{is_stopped}
use Rattle.fan_desk.specs.Made.{GoesOn, HasPairs, IsDueAt, IsLastBy, IsMadeAt, IsMadeRow, IsSomeKeyed, MadeRow, all_outs, before_at, event_for, input_for, is_wanting, outs_of_came}

-- ---- what is told at a place

event_is : (us : ℕ) (own : Bool) (w : What) → event_of us (what_for own w) ≡ event_for own (event_of us w)
event_is us true w = refl
event_is us false (whats.Media a) = refl
event_is us false (whats.Control c) = refl
event_is us false whats.Keepalive = refl
event_is us false whats.Refused = refl
event_is us false whats.Tick = refl
event_is us false whats.End = refl

input_is : (us : ℕ) (own : Bool) (w : What) → told_input us (what_for own w) ≡ input_for own (told_input us w)
input_is us true w = refl
input_is us false (whats.Media a) = refl
input_is us false (whats.Control c) = refl
input_is us false whats.Keepalive = refl
input_is us false whats.Refused = refl
input_is us false whats.Tick = refl
input_is us false whats.End = refl

-- ---- what a place made

-- a step that is due at a place
due_at : (given : Given) (own : Bool) (knows : Channel → Bool) (told : Told) (before : List Step) (mark : Mark) (made : ℕ) (asked : List AskWord) (o : Outcome)
    → IsDueAfter given before (told_for own told) o → step_after (told_for own told) o ≡ Some (step_of (told_for own told) mark made asked) → length (outs_in o) ≡ made
    → IsDueAt given own (told_plan knows told) before (step_of (told_for own told) mark made asked) (outs_in o)
due_at given own knows told before mark made asked o due is count =
    let s : Step = step_of (told_for own told) mark made asked in
    let d = due s is in
    record {
      plan = ap (λ (e : Event). record { link = told.link; at = tick_of told.us; what = e; mark = marks.Plain; made = 0; asked = [] }) (event_is told.us own told.what);
      legal = d.0;
      count = count;
      opened = λ sound.
          subst (λ (i : Input). AreOpened given.shutter.session (outs_in o) (datagrams_of given.settings (history_of before) (record { link = told.link; tick = tick_of told.us; input = i })))
          (input_is told.us own told.what) (d.1 sound);
    }

made_at : (given : Given) (own : Bool) (knows : Channel → Bool) (told : Told) (before : List Step) (was outs : Outs) (a : Answer) → AnswersAlone given before (told_for own told) was outs a
    → IsMadeAt given own (told_plan knows told) before (step_after (told_for own told) (outcome_with a outs)) (outs_in (outcome_with a outs))
made_at given own knows told before was outs answers.Stopped a = refl
made_at given own knows told before was outs answers.WriteFault a = due_at given own knows told before marks.WriteFault 0 [] (outcome_with answers.WriteFault outs) a.due refl refl
made_at given own knows told before was outs (answers.Verdict v) a = due_at given own knows told before (marks.Verdict v) 0 [] (outcome_with (answers.Verdict v) outs) a.due refl refl
made_at given own knows told before was outs answers.Spent a = due_at given own knows told before marks.Spent 0 [] (outcome_with answers.Spent outs) a.due refl refl
made_at given own knows told before was outs answers.Made a = due_at given own knows told before marks.Plain (made_count outs) outs.asked (outcome_with answers.Made outs) a.due refl refl
made_at given own knows told before was outs answers.Nothing a = due_at given own knows told before marks.Plain 0 [] (outcome_with answers.Nothing outs) a.due refl refl

-- ---- a row, place by place

abbrev newest : List Step → Option Step
newest [] = None
newest (s ∷ steps) = Some s

newest_added : (o : Option Step) → newest (added o []) ≡ o
newest_added None = refl
newest_added (Some s) = refl

-- what a place sees of a row is its own step
pub seen_at : (place : Option ℕ) (told : Told) (came : List Came) (v : ℕ) (c : Came) → slice_get came v ≡ Some c
    → seen_in v (step_come place told came) ≡ step_after (told_for (is_for place v) told) (outcome_in c)
seen_at place told came v c at =
    sym (newest_added (seen_in v (step_come place told came)))
    ∙ (ap newest (sees_own place told (map outcome_in came) [] v (outcome_in c) (slice_get-map outcome_in came v ∙ ap (option_map outcome_in) at))
    ∙ newest_added (step_after (told_for (is_for place v) told) (outcome_in c)))

-- a row has as many members as there are outcomes
row_length : (place : Option ℕ) (told : Told) (from : ℕ) (outs : List Outcome) → length (row_from place told from outs) ≡ length outs
row_length place told from [] = refl
row_length place told from (o ∷ outs) = let more = row_length place told (from + 1) outs in omega (arith, more)

-- what a step that a place sees came from
record CameFrom (came : List Came) (v : ℕ) (s : Step) : Type 0 where
  c : Came
  told : Told
  at : slice_get came v ≡ Some c
  step : step_after told (outcome_in c) ≡ Some s

came_from : (place : Option ℕ) (told : Told) (from : ℕ) (came : List Came) (v : ℕ) (s : Step) → unwrap_or (slice_get (row_from place told from (map outcome_in came)) v) None ≡ Some s
    → CameFrom came v s
came_from place told from [] v s e = absurd (cc (e))
came_from place told from (c ∷ came) zero s e = record { c = c; told = told_for (is_for place from) told; at = refl; step = e }
came_from place told from (c ∷ came) (suc v) s e =
    let f = came_from place told (from + 1) came v s e in
    record { c = f.c; told = f.told; at = f.at; step = f.step }

flat_mapped : {A B : Type 0} (f : A → List B) (xs : List A) → flat_map (λ (l : List B). l) (map f xs) ≡ flat_map f xs
flat_mapped f [] = refl
flat_mapped f (x ∷ xs) = ap (λ (l : List _). f x ++ l) (flat_mapped f xs)

-- ---- why a worker ends

all_both : (a b : Bool) → (a && b) ≡ true → (a ≡ true) × (b ≡ true)
all_both true b e = (refl, e)
all_both false b e = absurd (cc (e))

pub all_at : (p : Came → Bool) (came : List Came) (v : ℕ) (c : Came) → list_all p came ≡ true → slice_get came v ≡ Some c → p c ≡ true
all_at p [] v c all at = absurd (cc (at))
all_at p (x ∷ came) zero c all at = let same : x ≡ c = cc (at) in ap p (sym same) ∙ (all_both (p x) (list_all p came) all).0
all_at p (x ∷ came) (suc v) c all at = all_at p came v c (all_both (p x) (list_all p came) all).1 at

record Somewhere (p : Came → Bool) (b : Bool) (came : List Came) : Type 0 where
  v : ℕ
  c : Came
  at : slice_get came v ≡ Some c
  is : p c ≡ b

not_all_more : (p : Came → Bool) (x : Came) (came : List Came) (b : Bool) → p x ≡ b → (p x && list_all p came) ≡ false → (list_all p came ≡ false → Somewhere p false came) → Somewhere p false (x ∷ came)
not_all_more p x came false is e rest = record { v = 0; c = x; at = refl; is = is }
not_all_more p x came true is e rest =
    let s = rest (sym (ap (λ (y : Bool). y && list_all p came) is) ∙ e) in
    record { v = suc s.v; c = s.c; at = s.at; is = s.is }

not_all : (p : Came → Bool) (came : List Came) → list_all p came ≡ false → Somewhere p false came
not_all p [] e = absurd (cc (e))
not_all p (x ∷ came) e = not_all_more p x came (p x) refl e (not_all p came)

some_more : (p : Came → Bool) (x : Came) (came : List Came) (b : Bool) → p x ≡ b → (p x || list_any p came) ≡ true → (list_any p came ≡ true → Somewhere p true came) → Somewhere p true (x ∷ came)
some_more p x came true is e rest = record { v = 0; c = x; at = refl; is = is }
some_more p x came false is e rest =
    let s = rest (sym (ap (λ (y : Bool). y || list_any p came) is) ∙ e) in
    record { v = suc s.v; c = s.c; at = s.at; is = s.is }

some_one : (p : Came → Bool) (came : List Came) → list_any p came ≡ true → Somewhere p true came
some_one p [] e = absurd (cc (e))
some_one p (x ∷ came) e = some_more p x came (p x) refl e (some_one p came)

neither : (a b : Bool) → (a || b) ≡ false → (a ≡ false) × (b ≡ false)
neither true b e = absurd (cc (e))
neither false b e = (refl, e)

none_at : (p : Came → Bool) (came : List Came) (v : ℕ) (c : Came) → list_any p came ≡ false → slice_get came v ≡ Some c → p c ≡ false
none_at p [] v c none at = absurd (cc (at))
none_at p (x ∷ came) zero c none at = let same : x ≡ c = cc (at) in ap p (sym same) ∙ (neither (p x) (list_any p came) none).0
none_at p (x ∷ came) (suc v) c none at = none_at p came v c (neither (p x) (list_any p came) none).1 at

-- a step by what it was answered
fault_mark : (told : Told) (a : Answer) (outs : Outs) (s : Step) → is_cut_off a ≡ true → step_after told (outcome_with a outs) ≡ Some s → s.mark ≡ marks.WriteFault
fault_mark told answers.Stopped outs s cut e = absurd (cc (e))
fault_mark told answers.WriteFault outs s cut e = let same : step_of told marks.WriteFault 0 [] ≡ s = cc (e) in ap (λ (x : Step). x.mark) (sym same)
fault_mark told (answers.Verdict v) outs s cut e = absurd (cc (cut))
fault_mark told answers.Spent outs s cut e = absurd (cc (cut))
fault_mark told answers.Made outs s cut e = absurd (cc (cut))
fault_mark told answers.Nothing outs s cut e = absurd (cc (cut))

some_mark : (told : Told) (mark : Mark) (made : ℕ) (asked : List AskWord) (s : Step) → Some (step_of told mark made asked) ≡ Some s → s.mark ≡ mark
some_mark told mark made asked s e = let same : step_of told mark made asked ≡ s = cc (e) in ap (λ (x : Step). x.mark) (sym same)

no_spent : (told : Told) (a : Answer) (outs : Outs) (s : Step) → is_wanting a ≡ false → step_after told (outcome_with a outs) ≡ Some s → s.mark ≢ marks.Spent
no_spent told answers.Stopped outs s none e = λ is. cc (e)
no_spent told answers.WriteFault outs s none e = λ is. let m = some_mark told marks.WriteFault 0 [] s e in cc (m, is)
no_spent told (answers.Verdict v) outs s none e = λ is. let m = some_mark told (marks.Verdict v) 0 [] s e in cc (m, is)
no_spent told answers.Spent outs s none e = absurd (cc (none))
no_spent told answers.Made outs s none e = λ is. let m = some_mark told marks.Plain (made_count outs) outs.asked s e in cc (m, is)
no_spent told answers.Nothing outs s none e = λ is. let m = some_mark told marks.Plain 0 [] s e in cc (m, is)

-- a step of a place that goes on, or where pairs were wanting
record SoundStep (told : Told) (a : Answer) (outs : Outs) : Type 0 where
  s : Step
  step : step_after told (outcome_with a outs) ≡ Some s
  sound : is_fault s.mark ≡ false

sound_step : (told : Told) (a : Answer) (outs : Outs) → is_cut_off a ≡ false → SoundStep told a outs
sound_step told answers.Stopped outs e = absurd (cc (e))
sound_step told answers.WriteFault outs e = absurd (cc (e))
sound_step told (answers.Verdict v) outs e = record { s = step_of told (marks.Verdict v) 0 []; step = refl; sound = refl }
sound_step told answers.Spent outs e = record { s = step_of told marks.Spent 0 []; step = refl; sound = refl }
sound_step told answers.Made outs e = record { s = step_of told marks.Plain (made_count outs) outs.asked; step = refl; sound = refl }
sound_step told answers.Nothing outs e = record { s = step_of told marks.Plain 0 []; step = refl; sound = refl }

spent_step : (told : Told) (a : Answer) (outs : Outs) → is_wanting a ≡ true → step_after told (outcome_with a outs) ≡ Some (step_of told marks.Spent 0 [])
spent_step told answers.Stopped outs e = absurd (cc (e))
spent_step told answers.WriteFault outs e = absurd (cc (e))
spent_step told (answers.Verdict v) outs e = absurd (cc (e))
spent_step told answers.Spent outs e = refl
spent_step told answers.Made outs e = absurd (cc (e))
spent_step told answers.Nothing outs e = absurd (cc (e))

-- where each had ended nothing is sent
stopped_outs : (a : Answer) (outs : Outs) → is_stopped a ≡ true → outs_in (outcome_with a outs) ≡ []
stopped_outs answers.Stopped outs e = refl
stopped_outs answers.WriteFault outs e = absurd (cc (e))
stopped_outs (answers.Verdict v) outs e = absurd (cc (e))
stopped_outs answers.Spent outs e = absurd (cc (e))
stopped_outs answers.Made outs e = absurd (cc (e))
stopped_outs answers.Nothing outs e = absurd (cc (e))

pub no_outs : (came : List Came) → list_all (λ (c : Came). is_stopped c.answer) came ≡ true → all_outs came ≡ []
no_outs [] all = refl
no_outs (c ∷ came) all =
    let both = all_both (is_stopped c.answer) (list_all (λ (x : Came). is_stopped x.answer) came) all in
    ap (λ (l : List OutOf). l ++ all_outs came) (stopped_outs c.answer c.outs both.0) ∙ no_outs came both.1

module _ (place : Option ℕ) (told : Told) (came : List Came) where
  -- no place goes on
  pub all_over : list_all (λ (c : Came). is_cut_off c.answer) came ≡ true → IsLastBy marks.WriteFault (step_come place told came)
  all_over all v s seen =
      let f = came_from place told 0 came v s seen in
      fault_mark f.told f.c.answer f.c.outs s (all_at (λ (c : Came). is_cut_off c.answer) came v f.c all f.at) f.step

  -- at some place pairs were wanting
  pub some_spent : list_any (λ (c : Came). is_wanting c.answer) came ≡ true → IsLastBy marks.Spent (step_come place told came)
  some_spent any =
      let o = some_one (λ (c : Came). is_wanting c.answer) came any in
      let t = told_for (is_for place o.v) told in
      (o.v, step_of t marks.Spent 0 [], seen_at place told came o.v o.c o.at ∙ spent_step t o.c.answer o.c.outs o.is, refl)

  -- some place goes on
  pub goes_on : list_all (λ (c : Came). is_cut_off c.answer) came ≡ false → GoesOn (step_come place told came)
  goes_on not =
      let o = not_all (λ (c : Came). is_cut_off c.answer) came not in
      let t = told_for (is_for place o.v) told in
      let s = sound_step t o.c.answer o.c.outs o.is in
      record { place = o.v; step = s.s; seen = seen_at place told came o.v o.c o.at ∙ s.step; sound = s.sound }

  -- at no place were pairs wanting
  pub has_pairs : list_any (λ (c : Came). is_wanting c.answer) came ≡ false → HasPairs (step_come place told came)
  has_pairs none v s seen =
      let f = came_from place told 0 came v s seen in
      no_spent f.told f.c.answer f.c.outs s (none_at (λ (c : Came). is_wanting c.answer) came v f.c none f.at) f.step

  -- what it came to, as a row that was made
  abbrev pub row_made : List FanStep → (Channel → Bool) → List Datagram → MadeRow
  row_made before knows went = record { place = place; planned = told_plan knows told; row = step_come place told came; before = reverse before; outs = map outs_of_came came; went = went }

  pub outs_are : (before : List FanStep) (knows : Channel → Bool) (went : List Datagram) → flat_map (λ (l : List OutOf). l) (row_made before knows went).outs ≡ all_outs came
  outs_are before knows went = flat_mapped outs_of_came came

  -- each place made what is due there
  each_made : (given : ℕ → Given) (places : ℕ) (knows : Channel → Bool) (before : List FanStep) (was : List Came) → AllAnswer given before place told was came
      → length came ≡ places → length was ≡ places
      → (v : ℕ) → v < places → IsMadeAt (given v) (is_for place v) (told_plan knows told) (seen v (reverse (reverse before))) (seen_in v (step_come place told came)) (unwrap_or (slice_get (map outs_of_came came) v) [])
  each_made given places knows before was answered many had_many v low =
      let now = at_some came v (subst (λ (n : ℕ). v < n) (sym many) low) in
      let had = at_some was v (subst (λ (n : ℕ). v < n) (sym had_many) low) in
      let own = is_for place v in
      let plan = told_plan knows told in
      let rows = seen v (reverse (reverse before)) in
      subst (λ (o : Option Step). IsMadeAt (given v) own plan rows o (unwrap_or (slice_get (map outs_of_came came) v) [])) (sym (seen_at place told came v now.0 now.1))
      (subst (λ (o : Option (List OutOf)). IsMadeAt (given v) own plan rows (step_after (told_for own told) (outcome_in now.0)) (unwrap_or o [])) (sym (slice_get-map outs_of_came came v ∙ ap (option_map outs_of_came) now.1))
      (subst (λ (l : List FanStep). IsMadeAt (given v) own plan (seen v l) (step_after (told_for own told) (outcome_in now.0)) (outs_of_came now.0)) (sym (reverse-reverse before))
      (made_at (given v) own knows told (seen v before) had.0.outs now.0.outs now.0.answer (answered v had.0 now.0 had.1 now.1))))

  pub made_row : (given : ℕ → Given) (places : ℕ) (knows : Channel → Bool) (went : List Datagram) (before : List FanStep) (was : List Came) → AllAnswer given before place told was came
      → length came ≡ places → length was ≡ places → IsMadeRow given places (row_made before knows went)
  made_row given places knows went before was answered many had_many =
      record { long = row_length place told 0 (map outcome_in came) ∙ (length-map came outcome_in ∙ many); each = each_made given places knows before was answered many had_many }

-- pairs are wanting only where there is a sealer
pub keyed_somewhere : (given : ℕ → Given) (places : ℕ) (m : MadeRow) → ((v : ℕ) → v < places → IsMadeAt (given v) (is_for m.place v) m.planned (before_at v m) (seen_in v m.row) (unwrap_or (slice_get m.outs v) []))
    → ((v : ℕ) (s : Step) → seen_in v m.row ≡ Some s → v < places) → IsLastBy marks.Spent m.row → IsSomeKeyed given
keyed_somewhere given places m made inside last =
    let due : IsDueAt (given last.0) (is_for m.place last.0) m.planned (before_at last.0 m) last.1 (unwrap_or (slice_get m.outs last.0) []) =
    subst (λ (o : Option Step). IsMadeAt (given last.0) (is_for m.place last.0) m.planned (before_at last.0 m) o (unwrap_or (slice_get m.outs last.0) [])) last.2 (made last.0 (inside last.0 last.1 last.2)) in
    (last.0, spent_keyed (given last.0) (before_at last.0 m) last.1 due.legal last.3)

-- a place that sees a step is one of them
pub inside_row : (place : Option ℕ) (told : Told) (came : List Came) (v : ℕ) (s : Step) → seen_in v (step_come place told came) ≡ Some s → v < length came
inside_row place told came v s seen = let f = came_from place told 0 came v s seen in slice_get_within came v f.c f.at
