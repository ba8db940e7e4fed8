-- What the lists hold where the end was told, and where it wasn't.
use Rattle.std.proofs.Common.{◌≡◌, ◌≢◌, ◌≤◌, ◌↔◌, ◌⊎◌, inl, inr, ℕ, List, [], ◌∷◌, ◌++◌, reverse, Bool, true, false, Option, None, Some, unwrap_or, refl, ap, sym, ◌∙◌, subst}
use Rattle.std.specs.Prelude.{Result, Ok, Err, IfOk, OnErr}
use Rattle.std.specs.Option.{option_map}
use Rattle.std.specs.List.{concat}
use Rattle.outside_io.specs.Causes as causes
use Rattle.outside_io.specs.Causes.{RoseWhere}
use Rattle.outside_net.specs.declared.trace.Full.{Full}
use Rattle.outside_net.specs.Traces.{is_full}
use Rattle.request_rules.specs.declared.word.AskWord.{AskWord}
use Rattle.rist_reporter.specs.declared.out.Outs.{Outs}
use Rattle.rist_ends.specs.declared.outcome.Answer.{Answer}
use Rattle.rist_ends.specs.declared.outcome.Answer.TheVariants as answers
use Rattle.rist_ends.specs.Outcome.{outcome_with}
use Rattle.rist_desk.specs.declared.step.Event.{Event}
use Rattle.rist_desk.specs.declared.step.Event.TheVariants as events
use Rattle.rist_desk.specs.declared.step.Mark.{Mark}
use Rattle.rist_desk.specs.declared.step.Mark.TheVariants as marks
use Rattle.rist_desk.specs.declared.step.Step.{Step}
use Rattle.rist_desk.specs.Made.{end_told, step_of, step_after, steps_with, made_count}
use Rattle.rist_desk.specs.Legal.{Setup, IsNext, AreWritten, is_fault, phase_by, phase_of, released_by, IsLegal}
use Rattle.rist_desk.specs.Desk.{DeskState, Given, IsDesk, StandsFor, is_cut_off, is_failed, setup_of}
use Rattle.rist_desk.proofs.ListLemmas.{one_more_told, reverse_more}
use Rattle.rist_compare.specs.declared.tear.Tear.{Tear}
use Rattle.rist_compare.specs.Tears.{Agree, IsFirstTear}
use Rattle.desk_run.specs.declared.deciding.Last.{Last}
use Rattle.desk_run.specs.declared.deciding.Last.TheVariants as lasts
use Rattle.receiver_rules.specs.Steps.{end_step}
use Rattle.receiver_rules.specs.History.{released_payloads}
use Rattle.receiver_rules.specs.Sent.{SentStream, Delivery, HasSteadyTimestamps, AreDeliveriesOf}
use Rattle.receiver_rules.proofs.SentLemmas as sent
use Rattle.receiver_rules.proofs.SentEpochsLemmas as by_epochs
use Rattle.receiver_rules.specs.SentEpochs.{SentStreams, Transfer, AreTransfersOf, sent_epochs, reached_payloads as payloads_of_epochs}
use Rattle.desk_run.specs.Exact.{IsRunOf, IsRunOfAll, reached_payloads}
use Rattle.desk_run.specs.Endings.{LacksRoom}
use Rattle.desk_run.specs.Receiving.{the_end, IsWhole, HasReceived, IsTorn}
use Rattle.desk_run.specs.Inside.Deciding.{has_fault, last_by, last_of, has_failed}

-- ---- faults

failed_by : (b : Bool) (w : Event) → is_failed (phase_by b w) ≡ b
failed_by true w = refl
failed_by false (events.Media p) = refl
failed_by false (events.Control e) = refl
failed_by false events.Keepalive = refl
failed_by false events.Refused = refl
failed_by false (events.Tick micros) = refl
failed_by false events.End = refl

-- a receiver has failed exactly where a write failed in its last step
fault_by : (steps : List Step) → is_failed (phase_of steps) ≡ has_fault steps
fault_by [] = refl
fault_by (s ∷ before) = failed_by (is_fault s.mark) s.what

-- a full trace tells
full_told : (limit : Option ℕ) (kept : Option (List Step)) → is_full limit kept ≡ true → (list : List Step) × (kept ≡ Some list)
full_told limit None e = absurd (cc (e))
full_told limit (Some list) e = (list, refl)

fault_told : (given : Given) (d : DeskState) (failed : Bool) → IsDesk given d → is_full d.limit d.kept ≡ true
    → failed ≡ has_fault (reverse (unwrap_or d.kept [])) → failed ≡ is_failed d.receiver.buffer.phase
fault_told given d failed is full by =
    let told = full_told d.limit d.kept full in
    let list : unwrap_or d.kept [] ≡ told.0 = ap (λ (o : Option (List Step)). unwrap_or o []) told.1 in
    by ∙ ap (λ (l : List Step). has_fault (reverse l)) list ∙ sym (ap is_failed (is.stands told.0 told.1).phase ∙ fault_by (reverse told.0))

failed_when : (b : Bool) (last : Last) → has_failed last ≡ false → has_failed (last_by b last) ≡ b
failed_when true last sound = refl
failed_when false last sound = sound

pub fault_is : (given : Given) (d new : DeskState) (failed : Bool) (r : Result Answer Full) → IsDesk given d
    → causes.has_failed r ≡ is_full d.limit d.kept → failed ≡ has_fault (reverse (unwrap_or d.kept []))
    → OnErr r (d ≡ new) → IfOk r (λ answer. RoseWhere (is_cut_off answer) given.faults new.faults)
    → RoseWhere (has_failed (last_of failed r)) given.faults new.faults
fault_is given d new failed (Ok answer) is full by same cause =
    subst (λ b. RoseWhere b given.faults new.faults) (sym (failed_when (is_cut_off answer) lasts.Told refl)) cause
fault_is given d new failed (Err e) is full by same cause =
    let rose : RoseWhere (is_failed d.receiver.buffer.phase) given.faults new.faults =
    subst (λ (x : DeskState). RoseWhere (is_failed d.receiver.buffer.phase) given.faults x.faults) same is.faults in
    subst (λ b. RoseWhere b given.faults new.faults) (sym (failed_when failed lasts.Full refl ∙ fault_told given d failed is (sym full) by)) rose

-- ---- no room for the end

told_or_failed : (b : Bool) → last_by b lasts.Told ≡ lasts.Full → ⊥
told_or_failed true e = absurd (cc (e))
told_or_failed false e = absurd (cc (e))

pub lacks_room : (given : Given) (d new : DeskState) (failed : Bool) (r : Result Answer Full) → IsDesk given d
    → causes.has_failed r ≡ is_full d.limit d.kept → OnErr r (d ≡ new) → last_of failed r ≡ lasts.Full → LacksRoom given new
lacks_room given d new failed (Ok answer) is full same e = absurd (told_or_failed (is_cut_off answer) e)
lacks_room given d new failed (Err f) is full same e =
    subst (LacksRoom given) same (record { full = ap (λ l. is_full l d.kept) (sym is.limit) ∙ sym full; going = is.going })

pub room_by : (given : Given) (d new : DeskState) (failed : Bool) (r : Result Answer Full) (P : Type 0) (last : Last) → IsDesk given d
    → causes.has_failed r ≡ is_full d.limit d.kept → OnErr r (d ≡ new) → last ≡ last_of failed r → P ⊎ (last ≡ lasts.Full) → P ⊎ LacksRoom given new
room_by given d new failed r P last is full same by (inl here) = inl here
room_by given d new failed r P last is full same by (inr e) = inr (lacks_room given d new failed r is full same (sym by ∙ e))

-- ---- the end was told

-- all that is told stands
abbrev AllStands : Given → DeskState → Type 0
AllStands given new = (list : List Step) → new.kept ≡ Some list → StandsFor given new (reverse list)

-- the step of an end may have come next
next_end : (given : Given) (new : DeskState) (list : List Step) (s : Step) → new.kept ≡ Some (list ++ s ∷ []) → AllStands given new → IsNext (setup_of given) (reverse list) s
next_end given new list s kept stands = (subst (IsLegal (setup_of given)) (reverse_more list s) (stands (list ++ s ∷ []) kept).legal).1

-- an end has no other mark
end_mark : (setup : Setup) (before : List Step) (m : Mark) → m ≢ marks.WriteFault → m ≢ marks.Plain → IsNext setup before (step_of end_told m 0 []) → ⊥
end_mark setup before m fault plain next = by_mark next.mark
  where
    by_mark : (m ≡ marks.WriteFault) ⊎ (m ≡ marks.Plain) → ⊥
    by_mark (inl e) = fault e
    by_mark (inr e) = plain e

-- and makes nothing
end_makes : (setup : Setup) (before : List Step) (made : ℕ) (asked : List AskWord) → IsNext setup before (step_of end_told marks.Plain made asked)
    → step_of end_told marks.Plain made asked ≡ the_end
end_makes setup before made asked next = by_muted setup.settings.is_muted refl
  where
    by_muted : (b : Bool) → setup.settings.is_muted ≡ b → step_of end_told marks.Plain made asked ≡ the_end
    by_muted true e = (let none = next.made in let nothing = next.asked in cc (e, none, nothing))
    by_muted false e = (let none = next.made in let nothing = next.asked in cc (e, none, nothing))

ended_by : (given : Given) (answer : Answer) (outs : Outs) (old : Option (List Step)) (new : DeskState) → is_cut_off answer ≡ false
    → new.kept ≡ option_map (steps_with (step_after end_told (outcome_with answer outs))) old → AllStands given new
    → new.kept ≡ option_map (λ l. l ++ the_end ∷ []) old
ended_by given answer outs None new sound kept stands = kept
ended_by given answers.Stopped outs (Some list) new sound kept stands = absurd (cc (sound))
ended_by given answers.WriteFault outs (Some list) new sound kept stands = absurd (cc (sound))
ended_by given answers.Nothing outs (Some list) new sound kept stands = kept
ended_by given (answers.Verdict v) outs (Some list) new sound kept stands =
    absurd (end_mark (setup_of given) (reverse list) (marks.Verdict v) (λ e. cc (e)) (λ e. cc (e)) (next_end given new list (step_of end_told (marks.Verdict v) 0 []) kept stands))
ended_by given answers.Spent outs (Some list) new sound kept stands =
    absurd (end_mark (setup_of given) (reverse list) marks.Spent (λ e. cc (e)) (λ e. cc (e)) (next_end given new list (step_of end_told marks.Spent 0 []) kept stands))
ended_by given answers.Made outs (Some list) new sound kept stands =
    let s : Step = step_of end_told marks.Plain (made_count outs) outs.asked in
    kept ∙ ap (λ (x : Step). Some (list ++ x ∷ [])) (end_makes (setup_of given) (reverse list) (made_count outs) outs.asked (next_end given new list s kept stands))

whole_by : (given : Given) (old : Option (List Step)) (new : DeskState) → is_full given.limit old ≡ false → new.kept ≡ option_map (λ l. l ++ the_end ∷ []) old
    → AllStands given new → IsWhole given old new.kept new.contents
whole_by given old new room ended stands = record {
  room = room;
  ended = ended;
  legal = λ steps told. (stands steps told).legal;
  sink = λ steps octets told is.
      let more = one_more_told old new.kept the_end steps ended told in
      let back : reverse steps ≡ the_end ∷ reverse more.0 = ap reverse more.2 ∙ reverse_more more.0 the_end in
      let W : List Step → Type 0 = λ l. AreWritten (setup_of given) l octets in
      let written : octets ≡ released_by (setup_of given) (the_end ∷ reverse more.0) = subst W back ((stands steps told).sink octets is) in
      written ∙ sym (ap (released_by (setup_of given)) back);
}

sound_by : (b : Bool) → last_by b lasts.Told ≡ lasts.Told → b ≡ false
sound_by true e = absurd (cc (e))
sound_by false e = refl

full_or_failed : (b : Bool) → last_by b lasts.Full ≡ lasts.Told → ⊥
full_or_failed true e = absurd (cc (e))
full_or_failed false e = absurd (cc (e))

pub whole_end : (given : Given) (d new : DeskState) (failed : Bool) (r : Result Answer Full) (outs : Outs) → IsDesk given d
    → causes.has_failed r ≡ is_full d.limit d.kept
    → IfOk r (λ answer. new.kept ≡ option_map (steps_with (step_after end_told (outcome_with answer outs))) d.kept)
    → AllStands given new → last_of failed r ≡ lasts.Told → IsWhole given d.kept new.kept new.contents
whole_end given d new failed (Err e) outs is full kept stands told = absurd (full_or_failed failed told)
whole_end given d new failed (Ok answer) outs is full kept stands told =
    whole_by given d.kept new (ap (λ l. is_full l d.kept) (sym is.limit) ∙ sym full) (ended_by given answer outs d.kept new (sound_by (is_cut_off answer) told) kept stands) stands

-- what the desk and its end say
pub record Finished (given : Given) (d new : DeskState) (failed : Bool) (r : Result Answer Full) (outs : Outs) (read : List Step) : Type 0 where
  pub desk : IsDesk given d
  pub full : causes.has_failed r ≡ is_full d.limit d.kept
  pub kept : IfOk r (λ answer. new.kept ≡ option_map (steps_with (step_after end_told (outcome_with answer outs))) d.kept)
  pub stands : AllStands given new
  pub read_is : read ≡ unwrap_or d.kept []

pub received_by : (given : Given) (d new : DeskState) (failed : Bool) (r : Result Answer Full) (outs : Outs) (read : List Step) (own : List (List Step)) (tear : Option Tear)
    → Finished given d new failed r outs read → (tear ≡ None) ↔ Agree read own → last_of failed r ≡ lasts.Told → tear ≡ None
    → HasReceived given new.kept new.contents own
received_by given d new failed r outs read own tear f none told is = record {
  before = d.kept;
  whole = whole_end given d new failed r outs f.desk f.full f.kept f.stands told;
  agree = subst (λ (l : List Step). Agree l own) f.read_is (none.0 is);
}

pub torn_by : (given : Given) (d new : DeskState) (failed : Bool) (r : Result Answer Full) (outs : Outs) (read : List Step) (own : List (List Step)) (tear : Option Tear) (t : Tear)
    → Finished given d new failed r outs read → (tear ≡ Some t) ↔ IsFirstTear read own t → last_of failed r ≡ lasts.Told → tear ≡ Some t
    → IsTorn given new.kept new.contents own t
torn_by given d new failed r outs read own tear t f some told is = record {
  before = d.kept;
  whole = whole_end given d new failed r outs f.desk f.full f.kept f.stands told;
  first = subst (λ (l : List Step). IsFirstTear l own t) f.read_is (some.0 is);
}

-- ---- what was reached

pub whole_is_exact : (given : Given) (p : SentStream) (run : List Delivery) (steps : List Step) (kept : Option (List Step)) (contents : Option (List ℕ)) (octets : List ℕ)
    → IsWhole given (Some steps) kept contents → contents ≡ Some octets → IsRunOf p run steps → 1 ≤ given.settings.limits.playout_delay → HasSteadyTimestamps p → given.settings.limits.drift ≡ false
    → AreDeliveriesOf given.settings.limits p run → octets ≡ concat (reached_payloads given.settings.limits p run)
whole_is_exact given p run steps kept contents octets whole told is some steady stays honest =
    let all : List Step = steps ++ the_end ∷ [] in
    let back : reverse all ≡ the_end ∷ reverse steps = reverse_more steps the_end in
    whole.sink all octets whole.ended told
    ∙ ap (released_by (setup_of given)) back
    ∙ ap (λ h. concat (released_payloads given.settings.limits (end_step ∷ h))) is
    ∙ ap concat (sent.release_set given.settings.limits p run steady some stays honest)

-- and of one epoch after another
pub whole_by_epochs : (given : Given) (streams : SentStreams) (run : List Transfer) (steps : List Step) (kept : Option (List Step)) (contents : Option (List ℕ)) (octets : List ℕ)
    → IsWhole given (Some steps) kept contents → contents ≡ Some octets → IsRunOfAll streams run steps → 1 ≤ given.settings.limits.playout_delay → ((epoch : ℕ) → HasSteadyTimestamps (streams epoch))
    → AreTransfersOf given.settings.limits streams run → octets ≡ concat (payloads_of_epochs streams (sent_epochs given.settings.limits streams run))
whole_by_epochs given streams run steps kept contents octets whole told is some steady are =
    let all : List Step = steps ++ the_end ∷ [] in
    let back : reverse all ≡ the_end ∷ reverse steps = reverse_more steps the_end in
    whole.sink all octets whole.ended told
    ∙ ap (released_by (setup_of given)) back
    ∙ ap (λ h. concat (released_payloads given.settings.limits (end_step ∷ h))) is
    ∙ ap concat (by_epochs.release_set given.settings.limits streams run steady some are)
