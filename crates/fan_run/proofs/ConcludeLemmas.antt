-- What each place stands for once the end was told, by the one history of rows.
use Rattle.std.proofs.Common.{◌≡◌, ◌≢◌, ◌<◌, ◌≤◌, ℕ, zero, suc, List, [], ◌∷◌, ◌++◌, length, reverse, slice_get, true, false, Option, None, Some, option_map, refl, ap, sym, ◌∙◌, subst, arith}
use Rattle.std.specs.Prelude.{Ok}
use Rattle.std.proofs.lemmas.List.{length-map, reverse-reverse}
use Rattle.std.proofs.lemmas.Option.{slice_get_within, slice_get-map}
use Rattle.outside_io.specs.Causes.{RoseWhere}
use Rattle.reorder_buffer.specs.declared.phase.Phase.TheVariants.{Open}
use Rattle.rist_reporter.specs.declared.out.Outs.{Outs}
use Rattle.rist_ends.specs.declared.outcome.Answer.{Answer}
use Rattle.rist_ends.specs.declared.outcome.Answer.TheVariants as answers
use Rattle.rist_ends.specs.Outcome.{outcome_with}
use Rattle.rist_ends.specs.Receiver.{ReceiverState, settings_of}
use Rattle.rist_compare.specs.Tears.{Agree}
use Rattle.rist_desk.specs.declared.step.Step.{Step}
use Rattle.rist_desk.specs.Legal.{IsLegal, Setup, phase_of}
use Rattle.rist_desk.specs.Made.{end_told, step_after}
use Rattle.rist_desk.specs.Desk.{DeskState, Given, IsDesk, StandsFor, is_cut_off, setup_of}
use Rattle.turn_lock.specs.declared.pass.Pass.{Pass}
use Rattle.turn_lock.specs.declared.rule.Turn.{Turn}
use Rattle.turn_lock.specs.Turns.{entries, of}
use Rattle.turn_lock.specs.Passes.{IsClosed, entries_with, turns_seen}
use Rattle.turn_desk.specs.Own.{AreOf}
use Rattle.turn_desk.specs.Stands.{kept_with, with_end}
use Rattle.turn_desk.proofs.SharedLemmas.{kept_more}
use Rattle.rist_fan.specs.declared.fan.Fan.{Fan}
use Rattle.rist_fan.specs.declared.flow.Came.{Came}
use Rattle.rist_fan.specs.declared.flow.Flow.{Flow}
use Rattle.rist_fan.specs.Seen.{FanStep, seen}
use Rattle.rist_fan.specs.Fan.{FanEnded, HasEnded, flows_in, step_come}
use Rattle.rist_fan.proofs.FanLemmas.{at_some}
use Rattle.fan_desk.specs.declared.desk.FanDesk.{FanDesk}
use Rattle.fan_desk.specs.Own.{IsOf}
use Rattle.fan_desk.specs.Rows.{StandAs, turns_at}
use Rattle.fan_desk.proofs.OwnLemmas.{open_before, rows_before, seen_before}
use Rattle.fan_desk.proofs.RowLemmas.{entries_at, of_at, sees_step}
use Rattle.desk_run.specs.Receiving.{IsWhole}
use Rattle.desk_run.specs.Turns.{HasConcluded}
use Rattle.desk_run.proofs.AgreeLemmas.{agrees}
use Rattle.desk_run.proofs.EndLemmas.{whole_end}
use Rattle.desk_run.proofs.RunLemmas.{exactly}
use Rattle.desk_run.proofs.SeenLemmas.{seen_first}
use Rattle.fan_run.specs.Concluded.{AreOwnedRows, HaveConcluded, no_passes, own_at, seen_by}

-- ---- places of a list

absent : {A : Type 0} (l : List A) (k : ℕ) → slice_get l k ≡ None → length l ≤ k
absent [] k e = omega arith
absent (x ∷ l) zero e = absurd (cc (e))
absent (x ∷ l) (suc k) e = let more = absent l k e in omega (arith, more)

-- ---- own rows, as a place saw them

module _ (turns : List (Turn FanStep)) (own : List (List FanStep)) (v : ℕ) where
  seen_own : (k : ℕ) (l : List Step) → ((rows : List FanStep) → slice_get own k ≡ Some rows → rows ≡ reverse (of k turns)) → slice_get (own_at v own) k ≡ Some l
      → l ≡ reverse (of k (turns_at v turns))
  seen_own k l owned e = by_place (slice_get own k) refl
    where
      by_place : (o : Option (List FanStep)) → slice_get own k ≡ o → l ≡ reverse (of k (turns_at v turns))
      by_place None none = absurd (let gone = sym e ∙ (slice_get-map (seen_by v) own k ∙ ap (option_map (seen_by v)) none) in cc (gone))
      by_place (Some rows) at =
          let same : l ≡ seen_by v rows = (let both = sym e ∙ (slice_get-map (seen_by v) own k ∙ ap (option_map (seen_by v)) at) in cc (both)) in
          let back : reverse rows ≡ of k turns = ap (λ (x : List FanStep). reverse x) (owned rows at) ∙ reverse-reverse (of k turns) in
          same ∙ (ap (λ (x : List FanStep). reverse (seen v x)) back ∙ ap (λ (x : List Step). reverse x) (sym (of_at turns v k)))

  none_behind : ((k : ℕ) → length own ≤ k → of k turns ≡ []) → (k : ℕ) → length (own_at v own) ≤ k → of k (turns_at v turns) ≡ []
  none_behind behind k more = of_at turns v k ∙ ap (seen v) (behind k (subst (λ (n : ℕ). n ≤ k) (length-map own (seen_by v)) more))

-- ---- what the passes own

module _ {X : Type 0} (turns : List (Turn FanStep)) (own : List (List FanStep)) (passes : List (Pass FanStep X)) where
  abbrev Owns : Type 0
  Owns = (k : ℕ) (p : Pass FanStep X) → slice_get passes k ≡ Some p → entries_with p ≡ of k turns

  abbrev Others : Type 0
  Others = (k : ℕ) → length passes ≤ k → of k turns ≡ []

  rows_behind : Owns → Others → AreOwnedRows own passes → (k : ℕ) → length own ≤ k → of k turns ≡ []
  rows_behind owns others owned k more = by_place (slice_get passes k) refl
    where
      by_place : (o : Option (Pass FanStep X)) → slice_get passes k ≡ o → of k turns ≡ []
      by_place None e = others k (absent passes k e)
      by_place (Some p) e = sym (owns k p e) ∙ owned.behind k p more e

  each_own : Owns → AreOwnedRows own passes → (k : ℕ) (rows : List FanStep) → slice_get own k ≡ Some rows → rows ≡ reverse (of k turns)
  each_own owns owned k rows e = let there = owned.each k rows e in there.2 ∙ ap (λ (x : List FanStep). reverse x) (owns k there.0 there.1)

  of_links : (v : ℕ) → Owns → Others → ((k : ℕ) (p : Pass FanStep X) → slice_get passes k ≡ Some p → AreOf k (seen v (entries_with p))) → (k : ℕ) → AreOf k (of k (turns_at v turns))
  of_links v owns others are k = subst (AreOf k) (sym (of_at turns v k)) (by_place (slice_get passes k) refl)
    where
      by_place : (o : Option (Pass FanStep X)) → slice_get passes k ≡ o → AreOf k (seen v (of k turns))
      by_place None e = subst (λ (rows : List FanStep). AreOf k (seen v rows)) (sym (others k (absent passes k e))) tt
      by_place (Some p) e = subst (λ (rows : List FanStep). AreOf k (seen v rows)) (owns k p e) (are k p e)

-- ---- one place

told_once : (l steps : List Step) → Some (reverse l) ≡ Some steps → reverse l ≡ steps
told_once l steps e = cc (e)

-- where the end was made
whole_at : (given : Given) (r : ReceiverState) (c : Option (List ℕ)) (f : ℕ) (h : List Step) (after : DeskState) (answer : Answer) (outs : Outs) → IsDesk given (kept_with r c f h)
    → after.kept ≡ Some (reverse (with_end h answer outs)) → ((steps : List Step) → after.kept ≡ Some steps → StandsFor given after (reverse steps)) → is_cut_off answer ≡ false
    → IsWhole given (Some (reverse h)) after.kept after.contents
whole_at given r c f h after answers.Stopped outs old kept stands sound = absurd (cc (sound))
whole_at given r c f h after answers.WriteFault outs old kept stands sound = absurd (cc (sound))
whole_at given r c f h after (answers.Verdict v) outs old kept stands sound = whole_end given (kept_with r c f h) after false (Ok (answers.Verdict v)) outs old refl (kept ∙ kept_more (step_after end_told (outcome_with (answers.Verdict v) outs)) h) stands refl
whole_at given r c f h after answers.Spent outs old kept stands sound = whole_end given (kept_with r c f h) after false (Ok answers.Spent) outs old refl (kept ∙ kept_more (step_after end_told (outcome_with answers.Spent outs)) h) stands refl
whole_at given r c f h after answers.Made outs old kept stands sound = whole_end given (kept_with r c f h) after false (Ok answers.Made) outs old refl (kept ∙ kept_more (step_after end_told (outcome_with answers.Made outs)) h) stands refl
whole_at given r c f h after answers.Nothing outs old kept stands sound = whole_end given (kept_with r c f h) after false (Ok answers.Nothing) outs old refl (kept ∙ kept_more (step_after end_told (outcome_with answers.Nothing outs)) h) stands refl

concluded_at : (given : Given) (r s : ReceiverState) (c d : Option (List ℕ)) (f n : ℕ) (h : List Step) (answer : Answer) (outs : Outs) (own : List (List Step)) → IsDesk given (kept_with r c f h)
    → StandsFor given (kept_with s d n (with_end h answer outs)) (with_end h answer outs) → settings_of s ≡ given.settings → RoseWhere (is_cut_off answer) given.faults n → Agree (reverse h) own
    → HasConcluded given own no_passes (is_cut_off answer) s d n
concluded_at given r s c d f n h answer outs own old ended settings cause agree =
    let all = with_end h answer outs in
    let after : DeskState = kept_with s d n all in
    let stands : (steps : List Step) → after.kept ≡ Some steps → StandsFor given after (reverse steps) =
    λ steps e. subst (λ (l : List Step). StandsFor given after (reverse l)) (told_once all steps e) (subst (StandsFor given after) (sym (reverse-reverse all)) ended) in
    record {
      desk = after;
      receiver_is = refl;
      contents_are = refl;
      faults_are = refl;
      tells = refl;
      settings = settings;
      stands = stands;
      cause = cause;
      received = λ sound. record {
        before = Some (reverse h);
        whole = whole_at given r c f h after answer outs old refl stands sound;
        agree = agree;
      };
      seen = λ k p e. absurd (cc (e));
      older = λ k p e. absurd (cc (e));
    }

-- the end was not made after a failed write
cut_by : (setup : Setup) (answer : Answer) (outs : Outs) (later steps : List Step) → IsLegal setup (with_end (later ++ steps) answer outs) → phase_of steps ≢ Open → is_cut_off answer ≡ true
cut_by setup answers.Stopped outs later steps legal not = refl
cut_by setup answers.WriteFault outs later steps legal not = refl
cut_by setup (answers.Verdict w) outs later steps legal not = absurd (not (open_before setup _ later steps legal))
cut_by setup answers.Spent outs later steps legal not = absurd (not (open_before setup _ later steps legal))
cut_by setup answers.Made outs later steps legal not = absurd (not (open_before setup _ later steps legal))
cut_by setup answers.Nothing outs later steps legal not = absurd (not (open_before setup _ later steps legal))

-- ---- together

pub have_concluded : {N K : Type 0} (desk : FanDesk N K) (given : ℕ → Given) (contents : K → Option (List ℕ)) (faults : K → ℕ) (passes : List (Pass FanStep (Fan K))) (fan : Fan K) (left : List (Flow K)) (came : List Came)
    → (closed : IsClosed (StandAs given contents faults) passes fan) → FanEnded given contents faults left (entries closed.turns) came → length left ≡ length (flows_in fan) → length came ≡ length left
    → ((k : ℕ) (p : Pass FanStep (Fan K)) → slice_get passes k ≡ Some p → IsOf desk k p)
    → (own : List (List FanStep)) → AreOwnedRows own passes → HaveConcluded given contents faults own passes left came
unfolding concluded_at
have_concluded {N} {K} desk given contents faults passes fan left came closed ended as_many came_many is own owned =
    let turns = closed.turns in
    let h = entries turns in
    let owns = each_own turns own passes closed.own owned in
    let behind = rows_behind turns own passes closed.own closed.others owned in
    let at_end : (v : ℕ) (c : Came) → slice_get came v ≡ Some c → seen v (step_come None end_told came ∷ h) ≡ with_end (seen v h) c.answer c.outs = λ v c at. sees_step None end_told came h v c at in
    record {
      turns = turns;
      owned = owns;
      behind = behind;
      each = λ v flow c at_flow at_came.
          let old = at_some (flows_in fan) v (subst (λ (n : ℕ). v < n) as_many (slice_get_within left v flow at_flow)) in
          let e : HasEnded (given v) contents faults flow c.answer (with_end (seen v h) c.answer c.outs) =
          subst (HasEnded (given v) contents faults flow c.answer) (at_end v c at_came) (ended v flow c at_flow at_came) in
          let agree : Agree (reverse (seen v h)) (own_at v own) =
          subst (λ (l : List Step). Agree (reverse l) (own_at v own)) (entries_at turns v)
          (agrees (turns_at v turns) (own_at v own) (none_behind turns own v behind) (λ k l at. seen_own turns own v k l (owns k) at)
          (of_links turns own passes v closed.own closed.others (λ k p at. (is k p at).rows v))) in
          let con : HasConcluded (given v) (own_at v own) no_passes (is_cut_off c.answer) flow.receiver (contents flow.sink) (faults flow.sink) =
          concluded_at (given v) old.0.receiver flow.receiver (contents old.0.sink) (contents flow.sink) (faults old.0.sink) (faults flow.sink) (seen v h) c.answer c.outs (own_at v own)
          (closed.stood v old.0 old.1) e.stands e.settings e.cause agree in
          record {
            concluded = con;
            kept = refl;
            exact = λ sound delay. exactly (given v) con.desk (own_at v own) flow.receiver.counts delay (ap settings_of con.receiver_is ∙ con.settings) (ap (λ (x : ReceiverState). x.counts) (sym con.receiver_is)) con.stands (con.received sound);
          };
      older = λ k p at. seen_first turns (turns_seen p) (closed.saw k p at);
      cut = λ v c k p at_came at_pass failed.
          let flow = at_some left v (subst (λ (n : ℕ). v < n) came_many (slice_get_within came v c at_came)) in
          let e : HasEnded (given v) contents faults flow.0 c.answer (with_end (seen v h) c.answer c.outs) =
          subst (HasEnded (given v) contents faults flow.0 c.answer) (at_end v c at_came) (ended v flow.0 c flow.1 at_came) in
          let begins = closed.saw k p at_pass in
          let parts : seen v h ≡ seen v (entries begins.0) ++ seen v (entries (turns_seen p)) =
          ap (λ (ts : List (Turn FanStep)). seen v (entries ts)) begins.1 ∙ (ap (seen v) (rows_before begins.0 (turns_seen p)) ∙ seen_before v (entries begins.0) (entries (turns_seen p))) in
          cut_by (setup_of (given v)) c.answer c.outs (seen v (entries begins.0)) (seen v (entries (turns_seen p)))
          (subst (λ (l : List Step). IsLegal (setup_of (given v)) (with_end l c.answer c.outs)) parts e.stands.legal) failed;
    }
