-- What stands once the end was told in turns.
use Rattle.std.proofs.Common.{◌≡◌, ◌≢◌, ◌≤◌, ℕ, zero, suc, List, [], ◌∷◌, ◌++◌, length, reverse, slice_get, Bool, true, false, Option, None, Some, refl, ap, sym, ◌∙◌, subst, arith}
use Rattle.std.specs.Prelude.{Ok}
use Rattle.std.proofs.lemmas.List.{reverse-reverse}
use Rattle.outside_io.specs.Causes.{RoseWhere}
use Rattle.reorder_buffer.specs.declared.phase.Phase.TheVariants.{Open}
use Rattle.rist_reporter.specs.declared.out.Outs.{Outs}
use Rattle.rist_ends.specs.declared.outcome.Answer.{Answer}
use Rattle.rist_ends.specs.declared.outcome.Answer.TheVariants as answers
use Rattle.rist_ends.specs.Outcome.{outcome_with}
use Rattle.rist_desk.specs.declared.step.Step.{Step}
use Rattle.rist_desk.specs.Legal.{Setup, IsLegal, phase_of}
use Rattle.rist_desk.specs.Made.{end_told, step_after}
use Rattle.rist_desk.specs.Desk.{DeskState, Given, IsDesk, StandsFor, is_cut_off, setup_of}
use Rattle.turn_lock.specs.History.{added}
use Rattle.turn_lock.specs.declared.rule.Turn.{Turn}
use Rattle.turn_lock.specs.declared.pass.Pass.{Pass}
use Rattle.turn_lock.specs.Turns.{entries, of, Begins}
use Rattle.turn_lock.specs.Passes.{IsClosed, entries_with, turns_seen}
use Rattle.turn_desk.specs.declared.parts.Parts.{Parts}
use Rattle.turn_desk.specs.declared.desk.TurnDesk.{TurnDesk}
use Rattle.turn_desk.specs.declared.shared.Shared.{Shared}
use Rattle.turn_desk.specs.Own.{AreOf, IsOf}
use Rattle.turn_desk.specs.Stands.{StandAs, IsEnded, kept_with, with_end}
use Rattle.turn_desk.proofs.SharedLemmas.{kept_more}
use Rattle.desk_run.specs.declared.deciding.Last.TheVariants as lasts
use Rattle.desk_run.specs.Inside.Deciding.{last_by}
use Rattle.desk_run.specs.Turns.{AreOwned, HasConcluded}
use Rattle.desk_run.proofs.AgreeLemmas.{agrees}
use Rattle.desk_run.proofs.EndLemmas.{whole_end}
use Rattle.desk_run.proofs.SeenLemmas.{seen_with_end}
use Rattle.rist_desk.specs.Work.{IsOlder}

-- ---- places of a list

absent : {A : Type 0} (l : List A) (k : ℕ) → slice_get l k ≡ None → length l ≤ k
absent [] k e = omega arith
absent (x ∷ l) zero e = absurd (cc (e))
absent (x ∷ l) (suc k) e = let more = absent l k e in omega (arith, more)

-- ---- what the passes own

module _ {X : Type 0} (turns : List (Turn Step)) (own : List (List Step)) (passes : List (Pass Step X)) where
  abbrev Owns : Type 0
  Owns = (k : ℕ) (p : Pass Step X) → slice_get passes k ≡ Some p → entries_with p ≡ of k turns

  abbrev Others : Type 0
  Others = (k : ℕ) → length passes ≤ k → of k turns ≡ []

  none_behind : Owns → Others → AreOwned own passes → (k : ℕ) → length own ≤ k → of k turns ≡ []
  none_behind owns others owned k more = by_place (slice_get passes k) refl
    where
      by_place : (o : Option (Pass Step X)) → slice_get passes k ≡ o → of k turns ≡ []
      by_place None e = others k (absent passes k e)
      by_place (Some p) e = sym (owns k p e) ∙ owned.behind k p more e

  each_own : Owns → AreOwned own passes → (k : ℕ) (l : List Step) → slice_get own k ≡ Some l → l ≡ reverse (of k turns)
  each_own owns owned k l e = let there = owned.each k l e in there.2 ∙ ap (λ (x : List Step). reverse x) (owns k there.0 there.1)

  of_links : Owns → Others → ((k : ℕ) (p : Pass Step X) → slice_get passes k ≡ Some p → AreOf k (entries_with p)) → (k : ℕ) → AreOf k (of k turns)
  of_links owns others are k = by_place (slice_get passes k) refl
    where
      by_place : (o : Option (Pass Step X)) → slice_get passes k ≡ o → AreOf k (of k turns)
      by_place None e = subst (AreOf k) (sym (others k (absent passes k e))) tt
      by_place (Some p) e = subst (AreOf k) (owns k p e) (are k p e)

-- ---- a failed write that a pass has seen

-- after it nothing more is legal
stays_closed : (setup : Setup) (e : Option Step) (before : List Step) → IsLegal setup (added e before) → phase_of before ≢ Open → phase_of (added e before) ≢ Open
stays_closed setup None before legal not = not
stays_closed setup (Some s) before legal not = absurd (not legal.1.running)

legal_before : (setup : Setup) (e : Option Step) (before : List Step) → IsLegal setup (added e before) → IsLegal setup before
legal_before setup None before legal = legal
legal_before setup (Some s) before legal = legal.0

still_closed : (setup : Setup) (later seen : List (Turn Step)) → IsLegal setup (entries (later ++ seen)) → phase_of (entries seen) ≢ Open → phase_of (entries (later ++ seen)) ≢ Open
still_closed setup [] seen legal not = not
still_closed setup (t ∷ ts) seen legal not =
    stays_closed setup t.entry (entries (ts ++ seen)) legal (still_closed setup ts seen (legal_before setup t.entry (entries (ts ++ seen)) legal) not)

-- and the end was not made
cut_by : (setup : Setup) (answer : Answer) (outs : Outs) (h : List Step) → IsLegal setup (with_end h answer outs) → phase_of h ≢ Open → is_cut_off answer ≡ true
cut_by setup answers.Stopped outs h legal not = refl
cut_by setup answers.WriteFault outs h legal not = refl
cut_by setup (answers.Verdict v) outs h legal not = absurd (not legal.1.running)
cut_by setup answers.Spent outs h legal not = absurd (not legal.1.running)
cut_by setup answers.Made outs h legal not = absurd (not legal.1.running)
cut_by setup answers.Nothing outs h legal not = absurd (not legal.1.running)

seen_cut : (setup : Setup) (answer : Answer) (outs : Outs) (turns seen : List (Turn Step)) → IsLegal setup (entries turns) → IsLegal setup (with_end (entries turns) answer outs)
    → Begins turns seen → phase_of (entries seen) ≢ Open → is_cut_off answer ≡ true
seen_cut setup answer outs turns seen legal ended begins not =
    let later = begins.0 in
    let whole : phase_of (entries turns) ≢ Open = subst (λ (ts : List (Turn Step)). phase_of (entries ts) ≢ Open) (sym begins.1) (still_closed setup later seen (subst (λ (ts : List (Turn Step)). IsLegal setup (entries ts)) begins.1 legal) not) in
    cut_by setup answer outs (entries turns) ended whole

-- ---- together

told_once : (l steps : List Step) → Some (reverse l) ≡ Some steps → reverse l ≡ steps
told_once l steps e = cc (e)

pub has_concluded : {N K : Type 0} (desk : TurnDesk N K) (given : Given) (contents : K → Option (List ℕ)) (faults : K → ℕ) (passes : List (Pass Step (Shared N K))) (parts left : Parts K) (answer : Answer) (outs : Outs) (cut : Bool)
    → (closed : IsClosed (StandAs given contents faults) passes parts) → IsEnded given contents faults (entries closed.turns) answer outs left → cut ≡ is_cut_off answer
    → ((k : ℕ) (p : Pass Step (Shared N K)) → slice_get passes k ≡ Some p → IsOf desk k p)
    → (own : List (List Step)) → AreOwned own passes → HasConcluded given own passes cut left.receiver (contents left.sink) (faults left.sink)
has_concluded desk given contents faults passes parts left answer outs cut closed ended is are own owned =
    let turns = closed.turns in
    let h = entries turns in
    let all = with_end h answer outs in
    let old : IsDesk given (kept_with parts.receiver (contents parts.sink) (faults parts.sink) h) = closed.stood in
    let after : DeskState = kept_with left.receiver (contents left.sink) (faults left.sink) all in
    let stands : (steps : List Step) → after.kept ≡ Some steps → StandsFor given after (reverse steps) =
    λ steps e. subst (λ (l : List Step). StandsFor given after (reverse l)) (told_once all steps e) (subst (StandsFor given after) (sym (reverse-reverse all)) ended.stands) in
    let legal : IsLegal (setup_of given) h = subst (IsLegal (setup_of given)) (reverse-reverse h) (old.stands (reverse h) refl).legal in
    record {
      desk = after;
      receiver_is = refl;
      contents_are = refl;
      faults_are = refl;
      tells = refl;
      settings = ended.settings;
      stands = stands;
      cause = subst (λ (b : Bool). RoseWhere b given.faults (faults left.sink)) (sym is) ended.cause;
      received = λ sound. record {
        before = Some (reverse h);
        whole = whole_end given (kept_with parts.receiver (contents parts.sink) (faults parts.sink) h) after false (Ok answer) outs old refl (kept_more (step_after end_told (outcome_with answer outs)) h) stands
            (ap (λ (b : Bool). last_by b lasts.Told) (sym is ∙ sound));
        agree = agrees turns own (none_behind turns own passes closed.own closed.others owned) (each_own turns own passes closed.own owned)
            (of_links turns own passes closed.own closed.others (λ k p e. (are k p e).steps));
      };
      seen = λ k p e not. is ∙ seen_cut (setup_of given) answer outs turns (turns_seen p) legal ended.stands.legal (closed.saw k p e) not;
      older = λ k p e. record {
        steps = reverse (entries (turns_seen p));
        seen_is = refl;
        older = λ whole kept. subst (λ (l : List Step). IsOlder (reverse (entries (turns_seen p))) l) (told_once all whole kept) (seen_with_end turns (turns_seen p) answer outs (closed.saw k p e));
      };
    }
