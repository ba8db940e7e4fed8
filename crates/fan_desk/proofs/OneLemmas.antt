-- A row of one place, and places that were told nothing.
use Rattle.std.proofs.Common.{◌≡◌, ◌↔◌, ℕ, zero, suc, true, ◌&&◌, map, List, [], ◌∷◌, unwrap_or, Option, Some, option_map, refl, ap, sym, subst}
use Rattle.outside_io.specs.Told.{IsEmpty}
use Rattle.rist_reporter.specs.declared.out.Outs.{Outs}
use Rattle.rist_ends.specs.declared.told.Told.{Told}
use Rattle.rist_ends.specs.declared.outcome.Answer.{Answer}
use Rattle.rist_ends.specs.declared.outcome.Answer.TheVariants as answers
use Rattle.rist_ends.specs.Outcome.{outcome_with}
use Rattle.rist_desk.specs.declared.step.Step.{Step}
use Rattle.rist_desk.specs.Desk.{Given, IsNew, nothing_given}
use Rattle.turn_desk.specs.Stands.{Answers as AnswersAlone, Stands, kept_with, step_added}
use Rattle.rist_fan.specs.declared.flow.Flow.{Flow}
use Rattle.rist_fan.specs.declared.flow.Came.{Came}
use Rattle.rist_fan.specs.Fan.{AllAnswer, AreNew, FanStands}
use Rattle.rist_fan.specs.Seen.{fan_step, seen}
use Rattle.fan_desk.specs.Origin.{AreUntold, IsUntold, given_at, given_of}
use Rattle.fan_desk.specs.Rows.{Answers, is_stopped, row_added, row_of, row_unless}

pub seen_one : (steps : List Step) → seen 0 (map row_of steps) ≡ steps
seen_one [] = refl
seen_one (s ∷ steps) = ap (λ (l : List Step). s ∷ l) (seen_one steps)

one_row : (told : Told) (answer : Answer) (outs : Outs)
    → row_unless (is_stopped answer && true) (fan_step (Some 0) told (outcome_with answer outs ∷ [])) ≡ option_map row_of (step_added told outs answer)
one_row told answers.Stopped outs = refl
one_row told answers.WriteFault outs = refl
one_row told (answers.Verdict v) outs = refl
one_row told answers.Spent outs = refl
one_row told answers.Made outs = refl
one_row told answers.Nothing outs = refl

pub added_one : (told : Told) (came : Came) → row_added (record { place = Some 0; told = told }) (came ∷ []) tt ≡ option_map row_of (step_added told came.outs came.answer)
added_one told came = one_row told came.answer came.outs

pub stands_one : {K : Type 0} (contents : K → Option (List ℕ)) (faults : K → ℕ) (given : ℕ → Given) (flow : Flow K) (steps : List Step)
    → FanStands given contents faults (flow ∷ []) (map row_of steps) ↔ Stands (given 0) contents faults flow.receiver flow.sink steps
stands_one {K} contents faults given flow steps = (
  λ all. subst (Stands (given 0) contents faults flow.receiver flow.sink) (seen_one steps) (all 0 flow refl),
  back,
)
  where
    back : Stands (given 0) contents faults flow.receiver flow.sink steps → FanStands given contents faults (flow ∷ []) (map row_of steps)
    back one zero f at =
        let same : flow ≡ f = cc (at) in
        subst (λ (x : Flow K). Stands (given 0) contents faults x.receiver x.sink (seen 0 (map row_of steps))) same
        (subst (Stands (given 0) contents faults flow.receiver flow.sink) (sym (seen_one steps)) one)
    back one (suc v) f at = absurd (cc (at))

pub answers_one : (given : ℕ → Given) (steps : List Step) (told : Told) (was is : Came)
    → Answers given (map row_of steps) (record { place = Some 0; told = told }) (was ∷ []) (is ∷ []) tt ↔ AnswersAlone (given 0) steps told was.outs is.outs is.answer
answers_one given steps told was is = (
  λ all. subst (λ (l : List Step). AnswersAlone (given 0) l told was.outs is.outs is.answer) (seen_one steps) (all.each 0 was is refl refl),
  λ one. record { each = back one; places = refl },
)
  where
    back : AnswersAlone (given 0) steps told was.outs is.outs is.answer → AllAnswer given (map row_of steps) (Some 0) told (was ∷ []) (is ∷ [])
    back one zero had came at_was at_is =
        let same_had : was ≡ had = cc (at_was) in
        let same_came : is ≡ came = cc (at_is) in
        subst (λ (x : Came). AnswersAlone (given 0) (seen 0 (map row_of steps)) told x.outs came.outs came.answer) same_had
        (subst (λ (x : Came). AnswersAlone (given 0) (seen 0 (map row_of steps)) told was.outs x.outs x.answer) same_came
        (subst (λ (l : List Step). AnswersAlone (given 0) l told was.outs is.outs is.answer) (sym (seen_one steps)) one))
    back one (suc v) had came at_was at_is = absurd (cc (at_was))

-- ---- what was told nothing

some_empty : (octets : Option (List ℕ)) → IsEmpty octets → (list : List ℕ) → octets ≡ Some list → list ≡ []
some_empty octets empty list is = subst IsEmpty is empty

none_kept : (list : List Step) → Some [] ≡ Some list → list ≡ []
none_kept list is = cc (is)

module _ {K : Type 0} (contents : K → Option (List ℕ)) (faults : K → ℕ) where
  one_new : (flow : Flow K) → IsUntold contents flow → IsNew (given_of contents faults flow) (kept_with flow.receiver (contents flow.sink) (faults flow.sink) [])
  one_new flow u = record {
    settings = refl;
    receiver = u.receiver;
    running = u.running;
    shutter = refl;
    limit = refl;
    tells_steps = refl;
    tells_octets = refl;
    faults = refl;
    steps = none_kept;
    octets = some_empty (contents flow.sink) u.empty;
  }

  pub all_new : (flows : List (Flow K)) → AreUntold contents flows → AreNew (given_at contents faults flows) contents faults flows
  all_new flows untold v flow at =
      subst (λ (x : Option (Flow K)). IsNew (unwrap_or (option_map (given_of contents faults) x) nothing_given) (kept_with flow.receiver (contents flow.sink) (faults flow.sink) [])) (sym at)
      (one_new flow (untold v flow at))
