-- Worked rows of the definitions.
use Rattle.std.proofs.Common.{◌≡◌, ◌<◌, ℕ, zero, suc, List, [], ◌∷◌, slice_get, None, Some, refl, subst, arith}
use Rattle.rist_desk.specs.declared.step.Step.{Step}
use Rattle.rist_desk.specs.declared.step.Event.TheVariants.{Keepalive}
use Rattle.rist_desk.specs.declared.step.Mark.TheVariants.{Plain}
use Rattle.rist_compare.specs.Tears.{of, own_of, Agree, IsFirstTear}

-- a step of a link at a tick
abbrev step : ℕ → ℕ → Step
step link at = record { link = link; at = at; what = Keepalive; mark = Plain; made = 0; asked = [] }

-- three steps, of links 0, 1 and 0
abbrev steps : List Step
steps = step 0 5 ∷ step 1 6 ∷ step 0 7 ∷ []

abbrev both : List (List Step)
both = (step 0 5 ∷ step 0 7 ∷ []) ∷ (step 1 6 ∷ []) ∷ []

of_link_0 : of 0 steps ≡ step 0 5 ∷ step 0 7 ∷ []
of_link_0 = refl

of_link_2 : of 2 steps ≡ []
of_link_2 = refl

own_of_link_1 : own_of 1 both ≡ step 1 6 ∷ []
own_of_link_1 = refl

own_of_link_2 : own_of 2 both ≡ []
own_of_link_2 = refl

links_are : (k : ℕ) (s : Step) → slice_get steps k ≡ Some s → s.link < 2
links_are zero s is = let same : step 0 5 ≡ s = cc (is) in subst (λ (t : Step). t.link < 2) same (omega arith)
links_are (suc zero) s is = let same : step 1 6 ≡ s = cc (is) in subst (λ (t : Step). t.link < 2) same (omega arith)
links_are (suc (suc zero)) s is = let same : step 0 7 ≡ s = cc (is) in subst (λ (t : Step). t.link < 2) same (omega arith)
links_are (suc (suc (suc k))) s is = absurd (cc (is))

same_are : (link : ℕ) → link < 2 → of link steps ≡ own_of link both
same_are zero lt = refl
same_are (suc zero) lt = refl
same_are (suc (suc k)) lt = absurd (omega (arith, lt))

they_agree : Agree steps both
they_agree = record { links = links_are; same = same_are }

-- the worker of link 0 lacks its second step
lacks_one : IsFirstTear steps ((step 0 5 ∷ []) ∷ (step 1 6 ∷ []) ∷ []) (record { link = 0; place = 1; desk = Some (step 0 7); own = None })
lacks_one =
    record {
      here = record { same = refl; desk_is = refl; own_is = refl; differ = λ e. cc (e) };
      below = λ link lt. absurd (omega (arith, lt));
    }

below_one : (link : ℕ) → link < 1 → of link steps ≡ own_of link ((step 0 5 ∷ step 0 7 ∷ []) ∷ [])
below_one zero lt = refl
below_one (suc k) lt = absurd (omega (arith, lt))

-- no worker has link 1
no_worker : IsFirstTear steps ((step 0 5 ∷ step 0 7 ∷ []) ∷ []) (record { link = 1; place = 0; desk = Some (step 1 6); own = None })
no_worker =
    record {
      here = record { same = refl; desk_is = refl; own_is = refl; differ = λ e. cc (e) };
      below = below_one;
    }
