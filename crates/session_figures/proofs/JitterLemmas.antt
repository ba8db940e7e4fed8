-- Jitter with one more step.
use Rattle.std.proofs.Common.{◌≡◌, ℕ, ◌<◌, List, [], ◌++◌, Bool, false, Option, Some, sym, subst, arith}
use Rattle.std.specs.Prelude.{◌==◌, if◌then◌else◌}
use Rattle.std.proofs.lemmas.Bool.Decides.{nat_tests}
use Rattle.session_figures.specs.declared.jitter.Jitter.{Jitter}
use Rattle.session_figures.specs.Spreads.{jitters_by, transit_before, transit_word}
use Rattle.session_figures.specs.Counting.{AreJittersOf}

-- a packet was received first time
pub first_taken : (new : Jitter) (restarts first tick stamp transit : ℕ) (last : Option ℕ) (values : List ℕ) → 0 < first → transit ≡ transit_word tick stamp
    → AreJittersOf new (Some transit) (jitters_by (transit_before restarts last) transit ++ values)
    → AreJittersOf new (if first == 0 then transit_before restarts last else Some (transit_word tick stamp))
    ((if first == 0 then [] else jitters_by (transit_before restarts last) (transit_word tick stamp)) ++ values)
first_taken new restarts first tick stamp transit last values some is are =
    let test : (first == 0) ≡ false = grind (arith, nat_tests) in
    subst (λ (b : Bool). AreJittersOf new (if b then transit_before restarts last else Some (transit_word tick stamp)) ((if b then [] else jitters_by (transit_before restarts last) (transit_word tick stamp)) ++ values)) (sym test)
    (subst (λ (t : ℕ). AreJittersOf new (Some t) (jitters_by (transit_before restarts last) t ++ values)) is are)
