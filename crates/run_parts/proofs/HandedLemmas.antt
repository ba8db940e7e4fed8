-- What is handed out from the first places and comes back there.
use Rattle.std.proofs.Common.{◌≡◌, ◌∙◌, ◌<◌, ℕ, List, length, sym, ap, subst, Option, IfSome}
use Rattle.outside_host.specs.declared.host.Place.{Place}
use Rattle.outside_host.specs.Links.{AreOut, AreBack, AreAsTheyWere}
use mathlib.Core.Logic.{inl}
use Rattle.outside_host.proofs.LinkOpeningLemmas.{all_as_they_were}
use Rattle.psk_seal.specs.Sealer.{SealerState}
use Rattle.run_parts.specs.Places.{FromTheFirst}
use Rattle.run_parts.specs.Objects.{Tells}
use Rattle.run_parts.specs.Sealing.{DrawnFirst}

-- objects that were handed out from the first places, and came back there
pub from_first : {X : Type 0} (old mid later new : ℕ → Place X) (were are : List X) → AreOut old mid were → later ≡ mid → AreBack later new are → length are ≡ length were
    → FromTheFirst old new were are
from_first old mid later new were are out same back count = record {
  took = out.was;
  gave = λ place d less. back.now place d (subst (λ n. place < n) (sym count) less) (ap (λ f. f place) same ∙ out.now place less);
}

-- the same, between places that stood so before and after
pub places_between : {X : Type 0} (old mid later new : ℕ → Place X) (were are : List X) → mid ≡ old → new ≡ later → FromTheFirst mid later were are → FromTheFirst old new were are
places_between old mid later new were are e f s = subst (λ x. FromTheFirst x new were are) e (subst (λ x. FromTheFirst mid x were are) (sym f) s)

-- links that were handed out and are given back as they were
pub links_as_they_were : {L : Type 0} (old mid later new : ℕ → Place L) (links given : List L) → AreOut old mid links → later ≡ mid → given ≡ links → AreBack later new given → AreAsTheyWere old new
links_as_they_were old mid later new links given out same is back =
    all_as_they_were old mid later new links out (λ place. inl (ap (λ f. f place) same)) (λ place less. ap (λ f. f place) same) (subst (AreBack later new) is back)

-- words that were drawn between the same places
pub drawn_between : {I O E : Type 0} (tells : Tells I O E) (sealer : Option SealerState) (old mid later new : ℕ → Place E) → mid ≡ old → new ≡ later
    → IfSome sealer (DrawnFirst tells mid later) → IfSome sealer (DrawnFirst tells old new)
drawn_between tells sealer old mid later new e f drawn =
    subst (λ x. IfSome sealer (DrawnFirst tells x new)) e (subst (λ x. IfSome sealer (DrawnFirst tells mid x)) (sym f) drawn)
