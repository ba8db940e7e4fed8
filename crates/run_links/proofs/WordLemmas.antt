-- Random words that are the same before and after.
use Rattle.std.proofs.Common.{◌≡◌, ◌∙◌, Bool, sym, ap, subst}
use Rattle.outside_host.specs.Shelf.{Shelf}
use Rattle.run_links.specs.Frame.{KeepsWords}
use Rattle.run_parts.specs.Places.{CameBack}

-- words that are the same before and after
pub words_between : {I O E L C : Type 0} (old mid later new : Shelf I O E L C) (draws : Bool) → mid.entropies ≡ old.entropies → new.entropies ≡ later.entropies
    → KeepsWords mid later draws → KeepsWords old new draws
words_between old mid later new draws a b k = record {
  others = λ place other. ap (λ x. x place) b ∙ (k.others place other ∙ ap (λ x. x place) a);
  first = subst (λ x. CameBack (x 0) (new.entropies 0)) a (subst (λ x. CameBack (mid.entropies 0) (x 0)) (sym b) k.first);
  undrawn = λ none. ap (λ x. x 0) b ∙ (k.undrawn none ∙ ap (λ x. x 0) a);
}
