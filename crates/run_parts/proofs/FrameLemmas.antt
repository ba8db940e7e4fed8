-- Links that a run leaves as they stood.
use Rattle.std.proofs.Common.{◌≡◌, ◌∙◌, ◌⊎◌, ◌<◌, ◌≤◌, ℕ, List, [], ◌∷◌, length, get_or, ap, arith}
use mathlib.Core.Logic.{inl, inr}
use Rattle.outside_host.specs.declared.host.Place.{Place}
use Rattle.outside_host.specs.Links.{AreOut, AreBack, AreAsTheyWere}
use Rattle.outside_host.proofs.LinkOpeningLemmas.{below}
use Rattle.run_parts.specs.Places.{CameBack, IsAsItWas}
use Rattle.run_parts.specs.Frame.{KeepsLinksBut}

-- what is as it was came back or stands as it stood
as_was_back : {X : Type 0} (old new : Place X) → IsAsItWas old new → CameBack old new
as_was_back old new (inl same) = inl same
as_was_back old new (inr (x, was, now)) = inr (x, x, was, now)

-- links that can't all be opened
pub links_stay : {L : Type 0} (count : ℕ) (old new : ℕ → Place L) → AreAsTheyWere old new → KeepsLinksBut count old new
links_stay count old new same = record {
  others = λ place least. same place;
  first = λ place. as_was_back (old place) (new place) (same place);
}

link_back : {L : Type 0} (old mid later new : ℕ → Place L) (links given : List L) (place : ℕ) → AreOut old mid links → later ≡ mid → length given ≡ length links → AreBack later new given
    → (place < length links) ⊎ (length links ≤ place) → CameBack (old place) (new place)
link_back old mid later new [] given place out same count back (inl less) = absurd (omega (arith, less))
link_back old mid later new (x ∷ xs) given place out same count back (inl less) =
    inr (get_or (x ∷ xs) place x, get_or given place x, out.was place x less, back.now place x (omega (arith, count, less)) (ap (λ f. f place) same ∙ out.now place less))
link_back old mid later new links given place out same count back (inr least) =
    inl (back.others place (omega (arith, count, least)) ∙ ap (λ f. f place) same ∙ out.others place least)

-- links that were opened and came back
pub links_back : {L : Type 0} (count : ℕ) (old mid later new : ℕ → Place L) (links given : List L) → length links ≡ count → AreOut old mid links → later ≡ mid
    → length given ≡ length links → AreBack later new given → KeepsLinksBut count old new
links_back count old mid later new links given some out same long back = record {
  others = λ place least. inl (back.others place (omega (arith, long, some, least)) ∙ ap (λ f. f place) same ∙ out.others place (omega (arith, some, least)));
  first = λ place. link_back old mid later new links given place out same long back (below place (length links));
}
