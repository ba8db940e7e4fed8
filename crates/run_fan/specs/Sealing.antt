-- The sealers of several places.
use Rattle.std.specs.Prelude.{◌≡◌, ℕ, List, [], ◌∷◌, Option, Some, None}
use Rattle.psk_seal.specs.Sealer.{SealerState}
use Rattle.psk_seal.specs.Nonces.{Draws}
use Rattle.outside_host.specs.declared.host.Place.{Place}
use Rattle.outside_host.specs.declared.host.Place.TheVariants.{Here, Back}
use Rattle.run_parts.specs.Objects.{Tells}

-- the nonces of sealers are drawn in their order, those of each behind those of the one before it
abbrev pub AreDrawn : Option (List ℕ) → Option (List ℕ) → List (Option SealerState) → Type 0
AreDrawn old new [] = new ≡ old
AreDrawn old new (None ∷ rest) = AreDrawn old new rest
AreDrawn old new (Some first ∷ rest) =
    (between : Option (List ℕ)) × Draws old between first.nonces 16 × AreDrawn between new rest

-- so from the first source of random words, which was handed out, did not fail, and came back
pub record DrawnInOrder {I O E : Type 0} (tells : Tells I O E) (old new : ℕ → Place E)
    (sealers : List (Option SealerState)) : Type 0 where
  pub words : E
  pub drawn : E
  pub took : old 0 ≡ Here words
  pub gave : new 0 ≡ Back drawn
  pub nonces : AreDrawn (tells.words words) (tells.words drawn) sealers
  pub none : tells.word_faults drawn ≡ tells.word_faults words
