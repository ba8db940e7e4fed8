-- What is drawn where two sealers are made.
use Rattle.std.specs.Prelude.{◌≡◌, ℕ, List, Option, Some, None, IfSome}
use Rattle.psk_seal.specs.Nonces.{Draws}
use Rattle.psk_seal.specs.Sealer.{SealerState}
use Rattle.outside_host.specs.declared.host.Place.{Place}
use Rattle.outside_host.specs.declared.host.Place.TheVariants.{Here, Back}
use Rattle.run_parts.specs.Objects.{Tells}
use Rattle.run_parts.specs.Sealing.{DrawnFirst}

-- The nonces of two sealers are drawn from the first source of random words, those of the second behind those of the
-- first; it was handed out, did not fail, and came back.
pub record DrawnBoth {I O E : Type 0} (tells : Tells I O E) (old new : ℕ → Place E)
    (first second : SealerState) : Type 0 where
  pub words : E
  pub drawn : E
  pub between : Option (List ℕ)
  pub took : old 0 ≡ Here words
  pub gave : new 0 ≡ Back drawn
  pub nonces : Draws (tells.words words) between first.nonces 16
  pub more : Draws between (tells.words drawn) second.nonces 16
  pub none : tells.word_faults drawn ≡ tells.word_faults words

-- The nonces of these sealers are drawn from the host's random words: where there are two, first those of one and then
-- those of the other; where there is one, its own are the first.
abbrev pub AreDrawn : {I O E : Type 0} → Tells I O E → (ℕ → Place E) → (ℕ → Place E) → Option SealerState
    → Option SealerState → Type 0
AreDrawn tells old new None second = IfSome second (DrawnFirst tells old new)
AreDrawn tells old new (Some first) None = DrawnFirst tells old new first
AreDrawn tells old new (Some first) (Some second) = DrawnBoth tells old new first second
