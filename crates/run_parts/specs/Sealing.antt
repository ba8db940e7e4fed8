-- What is left where a sealer is made, or can't be.
use Rattle.std.specs.Prelude.{◌≡◌, ℕ, Option, IfSome, is_some, ◌≢◌, Bool, false}
use Rattle.psk_seal.specs.Sealer.{SealerState}
use Rattle.psk_seal.specs.Nonces.{AreNonces, Draws}
use Rattle.rist_words.specs.CommandLine.{Session}
use Rattle.outside_io.specs.Causes.{Rose}
use Rattle.outside_host.specs.Shelf.{Shelf}
use Rattle.outside_host.specs.declared.host.Place.{Place}
use Rattle.outside_host.specs.declared.host.Place.TheVariants.{Here, Back}
use Rattle.run_parts.specs.Places.{CameBack, KeepsLive}
use Rattle.run_parts.specs.Objects.{Tells}

-- the sealer of a session: one that has given no pair, exactly where there is a passphrase
pub record IsFreshFor (s : Session) (sealer : Option SealerState) : Type 0 where
  pub paired : is_some sealer ≡ is_some s.pass
  pub fresh : IfSome sealer (λ s. s.given ≡ 0)
  pub nonces : IfSome sealer (λ s. AreNonces s.nonces)

-- sources and sinks stand as they stood, and of a host that has handed out none all random words but the first, which
-- came back; that one too where none are drawn
pub record KeepsObjects {I O E L C : Type 0} (old new : Shelf I O E L C) (draws : Bool) : Type 0 where
  pub sources : new.sources ≡ old.sources
  pub sinks : new.sinks ≡ old.sinks
  pub others : old.next_entropy ≡ 0 → (place : ℕ) → place ≢ 0 → new.entropies place ≡ old.entropies place
  pub first : old.next_entropy ≡ 0 → CameBack (old.entropies 0) (new.entropies 0)
  pub undrawn : draws ≡ false → (place : ℕ) → new.entropies place ≡ old.entropies place
  pub live : KeepsLive old new

-- the nonces of a sealer are drawn from the first source of random words, which was handed out, did not fail, and came
-- back
pub record DrawnFirst {I O E : Type 0} (tells : Tells I O E) (old new : ℕ → Place E)
    (sealer : SealerState) : Type 0 where
  pub words : E
  pub drawn : E
  pub took : old 0 ≡ Here words
  pub gave : new 0 ≡ Back drawn
  pub nonces : Draws (tells.words words) (tells.words drawn) sealer.nonces 16
  pub none : tells.word_faults drawn ≡ tells.word_faults words

-- the first source of random words was handed out, failed, and came back
pub record FailedAt {I O E L C : Type 0} (tells : Tells I O E) (old new : Shelf I O E L C) : Type 0 where
  pub words : E
  pub drawn : E
  pub took : old.entropies 0 ≡ Here words
  pub gave : new.entropies 0 ≡ Back drawn
  pub rose : Rose (tells.word_faults words) (tells.word_faults drawn)
