-- What the parts of a run answer.
use Rattle.std.specs.Prelude.{ℕ, List, Option}
use Rattle.psk_seal.specs.Nonces.{Draws}

-- sixteen nonces were drawn, and sixteen others behind them
pub record AreDrawnApart (old new : Option (List ℕ)) (first second : List ℕ) : Type 0 where
  pub between : Option (List ℕ)
  pub nonces : Draws old between first 16
  pub more : Draws between new second 16
