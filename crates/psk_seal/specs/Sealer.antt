-- What a contract sees of a sealer.
use Rattle.std.specs.Prelude.{ℕ, List}

-- its nonces, and how many pairs it gave
pub record SealerState : Type 0 where
  pub nonces : List ℕ
  pub given : ℕ
