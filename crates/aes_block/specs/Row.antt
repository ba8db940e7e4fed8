-- A row of blocks: those that begin with the same octets. Counter blocks of a message differ in the counter's low part
-- alone (NIST SP 800-38A, section 6.5).
use Rattle.std.specs.Prelude.{ℕ, List}

-- a row of blocks under a key: the key's octets, and the 15 that each block begins with
pub record Row : Type 0 where
  pub key : List ℕ
  pub octets : List ℕ
