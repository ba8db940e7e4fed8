-- What a trace keeps.
use Rattle.std.specs.Prelude.{ℕ, nat_le, length, List, Bool, false, Option, None, Some}

-- a trace in memory: what it keeps, the oldest first, and how many it keeps at most
pub record KeptList (E : Type 0) : Type 0 where
  pub items : List E
  pub limit : ℕ

-- it keeps as many as its limit
abbrev pub is_full : {E : Type 0} → Option ℕ → Option (List E) → Bool
is_full limit None = false
is_full None (Some kept) = false
is_full (Some limit) (Some kept) = nat_le limit (length kept)
