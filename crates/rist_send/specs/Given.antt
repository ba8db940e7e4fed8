-- What a run gave its sender of what its source had: of octets the first of their pieces, and of datagrams the first of
-- their payloads, whole, in order, each once.
use Rattle.std.specs.Prelude.{◌≡◌, ◌⊎◌, ◌+◌, ◌^◌, ◌<◌, ◌≤◌, ℕ, List, [], ◌∷◌, ◌++◌, length, flat_map, Option, Some}
use Rattle.std.specs.Prelude.{Result, Ok, Err}
use Rattle.block_source.specs.Pieces.{pieces_of}
use Rattle.rist_send.specs.declared.fault.SendFault.{SendFault}
use Rattle.rist_send.specs.declared.fault.SendFault.TheVariants.{ReadFault, LinksDown, Spent, TooLong, TurnsSpent}

-- pieces, one after another
abbrev pub joined : List (List ℕ) → List ℕ
joined pieces = flat_map (λ piece. piece) pieces

-- Which octets were read and not given, behind so many that were: where a read failed or the source was too long, those
-- of a piece that wasn't read whole; where no pair or no number was left for a piece, that piece; and else none.
abbrev pub Drops : SendFault → ℕ → List ℕ → List ℕ → Type 0
Drops ReadFault given dropped rest = (length dropped < 1316) × (given + length dropped ≤ 2 ^ 40)
Drops LinksDown given dropped rest = dropped ≡ []
Drops Spent given dropped rest = (dropped ≡ []) ⊎ (pieces_of (dropped ++ rest) ≡ dropped ∷ pieces_of rest)
Drops TooLong given dropped rest = (length dropped < 1316) × (2 ^ 40 < given + length dropped)
Drops TurnsSpent given dropped rest = dropped ≡ []

-- A run that failed gave the first pieces: behind them are the octets that it dropped, and the rest, which the source
-- has left.
pub record GivesFirst (fault : SendFault) (octets : List ℕ) (left : Option (List ℕ))
    (given : List (List ℕ)) : Type 0 where
  pub dropped : List ℕ
  pub rest : List ℕ
  pub told : left ≡ Some rest
  pub whole : octets ≡ joined given ++ (dropped ++ rest)
  pub first : pieces_of octets ≡ given ++ pieces_of (dropped ++ rest)
  pub drops : Drops fault (length (joined given)) dropped rest

-- a run that came to the end gave all pieces
pub record GivesAll (octets : List ℕ) (left : Option (List ℕ)) (given : List (List ℕ)) : Type 0 where
  pub ended : left ≡ Some []
  pub within : length octets ≤ 2 ^ 40
  pub all : given ≡ pieces_of octets

-- what a run gave of a source that told its octets, by its answer
abbrev pub Gives : Result Unit SendFault → List ℕ → Option (List ℕ) → List (List ℕ) → Type 0
Gives (Ok done) octets left given = GivesAll octets left given
Gives (Err fault) octets left given = GivesFirst fault octets left given

-- Which payloads were read and not given, behind those that were: where no pair or no number was left for one, that one;
-- and else none. Past 2^40 payloads none is read.
abbrev pub DropsPayloads : SendFault → ℕ → List (List ℕ) → Type 0
DropsPayloads ReadFault given dropped = dropped ≡ []
DropsPayloads LinksDown given dropped = dropped ≡ []
DropsPayloads Spent given dropped = length dropped ≤ 1
DropsPayloads TooLong given dropped = (dropped ≡ []) × (2 ^ 40 ≤ given)
DropsPayloads TurnsSpent given dropped = dropped ≡ []

-- A run that failed gave the first payloads, each as it came: behind them are those that it dropped, and the rest, which
-- the source has left.
pub record GivesFirstPayloads (fault : SendFault) (payloads : List (List ℕ)) (left : Option (List (List ℕ)))
    (given : List (List ℕ)) : Type 0 where
  pub dropped : List (List ℕ)
  pub rest : List (List ℕ)
  pub told : left ≡ Some rest
  pub whole : payloads ≡ given ++ (dropped ++ rest)
  pub drops : DropsPayloads fault (length given) dropped

-- what a run gave of a source that told its payloads, by its answer: all of them, or the first
abbrev pub GivesPayloads : Result Unit SendFault → List (List ℕ) → Option (List (List ℕ)) → List (List ℕ) → Type 0
GivesPayloads (Ok done) payloads left given = (left ≡ Some []) × (given ≡ payloads)
GivesPayloads (Err fault) payloads left given = GivesFirstPayloads fault payloads left given
