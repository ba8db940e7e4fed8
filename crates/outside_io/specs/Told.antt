-- What a sink holds and what remains of a source, where they tell. A silent object is none, and stays silent.
use Rattle.std.specs.Prelude.{◌≡◌, ◌≤◌, ℕ, List, [], ◌++◌, length, IfSome, Some, Option}
use Rattle.std.specs.Option.{option_map}

-- these octets were put behind what was held
abbrev pub Appends : Option (List ℕ) → Option (List ℕ) → List ℕ → Type 0
Appends old new octets = new ≡ option_map (λ held. held ++ octets) old

-- the first octets of the whole are these
abbrev pub IsPrefix : List ℕ → List ℕ → Type 0
IsPrefix front whole = (rest : List ℕ) × (whole ≡ front ++ rest)

-- a front part of these octets was put behind what was held
abbrev pub AppendsPart : Option (List ℕ) → Option (List ℕ) → List ℕ → Type 0
AppendsPart old new octets = (front : List ℕ) × IsPrefix front octets × Appends old new front

-- the sink has gained what the whole has behind the first. One that does not tell stays silent
abbrev pub Writes : Option (List ℕ) → Option (List ℕ) → List ℕ → List ℕ → Type 0
Writes old new first whole = (gain : List ℕ) × Appends old new gain × (whole ≡ first ++ gain)

-- it has gained a front part of that
abbrev pub WritesPart : Option (List ℕ) → Option (List ℕ) → List ℕ → List ℕ → Type 0
WritesPart old new first whole = (front : List ℕ) × Appends old new front × IsPrefix (first ++ front) whole

-- these octets were taken from the front of what remained
abbrev pub Takes : Option (List ℕ) → Option (List ℕ) → List ℕ → Type 0
Takes old new octets = old ≡ option_map (λ rest. octets ++ rest) new

-- no octet is told
abbrev pub IsEmpty : Option (List ℕ) → Type 0
IsEmpty told = IfSome told (λ octets. octets ≡ [])

-- what a source had and has left, and what a sink held and holds
pub record Passage : Type 0 where
  pub had : Option (List ℕ)
  pub left : Option (List ℕ)
  pub held : Option (List ℕ)
  pub holds : Option (List ℕ)

-- the sink has gained the first of two lists of octets, and then a front part of what the second has behind it
abbrev pub AppendsBetween : Option (List ℕ) → Option (List ℕ) → List ℕ → List ℕ → Type 0
AppendsBetween old new first whole = (gain : List ℕ) × Appends old new gain × IsPrefix first gain × IsPrefix gain whole

-- of a source that had these octets, those were read from the front, and at most so many more, ahead of need
pub record IsReadTo (ahead : ℕ) (read had : List ℕ) (left : Option (List ℕ)) : Type 0 where
  pub more : List ℕ
  pub rest : List ℕ
  pub whole : had ≡ read ++ (more ++ rest)
  pub told : left ≡ Some rest
  pub within : length more ≤ ahead
