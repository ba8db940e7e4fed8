-- What a teller is asked to tell.
use Rattle.std.specs.Prelude.{ℕ, Bool, List, [], ◌∷◌, ◌++◌, Option, None}
use Rattle.outside_net.specs.declared.figures.ReceiverFigures.{ReceiverFigures}
use Rattle.metered_link.specs.declared.meter.Telling.{Telling}

-- what the link at a place came to, or the figures of the receiver of a flow, at a moment
pub data Line : Type 0 where
  OfLink : ℕ → Telling → Line
  OfReceiver : ℕ → ℕ → ReceiverFigures → Line

-- a line that was asked for, and whether it was told
pub record Asked : Type 0 where
  pub line : Line
  pub told : Bool

-- what lines were asked for isn't told
abbrev pub untold : Option (List Asked)
untold = None

-- one more of them
abbrev pub asked_with : Line → Bool → List Asked → List Asked
asked_with line told asked = asked ++ record { line = line; told = told } ∷ []
