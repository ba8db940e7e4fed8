-- What a sending leaves as it stood.
use Rattle.std.specs.Prelude.{◌≡◌, ◌≢◌, ℕ, List, length, map, Bool, false, is_some}
use Rattle.outside_host.specs.Shelf.{Shelf, ChangesSources}
use Rattle.outside_host.specs.declared.host.Opened.{Opened}
use Rattle.rist_words.specs.CommandLine.{SendCommand}
use Rattle.run_parts.specs.Places.{CameBack}
use Rattle.run_parts.specs.Frame.{KeepsLinksBut}
use Rattle.rist_words.specs.Links.{sending_role}

-- all clocks and random words stand as they stood but for the first of each, which came back; the first words too where
-- none are drawn
pub record KeepsTimes {I O E L C : Type 0} (old new : Shelf I O E L C) (draws : Bool) : Type 0 where
  pub clocks : (place : ℕ) → place ≢ 0 → new.clocks place ≡ old.clocks place
  pub clock : CameBack (old.clocks 0) (new.clocks 0)
  pub entropies : (place : ℕ) → place ≢ 0 → new.entropies place ≡ old.entropies place
  pub first : CameBack (old.entropies 0) (new.entropies 0)
  pub undrawn : draws ≡ false → new.entropies 0 ≡ old.entropies 0

-- what a sending doesn't speak of stands as it stood, and what it speaks of came back
pub record KeepsAround {I O E L C : Type 0} (old new : Shelf I O E L C) (c : SendCommand) : Type 0 where
  pub sources : (n : List ℕ) → n ≢ c.source → new.sources n ≡ old.sources n
  pub source : CameBack (old.sources c.source) (new.sources c.source)
  pub sinks : new.sinks ≡ old.sinks
  pub links : KeepsLinksBut (length c.links) old.links new.links
  pub times : KeepsTimes old new (is_some c.session.pass)

-- nothing else is opened before the source of a sending could be: where the source stands as it stood, so do links,
-- clocks and random words
abbrev pub OpensLinksAfter : {I O E L C : Type 0} → Shelf I O E L C → Shelf I O E L C → SendCommand → Type 0
OpensLinksAfter old new c = new.sources c.source ≡ old.sources c.source → ChangesSources old new

-- the links that a sending opens, the first first: it sends to each, or listens at each, in the profile of its session
abbrev pub links_opened : SendCommand → List Opened
links_opened c =
    map (λ spec. record { spec = spec; role = sending_role c.listens; profile = c.session.profile }) c.links
