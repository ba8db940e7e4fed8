-- What a receiving of several flows leaves as it stood.
use Rattle.std.specs.Prelude.{◌≡◌, ◌<◌, ℕ, List, length, map, is_some}
use Rattle.outside_host.specs.Shelf.{Shelf, ChangesSinks}
use Rattle.outside_host.specs.Sinks.{AreOpenedInOrder, StayOthers}
use Rattle.outside_host.specs.declared.host.Opened.{Opened}
use Rattle.rist_words.specs.CommandLine.{FanCommand}
use Rattle.run_parts.specs.Places.{CameBack}
use Rattle.run_parts.specs.Frame.{KeepsLinksBut}
use Rattle.rist_words.specs.Links.{receiving_role}
use Rattle.run_links.specs.Frame.{KeepsWords}
use Rattle.run_fan.specs.Sessions.{output_name}

-- what it doesn't speak of stands as it stood, and what it speaks of came back
pub record KeepsAroundSinks {I O E L C : Type 0} (old new : Shelf I O E L C) (c : FanCommand) : Type 0 where
  pub sources : new.sources ≡ old.sources
  pub sinks : StayOthers old.sinks new.sinks c.names
  pub outputs : (v : ℕ) → v < length c.ports → CameBack (old.sinks (output_name c v)) (new.sinks (output_name c v))
  pub links : KeepsLinksBut (length c.links) old.links new.links
  pub clocks : KeepsLinksBut (length c.links) old.clocks new.clocks
  pub words : KeepsWords old new (is_some c.session.pass)

-- The sinks are opened in the line's order, and nothing else before all could be: where one stands as it stood, so do
-- links, clocks and random words.
pub record OpensSinksFirst {I O E L C : Type 0} (old new : Shelf I O E L C) (c : FanCommand) : Type 0 where
  pub order : AreOpenedInOrder old.sinks new.sinks c.names
  pub alone : (v : ℕ) → v < length c.ports → new.sinks (output_name c v) ≡ old.sinks (output_name c v)
      → ChangesSinks old new

-- the links that it opens, the first first: it listens at each, or calls each, in the profile of its session
abbrev pub links_fanned : FanCommand → List Opened
links_fanned c =
    map (λ spec. record { spec = spec; role = receiving_role c.calls; profile = c.session.profile }) c.links
