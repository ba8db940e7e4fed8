-- What a receiving leaves as it stood.
use Rattle.std.specs.Prelude.{◌≡◌, ◌≢◌, ℕ, List, length, map, is_some}
use Rattle.outside_host.specs.Shelf.{Shelf, ChangesSinks}
use Rattle.outside_host.specs.declared.host.Opened.{Opened}
use Rattle.rist_words.specs.CommandLine.{RecvCommand}
use Rattle.run_parts.specs.Places.{CameBack}
use Rattle.run_parts.specs.Frame.{KeepsLinksBut}
use Rattle.rist_words.specs.Links.{receiving_role}
use Rattle.run_links.specs.Frame.{KeepsWords}

-- what a receiving doesn't speak of stands as it stood, and what it speaks of came back
pub record KeepsAroundSink {I O E L C : Type 0} (old new : Shelf I O E L C) (c : RecvCommand) : Type 0 where
  pub sources : new.sources ≡ old.sources
  pub sinks : (n : List ℕ) → n ≢ c.out → new.sinks n ≡ old.sinks n
  pub sink : CameBack (old.sinks c.out) (new.sinks c.out)
  pub links : KeepsLinksBut (length c.links) old.links new.links
  pub clocks : KeepsLinksBut (length c.links) old.clocks new.clocks
  pub words : KeepsWords old new (is_some c.session.pass)

-- nothing else is opened before the sink of a receiving could be: where the sink stands as it stood, so do links,
-- clocks and random words
abbrev pub OpensLinksAfterSink : {I O E L C : Type 0} → Shelf I O E L C → Shelf I O E L C → RecvCommand → Type 0
OpensLinksAfterSink old new c = new.sinks c.out ≡ old.sinks c.out → ChangesSinks old new

-- the links that a receiving opens, the first first: it listens at each, or calls each, in the profile of its session
abbrev pub links_received : RecvCommand → List Opened
links_received c =
    map (λ spec. record { spec = spec; role = receiving_role c.calls; profile = c.session.profile }) c.links
