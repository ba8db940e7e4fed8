-- What a gateway leaves as it stood.
use Rattle.std.specs.Prelude.{◌≡◌, ◌+◌, ◌++◌, List, length, map}
use Rattle.outside_net.specs.declared.link_spec.Role.TheVariants.{Receives, Forwards}
use Rattle.outside_host.specs.Shelf.{Shelf}
use Rattle.outside_host.specs.declared.host.Opened.{Opened}
use Rattle.rist_words.specs.CommandLine.{GateCommand}
use Rattle.run_parts.specs.Frame.{gate_draws, KeepsLinksBut}
use Rattle.run_links.specs.Frame.{KeepsWords}

-- what a gateway doesn't speak of stands as it stood, and what it speaks of came back: its links, a clock for each and
-- one for its sender, and the first random words where it draws some
pub record KeepsAroundGate {I O E L C : Type 0} (old new : Shelf I O E L C) (c : GateCommand) : Type 0 where
  pub sources : new.sources ≡ old.sources
  pub sinks : new.sinks ≡ old.sinks
  pub links : KeepsLinksBut (length c.inputs + length c.outputs) old.links new.links
  pub clocks : KeepsLinksBut (length c.inputs + length c.outputs + 1) old.clocks new.clocks
  pub words : KeepsWords old new (gate_draws c)

-- the links that a gateway opens, the first first: it is bound to those that it receives on, in the profile of their
-- session, and behind them it sends to the others, in that of theirs
abbrev pub links_gated : GateCommand → List Opened
links_gated c =
    map (λ spec. record { spec = spec; role = Receives; profile = c.incoming.profile }) c.inputs
    ++ map (λ spec. record { spec = spec; role = Forwards; profile = c.session.profile }) c.outputs
