-- What a run leaves as it stood.
use Rattle.std.specs.Prelude.{◌≡◌, ◌≤◌, ◌||◌, ℕ, Bool, false, is_some}
use Rattle.outside_host.specs.Shelf.{Shelf}
use Rattle.outside_host.specs.declared.host.Place.{Place}
use Rattle.rist_words.specs.CommandLine.{CommandLine, Replay, Show, Count, Report, Pack, Split, Send, Recv, Fan, Gate}
use Rattle.rist_words.specs.CommandLine.{Drill}
use Rattle.rist_words.specs.CommandLine.{GateCommand}
use Rattle.run_parts.specs.Places.{CameBack, IsAsItWas}

-- whether a gateway draws random words: under a passphrase of either end
abbrev pub gate_draws : GateCommand → Bool
gate_draws c = is_some c.incoming.pass || is_some c.session.pass

-- whether a command draws random words: one that makes datagrams, under a passphrase
abbrev pub draws_words : CommandLine → Bool
draws_words (Replay c) = false
draws_words (Show c) = false
draws_words (Count c) = false
draws_words (Report c) = false
draws_words (Pack c) = is_some c.session.pass
draws_words (Split c) = false
draws_words (Send c) = is_some c.session.pass
draws_words (Recv c) = is_some c.session.pass
draws_words (Fan c) = is_some c.session.pass
draws_words (Gate c) = gate_draws c
draws_words (Drill c) = false

-- the first links, so many, came back, and all others are as they were
pub record KeepsLinksBut {X : Type 0} (count : ℕ) (old new : ℕ → Place X) : Type 0 where
  pub others : (place : ℕ) → count ≤ place → IsAsItWas (old place) (new place)
  pub first : (place : ℕ) → CameBack (old place) (new place)

-- sources, sinks and links stand as they stood, and which links were opened
pub record KeepsButTiming {I O E L C : Type 0} (old new : Shelf I O E L C) : Type 0 where
  pub sources : new.sources ≡ old.sources
  pub sinks : new.sinks ≡ old.sinks
  pub links : new.links ≡ old.links
  pub opened : new.opened_links ≡ old.opened_links

-- sources and sinks stand as they stood
pub record KeepsFiles {I O E L C : Type 0} (old new : Shelf I O E L C) : Type 0 where
  pub sources : new.sources ≡ old.sources
  pub sinks : new.sinks ≡ old.sinks
