-- What is left of a compound whose requests are being read.
use Rattle.std.specs.Prelude.{ℕ, List, Option}
use Rattle.rtcp_compound.specs.Compound.{Content}
use Rattle.rist_nack.specs.Asked.{asks_behind}
use Rattle.rist_nack.specs.declared.ask.Ask.{Ask}

-- the flow that is wanted, if one is; the packets that were read, and those that are left
pub record Left : Type 0 where
  pub wanted : Option ℕ
  pub before : List Content
  pub packets : List Content

-- what they ask for
abbrev pub asks_left : Left → List Ask
asks_left l = asks_behind l.wanted l.before l.packets
