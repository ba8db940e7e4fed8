-- The numbers that the help names are those by which the words are taken.
use Rattle.std.specs.Prelude.{ℕ, ◌+◌, ◌-◌, ◌*◌, List, [], ◌∷◌, ◌++◌, Option, None, Some, unwrap_or}
use Rattle.std.specs.Prelude.{if◌then◌else◌, true, false}
use Rattle.std.specs.Char.{is_ascii_digit}
use Rattle.clap.specs.Words.{Text}
use Rattle.rist_words.specs.declared.values.Numbers.{Numbers}
use Rattle.rist_words.specs.declared.receiving.TheConstants.{DELAY, SPAN, RESTART, REORDER, LEAST, TRIES, OWN}
use Rattle.rist_words.specs.declared.receiving.TheConstants.{TURNS, IDLE, KEEP}
use Rattle.rist_words.specs.declared.reading.TheConstants.{GAP, LEAD, STORE, HOLD, LINGER}
use Rattle.rist_words.specs.declared.session.TheConstants.{PORT, BITS, FLOW}
use Rattle.rist_words.specs.declared.watching.TheConstants.{STATS}
use Rattle.rist_words.specs.declared.drilling.TheConstants.{NUMBER, COUNT, LINKS, LOSS}
use Rattle.link_channels.specs.declared.profile.Profile.TheVariants.{Main}
use Rattle.rist_words.specs.CommandLine.{firsts}
use Rattle.rist_words.specs.Links.{link_ports, link_weights}
use Rattle.rist_words.specs.Values.{phrase_octets}
use Rattle.rist_help.specs.declared.help.TheConstants.{DELAY_ROW, SPAN_ROW, RESTART_ROW, REORDER_ROW, LEAST_ROW}
use Rattle.rist_help.specs.declared.help.TheConstants.{TRIES_ROW, OWN_ROW, TURNS_ROW, IDLE_ROW, KEEP_ROW, GAP_ROW}
use Rattle.rist_help.specs.declared.help.TheConstants.{LEAD_ROW, STORE_ROW, HOLD_ROW, LINGER_ROW, PORT_ROW, BITS_ROW}
use Rattle.rist_help.specs.declared.help.TheConstants.{FLOW_ROW, FIRST_ROW, STATS_ROW, IN_PORT_ROW, IN_BITS_ROW, DRILL}
use Rattle.rist_help.specs.declared.help.TheConstants.{PASS_ROW, SHARE_ROW, UDP_ROW, SPLIT, SEND, RECV, FAN, GATE}

-- the number that ends in one more decimal digit
abbrev pub with_digit : Option ℕ → ℕ → ℕ
with_digit read code = 10 * unwrap_or read 0 + (code - 48)

-- the numbers that stand in a text, in order, each a run of decimal digits; of the first one so much was read
abbrev pub numbers_from : Option ℕ → Text → List ℕ
numbers_from None [] = []
numbers_from (Some number) [] = number ∷ []
numbers_from None (code ∷ rest) =
    if is_ascii_digit code then numbers_from (Some (with_digit None code)) rest else numbers_from None rest
numbers_from (Some number) (code ∷ rest) =
    if is_ascii_digit code
    then numbers_from (Some (with_digit (Some number) code)) rest
    else number ∷ numbers_from None rest

-- the numbers that stand in a text
abbrev pub numbers_in : Text → List ℕ
numbers_in text = numbers_from None text

-- a row of the help, and the numbers that it is to name
pub record Named : Type 0 where
  pub row : Text
  pub numbers : List ℕ

-- a range and its default
abbrev pub ranged : Numbers → List ℕ
ranged n = n.least ∷ n.most ∷ n.default ∷ []

-- a range of which 0 stands for none, and its default
abbrev pub ranged_or_never : Numbers → List ℕ
ranged_or_never n = n.least ∷ n.most ∷ 0 ∷ n.default ∷ []

-- the rows of options that take a number
abbrev pub named_ranges : List Named
named_ranges =
    record { row = DELAY_ROW.now; numbers = ranged DELAY }
    ∷ record { row = SPAN_ROW.now; numbers = ranged SPAN }
    ∷ record { row = RESTART_ROW.now; numbers = ranged_or_never RESTART }
    ∷ record { row = REORDER_ROW.now; numbers = ranged REORDER }
    ∷ record { row = LEAST_ROW.now; numbers = ranged LEAST }
    ∷ record { row = TRIES_ROW.now; numbers = ranged TRIES }
    ∷ record { row = OWN_ROW.now; numbers = ranged OWN }
    ∷ record { row = TURNS_ROW.now; numbers = ranged TURNS }
    ∷ record { row = IDLE_ROW.now; numbers = ranged_or_never IDLE }
    ∷ record { row = KEEP_ROW.now; numbers = ranged_or_never KEEP }
    ∷ record { row = GAP_ROW.now; numbers = ranged GAP }
    ∷ record { row = LEAD_ROW.now; numbers = ranged LEAD }
    ∷ record { row = STORE_ROW.now; numbers = ranged STORE }
    ∷ record { row = HOLD_ROW.now; numbers = ranged HOLD }
    ∷ record { row = LINGER_ROW.now; numbers = ranged LINGER }
    ∷ record { row = FLOW_ROW.now; numbers = ranged FLOW }
    ∷ record { row = PORT_ROW.now; numbers = ranged PORT }
    ∷ record { row = IN_PORT_ROW.now; numbers = ranged PORT }
    ∷ record { row = BITS_ROW.now; numbers = ranged BITS }
    ∷ record { row = IN_BITS_ROW.now; numbers = ranged BITS }
    ∷ []

-- a range
abbrev pub between : Numbers → List ℕ
between n = n.least ∷ n.most ∷ []

-- The other rows with ranges: the first number's most is another with numbers of 32 bits, statistics are off where no
-- interval is given, weights and the ports of links, of a pcap file and of a tunnel's flows have no default, nor have
-- the arguments of a simulated run. Of a thousand datagrams some are lost.
abbrev pub named_bounds : List Named
named_bounds =
    record {
      row = FIRST_ROW.now;
      numbers = (firsts false).least ∷ (firsts false).most ∷ ranged (firsts true);
    }
    ∷ record { row = STATS_ROW.now; numbers = between STATS }
    ∷ record { row = PASS_ROW.now; numbers = between phrase_octets }
    ∷ record { row = SHARE_ROW.now; numbers = between link_weights }
    ∷ record { row = UDP_ROW.now; numbers = between (link_ports Main) }
    ∷ record { row = SEND.now; numbers = between (link_ports Main) }
    ∷ record { row = RECV.now; numbers = between (link_ports Main) }
    ∷ record { row = GATE.now; numbers = between (link_ports Main) }
    ∷ record { row = SPLIT.now; numbers = between PORT }
    ∷ record { row = FAN.now; numbers = between PORT ++ between (link_ports Main) }
    ∷ record {
      row = DRILL.now;
      numbers = NUMBER.least ∷ NUMBER.most ∷ COUNT.least ∷ COUNT.most ∷ LINKS.least ∷ LINKS.most
          ∷ LOSS.most ∷ LOSS.least ∷ LOSS.most ∷ [];
    }
    ∷ []
