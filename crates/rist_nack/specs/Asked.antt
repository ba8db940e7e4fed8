-- What the requests of a compound ask for, packet by packet.
use Rattle.std.specs.Prelude.{ℕ, zero, suc, ◌+◌, ◌%◌, List, [], ◌∷◌, ◌++◌, Option, Some, None, Bool, true}
use Rattle.std.specs.Prelude.{if◌then◌else◌, ◌==◌}
use Rattle.std.specs.List.{flat_map}
use Rattle.seq_unwrap.specs.Nearest.{cycle_of}
use Rattle.rtcp_compound.specs.Compound.{Content}
use Rattle.rist_nack.specs.Requests.{flow_of, words_asks, Request, request_in, upper_in}
use Rattle.rist_nack.specs.declared.ask.Ask.{Ask}

-- the newer of two upper halves
abbrev pub newer : Option ℕ → Option ℕ → Option ℕ
newer None old = old
newer (Some upper) old = Some upper

-- the upper half that holds for a flow after these packets: that of the last extension of the flow
abbrev pub upper_after : ℕ → Option ℕ → List Content → Option ℕ
upper_after flow upper [] = upper
upper_after flow upper (p ∷ ps) = upper_after flow (newer (upper_in flow p) upper) ps

-- whether a flow's requests are wanted: those of one flow, or of all
abbrev pub is_wanted : Option ℕ → ℕ → Bool
is_wanted None flow = true
is_wanted (Some one) flow = flow_of one == flow

-- what a request asks for behind the packets that stand before it
abbrev pub request_asks : Option ℕ → List Content → Option Request → List Ask
request_asks wanted before None = []
request_asks wanted before (Some r) =
    if is_wanted wanted r.flow then words_asks r.mask (upper_after r.flow None before) r.flow r.words else []

-- what the packets behind others ask for
abbrev pub asks_behind : Option ℕ → List Content → List Content → List Ask
asks_behind wanted before [] = []
asks_behind wanted before (p ∷ ps) =
    request_asks wanted before (request_in p) ++ asks_behind wanted (before ++ p ∷ []) ps

-- what a compound asks for, of one flow or of all: packet by packet, word by word
abbrev pub asks_in : Option ℕ → List Content → List Ask
asks_in wanted packets = asks_behind wanted [] packets

-- a number and so many that follow it, up to a cycle's end and on from 0
abbrev pub following : ℕ → ℕ → ℕ → List ℕ
following cycle zero number = []
following cycle (suc count) number = number % cycle ∷ following cycle count (number + 1)

-- the numbers that are asked for, in order
abbrev pub numbers_asked : List Ask → List ℕ
numbers_asked asks = flat_map (λ a. following (cycle_of a.width) (a.more + 1) a.first) asks
