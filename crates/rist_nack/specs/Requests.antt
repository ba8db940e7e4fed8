-- The requests of a compound: generic NACK (RFC 4585, section 6.2.1), range NACK (VSF TR-06-1), and the
-- sequence extension (this profile).
use Rattle.std.specs.Prelude.{ℕ, zero, suc, ◌+◌, ◌*◌, ◌/◌, ◌%◌, ◌^◌, List, [], ◌∷◌, ◌++◌, length, take, map, Option}
use Rattle.std.specs.Prelude.{Some, None, Bool, true, false, ◌&&◌, if◌then◌else◌, ◌==◌, nat_le}
use Rattle.std.specs.Int.{w16, from_be_bytes}
use Rattle.seq_unwrap.specs.declared.width.Width.TheVariants.{W16, W32}
use Rattle.rtcp_compound.specs.Compound.{Content, sender_report, receiver_report, description, goodbye, application}
use Rattle.rtcp_compound.specs.Compound.{feedback, other}
use Rattle.rtcp_compound.specs.Name.{is_rist}
use Rattle.rist_nack.specs.declared.ask.Ask.{Ask}

-- a flow is named by the SSRC of its media with the lowest bit cleared: the bit marks retransmissions
abbrev pub flow_of : ℕ → ℕ
flow_of ssrc = ssrc / 2 * 2

-- a number of a flow, and how many more after it: of 32 bits under an upper half, else of 16
abbrev pub numbered : Option ℕ → ℕ → ℕ → ℕ → Ask
numbered None flow number more = record { flow = flow; width = W16; first = number % 2 ^ 16; more = more }
numbered (Some upper) flow number more =
    record { flow = flow; width = W32; first = (65536 * upper + number) % 2 ^ 32; more = more }

-- the places of the set bits among so many of a mask, from the least significant one, which has this place
abbrev pub set_places : ℕ → ℕ → ℕ → List ℕ
set_places zero mask place = []
set_places (suc left) mask place =
    if mask % 2 == 1 then place ∷ set_places left (mask / 2) (place + 1) else set_places left (mask / 2) (place + 1)

-- a word of a generic NACK: PID, and the numbers PID + i of the set bits, i from 1 to 16
abbrev pub mask_asks : Option ℕ → ℕ → ℕ → ℕ → List Ask
mask_asks upper flow pid mask =
    numbered upper flow pid 0 ∷ map (λ i. numbered upper flow (pid + i) 0) (set_places 16 mask 1)

-- a word of a range NACK: the first number, and how many more
abbrev pub word_asks : Bool → Option ℕ → ℕ → ℕ → ℕ → List Ask
word_asks true upper flow first second = mask_asks upper flow first second
word_asks false upper flow first second = numbered upper flow first second ∷ []

-- the words of a request one after another
abbrev pub words_asks : Bool → Option ℕ → ℕ → List ℕ → List Ask
words_asks mask upper flow [] = []
words_asks mask upper flow (a ∷ []) = []
words_asks mask upper flow (a ∷ b ∷ []) = []
words_asks mask upper flow (a ∷ b ∷ c ∷ []) = []
words_asks mask upper flow (a ∷ b ∷ c ∷ d ∷ rest) =
    word_asks mask upper flow (from_be_bytes w16 (a ∷ b ∷ [])) (from_be_bytes w16 (c ∷ d ∷ []))
    ++ words_asks mask upper flow rest

-- a request: its flow, whether its words are masks, and their octets
pub record Request : Type 0 where
  pub flow : ℕ
  pub mask : Bool
  pub words : List ℕ

-- the request that a packet is: range NACK is RIST's subtype 0, generic NACK is format 1 of type 205
abbrev pub request_in : Content → Option Request
request_in (application subtype ssrc name words) =
    if subtype == 0 && is_rist name then Some (record { flow = flow_of ssrc; mask = false; words = words }) else None
request_in (feedback kind format sender media words) =
    if kind == 205 && format == 1 then Some (record { flow = flow_of media; mask = true; words = words }) else None
request_in (sender_report ssrc seconds fraction rtp_time packets octets blocks) = None
request_in (receiver_report ssrc blocks) = None
request_in (description count chunks) = None
request_in (goodbye count rest) = None
request_in (other kind count body) = None

-- the upper half that a packet sets for a flow: a body of less than a word is skipped
abbrev pub upper_in : ℕ → Content → Option ℕ
upper_in flow (application subtype ssrc name words) =
    if (subtype == 1 && is_rist name) && (flow_of ssrc == flow && nat_le 4 (length words))
    then Some (from_be_bytes w16 (take 2 words)) else None
upper_in flow (feedback kind format sender media words) = None
upper_in flow (sender_report ssrc seconds fraction rtp_time packets octets blocks) = None
upper_in flow (receiver_report ssrc blocks) = None
upper_in flow (description count chunks) = None
upper_in flow (goodbye count rest) = None
upper_in flow (other kind count body) = None
