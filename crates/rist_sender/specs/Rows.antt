-- Worked runs of a sender of flow 10203040 that stores 32 packets and holds each for 20 ms. Histories have the newest
-- first.
use Rattle.std.specs.Prelude.{ℕ, ◌+◌, zero, suc, List, [], ◌∷◌, map, None, false}
use Rattle.sender_rules.specs.Bonding.{Duplicate}
use Rattle.sender_rules.specs.Sendings.{Packet}
use Rattle.rtcp_compound.specs.Compound.{Content, receiver_report, feedback}
use Rattle.rist_sender.specs.declared.answer.Answer.TheVariants.{Took}
use Rattle.rist_sender.specs.Messages.{Retransmission}
use Rattle.rist_sender.specs.History.{Event, Called, Sent, Wrote}
use Rattle.rist_sender.specs.Calls.{Rules, packets_again}

-- the rules that the sender is set to
abbrev pub rules : Rules
rules =
    record {
      flow = 270544960;
      first = 100;
      hold = 1800;
      size = 32;
      bonding = Duplicate 1;
      nulls = false;
      keepalives = false;
    }

-- a packet without a payload
abbrev pub packet : ℕ → Packet
packet number = record { number = number; timestamp = 0; strip = None; payload = [] }

-- so many packets were sent at 0, from a number on
abbrev pub sent : ℕ → ℕ → List Event
sent first zero = []
sent first (suc count) = Sent (packet (first + count)) ∷ Called 0 ∷ sent first count

-- a packet was sent again at 0, and its link took it
abbrev pub again : ℕ → List Event → List Event
again number before =
    Wrote (record { link = 0; message = Retransmission (packet number); pair = None; tick = 0; answer = Took }) ∷ before

-- a generic NACK of 100, 101 and 116
abbrev pub asks_for_three : List Content
asks_for_three = receiver_report 7 [] ∷ feedback 205 1 7 270544960 (0 ∷ 100 ∷ 128 ∷ 1 ∷ []) ∷ []

-- the numbers that are sent again after a history
abbrev pub numbers_again : List Event → List Content → List ℕ
numbers_again history compound = map (λ p. p.number) (packets_again rules history compound)
