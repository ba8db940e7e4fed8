-- Which packets the payloads of a run were sent as.
use Rattle.std.specs.Prelude.{◌≡◌, ◌+◌, ℕ, List, [], ◌∷◌, length, Bool}
use Rattle.sender_rules.specs.Sendings.{Packet}
use Rattle.rist_sender.specs.Calls.{packet_for}

-- Each payload was sent as a packet: with its octets, whole or without its null packets, and the number that is as far
-- above the first as payloads were sent before it. In both lists the newest is first.
abbrev pub AreSentAs : Bool → ℕ → List (List ℕ) → List Packet → Type 0
AreSentAs nulls first [] [] = Unit {0}
AreSentAs nulls first [] (packet ∷ packets) = ⊥
AreSentAs nulls first (payload ∷ payloads) [] = ⊥
AreSentAs nulls first (payload ∷ payloads) (packet ∷ packets) =
    ((tick : ℕ) × (packet ≡ packet_for nulls (first + length packets) tick payload))
    × AreSentAs nulls first payloads packets
