-- What a sender's history means for the other end: its flows, and the datagrams that it put on each link.
use Rattle.std.specs.Prelude.{ℕ, List, [], ◌∷◌, ◌++◌, ◌==◌, if◌then◌else◌}
use Rattle.sender_rules.specs.Sendings.{Packet}
use Rattle.rist_wire.specs.declared.session.Session.{Session}
use Rattle.rist_wire.specs.Media.{restored_payload}
use Rattle.rist_sender.specs.Links.{Tried}
use Rattle.rist_sender.specs.History.{Event, Called, Sent, Wrote, Renewed, effective_time, tried_as}
use Rattle.world_rules.specs.SentFlows.{SentPayload, SentFlow, with_sent}

-- a payload as it was sent at a tick: with the null packets in their places that were deleted from it
abbrev pub payload_of : ℕ → Packet → SentPayload
payload_of tick packet = record { tick = tick; payload = restored_payload packet.strip packet.payload }

-- the flows of a sender's history, the newest first; the first of all has this SSRC and this first number
abbrev pub flows_of : ℕ → ℕ → List Event → List SentFlow
flows_of flow first [] = record { flow = flow; first = first; sent = [] } ∷ []
flows_of flow first (Called micros ∷ before) = flows_of flow first before
flows_of flow first (Sent packet ∷ before) =
    with_sent (payload_of (effective_time before) packet) (flows_of flow first before)
flows_of flow first (Wrote write ∷ before) = flows_of flow first before
flows_of flow first (Renewed next number ∷ before) =
    record { flow = next; first = number; sent = [] } ∷ flows_of flow first before

-- the SSRC of the flow that is sent after a history
abbrev pub flow_after : ℕ → List Event → ℕ
flow_after flow [] = flow
flow_after flow (Called micros ∷ before) = flow_after flow before
flow_after flow (Sent packet ∷ before) = flow_after flow before
flow_after flow (Wrote write ∷ before) = flow_after flow before
flow_after flow (Renewed next number ∷ before) = next

-- its first number
abbrev pub first_after : ℕ → List Event → ℕ
first_after first [] = first
first_after first (Called micros ∷ before) = first_after first before
first_after first (Sent packet ∷ before) = first_after first before
first_after first (Wrote write ∷ before) = first_after first before
first_after first (Renewed next number ∷ before) = number

-- the datagrams that were written on a link, the oldest first, each of the flow that was sent then
abbrev pub put_on : ℕ → Session → ℕ → List Event → List Tried
put_on flow session link [] = []
put_on flow session link (Called micros ∷ before) = put_on flow session link before
put_on flow session link (Sent packet ∷ before) = put_on flow session link before
put_on flow session link (Wrote write ∷ before) =
    put_on flow session link before
    ++ (if write.link == link then tried_as (flow_after flow before) session write ∷ [] else [])
put_on flow session link (Renewed next number ∷ before) = put_on flow session link before
