-- A flow that begins behind another.
use Rattle.std.proofs.Common.{◌≡◌, ◌∙◌, ℕ, zero, suc, ◌+◌, Bool, List, [], ◌∷◌, ◌++◌, length, take, Option, None, Some, refl, ap}
use Rattle.std.specs.Prelude.{◌==◌, ◌||◌, ◌&&◌, max, if◌then◌else◌}
use Rattle.std.specs.List.{filter, filter_map}
use Rattle.receiver_rules.specs.Steps.{tick_of}
use Rattle.sender_rules.specs.Sendings.{Packet, Sending, First, sent_packets}
use Rattle.sender_rules.specs.Stored.{packet_for}
use Rattle.link_channels.specs.Intervals.{has_passed_since}
use Rattle.sender_rules.specs.Retransmissions.{AskedNumber, each_once, packets_to_send_again}
use Rattle.sender_rules.specs.declared.bounds.TheConstants.{MAX_LOOKED_AT, MAX_SENT_AGAIN}
use Rattle.rist_sender.specs.Links.{is_failed}
use Rattle.rist_sender.specs.Messages.{Message}
use Rattle.rist_sender.specs.History.{Event, Called, Sent, Wrote, Renewed, sending_as, sendings_of, packet_count, octet_count, effective_time, is_down, last_time}
use Rattle.rist_sender.specs.Calls.{status_at}

pub sendings_since : (flow first : ℕ) (since before : List Event) → sendings_of (since ++ Renewed flow first ∷ before) ≡ sendings_of since
sendings_since flow first [] before = refl
sendings_since flow first (Called micros ∷ since) before = sendings_since flow first since before
sendings_since flow first (Sent packet ∷ since) before = ap (λ (h : List Sending). First packet ∷ h) (sendings_since flow first since before)
sendings_since flow first (Wrote write ∷ since) before = ap (sending_as write.tick write.message) (sendings_since flow first since before)
sendings_since flow first (Renewed other number ∷ since) before = refl

octets_since : (flow first : ℕ) (since before : List Event) → octet_count (since ++ Renewed flow first ∷ before) ≡ octet_count since
octets_since flow first [] before = refl
octets_since flow first (Called micros ∷ since) before = octets_since flow first since before
octets_since flow first (Sent packet ∷ since) before = ap (λ (n : ℕ). n + length packet.payload) (octets_since flow first since before)
octets_since flow first (Wrote write ∷ since) before = octets_since flow first since before
octets_since flow first (Renewed other number ∷ since) before = refl

pub status_since : (flow first micros : ℕ) (since before : List Event) → status_at micros (since ++ Renewed flow first ∷ before) ≡ status_at micros since
status_since flow first micros since before =
    ap (λ (h : List Sending). record { micros = micros; packets = length (sent_packets h); octets = octet_count (since ++ Renewed flow first ∷ before) })
    (sendings_since flow first since before)
    ∙ ap (λ (n : ℕ). record { micros = micros; packets = packet_count since; octets = n }) (octets_since flow first since before)

pub time_since : (flow first : ℕ) (since before : List Event) → effective_time (since ++ Renewed flow first ∷ before) ≡ effective_time (since ++ before)
time_since flow first [] before = refl
time_since flow first (Called micros ∷ since) before = ap (max (tick_of micros)) (time_since flow first since before)
time_since flow first (Sent packet ∷ since) before = time_since flow first since before
time_since flow first (Wrote write ∷ since) before = time_since flow first since before
time_since flow first (Renewed other number ∷ since) before = time_since flow first since before

pub down_since : (flow first link : ℕ) (since before : List Event) → is_down (since ++ Renewed flow first ∷ before) link ≡ is_down (since ++ before) link
down_since flow first link [] before = refl
down_since flow first link (Called micros ∷ since) before = down_since flow first link since before
down_since flow first link (Sent packet ∷ since) before = down_since flow first link since before
down_since flow first link (Wrote write ∷ since) before =
    ap (λ (b : Bool). (write.link == link && is_failed write.answer) || b) (down_since flow first link since before)
down_since flow first link (Renewed other number ∷ since) before = down_since flow first link since before

pub last_since : (is_meant : Message → Bool) (flow first link : ℕ) (since before : List Event)
    → last_time is_meant (since ++ Renewed flow first ∷ before) link ≡ last_time is_meant (since ++ before) link
last_since is_meant flow first link [] before = refl
last_since is_meant flow first link (Called micros ∷ since) before = last_since is_meant flow first link since before
last_since is_meant flow first link (Sent packet ∷ since) before = last_since is_meant flow first link since before
last_since is_meant flow first link (Wrote write ∷ since) before =
    ap (λ (t : Option ℕ). if write.link == link && is_meant write.message then Some write.tick else t) (last_since is_meant flow first link since before)
last_since is_meant flow first link (Renewed other number ∷ since) before = last_since is_meant flow first link since before

-- ---- where nothing was sent, nothing is sent again

none_stored : (size : ℕ) → ◌≡◌ {A = List Packet} (take size []) []
none_stored zero = refl
none_stored (suc size) = refl

none_found : (asked : List AskedNumber) → filter_map (λ n. packet_for [] n.width n.word) asked ≡ []
none_found [] = refl
none_found (n ∷ asked) = none_found asked

pub none_again : (size hold tick : ℕ) (asked : List AskedNumber) → packets_to_send_again size hold [] tick asked ≡ []
none_again size hold tick asked =
    ap (λ (stored : List Packet). take MAX_SENT_AGAIN (filter (λ packet. has_passed_since hold tick None)
    (each_once (filter_map (λ n. packet_for stored n.width n.word) (take MAX_LOOKED_AT asked))))) (none_stored size)
    ∙ ap (λ (found : List Packet). take MAX_SENT_AGAIN (filter (λ packet. has_passed_since hold tick None) (each_once found))) (none_found (take MAX_LOOKED_AT asked))
    ∙ none_stored MAX_SENT_AGAIN
