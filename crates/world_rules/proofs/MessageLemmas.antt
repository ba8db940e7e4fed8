-- What a datagram of a sender brings at the other end.
use Rattle.std.proofs.Common.{◌≡◌, ◌∙◌, ℕ, ◌/◌, ◌^◌, ◌<◌, Bool, true, false, List, get_or, Option, None, Some, is_some, IfSome, Result, Ok, Err, refl, sym, subst, arith}
use Rattle.std.specs.Prelude.{nat_lt, if◌then◌else◌, All}
use Rattle.std.proofs.lemmas.Bool.{ltb-true, ltb-false, true≢false}
use Rattle.std.proofs.lemmas.List.{get_or_past}
use Rattle.seq_unwrap.specs.declared.width.Width.{Width}
use Rattle.receiver_rules.specs.Steps.{Event}
use Rattle.receiver_rules.specs.Sent.{copy_of}
use Rattle.sender_rules.specs.Sendings.{Packet}
use Rattle.link_channels.specs.declared.profile.Profile.{Profile}
use Rattle.link_channels.specs.declared.profile.Profile.TheVariants.{Simple, Main}
use Rattle.psk_seal.specs.declared.sealer.Pair.{Pair}
use Rattle.psk_seal.specs.Sealer.{SealerState}
use Rattle.psk_seal.specs.Nonces.{AreNonces}
use Rattle.rtcp_compound.specs.declared.refusal.RtcpBad.{RtcpBad}
use Rattle.rtcp_compound.specs.Reading.{fault_of}
use Rattle.keepalive_msg.specs.declared.keepalive.Keepalive.{Keepalive}
use Rattle.keepalive_msg.specs.declared.keepalive.KeepBad.{KeepBad}
use Rattle.keepalive_msg.specs.Reading.{reading_of as keepalive_reading_of}
use Rattle.rist_wire.specs.declared.session.Session.{Session}
use Rattle.rist_wire.specs.declared.bad.WireBad.{WireBad}
use Rattle.rist_wire.specs.declared.item.Item.{Item}
use Rattle.rist_wire.specs.declared.item.Kind.TheVariants.{Media as MediaKind, Control as ControlKind, Keepalive as KeepaliveKind}
use Rattle.rist_wire.specs.Session.{IsSession}
use Rattle.gre_tunnel.specs.Reading.{reading_of as gre_reading_of}
use Rattle.rist_wire.specs.Messages.{Message as WireMessage, rtcp_item, keepalive_item, item_by}
use Rattle.rist_wire.specs.Tunnel.{tunnel_message}
use Rattle.rist_wire.specs.Item.{item_of, message_of, message_on, item_in}
use Rattle.rist_wire.specs.Writing.{IsPair, next_pair}
use Rattle.rist_wire.specs.Packets.{media_value}
use Rattle.rist_wire.specs.Sent.{IsMediaOut}
use Rattle.rist_wire.specs.Datagrams.{channel_of, channel_on, datagram_of, datagram_on, tunnel_octets}
use Rattle.rist_wire.proofs.BackLemmas.{IsCarried, item-back}
use Rattle.rist_wire.proofs.MediaLemmas.{media-taken}
use Rattle.request_rules.specs.Steps.{receiver_input}
use Rattle.receiver_rules.specs.ReceiverSteps.{buffer_event}
use Rattle.rist_ends.specs.Items.{arrival_of, input_read}
use Rattle.rist_sender.specs.Links.{Tried}
use Rattle.rist_sender.specs.Messages.{Message, Original, Retransmission, Report, RttAnswer, Alive, media_of, message_octets, message_channel, message_datagram}
use Rattle.world_rules.specs.SentFlows.{SentFlow, stream_of, was_sent, BringsCopy}
use Rattle.world_rules.specs.World.{IsSealerOf}
use Rattle.world_rules.proofs.FullLemmas.{IsControl, control_full, alive_carried}
use Rattle.world_rules.proofs.GrowLemmas.{Grows, brings_grows}

-- what comes with an item, as the buffer sees it
abbrev pub event_read : ℕ → Result Item WireBad → Event
event_read us item = buffer_event (receiver_input (input_read us item))

-- what comes with a datagram is a copy of what was sent, or no packet
pub record Brings (session : Session) (flows : List SentFlow) (tried : Tried) : Type 0 where
  pub is : (us : ℕ) → BringsCopy session.width flows (event_read us (item_of session tried.channel tried.octets))

-- a packet of a flow is one that was sent
pub record IsPacketSent (width : Width) (flows : List SentFlow) (flow : ℕ) (packet : Packet) : Type 0 where
  pub sends : was_sent flows flow packet.number ≡ true
  pub is : (again : Bool) → arrival_of (media_value width (media_of flow again packet)) ≡ copy_of (stream_of width flows flow) packet.number again
  pub out : (again : Bool) → IsMediaOut (media_of flow again packet)
  pub octets : All (λ octet. octet < 256) packet.payload

-- a message says such a packet, or none
abbrev pub IsMessage : Width → List SentFlow → ℕ → Message → Type 0
IsMessage width flows flow (Original packet) = IsPacketSent width flows flow packet
IsMessage width flows flow (Retransmission packet) = IsPacketSent width flows flow packet
IsMessage width flows flow (Report status) = Unit {0}
IsMessage width flows flow (RttAnswer status echo) = Unit {0}
IsMessage width flows flow Alive = Unit {0}

pub packet_grows : (width : Width) (old new : List SentFlow) (flow : ℕ) (packet : Packet) → Grows width old new → IsPacketSent width old flow packet → IsPacketSent width new flow packet
packet_grows width old new flow packet g p = record {
  sends = g.sends flow packet.number p.sends;
  is = λ again. p.is again ∙ sym (g.same flow packet.number again p.sends);
  out = p.out;
  octets = p.octets;
}

pub tried_grows : (session : Session) (old new : List SentFlow) (tried : Tried) → Grows session.width old new → Brings session old tried → Brings session new tried
tried_grows session old new tried g b = record { is = λ us. brings_grows session.width old new (event_read us (item_of session tried.channel tried.octets)) g (b.is us) }

-- ---- pairs

-- a sealer stands exactly with a passphrase, and its nonces have 32 bits
pub record HasPairs (session : Session) (sealer : Option SealerState) : Type 0 where
  pub paired : is_some sealer ≡ is_some session.pass
  pub nonces : IfSome sealer (λ s. (i : ℕ) → get_or s.nonces i 0 < 2 ^ 32)

small_nonces : (nonces : List ℕ) → AreNonces nonces → (i : ℕ) → get_or nonces i 0 < 2 ^ 32
small_nonces nonces are i =
    elim (nat_lt i 16) as (λ (c : Bool). nat_lt i 16 ≡ c → get_or nonces i 0 < 2 ^ 32) [
      | true ↦ λ is. (are.each i (ltb-true _ _ is)).1
      | false ↦ λ is. subst (λ n. n < 2 ^ 32) (sym (get_or_past nonces i 0 (omega (arith, are.size, ltb-false _ _ is)))) (omega arith)
    ] refl

some_nonces : (sealer : Option SealerState) → IfSome sealer (λ s. AreNonces s.nonces) → IfSome sealer (λ s. (i : ℕ) → get_or s.nonces i 0 < 2 ^ 32)
some_nonces None are = tt
some_nonces (Some s) are = small_nonces s.nonces are

pub has_pairs : (session : Session) (sealer : Option SealerState) → IsSealerOf session sealer → HasPairs session sealer
has_pairs session sealer is = record { paired = is.paired; nonces = some_nonces sealer is.nonces }

pub next_is_pair : (sealer : Option SealerState) → IfSome sealer (λ s. (i : ℕ) → get_or s.nonces i 0 < 2 ^ 32) → IsPair (next_pair sealer)
next_is_pair None is = record { nonce = tt; sequence = tt }
next_is_pair (Some s) is = record { nonce = is (s.given / 2 ^ 32); sequence = omega arith }

pub next_is_some : (sealer : Option SealerState) → is_some (next_pair sealer) ≡ is_some sealer
next_is_some None = refl
next_is_some (Some s) = refl

-- ---- what each message brings

media_brings : (session : Session) (flows : List SentFlow) (pair : Option Pair) (flow : ℕ) (again : Bool) (packet : Packet) (us : ℕ) → IsSession session → IsPair pair
    → is_some pair ≡ is_some session.pass → IsPacketSent session.width flows flow packet
    → BringsCopy session.width flows (event_read us (item_of session (channel_of session MediaKind) (datagram_of session pair MediaKind (message_octets flow session.width session.echo (if again then Retransmission packet else Original packet)))))
media_brings session flows pair flow true packet us legal fits paired p =
    let taken = media-taken session pair (media_of flow true packet) legal (λ main. fits) paired (p.out true) (λ full. p.octets) in
    subst (λ item. BringsCopy session.width flows (event_read us item)) (sym taken)
    (record { number = packet.number; sends = p.sends; is = p.is true })
media_brings session flows pair flow false packet us legal fits paired p =
    let taken = media-taken session pair (media_of flow false packet) legal (λ main. fits) paired (p.out false) (λ full. p.octets) in
    subst (λ item. BringsCopy session.width flows (event_read us item)) (sym taken)
    (record { number = packet.number; sends = p.sends; is = p.is false })

rtcp_brings : (width : Width) (flows : List SentFlow) (us : ℕ) (octets : List ℕ) (bad : Option RtcpBad) → BringsCopy width flows (event_read us (rtcp_item octets bad))
rtcp_brings width flows us octets None = tt
rtcp_brings width flows us octets (Some bad) = tt

alive_brings : (width : Width) (flows : List SentFlow) (us : ℕ) (read : Result Keepalive KeepBad) → BringsCopy width flows (event_read us (keepalive_item read))
alive_brings width flows us (Ok keepalive) = tt
alive_brings width flows us (Err bad) = tt

-- what is read as control, or not at all, is no packet
read_brings : (session : Session) (flows : List SentFlow) (us : ℕ) (read : Result WireMessage WireBad) → IsControl read → BringsCopy session.width flows (event_read us (item_in session.tunnel read))
read_brings session flows us (Ok message) is =
    subst (λ kind. BringsCopy session.width flows (event_read us (item_by session.tunnel kind message.octets))) (sym is)
    (rtcp_brings session.width flows us message.octets (fault_of message.octets))
read_brings session flows us (Err bad) is = tt

-- a full datagram, which the tunnel alone has
control_in_full : (session : Session) (profile : Profile) (flows : List SentFlow) (pair : Option Pair) (octets : List ℕ) (us : ℕ) → session.profile ≡ profile → session.full ≡ true → IsSession session → IsPair pair
    → is_some pair ≡ is_some session.pass → BringsCopy session.width flows (event_read us (item_of session (channel_of session ControlKind) (datagram_of session pair ControlKind octets)))
unfolding item_of message_of
control_in_full session Simple flows pair octets us is full legal fits paired = absurd (true≢false (sym full ∙ (legal.simple is).full))
control_in_full session Main flows pair octets us is full legal fits paired =
    subst (λ profile. BringsCopy session.width flows (event_read us (item_in session.tunnel (message_on profile (channel_on profile ControlKind) session (datagram_on profile session pair ControlKind octets))))) (sym is)
    (subst (λ b. BringsCopy session.width flows (event_read us (item_in session.tunnel (tunnel_message session (tunnel_octets (record session { full = b }) pair ControlKind octets) (gre_reading_of (tunnel_octets (record session { full = b }) pair ControlKind octets)))))) (sym full)
    (read_brings session flows us _ (control_full session pair octets legal fits paired)))

control_brings : (session : Session) (flows : List SentFlow) (pair : Option Pair) (octets : List ℕ) (us : ℕ) → IsSession session → IsPair pair → is_some pair ≡ is_some session.pass
    → BringsCopy session.width flows (event_read us (item_of session (channel_of session ControlKind) (datagram_of session pair ControlKind octets)))
control_brings session flows pair octets us legal fits paired = by session.full refl
  where
    by : (full : Bool) → session.full ≡ full → BringsCopy session.width flows (event_read us (item_of session (channel_of session ControlKind) (datagram_of session pair ControlKind octets)))
    by true full = control_in_full session session.profile flows pair octets us refl full legal fits paired
    by false reduced =
        let no : ControlKind ≡ KeepaliveKind → session.profile ≡ Main = λ e. cc in
        subst (λ item. BringsCopy session.width flows (event_read us item))
        (sym (item-back session pair ControlKind octets legal (λ main. fits) (λ main. paired) no (λ full. absurd (true≢false (sym full ∙ reduced)))))
        (rtcp_brings session.width flows us octets (fault_of octets))

-- a keepalive that would go in the Simple Profile would be read as control
keepalive_on : (session : Session) (profile : Profile) (flows : List SentFlow) (pair : Option Pair) (octets : List ℕ) (us : ℕ) → session.profile ≡ profile → IsCarried octets → IsSession session → IsPair pair
    → is_some pair ≡ is_some session.pass → BringsCopy session.width flows (event_read us (item_of session (channel_of session KeepaliveKind) (datagram_of session pair KeepaliveKind octets)))
unfolding item_of message_of
keepalive_on session Simple flows pair octets us is carries legal fits paired =
    subst (λ profile. BringsCopy session.width flows (event_read us (item_in session.tunnel (message_on profile (channel_on profile KeepaliveKind) session (datagram_on profile session pair KeepaliveKind octets))))) (sym is)
    (subst (λ profile. BringsCopy session.width flows (event_read us (item_in session.tunnel (message_on profile (channel_on profile ControlKind) session (datagram_on profile session pair ControlKind octets))))) is
    (control_brings session flows pair octets us legal fits paired))
keepalive_on session Main flows pair octets us is carries legal fits paired =
    subst (λ item. BringsCopy session.width flows (event_read us item))
    (sym (item-back session pair KeepaliveKind octets legal (λ main. fits) (λ main. paired) (λ e. is) (λ full. carries)))
    (alive_brings session.width flows us (keepalive_reading_of octets))

-- a datagram of a flow, under a pair
pub message_brings : (session : Session) (flows : List SentFlow) (pair : Option Pair) (flow : ℕ) (message : Message) (us : ℕ) → flow < 2 ^ 32 → IsSession session → IsPair pair
    → is_some pair ≡ is_some session.pass → IsMessage session.width flows flow message
    → BringsCopy session.width flows (event_read us (item_of session (message_channel session message) (message_datagram flow session pair message)))
message_brings session flows pair flow (Original packet) us small legal fits paired is = media_brings session flows pair flow false packet us legal fits paired is
message_brings session flows pair flow (Retransmission packet) us small legal fits paired is = media_brings session flows pair flow true packet us legal fits paired is
message_brings session flows pair flow (Report status) us small legal fits paired is = control_brings session flows pair _ us legal fits paired
message_brings session flows pair flow (RttAnswer status echo) us small legal fits paired is = control_brings session flows pair _ us legal fits paired
message_brings session flows pair flow Alive us small legal fits paired is = keepalive_on session session.profile flows pair _ us refl (alive_carried flow small) legal fits paired
