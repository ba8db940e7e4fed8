-- One session takes a datagram.
use Rattle.std.proofs.Common.{◌≡◌, ◌≢◌, ◌<◌, ◌==◌, ℕ, true, false, List, Result, Ok, Err, length, ◌⊎◌, inl, inr, refl, sym, ap, subst, ◌∙◌, arith}
use Rattle.std.proofs.lemmas.Bool.Decides.{nat_tests}
use Rattle.link_channels.specs.declared.channel.Channel.{Channel}
use Rattle.link_channels.specs.declared.profile.Profile.TheVariants.{Main}
use Rattle.gre_tunnel.specs.declared.tunnel.Tunnel.{Tunnel}
use Rattle.keepalive_msg.specs.declared.keepalive.Keepalive.{Keepalive}
use Rattle.keepalive_msg.specs.declared.keepalive.KeepBad.{KeepBad}
use Rattle.keepalive_msg.specs.Reading.{reading_of as keepalive_reading_of}
use Rattle.rist_wire.specs.declared.session.Session.{Session}
use Rattle.rist_wire.specs.declared.bad.WireBad.{WireBad}
use Rattle.rist_wire.specs.declared.bad.WireBad.TheVariants.{Port}
use Rattle.rist_wire.specs.declared.item.Item.{Item}
use Rattle.rist_wire.specs.declared.item.Item.TheVariants.{Keepalive as KeepaliveItem}
use Rattle.rist_wire.specs.declared.item.Kind.TheVariants.{Keepalive as KeepaliveKind}
use Rattle.rist_wire.specs.Messages.{Message, keepalive_item}
use Rattle.rist_wire.specs.Item.{item_in, item_of, message_of}
use Rattle.rist_wire.specs.Among.{ArePorts, IsForAnother, RefusesPort, TakesKeepalive, item_among, place_among, placed, session_at}
use Rattle.rist_wire.proofs.AmongLemmas.{AtOther, Refuses, Keeps, among_within, found_at, other_message, refused_at, refused_message}
use Rattle.rist_wire.proofs.laws.a_datagram_is_one_sessions.Goals as goal

pub returns-clause-own : goal.returns-clause-own
unfolding item_among
returns-clause-own c = λ session ports channel octets place item legal is.
    let p = place_among ports session channel octets in
    let f = found_at p place item (item_of (session_at ports p session) channel octets) is in (
      subst (λ n. n < length ports) f.place (among_within ports session channel octets legal),
      subst (λ n. item_of (session_at ports n session) channel octets ≡ Ok item) f.place f.is,
    )

-- the item of a keepalive's message is a keepalive
kept_item : (read : Result Keepalive KeepBad) (item : Item) → keepalive_item read ≡ Ok item → (k : Keepalive) × (item ≡ KeepaliveItem k)
kept_item (Ok k) item is = (k, let same : KeepaliveItem k ≡ item = cc in sym same)
kept_item (Err bad) item is = cc

kept_message : (tunnel : Tunnel) → (message : Message) (item : Item) → message.kind ≡ KeepaliveKind → (item_in tunnel) (Ok message) ≡ Ok item → (k : Keepalive) × (item ≡ KeepaliveItem k)
kept_message tunnel message item kind is =
    kept_item (keepalive_reading_of message.octets) item (ap (λ k. let m : Message = record { kind = k; octets = message.octets } in (item_in tunnel) (Ok m)) (sym kind) ∙ is)

-- the item of the message that was found, and the others'
another : (tunnel : Tunnel) → (place : ℕ) (item : Item) (message : Message) (other : Result Message WireBad) → (item_in tunnel) (Ok message) ≡ Ok item → AtOther place message other
    → IsForAnother place item ((item_in tunnel) other)
another tunnel place item message other is (Refuses refused) = RefusesPort (ap (item_in tunnel) refused)
another tunnel place item message other is (Keeps first kind same) =
    let k = kept_message tunnel message item kind is in TakesKeepalive k.0 k.1 first (ap (item_in tunnel) same ∙ is)

other_item : (tunnel : Tunnel) → (place : ℕ) (item : Item) (own other : Result Message WireBad) → (item_in tunnel) own ≡ Ok item → ((message : Message) → own ≡ Ok message → AtOther place message other)
    → IsForAnother place item ((item_in tunnel) other)
other_item tunnel place item (Ok message) other is at = another tunnel place item message other is (at message refl)
other_item tunnel place item (Err bad) other is at = cc

pub returns-clause-others : goal.returns-clause-others
unfolding item_among item_of
returns-clause-others c = λ session ports channel octets place v item legal main is low apart.
    let p = place_among ports session channel octets in
    let f = found_at p place item (item_of (session_at ports p session) channel octets) is in
    subst (λ n. IsForAnother n item (item_of (session_at ports v session) channel octets)) f.place
    (other_item session.tunnel p item (message_of (session_at ports p session) channel octets) (message_of (session_at ports v session) channel octets) f.is
    (λ message own. other_message ports session channel octets message v legal main own low (λ same. apart (same ∙ f.place))))

-- ---- what is refused

abbrev RefusesSo : WireBad → Result Item WireBad → Type 0
RefusesSo bad r = (r ≡ Err bad) ⊎ (r ≡ Err Port)

another_refused : (tunnel : Tunnel) → (place : ℕ) (bad : WireBad) (message : Message) (other : Result Message WireBad) → (item_in tunnel) (Ok message) ≡ Err bad → AtOther place message other
    → RefusesSo bad ((item_in tunnel) other)
another_refused tunnel place bad message other is (Refuses refused) = inr (ap (item_in tunnel) refused)
another_refused tunnel place bad message other is (Keeps first kind same) = inl (ap (item_in tunnel) same ∙ is)

other_refused : (tunnel : Tunnel) → (place v : ℕ) (bad : WireBad) (own : ℕ → Result Message WireBad) (there : Result Message WireBad) → own place ≡ there → (item_in tunnel) there ≡ Err bad
    → ((message : Message) → own place ≡ Ok message → v ≢ place → AtOther place message (own v))
    → ((worse : WireBad) → own place ≡ Err worse → own v ≡ Err worse) → RefusesSo bad ((item_in tunnel) (own v))
other_refused tunnel place v bad own (Ok message) same is at refused = elim (v == place) as (λ y. (v == place) ≡ y → RefusesSo bad ((item_in tunnel) (own v))) [
  | true ↦ λ t. let here : v ≡ place = grind (arith, nat_tests) in inl (ap (λ n. (item_in tunnel) (own n)) here ∙ ap (item_in tunnel) same ∙ is)
  | false ↦ λ t. another_refused tunnel place bad message (own v) is (at message same (grind (arith, nat_tests)))
] refl
other_refused tunnel place v bad own (Err worse) same is at refused = inl (ap (item_in tunnel) (refused worse same) ∙ is)

refused_so : (session : Session) (ports : List ℕ) (channel : Channel) (octets : List ℕ) (v : ℕ) (bad : WireBad) → ArePorts ports → session.profile ≡ Main
    → item_among ports session channel octets ≡ Err bad → v < length ports → RefusesSo bad (item_of (session_at ports v session) channel octets)
unfolding item_among item_of
refused_so session ports channel octets v bad legal main is low =
    let p = place_among ports session channel octets in
    let own = λ (n : ℕ). message_of (session_at ports n session) channel octets in
    other_refused session.tunnel p v bad own (own p) refl (refused_at p bad (item_of (session_at ports p session) channel octets) is)
    (λ message there apart. other_message ports session channel octets message v legal main there low apart)
    (λ worse there. refused_message ports session channel octets worse v legal main there low)

pub returns-clause-refused : goal.returns-clause-refused
returns-clause-refused c = refused_so

either : (r : Result Item WireBad) → RefusesSo Port r → r ≡ Err Port
either r (inl is) = is
either r (inr is) = is

pub returns-clause-port : goal.returns-clause-port
unfolding item_among
returns-clause-port c = λ session ports channel octets legal main. (
  λ is v low. either (item_of (session_at ports v session) channel octets) (refused_so session ports channel octets v Port legal main is low),
  λ each. ap (placed (place_among ports session channel octets))
      (each (place_among ports session channel octets) (among_within ports session channel octets legal)),
)
