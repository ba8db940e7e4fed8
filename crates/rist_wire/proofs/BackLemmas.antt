-- What is written is read back: the message of the datagram of a message is that message.
use Rattle.std.proofs.Common.{◌≡◌, ℕ, ◌+◌, ◌^◌, ◌<◌, ◌≤◌, Bool, true, false, List, ◌++◌, length, drop, Option, Some, None, is_some, Ok, IsSome, refl, sym, ap, subst, ◌∙◌, arith, inl, inr}
use Rattle.std.proofs.lemmas.Bool.Decides.{nat_tests}
use Rattle.std.proofs.lemmas.Nat.{from_be_bytes-to_be_bytes_2}
use Rattle.std.specs.Prelude.{All}
use Rattle.octet_fields.proofs.OctetLemmas.{AreOctets, AreOctets-from_all}
use Rattle.ipv4_udp.specs.declared.ip.Sums.TheVariants.{Test}
use Rattle.ipv4_udp.specs.Reading.{reading_of as ip_reading_of}
use Rattle.ipv4_udp.specs.Ip.{Datagram, IsDatagram as IsIpDatagram}
use Rattle.ipv4_udp.specs.Writing.{datagram_with}
use Rattle.ipv4_udp.proofs.WholeLemmas.{reading-spelled as ip-reading-spelled}
use Rattle.ipv4_udp.proofs.WritingLemmas.{spelling-spells}
use Rattle.gre_tunnel.specs.Gre.{Spells, IsProtocol}
use Rattle.gre_tunnel.specs.Reading.{reading_of as gre_reading_of, value_of as gre_value_of}
use Rattle.gre_tunnel.specs.declared.tunnel.Tunnel.{Tunnel}
use Rattle.gre_tunnel.specs.Writing.{ignored_with}
use Rattle.gre_tunnel.proofs.HeaderLemmas.{ignored-few, reading-spelled, rest-spelled}
use Rattle.link_channels.specs.declared.profile.Profile.{Profile}
use Rattle.link_channels.specs.declared.profile.Profile.TheVariants.{Simple, Main}
use Rattle.rist_wire.specs.declared.session.Session.{Session}
use Rattle.psk_seal.specs.declared.sealer.Pair.{Pair}
use Rattle.rist_wire.specs.declared.item.Kind.{Kind}
use Rattle.rist_wire.specs.declared.item.Kind.TheVariants.{Media as MediaKind, Control as ControlKind, Keepalive as KeepaliveKind}
use Rattle.rist_wire.specs.declared.item.Item.TheVariants.{Control as ControlItem}
use Rattle.link_channels.specs.declared.channel.Channel.{Channel}
use Rattle.link_channels.specs.declared.channel.Channel.TheVariants.{Tunnel as OnTunnel}
use Rattle.rtcp_compound.specs.Compound.{Content, IsCompound}
use Rattle.rtcp_compound.proofs.CompoundLaws.{compound_accepted, compound_packets}
use Rattle.rist_wire.specs.Session.{IsPlain, IsSession}
use Rattle.rist_wire.specs.Cipher.{ciphered, ciphered_by}
use Rattle.rist_wire.specs.Sealed.{IsSealed}
use Rattle.rist_wire.specs.Messages.{rtcp_item, item_by}
use Rattle.rist_wire.specs.Tunnel.{kind_at, datagram_kind, message_with, full_message, text_message, cipher_fault, text_in, refused_or, tunnel_message, destination_of}
use Rattle.rist_wire.specs.Item.{message_on, message_of, item_in, item_of}
use Rattle.rist_wire.specs.Writing.{IsPair, nonce_of, sequence_of}
use Rattle.rist_wire.specs.Datagrams.{IsDatagram, carried_protocol, protocol_for, full_head, full_octets, header_for, is_long, header_octets, ports_octets, text_for, sealed_text, tunnel_octets, channel_on, channel_of, datagram_on, datagram_of}
use Rattle.rist_wire.proofs.CipherLemmas.{ciphered_by-twice}

-- ---- the ports
destination-back : (port : ℕ) (octets : List ℕ) → port < 2 ^ 16 → destination_of (ports_octets port ++ octets) ≡ port
destination-back port octets fits = from_be_bytes-to_be_bytes_2 port fits

media-kind : (port : ℕ) (octets : List ℕ) → port ≤ 65534 → datagram_kind port (ports_octets port ++ octets) ≡ Ok MediaKind
media-kind port octets most =
    let told = destination-back port octets (omega arith) in
    grind (arith, nat_tests)

control-kind : (port : ℕ) (octets : List ℕ) → port ≤ 65534 → datagram_kind port (ports_octets (port + 1) ++ octets) ≡ Ok ControlKind
control-kind port octets most =
    let told = destination-back (port + 1) octets (omega arith) in
    grind (arith, nat_tests)

-- octets that a full datagram can carry
pub record IsCarried (octets : List ℕ) : Type 0 where
  pub are : AreOctets octets
  pub few : length octets ≤ 1560

-- a full datagram is read as its data to its port
full-read : (port : ℕ) (octets : List ℕ) → port < 2 ^ 16 → IsCarried octets
    → ip_reading_of Test (full_octets port octets) ≡ Ok (datagram_with (full_head port) octets)
unfolding full_octets
full-read port octets fits carries =
    let d : Datagram = datagram_with (full_head port) octets in
    let is : IsIpDatagram d = record { from = omega arith; to = omega arith; from_port = fits; to_port = fits } in
    ip-reading-spelled Test d (full_octets port octets) (spelling-spells d (full_octets port octets) is carries.few carries.are refl)

media-at : (port : ℕ) → kind_at port port ≡ Ok MediaKind
media-at port = grind (arith, nat_tests)

control-at : (port : ℕ) → kind_at port (port + 1) ≡ Ok ControlKind
control-at port = grind (arith, nat_tests)

text-back : (full : Bool) (port : ℕ) (kind : Kind) (octets : List ℕ) → port ≤ 65534 → (full ≡ true → IsCarried octets)
    → text_message port (protocol_for full kind) (text_for full port kind octets) ≡ Ok (record { kind = kind; octets = octets })
text-back true port MediaKind octets most carries =
    ap (full_message port) (full-read port octets (omega arith) (carries refl)) ∙ ap (message_with octets) (media-at port)
text-back true port ControlKind octets most carries =
    ap (full_message port) (full-read (port + 1) octets (omega arith) (carries refl)) ∙ ap (message_with octets) (control-at port)
text-back false port MediaKind octets most carries = ap (message_with octets) (media-kind port octets most)
text-back false port ControlKind octets most carries = ap (message_with octets) (control-kind port octets most)
text-back full port KeepaliveKind octets most carries = refl

-- ---- the header
pairs : (pair : Option Pair) → IsSome (nonce_of pair) → IsSome (sequence_of pair)
pairs None some = some
pairs (Some pair) some = refl

known-carried : (full : Bool) → IsProtocol (carried_protocol full)
known-carried true = inr (inr refl)
known-carried false = inr (inl refl)

known : (full : Bool) (kind : Kind) → IsProtocol (protocol_for full kind)
known full MediaKind = known-carried full
known full ControlKind = known-carried full
known full KeepaliveKind = inl refl

spelled : (tunnel : Tunnel) (bits : ℕ) (full : Bool) (pair : Option Pair) (kind : Kind) (rest : List ℕ) → IsPair pair
    → Spells (header_for full pair kind) rest (header_octets tunnel bits full pair kind ++ rest)
spelled tunnel bits full pair kind rest fits = record {
  fits = record { key = fits.nonce; sequence = fits.sequence; paired = pairs pair; protocol = known full kind };
  ignored = ignored_with tunnel (nonce_of pair) (is_long bits pair);
  ignored_fits = ignored-few tunnel (nonce_of pair) (is_long bits pair);
  whole = refl;
}

-- a session with a passphrase has a pair for each datagram, and another one has none
no-fault : (session : Session) (pass : Option (List ℕ)) (full : Bool) (pair : Option Pair) (kind : Kind) → session.pass ≡ pass
    → is_some pair ≡ is_some pass → cipher_fault session (gre_value_of (header_for full pair kind)) ≡ None
no-fault session None true None MediaKind is paired = λ i. cipher_fault (record session { pass = is i }) (gre_value_of (header_for true None MediaKind))
no-fault session None false None MediaKind is paired = λ i. cipher_fault (record session { pass = is i }) (gre_value_of (header_for false None MediaKind))
no-fault session None true None ControlKind is paired = λ i. cipher_fault (record session { pass = is i }) (gre_value_of (header_for true None ControlKind))
no-fault session None false None ControlKind is paired = λ i. cipher_fault (record session { pass = is i }) (gre_value_of (header_for false None ControlKind))
no-fault session None full None KeepaliveKind is paired = λ i. cipher_fault (record session { pass = is i }) (gre_value_of (header_for full None KeepaliveKind))
no-fault session (Some pass) true (Some pair) MediaKind is paired = λ i. cipher_fault (record session { pass = is i }) (gre_value_of (header_for true (Some pair) MediaKind))
no-fault session (Some pass) false (Some pair) MediaKind is paired = λ i. cipher_fault (record session { pass = is i }) (gre_value_of (header_for false (Some pair) MediaKind))
no-fault session (Some pass) true (Some pair) ControlKind is paired = λ i. cipher_fault (record session { pass = is i }) (gre_value_of (header_for true (Some pair) ControlKind))
no-fault session (Some pass) false (Some pair) ControlKind is paired = λ i. cipher_fault (record session { pass = is i }) (gre_value_of (header_for false (Some pair) ControlKind))
no-fault session (Some pass) full (Some pair) KeepaliveKind is paired = λ i. cipher_fault (record session { pass = is i }) (gre_value_of (header_for full (Some pair) KeepaliveKind))
no-fault session None full (Some pair) kind is paired = cc
no-fault session (Some pass) full None kind is paired = cc

-- a message is read back in a session with either form of writing
tunnel-back : (session : Session) (full : Bool) (pair : Option Pair) (kind : Kind) (octets : List ℕ) → IsSession session → IsPair pair
    → is_some pair ≡ is_some session.pass → (full ≡ true → IsCarried octets)
    → tunnel_message session (tunnel_octets (record session { full = full }) pair kind octets)
    (gre_reading_of (tunnel_octets (record session { full = full }) pair kind octets))
    ≡ Ok (record { kind = kind; octets = octets })
tunnel-back session full pair kind octets legal fits paired carries =
    let text = text_for full session.port kind octets in
    let rest = sealed_text session pair text in
    let all = tunnel_octets (record session { full = full }) pair kind octets in
    let header = header_for full pair kind in
    let spells = spelled session.tunnel session.bits full pair kind rest fits in
    let read : gre_reading_of all ≡ Ok (gre_value_of header) = reading-spelled header rest all spells in
    let behind : drop (gre_value_of header).rest all ≡ rest = rest-spelled header rest all spells in
    let plain : text_in session (gre_value_of header) all ≡ text =
    ap (λ (x : List ℕ). ciphered_by session.pass session.bits (nonce_of pair) (sequence_of pair) x) behind
    ∙ ciphered_by-twice session.pass session.bits (nonce_of pair) (sequence_of pair) text in
    ap (tunnel_message session all) read
    ∙ (λ i. refused_or (no-fault session session.pass full pair kind refl paired i) (text_message session.port (protocol_for full kind) (plain i)))
    ∙ text-back full session.port kind octets legal.high carries

-- ---- the whole
message-on : (profile : Profile) (session : Session) (pair : Option Pair) (kind : Kind) (octets : List ℕ) → IsSession session → (profile ≡ Main → IsPair pair)
    → (profile ≡ Main → is_some pair ≡ is_some session.pass) → (kind ≡ KeepaliveKind → profile ≡ Main) → (session.full ≡ true → IsCarried octets)
    → message_on profile (channel_on profile kind) session (datagram_on profile session pair kind octets)
    ≡ Ok (record { kind = kind; octets = octets })
message-on Simple session pair MediaKind octets legal fits paired main carries = refl
message-on Simple session pair ControlKind octets legal fits paired main carries = refl
message-on Simple session pair KeepaliveKind octets legal fits paired main carries = let wrong : Simple ≡ Main = main refl in cc
message-on Main session pair kind octets legal fits paired main carries = tunnel-back session session.full pair kind octets legal (fits refl) (paired refl) carries

pub message-back : (session : Session) (pair : Option Pair) (kind : Kind) (octets : List ℕ) → IsSession session → (session.profile ≡ Main → IsPair pair)
    → (session.profile ≡ Main → is_some pair ≡ is_some session.pass) → (kind ≡ KeepaliveKind → session.profile ≡ Main)
    → (session.full ≡ true → IsCarried octets)
    → message_of session (channel_of session kind) (datagram_of session pair kind octets) ≡ Ok (record { kind = kind; octets = octets })
unfolding message_of
message-back session pair kind octets legal fits paired main carries = message-on session.profile session pair kind octets legal fits paired main carries

pub item-back : (session : Session) (pair : Option Pair) (kind : Kind) (octets : List ℕ) → IsSession session → (session.profile ≡ Main → IsPair pair)
    → (session.profile ≡ Main → is_some pair ≡ is_some session.pass) → (kind ≡ KeepaliveKind → session.profile ≡ Main)
    → (session.full ≡ true → IsCarried octets)
    → item_of session (channel_of session kind) (datagram_of session pair kind octets) ≡ item_by session.tunnel kind octets
unfolding item_of
item-back session pair kind octets legal fits paired main carries = ap (item_in session.tunnel) (message-back session pair kind octets legal fits paired main carries)

-- the item of either form is that of the message
form-back : (session : Session) (full : Bool) (pair : Option Pair) (kind : Kind) (octets : List ℕ) → IsSession session → session.profile ≡ Main → IsPair pair
    → is_some pair ≡ is_some session.pass → IsCarried octets
    → item_of session OnTunnel (datagram_of (record session { full = full }) pair kind octets) ≡ item_by session.tunnel kind octets
unfolding item_of message_of
form-back session full pair kind octets legal main fits paired carries =
    (λ i. item_in session.tunnel (message_on (main i) OnTunnel session (datagram_on (main i) (record session { full = full }) pair kind octets)))
    ∙ ap (item_in session.tunnel) (tunnel-back session full pair kind octets legal fits paired (λ is. carries))

pub forms-same : (session : Session) (pair : Option Pair) (kind : Kind) (octets : List ℕ) → IsSession session → session.profile ≡ Main → IsPair pair
    → is_some pair ≡ is_some session.pass → length octets ≤ 1560 → All (λ octet. octet < 256) octets
    → item_of session OnTunnel (datagram_of (record session { full = true }) pair kind octets)
    ≡ item_of session OnTunnel (datagram_of (record session { full = false }) pair kind octets)
forms-same session pair kind octets legal main fits paired few are =
    let carries : IsCarried octets = record { are = AreOctets-from_all octets are; few = few } in
    form-back session true pair kind octets legal main fits paired carries
    ∙ sym (form-back session false pair kind octets legal main fits paired carries)

-- the tunnel under a pair, in a session with this passphrase
sealed-by : (session : Session) (pass : List ℕ) (pair : Pair) (kind : Kind) (octets : List ℕ) → session.pass ≡ Some pass → IsPair (Some pair)
    → IsSealed pass session.bits (Some pair) (protocol_for session.full kind) (text_for session.full session.port kind octets)
    (tunnel_octets session (Some pair) kind octets)
unfolding ciphered
sealed-by session pass pair kind octets is fits =
    let text = text_for session.full session.port kind octets in
    let rest = sealed_text session (Some pair) text in
    let all = tunnel_octets session (Some pair) kind octets in
    let header = header_for session.full (Some pair) kind in
    let spells = spelled session.tunnel session.bits session.full (Some pair) kind rest fits in
    record {
      given = pair;
      is_given = refl;
      header = reading-spelled header rest all spells;
      behind = rest-spelled header rest all spells
          ∙ ap (λ (x : Option (List ℕ)). ciphered_by x session.bits (Some pair.nonce) (Some pair.sequence) text) is;
    }

sealed-on : (profile : Profile) (session : Session) (pass : List ℕ) (pair : Option Pair) (kind : Kind) (octets : List ℕ)
    → (profile ≡ Simple → IsPlain session) → (profile ≡ Main → IsPair pair) → (profile ≡ Main → is_some pair ≡ is_some session.pass) → session.pass ≡ Some pass
    → IsSealed pass session.bits pair (protocol_for session.full kind) (text_for session.full session.port kind octets)
    (datagram_on profile session pair kind octets)
sealed-on Simple session pass pair kind octets plain fits paired is = let none = (plain refl).pass in let wrong : None ≡ Some pass = sym none ∙ is in cc
sealed-on Main session pass None kind octets plain fits paired is = let same = paired refl in let wrong : false ≡ true = same ∙ ap is_some is in cc
sealed-on Main session pass (Some pair) kind octets plain fits paired is = sealed-by session pass pair kind octets is (fits refl)

pub datagram-from : (session : Session) (pair : Option Pair) (kind : Kind) (message : List ℕ) (way : Channel) (datagram : List ℕ)
    → IsSession session → (session.profile ≡ Main → IsPair pair) → (session.profile ≡ Main → is_some pair ≡ is_some session.pass)
    → (kind ≡ KeepaliveKind → session.profile ≡ Main) → (session.full ≡ true → IsCarried message)
    → way ≡ channel_of session kind → datagram ≡ datagram_of session pair kind message
    → IsDatagram session pair kind message way datagram
datagram-from session pair kind message way datagram legal fits paired main carries on is = record {
  channel = on;
  octets = is;
  item = (λ i. item_of session (on i) (is i)) ∙ item-back session pair kind message legal fits paired main carries;
  sealed = λ pass some. subst (IsSealed pass session.bits pair (protocol_for session.full kind) (text_for session.full session.port kind message)) (sym is)
      (sealed-on session.profile session pass pair kind message legal.simple fits paired some);
}

-- ---- a compound
pub compound-item : (tunnel : Tunnel) (packets : List Content) (octets : List ℕ) → IsCompound packets octets → item_by tunnel ControlKind octets ≡ Ok (ControlItem packets)
compound-item tunnel packets octets spells =
    ap (rtcp_item octets) (compound_accepted packets octets spells) ∙ ap (λ (x : List Content). Ok (ControlItem x)) (compound_packets packets octets spells)
