-- Datagrams that are written in full: a control message is read as control or refused, whatever its octets are, and a keepalive has octets alone.
use Rattle.std.proofs.Common.{◌≡◌, ◌∙◌, ℕ, zero, suc, ◌+◌, ◌-◌, ◌^◌, ◌<◌, ◌≤◌, Bool, true, false, not, List, [], ◌∷◌, ◌++◌, length, take, drop, Option, Some, None, is_some, Result, Ok, Err, IsSome, inr, refl, sym, ap, subst, arith}
use Rattle.std.specs.Prelude.{◌||◌, ◌==◌, nat_lt, slice_index, if◌then◌else◌}
use Rattle.std.specs.Int.{w16, from_be_bytes}
use Rattle.std.proofs.lemmas.Bool.Decides.{nat_tests}
use Rattle.std.proofs.lemmas.Nat.{from_be_bytes-to_be_bytes_2}
use Rattle.ipv4_udp.specs.declared.ip.Sums.TheVariants.{Test}
use Rattle.ipv4_udp.specs.declared.ip.IpBad.{IpBad}
use Rattle.ipv4_udp.specs.declared.ip.IpBad.TheVariants.{Short, Version, Header, HeaderSum, Length, Fragment, Protocol, UdpShort, UdpLength, UdpSum}
use Rattle.ipv4_udp.specs.Ip.{Datagram, header_octets as ip_header_octets, udp_octets, udp_protocol}
use Rattle.ipv4_udp.specs.Reading.{reading_of as ip_reading_of, udp_reading, number_at, address_at, version_of, header_len, total_len, is_fragment, is_bad_header_sum, udp_in, udp_len, is_bad_udp_sum}
use Rattle.ipv4_udp.proofs.WritingLemmas.{Octets, octet, half, whole}
use Rattle.gre_tunnel.specs.declared.tunnel.Tunnel.{Tunnel}
use Rattle.gre_tunnel.specs.Gre.{Spells, full_protocol}
use Rattle.gre_tunnel.specs.Reading.{reading_of as gre_reading_of, value_of as gre_value_of}
use Rattle.gre_tunnel.specs.Writing.{ignored_with}
use Rattle.gre_tunnel.proofs.HeaderLemmas.{ignored-few, reading-spelled, rest-spelled}
use Rattle.keepalive_msg.specs.Keepalive.{spelling as keepalive_spelling}
use Rattle.keepalive_msg.specs.Writing.{message_of as keepalive_of}
use Rattle.psk_seal.specs.declared.sealer.Pair.{Pair}
use Rattle.rist_wire.specs.declared.session.Session.{Session}
use Rattle.rist_wire.specs.declared.bad.WireBad.{WireBad}
use Rattle.rist_wire.specs.declared.item.Kind.TheVariants.{Control as ControlKind}
use Rattle.rist_wire.specs.Session.{IsSession}
use Rattle.rist_wire.specs.Messages.{Message}
use Rattle.rist_wire.specs.Cipher.{ciphered_by}
use Rattle.rist_wire.specs.Tunnel.{kind_at, message_with, full_message, text_message, cipher_fault, text_in, refused_or, tunnel_message}
use Rattle.rist_wire.specs.Writing.{IsPair, nonce_of, sequence_of}
use Rattle.rist_wire.specs.Datagrams.{full_octets, header_for, is_long, header_octets, text_for, sealed_text, tunnel_octets}
use Rattle.rist_wire.proofs.BackLemmas.{IsCarried}
use Rattle.rist_wire.proofs.CipherLemmas.{ciphered_by-twice}

-- ---- the port of a full datagram

-- what is read goes to this port, if it is read
abbrev GoesTo : ℕ → Result Datagram IpBad → Type 0
GoesTo port (Ok datagram) = datagram.to_port ≡ port
GoesTo port (Err bad) = Unit {0}

-- a test that refuses tells no port
passes : (port : ℕ) (c : Bool) (bad : IpBad) (read : Result Datagram IpBad) → (c ≡ false → GoesTo port read) → GoesTo port (if c then Err bad else read)
passes port true bad read on = tt
passes port false bad read on = on refl

reading_goes : (port : ℕ) (all : List ℕ) → (nat_lt (length (udp_in all)) 8 ≡ false → number_at 2 (udp_in all) ≡ port) → GoesTo port (ip_reading_of Test all)
unfolding ip_reading_of udp_reading
reading_goes port all told =
    passes port (nat_lt (length all) 20) Short _ (λ a.
    passes port (not (version_of all == 4)) Version _ (λ b.
    passes port (nat_lt (header_len all) 20 || nat_lt (length all) (header_len all)) Header _ (λ c.
    passes port (is_bad_header_sum Test all) HeaderSum _ (λ d.
    passes port (nat_lt (total_len all) (header_len all) || nat_lt (length all) (total_len all)) Length _ (λ e.
    passes port (is_fragment all) Fragment _ (λ f.
    passes port (not (slice_index all 9 == udp_protocol)) Protocol _ (λ g.
    passes port (nat_lt (length (udp_in all)) 8) UdpShort _ (λ long.
    passes port (nat_lt (udp_len (udp_in all)) 8 || nat_lt (length (udp_in all)) (udp_len (udp_in all))) UdpLength _ (λ i.
    passes port (is_bad_udp_sum Test (address_at 12 all) (address_at 16 all) (udp_in all)) UdpSum _ (λ j. told long))))))))))

-- the second number of what has eight octets at least
second_of : (n a b c d : ℕ) (rest : List ℕ) → nat_lt (length (take n (a ∷ b ∷ c ∷ d ∷ rest))) 8 ≡ false → number_at 2 (take n (a ∷ b ∷ c ∷ d ∷ rest)) ≡ from_be_bytes w16 (c ∷ d ∷ [])
second_of zero a b c d rest long = cc
second_of (suc zero) a b c d rest long = cc
second_of (suc (suc zero)) a b c d rest long = cc
second_of (suc (suc (suc zero))) a b c d rest long = cc
second_of (suc (suc (suc (suc n)))) a b c d rest long = refl

full_goes : (port : ℕ) (octets : List ℕ) → port < 2 ^ 16 → GoesTo port (ip_reading_of Test (full_octets port octets))
unfolding full_octets ip_header_octets udp_octets
full_goes port octets fits =
    reading_goes port (full_octets port octets)
    (λ long. second_of (total_len (full_octets port octets) - 20) _ _ _ _ _ long ∙ from_be_bytes-to_be_bytes_2 port fits)

-- ---- control

-- a message is control, if there is one
abbrev pub IsControl : Result Message WireBad → Type 0
IsControl (Ok message) = message.kind ≡ ControlKind
IsControl (Err bad) = Unit {0}

control_at : (port : ℕ) → kind_at port (port + 1) ≡ Ok ControlKind
control_at port = grind (arith, nat_tests)

as_control : (port : ℕ) (read : Result Datagram IpBad) → GoesTo (port + 1) read → IsControl (full_message port read)
as_control port (Err bad) goes = tt
as_control port (Ok datagram) goes =
    subst (λ kind. IsControl (message_with datagram.payload kind)) (sym (ap (kind_at port) goes ∙ control_at port)) refl

control_text : (port : ℕ) (octets : List ℕ) → port ≤ 65534 → IsControl (text_message port full_protocol (full_octets (port + 1) octets))
control_text port octets most = as_control port _ (full_goes (port + 1) octets (omega arith))

-- a session with a passphrase has a pair for each datagram, and another one has none
no_fault : (session : Session) (pass : Option (List ℕ)) (pair : Option Pair) → session.pass ≡ pass → is_some pair ≡ is_some pass
    → cipher_fault session (gre_value_of (header_for true pair ControlKind)) ≡ None
no_fault session None None is paired = λ i. cipher_fault (record session { pass = is i }) (gre_value_of (header_for true None ControlKind))
no_fault session (Some pass) (Some pair) is paired = λ i. cipher_fault (record session { pass = is i }) (gre_value_of (header_for true (Some pair) ControlKind))
no_fault session None (Some pair) is paired = cc
no_fault session (Some pass) None is paired = cc

pairs : (pair : Option Pair) → IsSome (nonce_of pair) → IsSome (sequence_of pair)
pairs None some = some
pairs (Some pair) some = refl

spelled : (tunnel : Tunnel) (bits : ℕ) (pair : Option Pair) (rest : List ℕ) → IsPair pair → Spells (header_for true pair ControlKind) rest (header_octets tunnel bits true pair ControlKind ++ rest)
spelled tunnel bits pair rest fits = record {
  fits = record { key = fits.nonce; sequence = fits.sequence; paired = pairs pair; protocol = inr (inr refl) };
  ignored = ignored_with tunnel (nonce_of pair) (is_long bits pair);
  ignored_fits = ignored-few tunnel (nonce_of pair) (is_long bits pair);
  whole = refl;
}

pub control_full : (session : Session) (pair : Option Pair) (octets : List ℕ) → IsSession session → IsPair pair → is_some pair ≡ is_some session.pass
    → IsControl (tunnel_message session (tunnel_octets (record session { full = true }) pair ControlKind octets) (gre_reading_of (tunnel_octets (record session { full = true }) pair ControlKind octets)))
control_full session pair octets legal fits paired =
    let text = text_for true session.port ControlKind octets in
    let rest = sealed_text session pair text in
    let all = tunnel_octets (record session { full = true }) pair ControlKind octets in
    let header = header_for true pair ControlKind in
    let spells = spelled session.tunnel session.bits pair rest fits in
    let read : gre_reading_of all ≡ Ok (gre_value_of header) = reading-spelled header rest all spells in
    let behind : drop (gre_value_of header).rest all ≡ rest = rest-spelled header rest all spells in
    let plain : text_in session (gre_value_of header) all ≡ text =
    ap (λ (x : List ℕ). ciphered_by session.pass session.bits (nonce_of pair) (sequence_of pair) x) behind
    ∙ ciphered_by-twice session.pass session.bits (nonce_of pair) (sequence_of pair) text in
    subst IsControl
    (sym (ap (tunnel_message session all) read
    ∙ (λ i. refused_or (no_fault session session.pass pair refl paired i) (text_message session.port full_protocol (plain i)))))
    (control_text session.port octets legal.high)

-- ---- keepalives

none : Octets []
none = record { at = λ i. omega arith }

-- a keepalive of a flow is octets, and few
pub alive_carried : (flow : ℕ) → flow < 2 ^ 32 → IsCarried (keepalive_spelling (keepalive_of flow))
alive_carried flow small = record {
  are = (octet 2 _ (omega arith) (octet 0 _ (omega arith) (whole flow _ small (half 0 _ (omega arith) none)))).at;
  few = omega arith;
}
