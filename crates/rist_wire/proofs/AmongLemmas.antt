-- Which session's port a datagram names.
use Rattle.std.proofs.Common.{◌≡◌, ◌≢◌, ◌⊎◌, ℕ, zero, suc, ◌+◌, ◌-◌, ◌%◌, ◌<◌, ◌≤◌, ◌==◌, Bool, true, false, not, cond, nat_lt, nat_eq, List, [], ◌∷◌, length, drop, get_or, Option, None, Some, unwrap_or, Result, Ok, Err, refl, sym, ap, subst, ◌∙◌, inl, inr, arith}
use Rattle.std.specs.Prelude.{slice_index}
use Rattle.std.specs.List.{position, position_or_len}
use Rattle.std.proofs.lemmas.Bool.Decides.{nat_tests}
use Rattle.std.proofs.lemmas.List.Quantifiers.{position-Some}
use Rattle.link_channels.specs.declared.channel.Channel.{Channel}
use Rattle.link_channels.specs.declared.channel.Channel.TheVariants.{Media as OnMedia, Control as OnControl, Tunnel as OnTunnel}
use Rattle.link_channels.specs.declared.profile.Profile.{Profile}
use Rattle.link_channels.specs.declared.profile.Profile.TheVariants.{Simple, Main}
use Rattle.gre_tunnel.specs.declared.gre.Gre.{Gre}
use Rattle.gre_tunnel.specs.Reading.{reading_of as gre_reading_of}
use Rattle.gre_tunnel.specs.declared.gre.GreBad.{GreBad}
use Rattle.gre_tunnel.specs.Gre.{keepalive_protocol, full_protocol}
use Rattle.ipv4_udp.specs.declared.ip.IpBad.{IpBad}
use Rattle.ipv4_udp.specs.declared.ip.Sums.TheVariants.{Test}
use Rattle.ipv4_udp.specs.Ip.{Datagram}
use Rattle.ipv4_udp.specs.Reading.{reading_of as ip_reading_of}
use Rattle.rist_wire.specs.declared.session.Session.{Session}
use Rattle.rist_wire.specs.declared.bad.WireBad.{WireBad}
use Rattle.rist_wire.specs.declared.bad.WireBad.TheVariants.{Stub, Port, Ip as NoIp}
use Rattle.rist_wire.specs.declared.item.Kind.{Kind}
use Rattle.rist_wire.specs.declared.item.Kind.TheVariants.{Media as MediaKind, Control as ControlKind, Keepalive as KeepaliveKind}
use Rattle.rist_wire.specs.Messages.{Message}
use Rattle.rist_wire.specs.Tunnel.{cipher_fault, destination_of, full_message, kind_at, message_with, refused_or, text_in, text_message, tunnel_message}
use Rattle.rist_wire.specs.Item.{message_of, message_on}
use Rattle.rist_wire.specs.Among.{ArePorts, destination_in, full_destination, place_among, place_in, place_on, place_or_first, placed, session_at, tunnel_place}

-- ---- what is found, with its place

-- what is found and then read is what is read of what was found
pub found_as : {X Y : Type 0} (f : Result X WireBad → Result Y WireBad) (place p : ℕ) (x : X) (r : Result X WireBad)
    → Ok (p, x) ≡ placed place r → placed p (f (Ok x)) ≡ placed place (f r)
found_as {X} {Y} f place p x (Ok y) is =
    let same : (p, x) ≡ (place, y) = cc in
    ap (λ (e : ℕ × X). placed e.0 (f (Ok e.1))) same
found_as f place p x (Err bad) is = cc

pub refused_as : {X Y : Type 0} (f : Result X WireBad → Result Y WireBad) → ((bad : WireBad) → f (Err bad) ≡ Err bad) → (place : ℕ) (bad : WireBad)
    (r : Result X WireBad) → Err bad ≡ placed place r → Err bad ≡ placed place (f r)
refused_as f kept place bad (Ok y) is = cc
refused_as {X} {Y} f kept place bad (Err worse) is =
    let same : bad ≡ worse = cc in
    let E : WireBad → Result (ℕ × Y) WireBad = λ e. Err e in
    ap E same ∙ ap (placed place) (sym (kept worse))

-- ---- ports

-- a destination is of an even port where it is that port or the next one
of_port : (port to : ℕ) → port % 2 ≡ 0 → port ≡ to - to % 2 → (to ≡ port) ⊎ (to ≡ port + 1)
of_port port to even is = elim (to % 2 == 0) as (λ y. (to % 2 == 0) ≡ y → (to ≡ port) ⊎ (to ≡ port + 1)) [
  | true ↦ λ t. inl (let none : to % 2 ≡ 0 = grind (arith, nat_tests) in omega arith)
  | false ↦ λ t. inr (let some : to % 2 ≢ 0 = grind (arith, nat_tests) in omega arith)
] refl

kind_of_port : (port to : ℕ) → port % 2 ≡ 0 → port ≡ to - to % 2 → (k : Kind) × (kind_at port to ≡ Ok k)
kind_of_port port to even is = elim (of_port port to even is) [
  | inl same ↦ (MediaKind, let t : nat_eq to port ≡ true = grind (arith, nat_tests) in rw t)
  | inr next ↦ (
    ControlKind,
    let f : nat_eq to port ≡ false = grind (arith, nat_tests) in let t : nat_eq to (port + 1) ≡ true = grind (arith, nat_tests) in rw (f, t),
  )
]

no_kind : (port to : ℕ) → port % 2 ≡ 0 → port ≢ to - to % 2 → kind_at port to ≡ Err Port
no_kind port to even apart =
    let media : nat_eq to port ≡ false = (elim (to == port) as (λ y. (to == port) ≡ y → y ≡ false) [
      | true ↦ λ t. absurd (apart (let same : to ≡ port = grind (arith, nat_tests) in omega arith))
      | false ↦ λ t. refl
    ]) refl in
    let control : nat_eq to (port + 1) ≡ false = (elim (to == port + 1) as (λ y. (to == port + 1) ≡ y → y ≡ false) [
      | true ↦ λ t. absurd (apart (let next : to ≡ port + 1 = grind (arith, nat_tests) in omega arith))
      | false ↦ λ t. refl
    ]) refl in
    rw (media, control)

none_at : (p : ℕ → Bool) (xs : List ℕ) (k : ℕ) → length xs ≤ position_or_len p xs → k < length xs → p (get_or xs k 0) ≡ false
none_at p [] k all low = absurd (omega arith)
none_at p (x ∷ xs) zero all low = (elim (p x) as (λ y. p x ≡ y → length (x ∷ xs) ≤ cond (not y) (1 + position_or_len p xs) 0 → y ≡ false) [
  | true ↦ λ t all. absurd (omega arith)
  | false ↦ λ t all. refl
]) refl all
none_at p (x ∷ xs) (suc k) all low = (elim (p x) as (λ y. length (x ∷ xs) ≤ cond (not y) (1 + position_or_len p xs) 0 → p (get_or xs k 0) ≡ false) [
  | true ↦ λ all. absurd (omega arith)
  | false ↦ λ all. none_at p xs k (omega arith) (omega arith)
]) all

none_passes : (p : ℕ → Bool) (xs : List ℕ) → position p xs ≡ None → length xs ≤ position_or_len p xs
none_passes p xs is = (elim (nat_lt (position_or_len p xs) (length xs)) as (λ y. nat_lt (position_or_len p xs) (length xs) ≡ y → cond y (Some (position_or_len p xs)) None ≡ None → length xs ≤ position_or_len p xs) [
  | true ↦ λ t is. cc
  | false ↦ λ t is. grind (arith, nat_tests)
]) refl is

-- ---- the place of a destination

-- the port at a place is the destination's, and no other is
pub record IsOf (ports : List ℕ) (to place : ℕ) : Type 0 where
  pub within : place < length ports
  pub port : slice_index ports place ≡ to - to % 2

of_place : (ports : List ℕ) (to place : ℕ) → place_in ports to ≡ Some place → IsOf ports to place
of_place ports to place is =
    let found = position-Some (λ port. port == to - to % 2) ports place 0 is in
    let test = found.1 in
    record { within = found.0; port = grind (arith, nat_tests) }

of_none : (ports : List ℕ) (to v : ℕ) → place_in ports to ≡ None → v < length ports → slice_index ports v ≢ to - to % 2
of_none ports to v is low = λ same.
    let test = none_at (λ port. port == to - to % 2) ports v (none_passes (λ port. port == to - to % 2) ports is) low in
    grind (arith, nat_tests)

-- what a text says by its destination, at each of the ports
pub record IsPlaced (ports : List ℕ) (to place : ℕ) : Type 0 where
  pub own : (k : Kind) × (kind_at (slice_index ports place) to ≡ Ok k)
  pub others : (v : ℕ) → v < length ports → v ≢ place → kind_at (slice_index ports v) to ≡ Err Port

pub is_placed : (ports : List ℕ) (to place : ℕ) → ArePorts ports → place_in ports to ≡ Some place → IsPlaced ports to place
is_placed ports to place legal is =
    let found = of_place ports to place is in record {
      own = kind_of_port (slice_index ports place) to (legal.even place found.within) found.port;
      others = λ v low apart. no_kind (slice_index ports v) to (legal.even v low)
          (λ same. apart (legal.different v place low found.within (same ∙ sym found.port)));
    }

pub none_placed : (ports : List ℕ) (to v : ℕ) → ArePorts ports → place_in ports to ≡ None → v < length ports
    → kind_at (slice_index ports v) to ≡ Err Port
none_placed ports to v legal is low = no_kind (slice_index ports v) to (legal.even v low) (of_none ports to v is low)

-- ---- the message of a text, at each of the ports

-- a text without a destination says the same at every port; only a keepalive is a message there
pub record IsUnnamed (protocol : ℕ) (text : List ℕ) : Type 0 where
  pub result : Result Message WireBad
  pub destination : destination_in protocol text ≡ None
  pub all : (port : ℕ) → text_message port protocol text ≡ result
  pub keepalive : (message : Message) → result ≡ Ok message → message.kind ≡ KeepaliveKind

-- of one with a destination the port says the kind
pub record IsNamed (protocol : ℕ) (text : List ℕ) : Type 0 where
  pub to : ℕ
  pub content : List ℕ
  pub destination : destination_in protocol text ≡ Some to
  pub all : (port : ℕ) → text_message port protocol text ≡ message_with content (kind_at port to)

abbrev kept : List ℕ → Message
kept text = record { kind = KeepaliveKind; octets = text }

of_keepalive : (protocol : ℕ) (text : List ℕ) → (protocol == keepalive_protocol) ≡ true → IsUnnamed protocol text
of_keepalive protocol text is = record {
  result = Ok (kept text);
  destination = rw is;
  all = λ port. rw is;
  keepalive = λ message same. let one : kept text ≡ message = cc in ap (λ (m : Message). m.kind) (sym one);
}

full_named : (protocol : ℕ) (text : List ℕ) (read : Result Datagram IpBad) → ip_reading_of Test text ≡ read → (protocol == keepalive_protocol) ≡ false → (protocol == full_protocol) ≡ true
    → IsUnnamed protocol text ⊎ IsNamed protocol text
full_named protocol text (Err bad) is other full = inl (record {
  result = Err (NoIp bad);
  destination = rw (other, full) (ap full_destination is);
  all = λ port. rw (other, full) (ap (full_message port) is);
  keepalive = λ message same. cc;
})
full_named protocol text (Ok datagram) is other full = inr (record {
  to = datagram.to_port;
  content = datagram.payload;
  destination = rw (other, full) (ap full_destination is);
  all = λ port. rw (other, full) (ap (full_message port) is);
})

short_named : (protocol : ℕ) (text : List ℕ) (short : Bool) → nat_lt (length text) 4 ≡ short → (protocol == keepalive_protocol) ≡ false → (protocol == full_protocol) ≡ false
    → IsUnnamed protocol text ⊎ IsNamed protocol text
short_named protocol text true is other reduced = inl (record {
  result = Err Stub;
  destination = rw (other, reduced, is);
  all = λ port. rw (other, reduced, is);
  keepalive = λ message same. cc;
})
short_named protocol text false is other reduced = inr (record {
  to = destination_of text;
  content = drop 4 text;
  destination = rw (other, reduced, is);
  all = λ port. rw (other, reduced, is);
})

reduced_named : (protocol : ℕ) (text : List ℕ) (full : Bool) → (protocol == full_protocol) ≡ full → (protocol == keepalive_protocol) ≡ false → IsUnnamed protocol text ⊎ IsNamed protocol text
reduced_named protocol text true is other = full_named protocol text (ip_reading_of Test text) refl other is
reduced_named protocol text false is other = short_named protocol text (nat_lt (length text) 4) refl other is

text_named : (protocol : ℕ) (text : List ℕ) (keepalive : Bool) → (protocol == keepalive_protocol) ≡ keepalive → IsUnnamed protocol text ⊎ IsNamed protocol text
text_named protocol text true is = inl (of_keepalive protocol text is)
text_named protocol text false is = reduced_named protocol text (protocol == full_protocol) refl is

-- ---- what the other sessions make of a datagram

-- what the session at another place makes of a message that was found: it refuses the port, or it is a keepalive, at the
-- first place
pub data AtOther (place : ℕ) (message : Message) (other : Result Message WireBad) : Type 0 where
  Refuses : other ≡ Err Port → AtOther place message other
  Keeps : place ≡ 0 → message.kind ≡ KeepaliveKind → other ≡ Ok message → AtOther place message other

text_at : List ℕ → ℕ → List ℕ → ℕ → Result Message WireBad
text_at ports protocol text place = text_message (slice_index ports place) protocol text

named_other : (ports : List ℕ) (to : ℕ) (content : List ℕ) (found : Option ℕ) (message : Message) (v : ℕ) → ArePorts ports → place_in ports to ≡ found
    → message_with content (kind_at (slice_index ports (unwrap_or found 0)) to) ≡ Ok message → v < length ports → v ≢ unwrap_or found 0
    → message_with content (kind_at (slice_index ports v) to) ≡ Err Port
named_other ports to content (Some place) message v legal is own low apart =
    ap (message_with content) ((is_placed ports to place legal is).others v low apart)
named_other ports to content None message v legal is own low apart = ap (message_with content) (none_placed ports to v legal is low)

other_text : (ports : List ℕ) (protocol : ℕ) (text : List ℕ) (message : Message) (v : ℕ) → ArePorts ports
    → text_message (slice_index ports (place_or_first ports (destination_in protocol text))) protocol text ≡ Ok message → v < length ports
    → v ≢ place_or_first ports (destination_in protocol text)
    → AtOther (place_or_first ports (destination_in protocol text)) message (text_message (slice_index ports v) protocol text)
other_text ports protocol text message v legal own low apart = elim (text_named protocol text (protocol == keepalive_protocol) refl) [
  | inl u ↦ let same = sym (u.all (slice_index ports (place_or_first ports (destination_in protocol text)))) ∙ own in
      Keeps (ap (place_or_first ports) u.destination) (u.keepalive message same) (u.all (slice_index ports v) ∙ same)
  | inr n ↦
      let at : place_or_first ports (destination_in protocol text) ≡ unwrap_or (place_in ports n.to) 0 = ap (place_or_first ports) n.destination in
      Refuses (n.all (slice_index ports v) ∙ named_other ports n.to n.content (place_in ports n.to) message v legal refl
      (ap (λ p. message_with n.content (kind_at (slice_index ports p) n.to)) (sym at) ∙ sym (n.all (slice_index ports (place_or_first ports (destination_in protocol text)))) ∙ own)
      low (λ e. apart (e ∙ sym at)))
]

not_both : (content : List ℕ) (kind : Kind) (bad : WireBad) → message_with content (Ok kind) ≡ Err bad → ⊥
not_both content kind bad is = cc

abbrev no : WireBad → Result Message WireBad
no bad = Err bad

same_bad : (content : List ℕ) (kind : Result Kind WireBad) (bad : WireBad) → kind ≡ Err Port → message_with content kind ≡ Err bad → no Port ≡ no bad
same_bad content kind bad is own = ap (message_with content) (sym is) ∙ own

-- a text that is refused at its place is refused so at each
named_refused : (ports : List ℕ) (to : ℕ) (content : List ℕ) (found : Option ℕ) (bad : WireBad) (v : ℕ) → ArePorts ports → place_in ports to ≡ found
    → message_with content (kind_at (slice_index ports (unwrap_or found 0)) to) ≡ Err bad → v < length ports
    → message_with content (kind_at (slice_index ports v) to) ≡ Err bad
named_refused ports to content (Some place) bad v legal is own low =
    let kind = (is_placed ports to place legal is).own in
    let taken = ap (message_with content) (sym kind.1) ∙ own in
    absurd (not_both content kind.0 bad taken)
named_refused ports to content None bad v legal is own low =
    ap (message_with content) (none_placed ports to v legal is low)
    ∙ same_bad content (kind_at (slice_index ports 0) to) bad (none_placed ports to 0 legal is (omega (arith, legal.some))) own

refused_text : (ports : List ℕ) (protocol : ℕ) (text : List ℕ) (bad : WireBad) (v : ℕ) → ArePorts ports
    → text_message (slice_index ports (place_or_first ports (destination_in protocol text))) protocol text ≡ Err bad → v < length ports
    → text_message (slice_index ports v) protocol text ≡ Err bad
refused_text ports protocol text bad v legal own low = elim (text_named protocol text (protocol == keepalive_protocol) refl) [
  | inl u ↦ u.all (slice_index ports v) ∙ sym (u.all (slice_index ports (place_or_first ports (destination_in protocol text)))) ∙ own
  | inr n ↦
      let at : place_or_first ports (destination_in protocol text) ≡ unwrap_or (place_in ports n.to) 0 = ap (place_or_first ports) n.destination in
      n.all (slice_index ports v) ∙ named_refused ports n.to n.content (place_in ports n.to) bad v legal refl
      (ap (λ p. message_with n.content (kind_at (slice_index ports p) n.to)) (sym at) ∙ sym (n.all (slice_index ports (place_or_first ports (destination_in protocol text)))) ∙ own)
      low
]

-- ---- the same of a datagram of the tunnel

abbrev after_fault : List ℕ → Option WireBad → ℕ → List ℕ → ℕ → Result Message WireBad
after_fault ports fault protocol text v = refused_or fault (text_message (slice_index ports v) protocol text)

other_after : (ports : List ℕ) (fault : Option WireBad) (protocol : ℕ) (text : List ℕ) (message : Message) (v : ℕ) → ArePorts ports
    → after_fault ports fault protocol text (place_or_first ports (destination_in protocol text)) ≡ Ok message → v < length ports
    → v ≢ place_or_first ports (destination_in protocol text)
    → AtOther (place_or_first ports (destination_in protocol text)) message (after_fault ports fault protocol text v)
other_after ports (Some bad) protocol text message v legal own low apart = cc
other_after ports None protocol text message v legal own low apart = other_text ports protocol text message v legal own low apart

refused_after : (ports : List ℕ) (fault : Option WireBad) (protocol : ℕ) (text : List ℕ) (bad : WireBad) (v : ℕ) → ArePorts ports
    → after_fault ports fault protocol text (place_or_first ports (destination_in protocol text)) ≡ Err bad → v < length ports
    → after_fault ports fault protocol text v ≡ Err bad
refused_after ports (Some bad) protocol text worse v legal own low = own
refused_after ports None protocol text bad v legal own low = refused_text ports protocol text bad v legal own low

other_tunnel : (ports : List ℕ) (session : Session) (octets : List ℕ) (read : Result Gre GreBad) (message : Message) (v : ℕ) → ArePorts ports
    → tunnel_message (session_at ports (tunnel_place ports session octets read) session) octets read ≡ Ok message → v < length ports
    → v ≢ tunnel_place ports session octets read
    → AtOther (tunnel_place ports session octets read) message (tunnel_message (session_at ports v session) octets read)
other_tunnel ports session octets (Err bad) message v legal own low apart = cc
other_tunnel ports session octets (Ok gre) message v legal own low apart =
    other_after ports (cipher_fault session gre) gre.protocol (text_in session gre octets) message v legal own low apart

refused_tunnel : (ports : List ℕ) (session : Session) (octets : List ℕ) (read : Result Gre GreBad) (bad : WireBad) (v : ℕ) → ArePorts ports
    → tunnel_message (session_at ports (tunnel_place ports session octets read) session) octets read ≡ Err bad → v < length ports
    → tunnel_message (session_at ports v session) octets read ≡ Err bad
refused_tunnel ports session octets (Err bad) worse v legal own low = own
refused_tunnel ports session octets (Ok gre) bad v legal own low =
    refused_after ports (cipher_fault session gre) gre.protocol (text_in session gre octets) bad v legal own low

-- ---- and of a datagram in the Main Profile

abbrev message_there : List ℕ → Session → Channel → List ℕ → ℕ → Result Message WireBad
message_there ports session channel octets v = message_on Main channel (session_at ports v session) octets

other_on : (ports : List ℕ) (session : Session) (channel : Channel) (octets : List ℕ) (message : Message) (v : ℕ) → ArePorts ports
    → message_there ports session channel octets (place_on Main channel ports session octets) ≡ Ok message → v < length ports
    → v ≢ place_on Main channel ports session octets
    → AtOther (place_on Main channel ports session octets) message (message_there ports session channel octets v)
other_on ports session OnMedia octets message v legal own low apart = cc
other_on ports session OnControl octets message v legal own low apart = cc
other_on ports session OnTunnel octets message v legal own low apart =
    other_tunnel ports session octets (gre_reading_of octets) message v legal own low apart

refused_on : (ports : List ℕ) (session : Session) (channel : Channel) (octets : List ℕ) (bad : WireBad) (v : ℕ) → ArePorts ports
    → message_there ports session channel octets (place_on Main channel ports session octets) ≡ Err bad → v < length ports
    → message_there ports session channel octets v ≡ Err bad
refused_on ports session OnMedia octets bad v legal own low = own
refused_on ports session OnControl octets bad v legal own low = own
refused_on ports session OnTunnel octets bad v legal own low =
    refused_tunnel ports session octets (gre_reading_of octets) bad v legal own low

-- in terms of the definitions
main-message : (ports : List ℕ) (session : Session) (channel : Channel) (octets : List ℕ) (v : ℕ) → session.profile ≡ Main
    → message_of (session_at ports v session) channel octets ≡ message_there ports session channel octets v
unfolding message_of
main-message ports session channel octets v main = λ i. message_on (main i) channel (session_at ports v session) octets

main-place : (ports : List ℕ) (session : Session) (channel : Channel) (octets : List ℕ) → session.profile ≡ Main
    → place_among ports session channel octets ≡ place_on Main channel ports session octets
unfolding place_among
main-place ports session channel octets main = λ i. place_on (main i) channel ports session octets

pub other_message : (ports : List ℕ) (session : Session) (channel : Channel) (octets : List ℕ) (message : Message) (v : ℕ) → ArePorts ports → session.profile ≡ Main
    → message_of (session_at ports (place_among ports session channel octets) session) channel octets ≡ Ok message → v < length ports
    → v ≢ place_among ports session channel octets
    → AtOther (place_among ports session channel octets) message (message_of (session_at ports v session) channel octets)
other_message ports session channel octets message v legal main own low apart =
    let there = main-place ports session channel octets main in
    let is = ap (message_there ports session channel octets) (sym there) ∙ sym (main-message ports session channel octets (place_among ports session channel octets) main) ∙ own in
    subst (λ p. AtOther p message (message_of (session_at ports v session) channel octets)) (sym there)
    (subst (λ (r : Result Message WireBad). AtOther (place_on Main channel ports session octets) message r) (sym (main-message ports session channel octets v main))
    (other_on ports session channel octets message v legal is low (λ e. apart (e ∙ sym there))))

pub refused_message : (ports : List ℕ) (session : Session) (channel : Channel) (octets : List ℕ) (bad : WireBad) (v : ℕ) → ArePorts ports → session.profile ≡ Main
    → message_of (session_at ports (place_among ports session channel octets) session) channel octets ≡ Err bad → v < length ports
    → message_of (session_at ports v session) channel octets ≡ Err bad
refused_message ports session channel octets bad v legal main own low =
    let there = main-place ports session channel octets main in
    let is = ap (message_there ports session channel octets) (sym there) ∙ sym (main-message ports session channel octets (place_among ports session channel octets) main) ∙ own in
    main-message ports session channel octets v main ∙ refused_on ports session channel octets bad v legal is low

-- ---- the place of any datagram is one of the ports'
first_within : (ports : List ℕ) (to : ℕ) (found : Option ℕ) → ArePorts ports → place_in ports to ≡ found → unwrap_or found 0 < length ports
first_within ports to None legal is = omega (arith, legal.some)
first_within ports to (Some place) legal is = (of_place ports to place is).within

any_within : (ports : List ℕ) (destination : Option ℕ) → ArePorts ports → place_or_first ports destination < length ports
any_within ports None legal = omega (arith, legal.some)
any_within ports (Some to) legal = first_within ports to (place_in ports to) legal refl

tunnel_within : (ports : List ℕ) (session : Session) (octets : List ℕ) (read : Result Gre GreBad) → ArePorts ports → tunnel_place ports session octets read < length ports
tunnel_within ports session octets (Err bad) legal = omega (arith, legal.some)
tunnel_within ports session octets (Ok gre) legal = any_within ports (destination_in gre.protocol (text_in session gre octets)) legal

place_within : (ports : List ℕ) (session : Session) (profile : Profile) (channel : Channel) (octets : List ℕ) → ArePorts ports → place_on profile channel ports session octets < length ports
place_within ports session Simple channel octets legal = omega (arith, legal.some)
place_within ports session Main OnMedia octets legal = omega (arith, legal.some)
place_within ports session Main OnControl octets legal = omega (arith, legal.some)
place_within ports session Main OnTunnel octets legal = tunnel_within ports session octets (gre_reading_of octets) legal

pub among_within : (ports : List ℕ) (session : Session) (channel : Channel) (octets : List ℕ) → ArePorts ports → place_among ports session channel octets < length ports
unfolding place_among
among_within ports session channel octets legal = place_within ports session session.profile channel octets legal

-- ---- what is found at a place is what that session finds
pub record IsFound {X : Type 0} (from p : ℕ) (x : X) (r : Result X WireBad) : Type 0 where
  pub place : from ≡ p
  pub is : r ≡ Ok x

pub found_at : {X : Type 0} (place p : ℕ) (x : X) (r : Result X WireBad) → placed place r ≡ Ok (p, x) → IsFound place p x r
found_at {X} place p x (Ok y) is =
    let same : (place, y) ≡ (p, x) = cc in
    let P : X → Result X WireBad = λ z. Ok z in
    record { place = ap (λ (e : ℕ × X). e.0) same; is = ap (λ (e : ℕ × X). P e.1) same }
found_at place p x (Err bad) is = cc

pub refused_at : {X : Type 0} (place : ℕ) (bad : WireBad) (r : Result X WireBad) → placed place r ≡ Err bad → r ≡ Err bad
refused_at place bad (Ok y) is = cc
refused_at {X} place bad (Err worse) is =
    let same : worse ≡ bad = cc in
    let E : WireBad → Result X WireBad = λ e. Err e in ap E same
