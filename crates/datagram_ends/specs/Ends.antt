-- What a contract sees of a sink whose pieces go in datagrams, and of what sends them over UDP.
use Rattle.std.specs.Prelude.{◌≡◌, ◌+◌, ◌*◌, ◌%◌, ◌^◌, ◌<◌, ◌≤◌, ◌++◌, ◌∷◌, ℕ, zero, suc, List, [], take, drop, length, Option}
use Rattle.std.specs.Option.{option_map}
use Rattle.std.specs.declared.net.socket_addr.SocketAddr.{SocketAddr}
use Rattle.std.specs.declared.net.ip_addr.IpAddr.{IpAddr}
use Rattle.link_channels.specs.declared.bounds.TheConstants.{MAX_PAYLOAD}
use Rattle.outside_net.specs.Sockets.{source_of}
use Rattle.outside_net.specs.Streams.{later, IsFirst}
use Rattle.media_address.specs.declared.address.Form.{Form}
use Rattle.media_address.specs.declared.address.Form.TheVariants as forms
use Rattle.media_address.specs.declared.address.MediaAddress.{MediaAddress}
use Rattle.receiver_rules.specs.Steps.{tick_of}
use Rattle.rtp_packet.specs.declared.writing.RtpHead.{RtpHead}
use Rattle.datagram_ends.specs.Media.{datagram_of}
use Rattle.datagram_ends.specs.declared.udp_out.UdpOut.{UdpOut}

-- the form, the number of the next packet and the source, where the form is RTP; the clock; the datagrams that were sent,
-- where that is told; and how many calls failed
pub record DatagramSinkState (C : Type 0) : Type 0 where
  pub form : Form
  pub number : ℕ
  pub ssrc : ℕ
  pub clock : C
  pub sent : Option (List (List ℕ))
  pub faults : ℕ

-- the number behind this one, in 16 bits
abbrev pub number_after : ℕ → ℕ
number_after number = (number + 1) % 2 ^ 16

-- the moments that a clock has still to give, where it tells them
abbrev pub Moments : Type 0 → Type 0
Moments C = C → Option (ℕ → ℕ)

-- the header of the next packet at a moment in microseconds
abbrev pub head_at : {C : Type 0} → DatagramSinkState C → ℕ → RtpHead
head_at sink micros = record { number = sink.number; stamp = tick_of micros % 2 ^ 32; ssrc = sink.ssrc }

-- a header is the next one, at the moment that the clock tells next, of 64 bits
abbrev pub IsHeadAt : {C : Type 0} → Moments C → DatagramSinkState C → RtpHead → Type 0
IsHeadAt moments sink head =
    (micros : ℕ) × (micros < 2 ^ 64) × IsFirst (moments sink.clock) micros × (head ≡ head_at sink micros)

-- of a packet the header is the next one; a payload that goes as it is has none
abbrev pub IsHeadIn : {C : Type 0} → Moments C → Form → DatagramSinkState C → RtpHead → Type 0
IsHeadIn moments forms.Udp sink head = Unit {0}
IsHeadIn moments forms.Rtp sink head = IsHeadAt moments sink head

-- the number that the next packet has once one was sent
abbrev pub next_number : Form → ℕ → ℕ
next_number forms.Udp number = number
next_number forms.Rtp number = number_after number

-- the moments that the clock has still to give then: a packet takes one
abbrev pub next_moments : Form → Option (ℕ → ℕ) → Option (ℕ → ℕ)
next_moments forms.Udp told = told
next_moments forms.Rtp told = option_map later told

-- a payload went in one datagram, and the next packet has the next number and moment
pub record Sends {C : Type 0} (moments : Moments C) (old new : DatagramSinkState C) (payload : List ℕ) : Type 0 where
  pub head : RtpHead
  pub next : IsHeadIn moments old.form old head
  pub sent : new.sent ≡ option_map (λ all. all ++ datagram_of old.form head payload ∷ []) old.sent
  pub number : new.number ≡ next_number old.form old.number
  pub later : moments new.clock ≡ next_moments old.form (moments old.clock)
  pub same : (new.form ≡ old.form) × (new.ssrc ≡ old.ssrc)

-- what is left of a piece behind so many parts of 1,500 octets
abbrev pub behind : ℕ → List ℕ → List ℕ
behind count piece = drop (count * MAX_PAYLOAD) piece

-- so many parts of a piece went, each of 1,500 octets in one datagram, and more was left behind each
abbrev pub SendsFirst : {C : Type 0} → Moments C → ℕ → DatagramSinkState C → DatagramSinkState C → List ℕ → Type 0
SendsFirst moments zero old new piece = new ≡ old
SendsFirst {C} moments (suc count) old new piece =
    (at : DatagramSinkState C) × SendsFirst moments count old at piece × (MAX_PAYLOAD < length (behind count piece))
    × Sends moments at new (take MAX_PAYLOAD (behind count piece))

-- a piece went in parts, in order: each but the last of 1,500 octets
abbrev pub SendsParts : {C : Type 0} → Moments C → DatagramSinkState C → DatagramSinkState C → List ℕ → Type 0
SendsParts {C} moments old new piece =
    (count : ℕ) × (at : DatagramSinkState C) × SendsFirst moments count old at piece
    × (length (behind count piece) ≤ MAX_PAYLOAD) × Sends moments at new (behind count piece)

-- the first parts of a piece went, and nothing else
abbrev pub SendsFront : {C : Type 0} → Moments C → DatagramSinkState C → DatagramSinkState C → List ℕ → Type 0
SendsFront {C} moments old new piece =
    (count : ℕ) × (at : DatagramSinkState C) × SendsFirst moments count old at piece × (new.sent ≡ at.sent)

-- where datagrams go
abbrev pub goes_to : UdpOut → SocketAddr
goes_to out = out.to

-- the local address that is set, or any of this machine's of the same kind
abbrev pub leaves_from : MediaAddress → IpAddr
leaves_from address = source_of address.settings.from address.host
