-- What the calls of a socket mean: where it stands, whom it sends to, which errors are faults, and which socket comes
-- next.
use Rattle.std.specs.Prelude.{◌≡◌, ◌/◌, ◌-◌, ◌^◌, ℕ, List, [], ◌∷◌, min, if◌then◌else◌, not, Bool, true, false}
use Rattle.std.specs.Prelude.{Option, None, Some, slice_index_or, set, nat_lt, ◌||◌}
use Rattle.outside_net.specs.declared.port.TheConstants.{MAX_FLOWS}
use Rattle.std.specs.Prelude.{Result, Ok, Err, ℤ, pos, negsuc, zero, suc}
use Rattle.std.specs.Duration.{as_nanos}
use Rattle.std.specs.declared.time.Duration.{Duration}
use Rattle.std.specs.declared.net.ip_addr.IpAddr.{IpAddr}
use Rattle.std.specs.declared.net.ip_addr.IpAddr.TheVariants.{V4, V6}
use Rattle.std.specs.declared.net.socket_addr.SocketAddr.{SocketAddr}
use Rattle.std.specs.Net.Socket.{IsPlainSocket, socket_ip}
use Rattle.std.specs.declared.io.Error.{Error}
use Rattle.std.specs.declared.io.ErrorKind.{ErrorKind}
use Rattle.std.specs.declared.io.ErrorKind.TheVariants as kinds
use Rattle.std.specs.IoError.{error_kind}
use Rattle.link_channels.specs.declared.channel.Channel.{Channel}
use Rattle.link_channels.specs.declared.channel.Channel.TheVariants as channels
use Rattle.outside_net.specs.declared.link.Got.{Got}
use Rattle.outside_net.specs.declared.link.Got.TheVariants as got
use Rattle.outside_net.specs.declared.link_spec.LinkSpec.{LinkSpec}
use Rattle.outside_net.specs.declared.link_spec.Role.{Role}
use Rattle.outside_net.specs.declared.link_spec.Role.TheVariants as roles
use Rattle.outside_net.specs.declared.port.Peer.{Peer}
use Rattle.outside_net.specs.declared.port.Peer.TheVariants.{Unknown, Last, Stated}
use Rattle.outside_net.specs.declared.ready.Ready.{Ready}
use Rattle.outside_net.specs.declared.ready.Known.{Known}
use Rattle.outside_net.specs.declared.ready.Known.TheVariants as known

-- a link of which nothing is stated but its address and its port
abbrev pub plain_link : IpAddr → ℕ → LinkSpec
plain_link address port = record { address = address; port = port; from = None; ttl = None }

-- a socket's address is this one with this port, without a flow label and a scope
abbrev pub IsAt : IpAddr → ℕ → SocketAddr → Type 0
IsAt address port socket = (socket_ip socket ≡ address) × IsPlainSocket socket port

-- any address of this machine of the same kind: `0.0.0.0`, or `::`
abbrev pub any_of_kind : IpAddr → IpAddr
any_of_kind (V4 address) = V4 (record { octets = 0 ∷ 0 ∷ 0 ∷ 0 ∷ [] })
any_of_kind (V6 address) = V6 (record { segments = 0 ∷ 0 ∷ 0 ∷ 0 ∷ 0 ∷ 0 ∷ 0 ∷ 0 ∷ [] })

-- the address that datagrams leave from: the one that is stated, else any of the kind of their destination
abbrev pub source_of : Option IpAddr → IpAddr → IpAddr
source_of None to = any_of_kind to
source_of (Some from) to = from

-- where the socket of a link stands for this port of it: there where it listens, and at any port of the address that it
-- leaves from where it calls
abbrev pub IsOwn : Role → LinkSpec → ℕ → SocketAddr → Type 0
IsOwn roles.Receives spec port own = IsAt spec.address port own
IsOwn roles.ReceivesCalling spec port own = IsAt (source_of spec.from spec.address) 0 own
IsOwn roles.Sends spec port own = IsAt (source_of spec.from spec.address) 0 own
IsOwn roles.SendsListening spec port own = IsAt spec.address port own
IsOwn roles.Forwards spec port own = IsAt (source_of spec.from spec.address) 0 own

-- a peer that was stated at an address and port, which stay
abbrev pub IsStatedAt : IpAddr → ℕ → Peer → Type 0
IsStatedAt address port peer = (stated : SocketAddr) × (peer ≡ Stated stated) × IsAt address port stated

-- whom it sends to at first: nobody where it listens, and the address and port where it calls
abbrev pub IsFirstPeer : Role → IpAddr → ℕ → Peer → Type 0
IsFirstPeer roles.Receives address port peer = peer ≡ Unknown
IsFirstPeer roles.ReceivesCalling address port peer = IsStatedAt address port peer
IsFirstPeer roles.Sends address port peer = IsStatedAt address port peer
IsFirstPeer roles.SendsListening address port peer = peer ≡ Unknown
IsFirstPeer roles.Forwards address port peer = IsStatedAt address port peer

-- whom it sends to once a datagram came from an address: a stated peer stays, and else it is who sent the last one
abbrev pub learned : Peer → SocketAddr → Peer
learned Unknown from = Last from
learned (Last address) from = Last from
learned (Stated address) from = Stated address

-- after a look at a socket its peer is learned where it gave a datagram, and else it is the same
abbrev pub Learns : Peer → Peer → Option Got → Type 0
Learns old new None = new ≡ old
Learns old new (Some (got.Datagram channel count)) = (from : SocketAddr) × (new ≡ learned old from)
Learns old new (Some got.Quiet) = new ≡ old
Learns old new (Some got.End) = new ≡ old
Learns old new (Some got.Failed) = new ≡ old

-- who sent the last datagram of each flow, once one of this flow came from a peer that is learned; nothing changes
-- where the peer was stated, or for a flow that a tunnel doesn't have
abbrev pub assigned : ℕ → Peer → List (Option SocketAddr) → List (Option SocketAddr)
assigned flow Unknown senders = senders
assigned flow (Last from) senders = if nat_lt flow MAX_FLOWS then set senders flow (Some from) else senders
assigned flow (Stated address) senders = senders

-- who sent the last datagram of a flow, if one came
abbrev pub sender_of : ℕ → List (Option SocketAddr) → Option SocketAddr
sender_of flow senders = if nat_lt flow MAX_FLOWS then slice_index_or senders flow None else None

-- Where a datagram goes: to a stated peer, whichever flow it is of; else to the peer of the flow that is answered, if
-- one of it came, and else to who sent the last one.
abbrev pub target : Peer → Option SocketAddr → Option SocketAddr
target Unknown facing = None
target (Last last) None = Some last
target (Last last) (Some sender) = Some sender
target (Stated address) facing = Some address

-- Errors that are no fault of a link: nothing is there, or no room, a signal came, the peer's machine refuses, or no
-- way leads there now.
abbrev pub is_no_fault : ErrorKind → Bool
is_no_fault kinds.WouldBlock = true
is_no_fault kinds.Interrupted = true
is_no_fault kinds.ConnectionRefused = true
is_no_fault kinds.HostUnreachable = true
is_no_fault kinds.NetworkUnreachable = true
is_no_fault kinds.NetworkDown = true
is_no_fault _ = false

-- the error of a call is a fault of the link
abbrev pub is_fault : {T : Type 0} → Result T Error → Bool
is_fault (Ok x) = false
is_fault (Err error) = not (is_no_fault (error_kind error))

-- what a read that gave nothing answers, by the kind of its error
abbrev pub answer_by : ErrorKind → Option Got
answer_by kind = if is_no_fault kind then None else Some got.Failed

-- the system told something of a socket: that it has a datagram, or a fault
abbrev pub is_told : ℤ → Bool
is_told (pos zero) = false
is_told (pos (suc n)) = true
is_told (negsuc n) = true

-- a socket is to be looked at where the system told something of it, and also where the look at all of them failed
abbrev pub is_ready : ℤ → ℤ → Bool
is_ready (pos count) told = is_told told
is_ready (negsuc n) told = true

-- a channel's socket is to be looked at; that of a tunnel is in any case
abbrev pub has_ready : Ready → Channel → Bool
has_ready ready channels.Media = ready.media
has_ready ready channels.Control = ready.control
has_ready ready channels.Tunnel = true

-- after a rest a link knows which sockets have something; where none has, the next read alone takes that
abbrev pub known_after : Ready → Known
known_after ready = if ready.media || ready.control then known.Ready ready else known.Quiet 1

-- after a look that found nothing, seven reads more take that
abbrev pub known_looked : Bool → Known
known_looked found = if found then known.Nothing else known.Quiet 7

-- what is known once a read has taken the word that nothing is there; none where it has to look
abbrev pub known_taken : Known → Option Known
known_taken (known.Quiet n) = if nat_lt 0 n then Some (known.Quiet (n - 1)) else None
known_taken (known.Ready ready) = None
known_taken known.Nothing = None

-- the channel that takes turns with this one
abbrev pub other_channel : Channel → Channel
other_channel channels.Media = channels.Control
other_channel channels.Control = channels.Media
other_channel channels.Tunnel = channels.Tunnel

-- a datagram came on this channel
abbrev pub IsOn : Channel → Got → Type 0
IsOn channel (got.Datagram c count) = c ≡ channel
IsOn channel got.Quiet = Unit {0}
IsOn channel got.End = Unit {0}
IsOn channel got.Failed = Unit {0}

-- after a datagram of one channel the other is looked at first
abbrev pub TakesTurns : Channel → Got → Type 0
TakesTurns next (got.Datagram channel count) = next ≡ other_channel channel
TakesTurns next got.Quiet = Unit {0}
TakesTurns next got.End = Unit {0}
TakesTurns next got.Failed = Unit {0}

-- how many whole microseconds lie between two moments, up to 2^64 - 1: 0 where the second is the earlier one
abbrev pub micros_of : Duration → Duration → ℕ
micros_of start now = min ((as_nanos now - as_nanos start) / 1000) (2 ^ 64 - 1)
