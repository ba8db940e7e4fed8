-- What a contract sees of links over UDP: whose peers are known.
use Rattle.std.specs.Prelude.{◌≡◌, ℕ, ◌+◌, Bool, true, false, Option, None, Some}
use Rattle.std.specs.declared.net.ip_addr.IpAddr.{IpAddr}
use Rattle.link_channels.specs.declared.channel.Channel.{Channel}
use Rattle.link_channels.specs.declared.channel.Channel.TheVariants as channels
use Rattle.link_channels.specs.declared.profile.Profile.{Profile}
use Rattle.link_channels.specs.declared.profile.Profile.TheVariants.{Simple, Main}
use Rattle.outside_net.specs.declared.link.Got.{Got}
use Rattle.outside_net.specs.declared.link.Got.TheVariants as got
use Rattle.outside_net.specs.declared.link_spec.Role.{Role}
use Rattle.outside_net.specs.declared.link_spec.Role.TheVariants as roles
use Rattle.outside_net.specs.declared.link_spec.LinkSpec.{LinkSpec}
use Rattle.outside_net.specs.declared.port.Peer.{Peer}
use Rattle.outside_net.specs.declared.port.Peer.TheVariants.{Unknown, Last, Stated}
use Rattle.outside_net.specs.declared.port.Port.{Port}
use Rattle.outside_net.specs.declared.udp_link.UdpLink.{UdpLink}
use Rattle.outside_net.specs.Links.{KnowsAfter}
use Rattle.outside_net.specs.Sockets.{IsFirstPeer}

-- an address stands for the peer
abbrev pub is_known : Peer → Bool
is_known Unknown = false
is_known (Last address) = true
is_known (Stated address) = true

-- the peer of a socket, if there is one
abbrev pub knows_at : Option Port → Bool
knows_at None = false
knows_at (Some port) = is_known port.peer

-- the peer of a link's channel is known
abbrev pub knows_in_link : UdpLink → Channel → Bool
knows_in_link link channels.Media = knows_at link.media
knows_in_link link channels.Control = knows_at link.control
knows_in_link link channels.Tunnel = knows_at link.tunnel

-- the peer of a socket before the last read, if there was one
abbrev pub knew_at : Option Port → Bool
knew_at None = false
knew_at (Some port) = is_known port.before

-- the peer of a link's channel was known before the last read
abbrev pub knew_in_link : UdpLink → Channel → Bool
knew_in_link link channels.Media = knew_at link.media
knew_in_link link channels.Control = knew_at link.control
knew_in_link link channels.Tunnel = knew_at link.tunnel

-- a link in this role calls: it sends to its address, whose peers it knows from the first; another one listens
abbrev pub is_caller : Role → Bool
is_caller roles.Receives = false
is_caller roles.ReceivesCalling = true
is_caller roles.Sends = true
is_caller roles.SendsListening = false
is_caller roles.Forwards = true

-- a link states the peers of its profile's channels where it calls, and none where it listens
abbrev pub stated_in : Role → Profile → Channel → Bool
stated_in role Simple channels.Media = is_caller role
stated_in role Simple channels.Control = is_caller role
stated_in role Simple channels.Tunnel = false
stated_in role Main channels.Media = false
stated_in role Main channels.Control = false
stated_in role Main channels.Tunnel = is_caller role

-- there is a socket, and this is its first peer
abbrev pub StandsAt : Role → IpAddr → ℕ → Option Port → Type 0
StandsAt role address port None = ⊥
StandsAt role address port (Some socket) = IsFirstPeer role address port socket.peer

-- the sockets of a link, and the one that is looked at first: in the Simple Profile control goes on the next port (VSF
-- TR-06-1)
abbrev pub IsOpenedAt : Role → Profile → LinkSpec → UdpLink → Type 0
IsOpenedAt role Simple spec link = StandsAt role spec.address spec.port link.media
    × StandsAt role spec.address (spec.port + 1) link.control × (link.tunnel ≡ None) × (link.next ≡ channels.Media)
IsOpenedAt role Main spec link = (link.media ≡ None) × (link.control ≡ None)
    × StandsAt role spec.address spec.port link.tunnel × (link.next ≡ channels.Tunnel)

-- no call of the link has failed or come to an end
pub record IsUnused (link : UdpLink) : Type 0 where
  pub faults : link.faults ≡ 0
  pub ends : link.ends ≡ 0

-- after a look at a socket its peer is known where it gave a datagram, and else as it was
abbrev pub PeerAfter : Channel → Bool → Bool → Option Got → Type 0
PeerAfter channel old new None = new ≡ old
PeerAfter channel old new (Some (got.Datagram c count)) = (c ≡ channel) × (new ≡ true)
PeerAfter channel old new (Some got.Quiet) = new ≡ old
PeerAfter channel old new (Some got.End) = new ≡ old
PeerAfter channel old new (Some got.Failed) = new ≡ old

-- what a look at a socket leaves of its peer
abbrev pub LooksOn : Channel → Option Port → Option Port → Option Got → Type 0
LooksOn channel old new result = PeerAfter channel (knows_at old) (knows_at new) result

-- after a look at the sockets: as after a read where one gave something
abbrev pub KnowsAfterLook : (Channel → Bool) → (Channel → Bool) → Option Got → Type 0
KnowsAfterLook old new None = (c : Channel) → new c ≡ old c
KnowsAfterLook old new (Some answer) = KnowsAfter old new answer
