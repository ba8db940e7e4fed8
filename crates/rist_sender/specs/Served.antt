-- What links were given over several calls, reads among them.
use Rattle.std.specs.Prelude.{◌≡◌, ◌≢◌, ◌≤◌, ◌<◌, ℕ, List, ◌++◌, length, slice_index_or, Bool, true, false}
use Rattle.std.specs.Option.{option_map}
use Rattle.std.specs.List.{AllByRecursion, list_any}
use Rattle.outside_io.specs.Causes.{Rose, RoseWhere}
use Rattle.link_channels.specs.declared.channel.Channel.{Channel}
use Rattle.outside_net.specs.Streams.{later, IsFirst}
use Rattle.outside_net.specs.Links.{Answer, Gave, Quiet, End, Failed, LinkTells, IsOver, LearnsOf}
use Rattle.rist_wire.specs.declared.session.Session.{Session}
use Rattle.rist_wire.specs.declared.item.Kind.{Kind}
use Rattle.rist_wire.specs.Datagrams.{channel_of}
use Rattle.rist_sender.specs.Links.{Tried, datagrams_taken, is_failed, IsByThen}
use Rattle.rist_sender.specs.History.{Event, tried_as, tried_on}

-- the count of faults of a link rose where a write on it failed; else it may have risen by a read that failed
abbrev pub RisesWith : Bool → ℕ → ℕ → Type 0
RisesWith true before now = Rose before now
RisesWith false before now = before ≤ now

-- a link knows the peers of these channels still, and may know more
abbrev pub KeepsPeers : (Channel → Bool) → (Channel → Bool) → Type 0
KeepsPeers was is = (c : Channel) → was c ≡ true → is c ≡ true

-- the peer of each channel of a session is known
abbrev pub KnowsPeers : Session → (Channel → Bool) → Type 0
KnowsPeers session knows = (kind : Kind) → knows (channel_of session kind) ≡ true

-- One link was given the datagrams that its history gained, and no others: it took those that it took behind what it
-- had taken, where it tells that. It forgot no peer, and left a datagram only where the peer wasn't known at first.
pub record IsServed {L : Type 0} (line : LinkTells L) (had has : List Tried) (was is : L) : Type 0 where
  pub gained : List Tried
  pub more : has ≡ had ++ gained
  pub taken : line.taken is ≡ option_map (λ held. held ++ datagrams_taken gained) (line.taken was)
  pub answers : AllByRecursion (λ tried. IsByThen (line.knows was) (line.knows is) tried.channel tried.answer) gained
  pub knows : KeepsPeers (line.knows was) (line.knows is)
  pub faults : RisesWith (list_any (λ tried. is_failed tried.answer) gained) (line.faults was) (line.faults is)

-- each link was given the datagrams that its history gained, and no others
abbrev pub AreServed : {L : Type 0} → LinkTells L → ℕ → Session → List Event → List Event → List L → List L → Type 0
AreServed {L} line flow session old new was is =
    (link : ℕ) (d : L) → link < length was
    → IsServed line (tried_on (tried_as flow session) link old) (tried_on (tried_as flow session) link new)
    (slice_index_or was link d) (slice_index_or is link d)

-- the answer says that the read failed
abbrev pub says_failed : Answer → Bool
says_failed (Gave datagram) = false
says_failed Quiet = false
says_failed End = false
says_failed Failed = true

-- the answer says that no datagram will come any more
abbrev pub says_end : Answer → Bool
says_end (Gave datagram) = false
says_end Quiet = false
says_end End = true
says_end Failed = false

-- after a datagram its channel's peer is known, and of the others as it was; after any other answer the same peers are
abbrev pub KnowsWith : (Channel → Bool) → (Channel → Bool) → Answer → Type 0
KnowsWith old new (Gave datagram) = LearnsOf datagram.channel old new
KnowsWith old new Quiet = (c : Channel) → new c ≡ old c
KnowsWith old new End = (c : Channel) → new c ≡ old c
KnowsWith old new Failed = (c : Channel) → new c ≡ old c

-- One link gave an answer to a read, and the others stay. The answer is the first that it had to give, and no datagram
-- is left after an end. Its count of faults rose exactly where the read failed, and its count of ends exactly where the
-- answer is an end.
pub record ReadsAt {L : Type 0} (line : LinkTells L) (link : ℕ) (answer : Answer) (was is : List L) : Type 0 where
  pub first : (d : L) → IsFirst (line.reads (slice_index_or was link d)) answer
  pub reads : (d : L) → line.reads (slice_index_or is link d)
      ≡ option_map later (line.reads (slice_index_or was link d))
  pub over : (d : L) → IsOver answer (line.reads (slice_index_or is link d))
  pub taken : (d : L) → line.taken (slice_index_or is link d) ≡ line.taken (slice_index_or was link d)
  pub knows : (d : L)
      → KnowsWith (line.knows (slice_index_or was link d)) (line.knows (slice_index_or is link d)) answer
  pub faults : (d : L) → RoseWhere (says_failed answer) (line.faults (slice_index_or was link d))
      (line.faults (slice_index_or is link d))
  pub ends : (d : L) → RoseWhere (says_end answer) (line.ends (slice_index_or was link d))
      (line.ends (slice_index_or is link d))
  pub others : (k : ℕ) (d : L) → k ≢ link → slice_index_or is k d ≡ slice_index_or was k d
