-- What links took, datagram by datagram.
use Rattle.std.specs.Prelude.{◌≡◌, ◌≢◌, ℕ, List, [], ◌∷◌, ◌++◌, map, slice_index_or, Bool, true, false}
use Rattle.std.specs.Option.{option_map}
use Rattle.std.specs.List.{AllByRecursion, list_any}
use Rattle.outside_io.specs.Causes.{RoseWhere}
use Rattle.link_channels.specs.declared.channel.Channel.{Channel}
use Rattle.outside_net.specs.Links.{Datagram, LinkTells}
use Rattle.rist_sender.specs.declared.answer.Answer.{Answer}
use Rattle.rist_sender.specs.declared.answer.Answer.TheVariants.{Took, NoPeer, Failed}

-- a datagram as it was written, and what became of it
pub record Tried : Type 0 where
  pub channel : Channel
  pub octets : List ℕ
  pub answer : Answer

-- a datagram that was written, where its link took it
abbrev pub taken_as : Channel → List ℕ → Answer → List Datagram
taken_as channel octets Took = record { channel = channel; octets = octets } ∷ []
taken_as channel octets NoPeer = []
taken_as channel octets Failed = []

-- the datagrams that a link took, of those that were written on it, in order
abbrev pub datagrams_taken : List Tried → List Datagram
datagrams_taken [] = []
datagrams_taken (tried ∷ more) = taken_as tried.channel tried.octets tried.answer ++ datagrams_taken more

-- the datagrams that were written on a link, in order, whatever became of them
abbrev pub datagrams_given : List Tried → List Datagram
datagrams_given tried = map (λ t. record { channel = t.channel; octets = t.octets }) tried

-- the answer says that the write failed
abbrev pub is_failed : Answer → Bool
is_failed Took = false
is_failed NoPeer = false
is_failed Failed = true

-- a datagram is taken only where its channel's peer is known, and is left only where it isn't
abbrev pub IsBy : (Channel → Bool) → Channel → Answer → Type 0
IsBy knows channel Took = knows channel ≡ true
IsBy knows channel NoPeer = knows channel ≡ false
IsBy knows channel Failed = Unit {0}

-- a datagram is taken only where its channel's peer is known by then, and is left only where it wasn't known at first
abbrev pub IsByThen : (Channel → Bool) → (Channel → Bool) → Channel → Answer → Type 0
IsByThen was is channel Took = is channel ≡ true
IsByThen was is channel NoPeer = was channel ≡ false
IsByThen was is channel Failed = Unit {0}

-- A link was given these datagrams, in order, and nothing else: it took those that it took behind what it had taken,
-- where it tells that, and its count of faults rose exactly where a write failed.
pub record Delivers {L : Type 0} (line : LinkTells L) (tried : List Tried) (was is : L) : Type 0 where
  pub taken : line.taken is ≡ option_map (λ had. had ++ datagrams_taken tried) (line.taken was)
  pub answers : AllByRecursion (λ t. IsBy (line.knows was) t.channel t.answer) tried
  pub faults : RoseWhere (list_any (λ t. is_failed t.answer) tried) (line.faults was) (line.faults is)
  pub knows : (c : Channel) → line.knows is c ≡ line.knows was c
  pub reads : line.reads is ≡ line.reads was
  pub ends : line.ends is ≡ line.ends was

-- one datagram was written on one link, and the others stay
pub record WritesOn {L : Type 0} (line : LinkTells L) (link : ℕ) (tried : Tried) (old new : List L) : Type 0 where
  pub here : (d : L) → Delivers line (tried ∷ []) (slice_index_or old link d) (slice_index_or new link d)
  pub others : (k : ℕ) (d : L) → k ≢ link → slice_index_or new k d ≡ slice_index_or old k d
