-- What a link gives and takes.
use Rattle.std.specs.Prelude.{◌≡◌, ◌≢◌, ◌≤◌, ℕ, List, [], ◌∷◌, ◌++◌, take, Option, Some, Result, Ok, Err, Bool, true}
use Rattle.link_channels.specs.declared.bounds.TheConstants.{MAX_DATAGRAM}
use Rattle.std.specs.Prelude.{false}
use Rattle.link_channels.specs.declared.channel.Channel.{Channel}
use Rattle.outside_net.specs.declared.link.Got.{Got}
use Rattle.outside_net.specs.declared.link.Got.TheVariants as got

-- a datagram on its channel
pub record Datagram : Type 0 where
  pub channel : Channel
  pub octets : List ℕ

-- the answer to a read: a datagram, none now, none any more, or that the call failed
pub data Answer : Type 0 where
  Gave : Datagram → Answer
  Quiet : Answer
  End : Answer
  Failed : Answer

-- the answer that a read gave, with what stands in its block
abbrev pub answer_of : Got → List ℕ → Answer
answer_of (got.Datagram channel count) block = Gave (record { channel = channel; octets = take count block })
answer_of got.Quiet block = Quiet
answer_of got.End block = End
answer_of got.Failed block = Failed

-- a datagram has at most 2,048 octets
abbrev pub IsWithin : Got → Type 0
IsWithin (got.Datagram channel count) = count ≤ MAX_DATAGRAM
IsWithin got.Quiet = Unit {0}
IsWithin got.End = Unit {0}
IsWithin got.Failed = Unit {0}

-- the answer gives a datagram
abbrev pub gives_datagram : Answer → Bool
gives_datagram (Gave datagram) = true
gives_datagram Quiet = false
gives_datagram End = false
gives_datagram Failed = false

-- after an end no datagram comes
abbrev pub IsOver : Answer → Option (ℕ → Answer) → Type 0
IsOver answer told = answer ≡ End → (s : ℕ → Answer) → told ≡ Some s → (k : ℕ) → gives_datagram (s k) ≡ false

-- the read failed
abbrev pub has_read_failed : Got → Bool
has_read_failed (got.Datagram channel count) = false
has_read_failed got.Quiet = false
has_read_failed got.End = false
has_read_failed got.Failed = true

-- no datagram will come any more
abbrev pub has_come_to_end : Got → Bool
has_come_to_end (got.Datagram channel count) = false
has_come_to_end got.Quiet = false
has_come_to_end got.End = true
has_come_to_end got.Failed = false

-- the peer of this channel is known now, and of the others as it was
pub record LearnsOf (channel : Channel) (old new : Channel → Bool) : Type 0 where
  pub known : new channel ≡ true
  pub others : (c : Channel) → c ≢ channel → new c ≡ old c

-- after a datagram its channel's peer is known; after any other answer the same peers are
abbrev pub KnowsAfter : (Channel → Bool) → (Channel → Bool) → Got → Type 0
KnowsAfter old new (got.Datagram channel count) = LearnsOf channel old new
KnowsAfter old new got.Quiet = (c : Channel) → new c ≡ old c
KnowsAfter old new got.End = (c : Channel) → new c ≡ old c
KnowsAfter old new got.Failed = (c : Channel) → new c ≡ old c

-- after a read that gave a datagram: what was known before it
abbrev pub IsBefore : (Channel → Bool) → (Channel → Bool) → Got → Type 0
IsBefore old knew (got.Datagram channel count) = (c : Channel) → knew c ≡ old c
IsBefore old knew got.Quiet = Unit {0}
IsBefore old knew got.End = Unit {0}
IsBefore old knew got.Failed = Unit {0}

-- the datagrams taken, after a write: one more exactly where it went
abbrev pub taken_with : {E : Type 0} → Channel → List ℕ → Result Bool E → List Datagram → List Datagram
taken_with channel octets (Ok true) taken = taken ++ record { channel = channel; octets = octets } ∷ []
taken_with channel octets (Ok false) taken = taken
taken_with channel octets (Err e) taken = taken

-- What a kind of links tells, and its counts: the answers that its reads have still to give, the datagrams that it
-- took, which channels' peers it knows, how many reads came to an end, and how many calls failed.
pub record LinkTells (L : Type 0) : Type 0 where
  pub reads : L → Option (ℕ → Answer)
  pub taken : L → Option (List Datagram)
  pub knows : L → Channel → Bool
  pub ends : L → ℕ
  pub faults : L → ℕ
