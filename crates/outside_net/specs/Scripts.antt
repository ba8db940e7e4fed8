-- What the forms in memory give.
use Rattle.std.specs.Prelude.{◌≡◌, ◌≤◌, ℕ, suc, zero, length, List, [], ◌∷◌, ◌==◌, if◌then◌else◌, Bool}
use Rattle.link_channels.specs.declared.bounds.TheConstants.{MAX_DATAGRAM}
use Rattle.std.specs.List.{list_any}
use Rattle.outside_io.specs.Calls.{next_count}
use Rattle.link_channels.specs.declared.channel.Channel.{Channel}
use Rattle.link_channels.specs.declared.channel.Channel.TheVariants as channels
use Rattle.outside_net.specs.Links.{Datagram, Answer, Gave, Quiet, End, Failed}
use Rattle.outside_net.specs.declared.script_link.ScriptRead.{ScriptRead}
use Rattle.outside_net.specs.declared.script_link.ScriptRead.TheVariants as reads
use Rattle.outside_net.specs.declared.peers.Known.{Known}

-- the moments that are still to come of a list: past its end the last again, and 0 where there is none
abbrev pub moments_of : List ℕ → ℕ → ℕ
moments_of [] k = 0
moments_of (moment ∷ []) k = moment
moments_of (moment ∷ next ∷ moments) zero = moment
moments_of (moment ∷ next ∷ moments) (suc k) = moments_of (next ∷ moments) k

-- the calls that are to fail, by their places from 0, and how many were made
pub record CallPlaces : Type 0 where
  pub failing : List ℕ
  pub made : ℕ

-- the next call is to fail
abbrev pub fails_next : CallPlaces → Bool
fails_next calls = list_any (λ place. calls.made == place) calls.failing

-- one more call was made
abbrev pub call_made : CallPlaces → CallPlaces
call_made calls = record { failing = calls.failing; made = next_count calls.made }

-- the answer of a read of a script: an end past its last
abbrev pub answer_in : ScriptRead → Answer
answer_in (reads.Datagram channel octets) = Gave (record { channel = channel; octets = octets })
answer_in reads.Quiet = Quiet

-- the answer to the next read: an end where the script has none left
abbrev pub first_answer : List ScriptRead → Answer
first_answer [] = End
first_answer (read ∷ script) = answer_in read

-- the script after a read
abbrev pub rest_of : List ScriptRead → List ScriptRead
rest_of [] = []
rest_of (read ∷ script) = script

-- The answers that are still to come of a script: a call that is to fail fails and leaves the script as it is, any
-- other gives the next answer.
abbrev pub answers_of : CallPlaces → List ScriptRead → ℕ → Answer
answers_of calls script zero = if fails_next calls then Failed else first_answer script
answers_of calls script (suc k) = answers_of (call_made calls) (if fails_next calls then script else rest_of script) k

-- whether the peer of a channel is known
abbrev pub knows_in : Known → Channel → Bool
knows_in known channels.Media = known.media
knows_in known channels.Control = known.control
knows_in known channels.Tunnel = known.tunnel

-- a link in memory: the answers of its script that are left, its reads and writes, the peers that it knows and those
-- that it knew before the last datagram, the datagrams that it took, the oldest first, how many it has room for, and
-- its counts
pub record ScriptState : Type 0 where
  pub script : List ScriptRead
  pub reads : CallPlaces
  pub writes : CallPlaces
  pub known : Known
  pub before : Known
  pub taken : List Datagram
  pub room : ℕ
  pub faults : ℕ
  pub ends : ℕ

-- a datagram of a script has at most 2,048 octets
abbrev pub FitsDatagram : ScriptRead → Type 0
FitsDatagram (reads.Datagram channel octets) = length octets ≤ MAX_DATAGRAM
FitsDatagram reads.Quiet = Unit {0}

-- a link of which no call was made: its script, whether the peers are known, its room, and the calls that are to fail
pub record IsNewLink (given : List ScriptRead) (peer : Bool) (space : ℕ) (failing_reads failing_writes : List ℕ)
    (link : ScriptState) : Type 0 where
  pub script : link.script ≡ given
  pub reads : link.reads ≡ record { failing = failing_reads; made = 0 }
  pub writes : link.writes ≡ record { failing = failing_writes; made = 0 }
  pub known : (c : Channel) → knows_in link.known c ≡ peer
  pub before : (c : Channel) → knows_in link.before c ≡ peer
  pub taken : link.taken ≡ []
  pub room : link.room ≡ space
  pub faults : link.faults ≡ 0
  pub ends : link.ends ≡ 0
