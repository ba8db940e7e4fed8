-- What a recording keeps.
use Rattle.std.specs.Prelude.{◌≡◌, ◌^◌, ◌<◌, ℕ, List, Bool, true, false, Option, Some, None, take}
use Rattle.link_channels.specs.declared.channel.Channel.{Channel}
use Rattle.outside_io.specs.Told.{Appends, AppendsPart}
use Rattle.outside_net.specs.declared.link.Got.{Got}
use Rattle.outside_net.specs.declared.link.Got.TheVariants as got
use Rattle.capture_file.specs.Capture.{Record, spelling}

-- the link's number in its records, whether no write failed, and what the sink holds, where it tells
pub record RecordingState : Type 0 where
  pub place : ℕ
  pub goes : Bool
  pub contents : Option (List ℕ)

-- the record of a datagram, at a moment
abbrev pub record_at : ℕ → Channel → List ℕ → ℕ → Record
record_at place channel octets us = record { link = place; channel = channel; us = us; octets = octets }

-- By whether it was written: the sink has gained exactly the record of this datagram at some moment, or a front part of
-- it.
abbrev pub Puts : ℕ → Channel → List ℕ → Bool → Option (List ℕ) → Option (List ℕ) → Type 0
Puts place channel octets true old new =
    (us : ℕ) × (us < 2 ^ 64) × Appends old new (spelling (record_at place channel octets us))
Puts place channel octets false old new =
    (us : ℕ) × (us < 2 ^ 64) × AppendsPart old new (spelling (record_at place channel octets us))

-- A recording that goes on has put the record of this datagram, and goes on where that was written. One that is over
-- stays as it is.
pub record Keeps (channel : Channel) (octets : List ℕ) (old new : RecordingState) : Type 0 where
  pub place : new.place ≡ old.place
  pub puts : old.goes ≡ true → Puts old.place channel octets new.goes old.contents new.contents
  pub over : old.goes ≡ false → new ≡ old

-- the same of a link that may have no recording, and then gets none
abbrev pub KeepsWhere : Channel → List ℕ → Option RecordingState → Option RecordingState → Type 0
KeepsWhere channel octets None new = new ≡ None
KeepsWhere channel octets (Some old) new = (now : RecordingState) × (new ≡ Some now) × Keeps channel octets old now

-- A read that gave a datagram has kept it; one that gave none has kept nothing.
abbrev pub IsRecorded : Got → List ℕ → Option RecordingState → Option RecordingState → Type 0
IsRecorded (got.Datagram channel count) block old new = KeepsWhere channel (take count block) old new
IsRecorded got.Quiet block old new = new ≡ old
IsRecorded got.End block old new = new ≡ old
IsRecorded got.Failed block old new = new ≡ old
