-- What workers make their steps on, whether it is the receiver of one flow or those of several: what is planned of a
-- datagram, what was made of a plan, and what of it went to a worker's link.
use Rattle.std.specs.Prelude.{◌≡◌, ◌<◌, ◌⊎◌, ℕ, List, [], ◌∷◌, ◌++◌, length, map, Option, None, Some}
use Rattle.std.specs.Prelude.{option_map, Result}
use Rattle.link_channels.specs.declared.channel.Channel.{Channel}
use Rattle.outside_net.specs.Links.{Datagram}
use Rattle.rist_wire.specs.declared.session.Session.{Session}
use Rattle.rist_wire.specs.declared.bad.WireBad.{WireBad}
use Rattle.rist_wire.specs.declared.item.Item.{Item}
use Rattle.rist_desk.specs.declared.ended.Ended.{Ended}
use Rattle.rist_desk.specs.declared.ended.Ended.TheVariants as ends
use Rattle.rist_desk.specs.declared.step.Mark.{Mark}
use Rattle.rist_desk.specs.declared.step.Mark.TheVariants as marks
use Rattle.rist_desk.specs.Items.{Planned}
use Rattle.rist_desk.specs.Made.{steps_with}

-- How a worker reads: what a datagram brings in a session, and the place of the flow that it is for, where there are
-- several; and the plan (P) of a step that is for the receiver at a place, or for none.
pub record Reading (P : Type 0) : Type 0 where
  pub takes : Session → Channel → List ℕ → Option ℕ × Result Item WireBad
  pub plan : Option ℕ → Planned → P

-- A kind of work. Of something that was made (M): what a list keeps of it (K), all that had been made before it, by all
-- workers, the oldest first, how it was planned (P), and which datagrams the link took. What it is to be made and sent;
-- that a write of what was made failed; and that it is the last, since a write of a sink failed or since pairs were
-- wanting, as a mark says.
pub record Work (K P M : Type 0) : Type 1 where
  pub reading : Reading P
  pub kept : M → K
  pub before : M → List K
  pub planned : M → P
  pub went : M → List Datagram
  pub Sent : M → Type 0
  pub HalfSent : M → Type 0
  pub Unsent : Mark → M → Type 0

-- ---- lists of what was made

-- each was made and sent
abbrev pub AreSent : {K P M : Type 0} → Work K P M → List M → Type 0
AreSent work [] = Unit {0}
AreSent work (m ∷ ms) = work.Sent m × AreSent work ms

-- all that went
abbrev pub went_of : {K P M : Type 0} → Work K P M → List M → List Datagram
went_of work [] = []
went_of work (m ∷ ms) = work.went m ++ went_of work ms

-- the last, if there is one
abbrev pub last_in : {M : Type 0} → Option M → List M
last_in None = []
last_in (Some m) = m ∷ []

-- ---- what a worker has seen

-- the whole begins with these, the oldest first
pub record IsOlder {K : Type 0} (older whole : List K) : Type 0 where
  pub later : List K
  pub is : whole ≡ older ++ later

-- These were made, one after another, by who had seen a list and has seen another now: the second begins with the
-- first; and before each stood all that had been seen till then.
abbrev pub CameAfter : {K P M : Type 0} → Work K P M → List K → List M → List K → Type 0
CameAfter work was [] is = IsOlder was is
CameAfter work was (m ∷ ms) is = IsOlder was (work.before m) × CameAfter work (work.before m ++ work.kept m ∷ []) ms is

-- so where it is told what was seen
abbrev pub SeesAll : {K P M : Type 0} → Work K P M → Option (List K) → List M → Option (List K) → Type 0
SeesAll work None ms is = is ≡ None
SeesAll work (Some was) ms None = ⊥
SeesAll work (Some was) ms (Some is) = CameAfter work was ms is

-- One may have been made after these, where they are told; who made it had seen a list and has seen another now: all
-- that stood before, and what was made.
abbrev pub SeesWith : {K : Type 0} → Option (List K) → Option (List K) → Option (List K) → Option K → Type 0
SeesWith None is before entry = is ≡ None
SeesWith (Some was) is None entry = ⊥
SeesWith (Some was) is (Some before) entry = IsOlder was before × (is ≡ Some (steps_with entry before))

-- ---- what a worker holds

-- what is told of what is a worker's own: its list, and all that it has seen, its own and that of others
pub record OwnTold (K : Type 0) : Type 0 where
  pub list : Option (List K)
  pub seen : Option (List K)

-- these two
abbrev pub own_told : {K : Type 0} → Option (List K) → Option (List K) → OwnTold K
own_told list seen = record { list = list; seen = seen }

-- a worker's own, and what its link took, where it is told
pub record Holds (K : Type 0) : Type 0 where
  pub own : OwnTold K
  pub taken : Option (List Datagram)

-- these two
abbrev pub holds : {K : Type 0} → OwnTold K → Option (List Datagram) → Holds K
holds own taken = record { own = own; taken = taken }

-- the list has gained what is kept of these, and the link what they made; and each came after all that was seen before
pub record Gains {K P M : Type 0} (work : Work K P M) (old new : Holds K) (ms : List M) : Type 0 where
  pub list : new.own.list ≡ option_map (λ l. l ++ map work.kept ms) old.own.list
  pub taken : new.taken ≡ option_map (λ t. t ++ went_of work ms) old.taken
  pub seen : SeesAll work old.own.seen ms new.own.seen

-- what was planned was made, and what it made was sent
pub record Goes {K P M : Type 0} (work : Work K P M) (old new : Holds K) (plan : List P) : Type 0 where
  pub done : List M
  pub gains : Gains work old new done
  pub plan_is : map work.planned done ≡ plan
  pub sent : AreSent work done

-- a front part of it was, perhaps a last one that is cut short, and the rest is missing
pub record Breaks {K P M : Type 0} (work : Work K P M) (C : Option M → List P → Type 0) (old new : Holds K)
    (plan : List P) : Type 0 where
  pub done : List M
  pub last : Option M
  pub missing : List P
  pub gains : Gains work old new (done ++ last_in last)
  pub plan_is : plan ≡ map work.planned (done ++ last_in last) ++ missing
  pub sent : AreSent work done
  pub cause : C last missing

-- ---- where it ends

-- this holds of the last
abbrev pub IsLast : {M : Type 0} → (M → Type 0) → Option M → Type 0
IsLast P None = ⊥
IsLast P (Some m) = P m

-- the next one was not made
abbrev pub NotMade : {P M : Type 0} → Option M → List P → Type 0
NotMade last missing = (last ≡ None) × (0 < length missing)

-- where a step ended the worker: it wasn't made; or it is the last, and its write or a write of what it made failed, or
-- pairs were wanting
abbrev pub CutsAt : {K P M : Type 0} → Work K P M → Ended → Option M → List P → Type 0
CutsAt work ends.Stopped last missing = NotMade last missing
CutsAt work ends.TraceFull last missing = NotMade last missing
CutsAt work ends.WriteFault last missing = IsLast (work.Unsent marks.WriteFault) last
CutsAt work ends.Spent last missing = IsLast (work.Unsent marks.Spent) last
CutsAt work ends.Failed last missing = IsLast work.HalfSent last
CutsAt work ends.End last missing = ⊥
CutsAt work ends.Turns last missing = ⊥
CutsAt work ends.Idle last missing = ⊥

-- the clock or the link ended it after its last turn: nothing is cut short or missing
abbrev pub IsPlanned : {P M : Type 0} → Option Ended → Ended → Option M → List P → Type 0
IsPlanned planned end last missing = (planned ≡ Some end) × (last ≡ None) × (missing ≡ [])

-- why a worker ended
abbrev pub EndsBy : {K P M : Type 0} → Work K P M → Option Ended → Ended → Option M → List P → Type 0
EndsBy work planned end last missing = IsPlanned planned end last missing ⊎ CutsAt work end last missing

-- a step ended the worker
abbrev pub CutShort : {K P M : Type 0} → Work K P M → Ended → Holds K → Holds K → List P → Type 0
CutShort work end old new plan = Breaks work (CutsAt work end) old new plan

-- a turn was the last
abbrev pub TurnEnds : {K P M : Type 0} → Work K P M → Ended → Option Ended → Holds K → Holds K → List P → Type 0
TurnEnds work end planned old new plan = Breaks work (EndsBy work planned end) old new plan
