-- What a worker did, by what its objects tell.
use Rattle.std.specs.Prelude.{◌≡◌, ◌≤◌, ◌*◌, ℕ, List, Bool, true, Option, None, Some, is_some}
use Rattle.link_channels.specs.declared.channel.Channel.{Channel}
use Rattle.outside_io.specs.Causes.{RoseWhere}
use Rattle.outside_net.specs.Links.{LinkTells, Answer}
use Rattle.rist_wire.specs.declared.session.Session.{Session}
use Rattle.rist_desk.specs.declared.ended.Ended.{Ended}
use Rattle.rist_desk.specs.declared.ended.Ended.TheVariants as ends
use Rattle.rist_desk.specs.declared.step.Step.{Step}
use Rattle.rist_desk.specs.declared.worker.ServingLimits.{ServingLimits}
use Rattle.rist_desk.specs.declared.worker.Worker.{Worker}
use Rattle.rist_desk.specs.Desk.{Given}
use Rattle.rist_desk.specs.Sending.{LacksRoom, one}
use Rattle.rist_desk.specs.Work.{OwnTold, Work, holds, own_told}
use Rattle.rist_desk.specs.Turns.{Feed, IsServed}
use Rattle.rist_desk.specs.Inside.Going.{IsTask, is_link_end, is_link_failure}

-- this is what a worker is given, where its clock and its link tell
pub record IsFeed (f : Feed) (session : Session) (place : ℕ) (limits : ServingLimits) (moments : Option (ℕ → ℕ))
    (answers : Option (ℕ → Answer)) (knows : Channel → Bool) : Type 0 where
  pub task : IsTask f session place limits
  pub moments_are : moments ≡ Some f.moments
  pub answers_are : answers ≡ Some f.answers
  pub knows_are : knows ≡ f.knows

-- The worker at this place ended: its own list has gained the steps of its turns, and its link what they made.
pub record ServesBy {K P M L C U : Type 0} (work : Work K P M) (moments : C → Option (ℕ → ℕ)) (tells : LinkTells L)
    (told : U → OwnTold K) (limits : ServingLimits) (place : ℕ) (old new : Worker L C U) : Type 0 where
  pub end : Ended
  pub ended : new.end ≡ Some end
  pub served : (f : Feed)
      → IsFeed f old.opener place limits (moments old.clock) (tells.reads old.link) (tells.knows old.link)
      → IsServed work f (tells.knows new.link) end (moments new.clock) (tells.reads new.link)
      (holds (told old.trace) (tells.taken old.link)) (holds (told new.trace) (tells.taken new.link))
  pub session : new.opener ≡ old.opener
  -- End and Failed come exactly where the link's count rose
  pub end_cause : RoseWhere (is_link_end (Some end)) (tells.ends old.link) (tells.ends new.link)
  pub failed_cause : RoseWhere (is_link_failure (Some end)) (tells.faults old.link) (tells.faults new.link)

-- what a kind of work tells of what is a worker's own: its list, and what it has seen; that it wants room for the next
-- step; and where pairs may be wanting
pub record OwnTells (K U : Type 0) : Type 1 where
  pub told : U → OwnTold K
  pub Lacks : U → Type 0
  pub Keyed : Type 0

-- A worker at this place ended. Where it ended since a trace was full, there was no room; and where it ended since
-- pairs were wanting, they may be.
pub record ServesWith {K P M L C U : Type 0} (work : Work K P M) (moments : C → Option (ℕ → ℕ)) (tells : LinkTells L)
    (own : OwnTells K U) (limits : ServingLimits) (place : ℕ) (old new : Worker L C U) : Type 0 where
  pub made : ServesBy work moments tells own.told limits place old new
  pub full : new.end ≡ Some ends.TraceFull → own.Lacks new.trace
  pub spent : new.end ≡ Some ends.Spent → own.Keyed

-- ---- on the receiver of one flow

-- so, whatever the desk
abbrev pub Serves : {L C U : Type 0} → (C → Option (ℕ → ℕ)) → LinkTells L → (U → OwnTold Step) → ServingLimits → ℕ
    → Worker L C U → Worker L C U → Type 0
Serves moments tells told limits place old new = ServesBy (one None) moments tells told limits place old new

-- what a kind of traces tells, what it has seen of the desk's steps, and how many steps one takes
pub record TraceTells (U : Type 0) : Type 0 where
  pub list : U → Option (List Step)
  pub seen : U → Option (List Step)
  pub limit : U → Option ℕ

-- a desk that tells its steps was made with a sealer
abbrev pub IsKeyed : Given → Type 0
IsKeyed given = given.tells_steps ≡ true → is_some given.shutter.sealer ≡ true

-- what is a worker's own on this desk: it wants room where its trace is full, or the desk's; and pairs may be wanting
-- where the desk has a sealer
abbrev pub own_on : {U : Type 0} → Given → TraceTells U → OwnTells Step U
own_on given trace =
    record {
      told = λ own. own_told (trace.list own) (trace.seen own);
      Lacks = λ own. LacksRoom given (trace.limit own) (trace.list own);
      Keyed = IsKeyed given;
    }

-- A worker at this place ended on this desk. Of a desk that tells its steps, they and what they made are what the rules
-- give.
abbrev pub ServesOn : {L C U : Type 0} → Given → (C → Option (ℕ → ℕ)) → LinkTells L → TraceTells U → ServingLimits → ℕ
    → Worker L C U → Worker L C U → Type 0
ServesOn given moments tells trace limits place old new =
    ServesWith (one (Some given)) moments tells (own_on given trace) limits place old new

-- ---- before and after

-- a worker at this place may make all its turns, of two steps at most, on what is shared
pub record MayServe {S L C U : Type 0} (is_of : S → ℕ → U → Type 0) (left : U → ℕ) (shared : S) (limits : ServingLimits)
    (place : ℕ) (w : Worker L C U) : Type 0 where
  pub own : is_of shared place w.trace
  pub left_is : 2 * limits.turns ≤ left w.trace

-- A worker ended: what is its own is still of what is shared; and where a failed write of the sink ended it, that is
-- known by what it has seen.
pub record Leaves {S L C U : Type 0} (is_of : S → ℕ → U → Type 0) (broken : U → Type 0) (shared : S) (place : ℕ)
    (w : Worker L C U) : Type 0 where
  pub own : is_of shared place w.trace
  pub stopped : w.end ≡ Some ends.Stopped → broken w.trace
  pub fault : w.end ≡ Some ends.WriteFault → broken w.trace
