-- What a run of receiving leaves, by what its objects tell.
use Rattle.std.specs.Prelude.{◌≡◌, ◌≢◌, ◌⊎◌, ℕ, List, [], map, reverse, length, slice_get, true, false, Option, Some, None}
use Rattle.std.specs.Prelude.{is_some}
use Rattle.std.specs.List.{All, concat}
use Rattle.outside_io.specs.Causes.{Rose, RoseWhere}
use Rattle.receiver_rules.specs.Sent.{SentStream, Delivery, HasSteadyTimestamps, AreDeliveriesOf}
use Rattle.rist_ends.specs.declared.counts.Counts.{Counts}
use Rattle.rist_ends.specs.Counts.{AreCountsOf}
use Rattle.rist_compare.specs.declared.tear.Tear.{Tear}
use Rattle.rist_desk.specs.declared.ended.Ended.TheVariants as ends
use Rattle.rist_desk.specs.declared.step.Step.{Step}
use Rattle.rist_desk.specs.declared.worker.ServingLimits.{ServingLimits}
use Rattle.rist_desk.specs.declared.worker.Worker.{Worker}
use Rattle.rist_desk.specs.Desk.{DeskState, Given, StandsFor}
use Rattle.outside_net.specs.Links.{LinkTells}
use Rattle.rist_desk.specs.Serving.{ServesOn}
use Rattle.rist_desk.specs.Work.{IsOlder}
use Rattle.rist_desk.specs.Steps.{history_of}
use Rattle.desk_run.specs.declared.ending.Ending.{Ending}
use Rattle.desk_run.specs.declared.ending.Ending.TheVariants as endings
use Rattle.desk_run.specs.Endings.{is_spent, is_link_failed, any_worker, all_workers, is_write_fault, IsSound}
use Rattle.desk_run.specs.Endings.{IsWithoutRoom}
use Rattle.receiver_rules.specs.SentEpochs.{SentStreams, Transfer, AreTransfersOf, sent_epochs}
use Rattle.receiver_rules.specs.SentEpochs.{reached_payloads as payloads_of_epochs}
use Rattle.desk_run.specs.Exact.{IsRunOf, IsRunOfAll, reached_payloads}
use Rattle.desk_run.specs.Receiving.{own_lists, HasReceived, IsTorn}
use Rattle.desk_run.specs.Setup.{Setup, given_to, no_steps}
use Rattle.desk_run.specs.Workers.{ToldTrace, link_of, clock_of, told_trace}

-- the lists of workers of which a list is what they tell
abbrev pub told_lists : {L C : Type 0} → List (Worker L C ToldTrace) → List (List Step)
told_lists workers = own_lists (λ trace. trace.list) workers

-- What was received is exact. The steps before the end are those of the links, each link's once and in its order; the
-- sink holds all that they release; and where they are a run of copies of what one sender sent, near enough for their
-- words to tell them apart, and the base of deadlines stays, that is the payloads of the numbers that were reached, by
-- rising number, each once. Where flows restart it is that of one epoch after another. The counts are those of the
-- steps.
pub record IsExact (given : Given) (desk : DeskState) (own : List (List Step)) (counts : Counts) : Type 0 where
  pub received : HasReceived given desk.kept desk.contents own
  pub reached : (steps : List Step) (octets : List ℕ) (p : SentStream) (run : List Delivery)
      → received.before ≡ Some steps → desk.contents ≡ Some octets → IsRunOf p run steps
      → HasSteadyTimestamps p → given.settings.limits.drift ≡ false → AreDeliveriesOf given.settings.limits p run
      → octets ≡ concat (reached_payloads given.settings.limits p run)
  pub epochs : (steps : List Step) (octets : List ℕ) (streams : SentStreams) (run : List Transfer)
      → received.before ≡ Some steps → desk.contents ≡ Some octets → IsRunOfAll streams run steps
      → ((epoch : ℕ) → HasSteadyTimestamps (streams epoch)) → AreTransfersOf given.settings.limits streams run
      → octets ≡ concat (payloads_of_epochs streams (sent_epochs given.settings.limits streams run))
  pub counted : (steps : List Step) → desk.kept ≡ Some steps
      → AreCountsOf counts given.settings.limits (history_of (reverse steps))

-- what each ending says of the workers and of the desk at the end
abbrev pub EndsAs : {L C : Type 0} → Ending → Given → DeskState → List (Worker L C ToldTrace) → Counts → Type 0
EndsAs endings.WriteFault given desk workers counts = Unit {0}
EndsAs endings.Spent given desk workers counts = any_worker is_spent workers ≡ true
EndsAs endings.TraceFull given desk workers counts = IsWithoutRoom workers given desk
EndsAs (endings.Torn tear) given desk workers counts =
    IsSound workers × IsTorn given desk.kept desk.contents (told_lists workers) tear
EndsAs endings.LinksDown given desk workers counts =
    IsSound workers × (all_workers is_link_failed workers ≡ true) × IsExact given desk (told_lists workers) counts
EndsAs endings.Done given desk workers counts =
    IsSound workers × (all_workers is_link_failed workers ≡ false) × IsExact given desk (told_lists workers) counts

-- a worker that has done nothing yet
pub record IsNewWorker {L C : Type 0} (s : Setup) (w : Worker L C ToldTrace) : Type 0 where
  pub session : w.opener ≡ s.session
  pub list : w.trace.list ≡ no_steps s.tells
  pub limit : w.trace.limit ≡ s.limit
  pub unended : w.end ≡ None

-- these steps were seen, and stand at the front of those that were kept
pub record HasSeen (kept seen : Option (List Step)) : Type 0 where
  pub steps : List Step
  pub seen_is : seen ≡ Some steps
  pub older : (whole : List Step) → kept ≡ Some whole → IsOlder steps whole

-- Where the steps are told without a limit, they are one history: no list was full or torn, and a worker ended as
-- Stopped or WriteFault only where a write of the sink failed; where none did, what was received is exact, whichever
-- ending it was. At first a worker had seen no step; and what it has seen then stands at the front of the history, its
-- own steps, each behind those that had been made before it, with it.
pub record IsSure {L C : Type 0} (given : Given) (were are : List (Worker L C ToldTrace)) (desk : DeskState)
    (counts : Counts) (faults_were faults_are : ℕ) (ending : Ending) : Type 0 where
  pub room : ending ≢ endings.TraceFull
  pub whole : (tear : Tear) → ending ≢ endings.Torn tear
  pub broken : (link : ℕ) (w : Worker L C ToldTrace) → slice_get are link ≡ Some w
      → (w.end ≡ Some ends.Stopped) ⊎ (w.end ≡ Some ends.WriteFault) → Rose faults_were faults_are
  pub exact : is_write_fault ending ≡ false → IsExact given desk (told_lists are) counts
  pub unseen : (link : ℕ) (w : Worker L C ToldTrace) → slice_get were link ≡ Some w → w.trace.seen ≡ Some []
  pub seen : (link : ℕ) (w : Worker L C ToldTrace) → slice_get are link ≡ Some w → HasSeen desk.kept w.trace.seen

-- what a run is over, before it or after: its links, the clock of each, what its sink tells, and how many of the sink's
-- writes failed
pub record Outside (L C : Type 0) : Type 0 where
  pub links : List L
  pub clocks : List C
  pub contents : Option (List ℕ)
  pub faults : ℕ

-- a run is over these
abbrev pub outside : {L C : Type 0} → List L → List C → Option (List ℕ) → ℕ → Outside L C
outside links clocks contents faults = record { links = links; clocks = clocks; contents = contents; faults = faults }

-- links and the clock of each
pub record TimedLinks (L C : Type 0) : Type 0 where
  pub links : List L
  pub clocks : List C

-- these links with these clocks
abbrev pub timed_links : {L C : Type 0} → List L → List C → TimedLinks L C
timed_links links clocks = record { links = links; clocks = clocks }

-- A run served links, each by a worker with its clock, and the desk that the workers shared stands for its steps, where
-- it keeps them. What the run is over told this before and tells that now.
pub record Receives {L C : Type 0} (moments : C → Option (ℕ → ℕ)) (tells : LinkTells L) (s : Setup)
    (limits : ServingLimits) (was is : Outside L C) (counts : Counts) (ending : Ending) : Type 0 where
  pub were : List (Worker L C ToldTrace)
  pub are : List (Worker L C ToldTrace)
  pub desk : DeskState
  pub links_had : map link_of were ≡ was.links
  pub clocks_had : map clock_of were ≡ was.clocks
  pub begun : All (IsNewWorker s) were
  pub links_have : map link_of are ≡ is.links
  pub clocks_have : map clock_of are ≡ is.clocks
  pub as_many : length are ≡ length were
  -- each worker's own list holds its turns' steps, and its link what these made, by the rules where the desk tells its
  -- steps
  pub served : (link : ℕ) (before after : Worker L C ToldTrace) → slice_get were link ≡ Some before
      → slice_get are link ≡ Some after
      → ServesOn (given_to s was.contents was.faults) moments tells told_trace limits link before after
  pub tells_steps : is_some desk.kept ≡ s.tells
  pub contents : desk.contents ≡ is.contents
  pub faults : desk.faults ≡ is.faults
  -- however it ends, the counts are those of the receiver
  pub counts_are : counts ≡ desk.receiver.counts
  -- however it ends, the kept list is a legal history of the receiver, and the sink holds what it releases
  pub stands : (steps : List Step) → desk.kept ≡ Some steps
      → StandsFor (given_to s was.contents was.faults) desk (reverse steps)
  -- a write failed exactly where the sink's count rose
  pub fault : RoseWhere (is_write_fault ending) was.faults is.faults
  pub ends : EndsAs ending (given_to s was.contents was.faults) desk are counts
  pub sure : s.limit ≡ None → s.tells ≡ true
      → IsSure (given_to s was.contents was.faults) were are desk counts was.faults is.faults ending
