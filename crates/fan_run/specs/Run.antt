-- What a run over several flows leaves, by what its objects tell.
use Rattle.std.specs.Prelude.{◌≡◌, ◌⊎◌, ℕ, List, [], map, length, reverse, slice_get, unwrap_or, Bool, true, false}
use Rattle.std.specs.Prelude.{Option, Some, None}
use Rattle.std.specs.List.{All, list_any}
use Rattle.outside_net.specs.Links.{LinkTells}
use Rattle.rist_wire.specs.declared.session.Session.{Session}
use Rattle.rist_desk.specs.declared.ended.Ended.TheVariants as ends
use Rattle.rist_desk.specs.declared.worker.ServingLimits.{ServingLimits}
use Rattle.rist_desk.specs.declared.worker.Worker.{Worker}
use Rattle.rist_desk.specs.Desk.{Given, is_cut_off}
use Rattle.rist_desk.specs.Serving.{IsFeed, OwnTells, ServesWith}
use Rattle.rist_desk.specs.Turns.{Feed}
use Rattle.rist_desk.specs.Work.{IsOlder, own_told}
use Rattle.turn_lock.specs.Turns.{entries}
use Rattle.rist_fan.specs.declared.flow.Came.{Came}
use Rattle.rist_fan.specs.declared.flow.Flow.{Flow}
use Rattle.rist_fan.specs.Seen.{FanStep}
use Rattle.fan_desk.specs.declared.tunnel_desk.RowPass.{RowPass}
use Rattle.fan_desk.specs.Own.{all_rows, own_rows}
use Rattle.fan_desk.specs.Origin.{given_at}
use Rattle.fan_desk.specs.Made.{IsSomeKeyed, several}
use Rattle.desk_run.specs.declared.ending.Ending.{Ending}
use Rattle.desk_run.specs.Run.{TimedLinks}
use Rattle.desk_run.specs.Turns.{FitsAfter, ending_by}
use Rattle.desk_run.specs.Workers.{clock_of, link_of}
use Rattle.fan_run.specs.Brought.{AreBroughtAt}
use Rattle.fan_run.specs.Concluded.{HaveConcluded, seen_by}

-- what several flows were made with: of each of so many places its receiver and its sink, and its port
pub record FlowsGiven : Type 0 where
  pub given : ℕ → Given
  pub places : ℕ
  pub ports : List ℕ

-- those of these receivers and sinks, at these ports
abbrev pub flows_of : {K : Type 0} → (K → Option (List ℕ)) → (K → ℕ) → List (Flow K) → List ℕ → FlowsGiven
flows_of contents faults flows ports =
    record { given = given_at contents faults flows; places = length flows; ports = ports }

-- what is told of a worker's own: its rows, and all that it has seen, the oldest first
pub record ToldRows : Type 0 where
  pub rows : Option (List FanStep)
  pub seen : Option (List FanStep)

-- and no more: there is always room for one more; and pairs may be wanting where some place has a sealer
abbrev pub told_rows : (ℕ → Given) → OwnTells FanStep ToldRows
told_rows given =
    record { told = λ own. own_told own.rows own.seen; Lacks = λ own. ⊥; Keyed = IsSomeKeyed given }

-- a worker as far as it tells
abbrev pub told_by : {N K L C : Type 0} → Worker L C (RowPass N K) → Worker L C ToldRows
told_by w =
    record {
      link = w.link;
      clock = w.clock;
      opener = w.opener;
      trace = record { rows = own_rows w.trace.pass; seen = all_rows w.trace.pass };
      end = w.end;
    }

-- the own rows of each worker
abbrev pub rows_of : {L C : Type 0} → List (Worker L C ToldRows) → List (List FanStep)
rows_of {L} {C} workers = map (λ (w : Worker L C ToldRows). unwrap_or w.trace.rows []) workers

-- a worker that has done nothing yet
pub record IsNewWorker {L C : Type 0} (session : Session) (w : Worker L C ToldRows) : Type 0 where
  pub session_is : w.opener ≡ session
  pub rows : w.trace.rows ≡ Some []
  pub unseen : w.trace.seen ≡ Some []
  pub unended : w.end ≡ None

-- a write of some place's sink failed
abbrev pub is_any_cut : List Came → Bool
is_any_cut came = list_any (λ one. is_cut_off one.answer) came

-- A run served links, each by a worker with its clock, on the receivers of several flows. There is one history of rows,
-- each link's own once and in their order; and each place was told the end after what it saw of it.
pub record ReceivesFlows {K L C : Type 0} (moments : C → Option (ℕ → ℕ)) (tells : LinkTells L)
    (contents : K → Option (List ℕ)) (faults : K → ℕ) (flows : FlowsGiven) (session : Session) (limits : ServingLimits)
    (was is : TimedLinks L C) (left : List (Flow K)) (came : List Came) (ending : Ending) : Type 0 where
  pub were : List (Worker L C ToldRows)
  pub are : List (Worker L C ToldRows)
  pub links_had : map link_of were ≡ was.links
  pub clocks_had : map clock_of were ≡ was.clocks
  pub begun : All (IsNewWorker session) were
  pub links_have : map link_of are ≡ is.links
  pub clocks_have : map clock_of are ≡ is.clocks
  pub as_many : length are ≡ length were
  -- each worker's own list holds the rows of its turns, and its link took what these made, by the rules of each place
  pub served : (link : ℕ) (before after : Worker L C ToldRows) → slice_get were link ≡ Some before
      → slice_get are link ≡ Some after
      → ServesWith (several flows.ports flows.given flows.places) moments tells (told_rows flows.given) limits link
      before after
  pub places : (length left ≡ flows.places) × (length came ≡ flows.places)
  pub concluded : HaveConcluded {X = Unit {0}} flows.given contents faults (rows_of are) [] left came
  -- what a worker has seen stands at the front of the history, its own rows, each behind those that had been made before
  -- it, with it
  pub seen : (link : ℕ) (w : Worker L C ToldRows) → slice_get are link ≡ Some w
      → (rows : List FanStep) × (w.trace.seen ≡ Some rows) × IsOlder rows (reverse (entries concluded.turns))
  -- a worker ended as Stopped or WriteFault only where a write of each place's sink failed
  pub broken : (link : ℕ) (w : Worker L C ToldRows) → slice_get are link ≡ Some w
      → (w.end ≡ Some ends.Stopped) ⊎ (w.end ≡ Some ends.WriteFault)
      → (v : ℕ) (c : Came) → slice_get came v ≡ Some c → is_cut_off c.answer ≡ true
  -- where no write of a place's sink failed, the own steps of each worker, as the place saw them, are what its link
  -- brought there
  pub brought : (v : ℕ) (c : Came) → slice_get came v ≡ Some c → is_cut_off c.answer ≡ false
      → (link : ℕ) (before after : Worker L C ToldRows) → slice_get were link ≡ Some before
      → slice_get are link ≡ Some after → (f : Feed)
      → IsFeed f session link limits (moments before.clock) (tells.reads before.link) (tells.knows before.link)
      → AreBroughtAt v flows.ports f (seen_by v (unwrap_or after.trace.rows []))
  -- WriteFault where a write of some place's sink failed, and else the first ending that fits the workers
  pub after : Ending
  pub fits : FitsAfter are after
  pub ending_is : ending ≡ ending_by (is_any_cut came) after
