-- Where the receivers of a split stand while records come.
use Rattle.std.specs.Prelude.{◌≡◌, ℕ, true, false, List, [], length, slice_get, unwrap_or, Option, None, Some}
use Rattle.std.specs.Option.{option_map}
use Rattle.outside_io.specs.Causes.{Rose}
use Rattle.outside_io.specs.Told.{Appends, AppendsPart}
use Rattle.capture_file.specs.Capture.{Record}
use Rattle.receiver_rules.specs.declared.limits.Limits.{Limits}
use Rattle.receiver_rules.specs.Steps.{has_ended}
use Rattle.receiver_rules.specs.History.{released_bytes}
use Rattle.reorder_buffer.specs.declared.phase.Phase.TheVariants.{Open, Failed}
use Rattle.request_rules.specs.Steps.{Step as ReceiverStep, buffer_history}
use Rattle.rist_wire.specs.declared.session.Session.{Session}
use Rattle.rist_wire.specs.Session.{no_session}
use Rattle.rist_ends.specs.Receiver.{ReceiverState, IsReceiverAfter}
use Rattle.rist_wire.specs.Among.{session_at}
use Rattle.rist_desk.specs.Desk.{is_cut_off}
use Rattle.rist_fan.specs.declared.flow.Flow.{Flow}
use Rattle.rist_fan.specs.declared.flow.Came.{Came}
use Rattle.rist_replay.specs.Replay.{replayed}
use Rattle.rist_split.specs.Split.{IsSplitOff}
use Rattle.rist_split.specs.Inside.Telling.{history_at}

-- what a split begins with: the ports, the session that the tunnel has but for its port, the receivers' limits; and
-- what each sink held then, and its count of faults, by place
pub record SplitStart : Type 0 where
  pub ports : List ℕ
  pub session : Session
  pub limits : Limits
  pub held : ℕ → Option (List ℕ)
  pub before : ℕ → ℕ

-- what is picked for nothing
abbrev pub no_start : SplitStart
no_start =
    record {
      ports = [];
      session = no_session;
      limits = record { playout_delay = 0; capacity = 0; restart_time = 0; drift = false };
      held = λ v. None;
      before = λ v. 0;
    }

-- what a receiver and its sink have come to: they go on, and the sink has gained what the history releases; or a write
-- failed, and it has gained a front part of that
pub data HasComeTo (limits : Limits) (held : Option (List ℕ)) (before : ℕ) (history : List ReceiverStep)
    (receiver : ReceiverState) (holds : Option (List ℕ)) (now : ℕ) : Type 0 where
  Goes : IsReceiverAfter receiver history → receiver.buffer.phase ≡ Open
      → Appends held holds (released_bytes limits (buffer_history history)) → now ≡ before
      → HasComeTo limits held before history receiver holds now
  Fails : receiver.buffer.phase ≡ Failed → AppendsPart held holds (released_bytes limits (buffer_history history))
      → Rose before now
      → HasComeTo limits held before history receiver holds now

-- and as it was set
pub record StandsAfter (limits : Limits) (held : Option (List ℕ)) (before : ℕ) (history : List ReceiverStep)
    (receiver : ReceiverState) (holds : Option (List ℕ)) (now : ℕ) : Type 0 where
  pub going : has_ended (buffer_history history) ≡ false
  pub limits_are : receiver.buffer.limits ≡ limits
  pub muted : receiver.reporter.is_muted ≡ true
  pub state : HasComeTo limits held before history receiver holds now

-- each flow after these records
abbrev pub FlowsAfter : {K : Type 0} → (K → Option (List ℕ)) → (K → ℕ) → SplitStart → List (Flow K) → List Record
    → Type 0
FlowsAfter {K} contents faults start flows rs =
    (v : ℕ) (flow : Flow K) → slice_get flows v ≡ Some flow
    → StandsAfter start.limits (start.held v) (start.before v) (history_at start.ports start.session v rs) flow.receiver
    (contents flow.sink) (faults flow.sink)

-- the same of a split in this session and at these ports, with a flow for each
pub record HasSplit {K : Type 0} (contents : K → Option (List ℕ)) (faults : K → ℕ) (start : SplitStart)
    (session : Session) (ports : List ℕ) (flows : List (Flow K)) (rs : List Record) : Type 0 where
  pub session_is : session ≡ start.session
  pub ports_are : ports ≡ start.ports
  pub places : length flows ≡ length start.ports
  pub flows_after : FlowsAfter contents faults start flows rs

-- ---- after the end

-- each output after these records and the end, by what came of it there
abbrev pub AllSplitFrom : {K : Type 0} → (K → Option (List ℕ)) → (K → ℕ) → SplitStart → List (Flow K) → List Came
    → List Record → Type 0
AllSplitFrom {K} contents faults start new is rs =
    (v : ℕ) (next : Flow K) (came : Came) → slice_get new v ≡ Some next → slice_get is v ≡ Some came
    → IsSplitOff (replayed (session_at start.ports v start.session) start.limits rs) (start.held v) (contents next.sink)
    (start.before v) (faults next.sink) (is_cut_off came.answer)

-- ---- what a split is named by

-- what the sink at a place holds
abbrev pub held_in : {K : Type 0} → (K → Option (List ℕ)) → List (Flow K) → ℕ → Option (List ℕ)
held_in contents flows v = unwrap_or (option_map (λ flow. contents flow.sink) (slice_get flows v)) None

-- how often a call of the sink at a place failed
abbrev pub faults_in : {K : Type 0} → (K → ℕ) → List (Flow K) → ℕ → ℕ
faults_in faults flows v = unwrap_or (option_map (λ flow. faults flow.sink) (slice_get flows v)) 0

-- a split of these flows
abbrev pub start_of : {K : Type 0} → (K → Option (List ℕ)) → (K → ℕ) → List ℕ → Session → Limits → List (Flow K)
    → SplitStart
start_of contents faults ports session limits flows =
    record {
      ports = ports;
      session = session;
      limits = limits;
      held = held_in contents flows;
      before = faults_in faults flows;
    }
