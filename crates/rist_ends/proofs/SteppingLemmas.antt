-- A step at the effective time is the step at its own tick.
use Rattle.std.proofs.Common.{◌≡◌, ◌≢◌, ◌⊎◌, ◌||◌, ℕ, max, Bool, cond, List, refl, ◌∷◌, ◌++◌, sym, ap, subst, ◌∙◌, map, arith, Option, [], append_assoc, Bor}
use Rattle.std.specs.Prelude.{IsTrue, ◌↔◌, false, Result, Ok, Err, OnErr}
use Rattle.std.specs.List.{concat}
use Rattle.outside_io.proofs.ToldLemmas.{appends_both}
use Rattle.receiver_rules.specs.declared.limits.Limits.{Limits}
use Rattle.receiver_rules.specs.Steps.{Arrival, Event, Step, effective_time, is_end, has_ended, time_step, end_step, TimeOnly, media_step, tick_of}
use Rattle.receiver_rules.specs.Packets.{Packet, At, Ever}
use Rattle.receiver_rules.specs.Epochs.{verdict_in, epoch_at, epochs_after, epochs_of}
use Rattle.receiver_rules.specs.History.{playout_of, played_out_packets, released_bytes, verdict}
use Rattle.receiver_rules.proofs.HistoryLemmas.{played_out_grows}
use Rattle.reorder_buffer.specs.State.{State}
use Rattle.reorder_buffer.specs.StateAfter.{Shows, IsStateAfter}
use Rattle.outside_io.specs.Told.{Writes, WritesPart}
use Rattle.reorder_buffer.specs.declared.phase.Phase.{Phase}
use Rattle.reorder_buffer.specs.declared.phase.Phase.TheVariants.{Open, Ended, Failed}
use Rattle.reorder_buffer.proofs.StateAfterLemmas.{still_open, shows_told}
use mathlib.Core.Logic.{inl, inr}
use Rattle.receiver_rules.specs.declared.arrival.Arrival.{Arrival as Offered}
use Rattle.receiver_rules.specs.Seen.{seen}
use Rattle.rtcp_compound.specs.Compound.{Content}
use Rattle.rist_ends.specs.declared.told.Told.{Told}
use Rattle.rist_ends.specs.declared.told.What.{What}
use Rattle.rist_ends.specs.declared.told.What.TheVariants.{Media, Control, Keepalive, Refused, Tick, End}
use Rattle.rist_ends.specs.Told.{input_of, step_of, event_of, buffer_step, end_at}
use Rattle.reorder_buffer.proofs.PhaseLemmas.{not_failed}

-- a buffer that has not ended is open
pub open_phase : (phase : Phase) (b : Bool) → IsTrue b ↔ (phase ≢ Open) → b ≡ false → phase ≡ Open
open_phase Open b is not = refl
open_phase Ended b is not = let e = is.1 (λ e. cc) in cc
open_phase Failed b is not = let e = is.1 (λ e. cc) in cc

-- what a step is made on
pub record Goes (b : State) (history : List Step) (now tick at : ℕ) : Type 0 where
  pub state : IsStateAfter b history
  pub running : b.phase ≡ Open
  pub clock : b.time ≡ now
  pub later : at ≡ max now tick

pub at_told : (b : State) (history : List Step) (now tick at : ℕ) → Goes b history now tick at → at ≡ max tick (effective_time history)
at_told b history now tick at g =
    let s : Shows b history = g.state (not_failed b.phase g.running) in
    let time = s.time in
    let clock = g.clock in
    let e = g.later in
    omega arith

same_time : (b : State) (history : List Step) (now tick at : ℕ) → Goes b history now tick at → max at (effective_time history) ≡ max tick (effective_time history)
same_time b history now tick at g = let e = at_told b history now tick at g in omega arith

abbrev out_at : Limits → List Step → Event → ℕ → List Packet
out_at limits history event t = playout_of (epochs_after limits (epochs_of limits history) t event) (cond (is_end event || has_ended history) Ever (At t))

-- what is released depends on the effective time alone
pub bytes_told : (b : State) (history : List Step) (now tick at : ℕ) (event : Event) → Goes b history now tick at
    → released_bytes b.limits (record { tick = at; event = event } ∷ history) ≡ released_bytes b.limits (record { tick = tick; event = event } ∷ history)
bytes_told b history now tick at event g =
    ap (λ t. concat (map (λ (p : Packet). p.payload) (out_at b.limits history event t))) (same_time b history now tick at g)

pub verdict_told : (b : State) (history : List Step) (now tick at : ℕ) (arrival : Arrival) → Goes b history now tick at → verdict b.limits history at arrival ≡ verdict b.limits history tick arrival
verdict_told b history now tick at arrival g =
    ap (λ t. verdict_in b.limits (epoch_at b.limits (epochs_of b.limits history) t arrival) t arrival) (same_time b history now tick at g)

pub state_told : (b new : State) (history : List Step) (now tick at : ℕ) (event : Event) → Goes b history now tick at
    → IsStateAfter new (record { tick = at; event = event } ∷ history) → IsStateAfter new (record { tick = tick; event = event } ∷ history)
state_told b new history now tick at event g s live = shows_told new history tick at event (at_told b history now tick at g) (s live)

pub writes_told : (b : State) (history : List Step) (now tick at : ℕ) (event : Event) (old new : Option (List ℕ)) → Goes b history now tick at
    → Writes old new (released_bytes b.limits history) (released_bytes b.limits (record { tick = at; event = event } ∷ history))
    → Writes old new (released_bytes b.limits history) (released_bytes b.limits (record { tick = tick; event = event } ∷ history))
writes_told b history now tick at event old new g w = subst (Writes old new (released_bytes b.limits history)) (bytes_told b history now tick at event g) w

pub part_told : (b : State) (history : List Step) (now tick at : ℕ) (event : Event) (old new : Option (List ℕ)) → Goes b history now tick at
    → WritesPart old new (released_bytes b.limits history) (released_bytes b.limits (record { tick = at; event = event } ∷ history))
    → WritesPart old new (released_bytes b.limits history) (released_bytes b.limits (record { tick = tick; event = event } ∷ history))
part_told b history now tick at event old new g w = subst (WritesPart old new (released_bytes b.limits history)) (bytes_told b history now tick at event g) w

-- ---- the end

-- the end after the time has moved is the end at its own tick
pub end_state : (b new : State) (history : List Step) (now tick at : ℕ) → Goes b history now tick at → IsStateAfter new (end_step ∷ time_step at ∷ history) → IsStateAfter new (end_at tick ∷ history)
end_state b new history now tick at g s live =
    let shows : Shows new (end_step ∷ time_step at ∷ history) = s live in
    let time = shows.time in
    let e = same_time b history now tick at g in
    record { phase = shows.phase; time = omega (arith, time, e); anchor = shows.anchor; highest = shows.highest; floor = shows.floor; held = shows.held; last = shows.last; epoch = shows.epoch; clock = shows.clock }

pub writes_both : (a b c : Option (List ℕ)) (first middle whole : List ℕ) → Writes a b first middle → Writes b c middle whole → Writes a c first whole
writes_both a b c first middle whole v w = (
  v.0 ++ w.0,
  appends_both a b c v.0 w.0 v.1 w.1,
  w.2 ∙ ap (λ l. l ++ w.0) v.2 ∙ append_assoc first v.0 w.0,
)

pub part_both : (a b c : Option (List ℕ)) (first middle whole : List ℕ) → Writes a b first middle → WritesPart b c middle whole → WritesPart a c first whole
part_both a b c first middle whole v w = (
  v.0 ++ w.0,
  appends_both a b c v.0 w.0 v.1 w.1,
  (w.2.0, w.2.1 ∙ ap (λ l. l ++ w.2.0) (ap (λ l. l ++ w.0) v.2 ∙ append_assoc first v.0 w.0)),
)

longer : (first front middle rest more : List ℕ) → middle ≡ (first ++ front) ++ rest → middle ++ more ≡ (first ++ front) ++ (rest ++ more)
longer first front middle rest more e = ap (λ l. l ++ more) e ∙ append_assoc (first ++ front) rest more

pub concat-map-append : (xs ys : List Packet) → concat (map (λ (p : Packet). p.payload) (xs ++ ys)) ≡ concat (map (λ (p : Packet). p.payload) xs) ++ concat (map (λ (p : Packet). p.payload) ys)
concat-map-append [] ys = refl
concat-map-append (x ∷ xs) ys = ap (λ l. x.payload ++ l) (concat-map-append xs ys) ∙ sym (append_assoc x.payload (concat (map (λ (p : Packet). p.payload) xs)) (concat (map (λ (p : Packet). p.payload) ys)))

-- what was to be written before the end is a front of what the end writes
pub end_part : (b : State) (history : List Step) (now tick at : ℕ) (old new : Option (List ℕ)) → Goes b history now tick at
    → WritesPart old new (released_bytes b.limits history) (released_bytes b.limits (time_step at ∷ history)) → WritesPart old new (released_bytes b.limits history) (released_bytes b.limits (end_at tick ∷ history))
end_part b history now tick at old new g w =
    let grows = played_out_grows b.limits end_step (time_step at ∷ history) (still_open b history (g.state (not_failed b.phase g.running)) g.running) in
    let more = concat (map (λ (p : Packet). p.payload) grows.0) in
    let whole : released_bytes b.limits (end_at tick ∷ history) ≡ released_bytes b.limits (time_step at ∷ history) ++ more =
    ap (λ ps. concat (map (λ (p : Packet). p.payload) ps)) grows.1 ∙ concat-map-append (played_out_packets b.limits (time_step at ∷ history)) grows.0 in
    (w.0, w.1, (w.2.0 ++ more, whole ∙ longer (released_bytes b.limits history) w.0 (released_bytes b.limits (time_step at ∷ history)) w.2.0 more w.2.1))

-- ---- what is told

-- with everything but a media packet and the end only time passes
pub control_event : (us : ℕ) (w : What) (compound : Bor (List Content)) → w ≡ Control compound → event_of (input_of us w) ≡ TimeOnly
control_event us w compound e = ap (λ x. event_of (input_of us x)) e

pub silent_event : (us : ℕ) (w : What) → (w ≡ Keepalive) ⊎ ((w ≡ Refused) ⊎ (w ≡ Tick)) → event_of (input_of us w) ≡ TimeOnly
silent_event us w (inl e) = ap (λ x. event_of (input_of us x)) e
silent_event us w (inr (inl e)) = ap (λ x. event_of (input_of us x)) e
silent_event us w (inr (inr e)) = ap (λ x. event_of (input_of us x)) e

step_by : (told : Told) (event : Event) → event_of (input_of told.us told.what) ≡ event → buffer_step (step_of told) ≡ record { tick = tick_of told.us; event = event }
step_by told event e = ap (λ (x : Event). record { tick = tick_of told.us; event = x }) e

-- the step of a media packet
pub media_told : (told : Told) (tick : ℕ) (arrival : Offered) → told.what ≡ Media arrival → tick ≡ tick_of told.us → buffer_step (step_of told) ≡ media_step tick (seen arrival)
media_told told tick arrival what e = step_by told _ (ap (λ (w : What). event_of (input_of told.us w)) what) ∙ ap (λ t. media_step t (seen arrival)) (sym e)

-- that of the end
pub end_told : (told : Told) (tick : ℕ) → told.what ≡ End → tick ≡ tick_of told.us → buffer_step (step_of told) ≡ end_at tick
end_told told tick what e = step_by told _ (ap (λ (w : What). event_of (input_of told.us w)) what) ∙ ap (λ t. end_at t) (sym e)

-- that of anything else
pub silent_told : (told : Told) (tick : ℕ) → event_of (input_of told.us told.what) ≡ TimeOnly → tick ≡ tick_of told.us → buffer_step (step_of told) ≡ time_step tick
silent_told told tick event e = step_by told _ event ∙ ap (λ t. time_step t) (sym e)

-- ---- a failure handed on

pub on_err_always : {T E : Type 0} (r : Result T E) (P : Type 0) → P → OnErr r P
on_err_always (Ok v) P p = tt
on_err_always (Err e) P p = p
