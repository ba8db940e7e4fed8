-- What is due goes out and then an arrival is judged: as one step of the history.
use Rattle.std.proofs.Common.{◌≡◌, ℕ, ◌≤◌, max, Bool, true, false, cond, List, ◌∷◌, ◌+◌, Option, refl, sym, ◌∙◌, ap, map, arith}
use Rattle.std.specs.List.{concat}
use Rattle.outside_io.specs.Told.{Appends, AppendsPart, Writes, WritesPart}
use Rattle.receiver_rules.specs.declared.limits.Limits.{Limits}
use Rattle.receiver_rules.specs.Steps.{Arrival, Step, effective_time, media_step, time_step}
use Rattle.std.specs.Prelude.{nat_lt, Some, None}
use Rattle.std.proofs.lemmas.Bool.{ltb-true}
use Rattle.receiver_rules.specs.declared.anchor.Highest.{Highest}
use Rattle.receiver_rules.specs.Packets.{Packet, At, is_kept, higher}
use Rattle.receiver_rules.specs.declared.anchor.Anchor.{Anchor}
use Rattle.receiver_rules.specs.Epochs.{verdict_in, epoch_at, epochs_of}
use Rattle.receiver_rules.specs.History.{verdict, released_bytes}
use Rattle.receiver_rules.proofs.HistoryLemmas.{played_out_arrival}
use Rattle.reorder_buffer.specs.State.{State, IsNoLower}
use Rattle.reorder_buffer.specs.StateAfter.{Shows, IsStateAfter}
use Rattle.reorder_buffer.specs.Inside.Tests.{judged, anchor_at, placed_at}
use Rattle.reorder_buffer.specs.Inside.Changes.{holding, moved, clock_then, taken, raised, is_opening, begun, opened_at}
use Rattle.reorder_buffer.specs.Inside.Release.{floor_then, octets_below}
use Rattle.reorder_buffer.specs.declared.phase.Phase.TheVariants.{Open}
use Rattle.reorder_buffer.proofs.StateAfterLemmas.{Arrives, verdict_after_steps, state_after_arrival, shows_arrival, still_open}
use Rattle.reorder_buffer.proofs.ReleaseLemmas.{timed, pass_follows, shows_pass, written_then, part_then}
use Rattle.reorder_buffer.proofs.PhaseLemmas.{not_failed}

-- the state at a tick, after what was due has gone out
abbrev pub then_state : State → ℕ → State
then_state b at = timed (raised b (floor_then b (At at))) at

-- what an arrival finds
pub record Finds (b : State) (history : List Step) (at : ℕ) : Type 0 where
  pub state : IsStateAfter b history
  pub running : b.phase ≡ Open
  pub clock : b.time ≤ at

arrives_then : (b : State) (history : List Step) (at : ℕ) → Finds b history at → Arrives (then_state b at) (time_step at ∷ history) at
arrives_then b history at f = record {
  shows = shows_pass b history at (floor_then b (At at)) f.state f.running f.clock refl;
  live = f.running;
  later = omega arith;
  released = λ some. refl;
}

same_time : (at t : ℕ) → max at (max at t) ≡ max at t
same_time at t = omega arith

same_verdict : (limits : Limits) (history : List Step) (at : ℕ) (arrival : Arrival) → verdict limits (time_step at ∷ history) at arrival ≡ verdict limits history at arrival
same_verdict limits history at arrival =
    ap (λ t. verdict_in limits (epoch_at limits (epochs_of limits history) t arrival) t arrival) (same_time at (effective_time history))

pub judged_then : (b : State) (history : List Step) (at : ℕ) (arrival : Arrival) → Finds b history at → judged (opened_at (then_state b at) at arrival.flow) at arrival ≡ verdict b.limits history at arrival
judged_then b history at arrival f =
    verdict_after_steps (then_state b at) (time_step at ∷ history) at arrival (arrives_then b history at f) ∙ same_verdict b.limits history at arrival

at_now : (b : State) (history : List Step) (at : ℕ) → Finds b history at → at ≡ max at (effective_time history)
at_now b history at f =
    let s : Shows b history = f.state (not_failed b.phase f.running) in
    let time = s.time in
    let clock = f.clock in
    omega arith

pub shows_taken : (b : State) (history : List Step) (at : ℕ) (arrival : Arrival) → Finds b history at → Shows (taken (opened_at (then_state b at) at arrival.flow) at arrival) (media_step at arrival ∷ history)
shows_taken b history at arrival f =
    shows_arrival (taken (opened_at (then_state b at) at arrival.flow) at arrival) history at at arrival (at_now b history at f) (state_after_arrival (then_state b at) (time_step at ∷ history) at arrival (arrives_then b history at f))

-- an arrival moves the time to its own
taken_timed : (b : State) (at : ℕ) (arrival : Arrival) → taken b at arrival ≡ taken (timed b at) at arrival
taken_timed b at arrival = by_verdict (is_kept (judged b at arrival))
  where
    by_verdict : (c : Bool) → moved (cond c (holding b (placed_at b at arrival)) b) at (anchor_at b at arrival) (clock_then b at arrival c) c ≡ moved (cond c (holding (timed b at) (placed_at b at arrival)) (timed b at)) at (anchor_at b at arrival) (clock_then b at arrival c) c
    by_verdict true = refl
    by_verdict false = refl

opening_timed : (b : State) (o : Option Anchor) (at flow : ℕ) → is_opening b o at flow ≡ is_opening (timed b at) o at flow
opening_timed b None at flow = refl
opening_timed b (Some a) at flow = refl

begun_timed : (b : State) (o : Option Anchor) (at : ℕ) → begun b o at ≡ begun (timed b at) o at
begun_timed b None at = refl
begun_timed b (Some a) at = refl

opened_timed : (b : State) (at : ℕ) (arrival : Arrival) → taken (opened_at b at arrival.flow) at arrival ≡ taken (opened_at (timed b at) at arrival.flow) at arrival
opened_timed b at arrival =
    elim (is_opening b b.anchor at arrival.flow) as (λ c. taken (cond c (begun b b.anchor at) b) at arrival ≡ taken (cond c (begun (timed b at) b.anchor at) (timed b at)) at arrival) [
      | true ↦ ap (λ s. taken s at arrival) (begun_timed b b.anchor at)
      | false ↦ taken_timed b at arrival
    ]
    ∙ ap (λ c. taken (cond c (begun (timed b at) b.anchor at) (timed b at)) at arrival) (opening_timed b b.anchor at arrival.flow)

pub taken_then : (b : State) (at : ℕ) (arrival : Arrival) → taken (opened_at (raised b (floor_then b (At at))) at arrival.flow) at arrival ≡ taken (opened_at (then_state b at) at arrival.flow) at arrival
taken_then b at arrival = opened_timed (raised b (floor_then b (At at))) at arrival

judged_timed : (b : State) (at : ℕ) (arrival : Arrival) → judged (opened_at b at arrival.flow) at arrival ≡ judged (opened_at (timed b at) at arrival.flow) at arrival
judged_timed b at arrival =
    elim (is_opening b b.anchor at arrival.flow) as (λ c. judged (cond c (begun b b.anchor at) b) at arrival ≡ judged (cond c (begun (timed b at) b.anchor at) (timed b at)) at arrival) [
      | true ↦ ap (λ s. judged s at arrival) (begun_timed b b.anchor at)
      | false ↦ refl
    ]
    ∙ ap (λ c. judged (cond c (begun (timed b at) b.anchor at) (timed b at)) at arrival) (opening_timed b b.anchor at arrival.flow)

pub judged_raised : (b : State) (history : List Step) (at : ℕ) (arrival : Arrival) → Finds b history at → judged (opened_at (raised b (floor_then b (At at))) at arrival.flow) at arrival ≡ verdict b.limits history at arrival
judged_raised b history at arrival f = judged_timed (raised b (floor_then b (At at))) at arrival ∙ judged_then b history at arrival f

-- an arrival lets out what the tick lets out
same_bytes : (b : State) (history : List Step) (at : ℕ) (arrival : Arrival) → Finds b history at → released_bytes b.limits (media_step at arrival ∷ history) ≡ released_bytes b.limits (time_step at ∷ history)
same_bytes b history at arrival f =
    ap (λ ps. concat (map (λ (p : Packet). p.payload) ps))
    (played_out_arrival b.limits history at at arrival (still_open b history (f.state (not_failed b.phase f.running)) f.running) (at_now b history at f))

pub received : (b : State) (history : List Step) (at : ℕ) (arrival : Arrival) (old new : Option (List ℕ)) → Finds b history at → Appends old new (octets_below (floor_then b (At at)) b.held)
    → Writes old new (released_bytes b.limits history) (released_bytes b.limits (media_step at arrival ∷ history))
received b history at arrival old new f put =
    let w = written_then b history (time_step at) (At at) old new (pass_follows b history at f.state f.running f.clock) put in
    (w.0, w.1, same_bytes b history at arrival f ∙ w.2)

pub received_part : (b : State) (history : List Step) (at : ℕ) (arrival : Arrival) (old new : Option (List ℕ)) → Finds b history at → AppendsPart old new (octets_below (floor_then b (At at)) b.held)
    → WritesPart old new (released_bytes b.limits history) (released_bytes b.limits (media_step at arrival ∷ history))
received_part b history at arrival old new f put =
    let w = part_then b history (time_step at) (At at) old new (pass_follows b history at f.state f.running f.clock) put in
    (w.0, w.1, (w.2.0, same_bytes b history at arrival f ∙ w.2.1))

-- ---- the highest number

no_lower_self : (o : Option Highest) → IsNoLower o o
no_lower_self None = tt
no_lower_self (Some h) = omega arith

no_lower_higher : (p : Packet) (o : Option Highest) → IsNoLower o (Some (higher p o))
no_lower_higher p None = tt
no_lower_higher p (Some h) =
    elim (nat_lt h.number p.number) as (λ c. nat_lt h.number p.number ≡ c → h.number ≤ (cond c (record { number = p.number; timestamp = p.timestamp }) h).number) [
      | true ↦ λ e. omega (arith, ltb-true h.number p.number e)
      | false ↦ λ e. omega arith
    ] refl

-- an arrival of the epoch doesn't lower it
highest_taken : (b : State) (t : ℕ) (arrival : Arrival) → IsNoLower b.highest (taken b t arrival).highest
highest_taken b t arrival =
    elim (is_kept (judged b t arrival)) as (λ c. IsNoLower b.highest (moved (cond c (holding b (placed_at b t arrival)) b) t (anchor_at b t arrival) (clock_then b t arrival c) c).highest) [
      | true ↦ no_lower_higher (placed_at b t arrival) b.highest
      | false ↦ no_lower_self b.highest
    ]

pub epoch_taken : (b : State) (t : ℕ) (arrival : Arrival) → (taken b t arrival).epoch ≡ b.epoch
epoch_taken b t arrival =
    elim (is_kept (judged b t arrival)) as (λ c. (moved (cond c (holding b (placed_at b t arrival)) b) t (anchor_at b t arrival) (clock_then b t arrival c) c).epoch ≡ b.epoch) [ true ↦ refl | false ↦ refl ]

-- nor does one that opens the first epoch
pub highest_opened : (b : State) (t : ℕ) (arrival : Arrival) → (taken (opened_at b t arrival.flow) t arrival).epoch ≡ b.epoch → IsNoLower b.highest (taken (opened_at b t arrival.flow) t arrival).highest
highest_opened b t arrival same =
    elim (is_opening b b.anchor t arrival.flow) as (λ c. (taken (cond c (begun b b.anchor t) b) t arrival).epoch ≡ b.epoch → IsNoLower b.highest (taken (cond c (begun b b.anchor t) b) t arrival).highest) [
      | true ↦ opened b.anchor
      | false ↦ λ e. highest_taken b t arrival
    ] same
  where
    opened : (o : Option Anchor) → (taken (begun b o t) t arrival).epoch ≡ b.epoch → IsNoLower b.highest (taken (begun b o t) t arrival).highest
    opened None e = highest_taken (begun b None t) t arrival
    opened (Some a) e = absurd (let more : b.epoch + 1 ≡ b.epoch = sym (epoch_taken (begun b (Some a) t) t arrival) ∙ e in omega arith)
