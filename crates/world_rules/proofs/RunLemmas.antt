-- A history of copies of what was sent is that of a run of transfers.
use Rattle.std.proofs.Common.{◌≡◌, ◌∙◌, ℕ, suc, ◌+◌, ◌/◌, ◌^◌, ◌<◌, ◌≤◌, max, Bool, true, false, List, [], ◌∷◌, ◌++◌, length, map, refl, sym, ap, subst, arith, append_assoc}
use Rattle.std.specs.Prelude.{◌==◌, ◌||◌, if◌then◌else◌}
use Rattle.std.proofs.lemmas.Bool.{eqb-true, eq-eqb, ne_eqb}
use Rattle.seq_unwrap.specs.declared.width.Width.{Width}
use Rattle.seq_unwrap.specs.declared.width.Width.TheVariants.{W16, W32}
use Rattle.seq_unwrap.specs.Nearest.{cycle_of}
use Rattle.receiver_rules.specs.declared.limits.Limits.{Limits}
use Rattle.receiver_rules.specs.Steps.{Arrival, Event, Media, TimeOnly, End, Step, effective_time, end_step}
use Rattle.receiver_rules.specs.Epochs.{Epoch, new_epoch, opens_next, epoch_with, epochs_after, epochs_of}
use Rattle.receiver_rules.specs.History.{released_payloads}
use Rattle.receiver_rules.specs.Sent.{SentStream, HasSteadyTimestamps, copy_of, greatest_of, IsNear}
use Rattle.receiver_rules.specs.SentEpochs.{SentStreams, Shipment, CopyIn, Foreign, NoPacket, Transfer, Reach, SentEpoch, numbers_in, shipped_event, shipped_steps, transfer_time, new_sent_epoch, copy_deadline, reaches, sent_epoch_with, sent_epochs_after, sent_epochs, follows_epoch, BelongsAfter, AreTransfersOf}
use Rattle.receiver_rules.proofs.CopyLemmas.{has, epoch_for}
use Rattle.receiver_rules.proofs.SentEpochsLemmas.{AllSound, epochs_for, opens_agrees, clock_is, all_agree, release_set}
use Rattle.world_rules.specs.SentFlows.{SentFlow, stream_of, was_sent, IsCopy, BringsCopy, BringCopies, AreShortFlows}
use Rattle.world_rules.specs.Reached.{flow_in, streams_in, IsOfSent, AreOfSent, PlaysReached}
use Rattle.world_rules.proofs.FlowLemmas.{span, stream_flow, stream_width, stream_steady, flow_at}

-- ---- numbers that were reached were sent

-- each of these was sent in a flow
abbrev AllSent : List SentFlow → ℕ → List Reach → Type 0
AllSent sent flow [] = Unit {0}
AllSent sent flow (r ∷ rs) = (was_sent sent flow r.number ≡ true) × AllSent sent flow rs

-- in each epoch
abbrev AllReachedSent : List SentFlow → List ℕ → List SentEpoch → Type 0
AllReachedSent sent flows [] = Unit {0}
AllReachedSent sent flows (s ∷ ss) = AllSent sent (flow_in flows (length ss)) s.reached × AllReachedSent sent flows ss

has_sent : (sent : List SentFlow) (flow n : ℕ) (rs : List Reach) → AllSent sent flow rs → has n (numbers_in rs) ≡ true → was_sent sent flow n ≡ true
has_sent sent flow n [] a h = cc
has_sent sent flow n (r ∷ rs) a h =
    elim (r.number == n) as (λ (c : Bool). (r.number == n) ≡ c → was_sent sent flow n ≡ true) [
      | true ↦ λ is. subst (λ k. was_sent sent flow k ≡ true) (eqb-true _ _ is) a.0
      | false ↦ λ is. has_sent sent flow n rs a.1 (sym (ap (λ (c : Bool). c || has n (numbers_in rs)) is) ∙ h)
    ] refl

-- the greatest lies where all lie
greatest_within : (low high : ℕ) (sent : List SentFlow) (flow : ℕ) → ((n : ℕ) → was_sent sent flow n ≡ true → (low ≤ n) × (n < high)) → (r : Reach) (rs : List Reach) → AllSent sent flow (r ∷ rs)
    → (low ≤ greatest_of (numbers_in (r ∷ rs))) × (greatest_of (numbers_in (r ∷ rs)) < high)
greatest_within low high sent flow inside r [] a =
    let h = inside r.number a.0 in (omega (arith, h.0), omega (arith, h.1))
greatest_within low high sent flow inside r (k ∷ ks) a =
    let h = inside r.number a.0 in
    let g = greatest_within low high sent flow inside k ks a.1 in
    (omega (arith, h.0, g.0), omega (arith, h.1, g.1))

-- and near each that was sent
near_as : (p : SentStream) (width : Width) (low first count start best n : ℕ) → p.width ≡ width → count < cycle_of width / 2
    → ((n : ℕ) → first ≤ n → n < first + count → (low ≤ p.timestamp n) × (p.timestamp n < low + 2 ^ 31))
    → (first ≤ start) × (start < first + count) → (first ≤ best) × (best < first + count) → (first ≤ n) × (n < first + count) → IsNear p start best n
near_as p W16 low first count start best n is few ticks s b m =
    let tb = ticks best b.0 b.1 in
    let tn = ticks n m.0 m.1 in
    subst (λ w. IsNear (record { flow = p.flow; width = w; timestamp = p.timestamp; payload = p.payload }) start best n) (sym is)
    (record {
      low = omega (arith, few, b.1, m.0);
      high = omega (arith, few, b.0, m.1);
      timestamp_low = omega (arith, tb.1, tn.0);
      timestamp_high = omega (arith, tb.0, tn.1);
      small = omega (arith, few, s.0, m.1);
    })
near_as p W32 low first count start best n is few ticks s b m =
    let tb = ticks best b.0 b.1 in
    let tn = ticks n m.0 m.1 in
    subst (λ w. IsNear (record { flow = p.flow; width = w; timestamp = p.timestamp; payload = p.payload }) start best n) (sym is)
    (record {
      low = omega (arith, few, b.1, m.0);
      high = omega (arith, few, b.0, m.1);
      timestamp_low = omega (arith, tb.1, tn.0);
      timestamp_high = omega (arith, tb.0, tn.1);
      small = omega (arith, few, s.0, m.1);
    })

near_sent : (width : Width) (low : ℕ) (sent : List SentFlow) (flow start n : ℕ) (rs : List Reach) → AreShortFlows width low sent → AllSent sent flow rs → has start (numbers_in rs) ≡ true
    → was_sent sent flow n ≡ true → IsNear (stream_of width sent flow) start (greatest_of (numbers_in rs)) n
near_sent width low sent flow start n [] short a some is = cc
near_sent width low sent flow start n (r ∷ rs) short a some is =
    let s = span width low sent flow short in
    near_as (stream_of width sent flow) width low s.first s.count start (greatest_of (numbers_in (r ∷ rs))) n (stream_width width sent flow) s.few s.ticks
    (s.inside start (has_sent sent flow start (r ∷ rs) a some))
    (greatest_within s.first (s.first + s.count) sent flow s.inside r rs a)
    (s.inside n is)

-- ---- the flows of a receiver's epochs

abbrev flows_of : List Epoch → List ℕ
flows_of epochs = map (λ (e : Epoch). e.anchor.flow) epochs

-- a step leaves them, or adds the flow of the packet that comes
record Grows (old new : List ℕ) : Type 0 where
  more : List ℕ
  is : new ≡ more ++ old

grows_at : (limits : Limits) (epochs : List Epoch) (t : ℕ) (event : Event) → Grows (flows_of epochs) (flows_of (epochs_after limits epochs t event))
grows_at limits [] t (Media arrival) = record { more = arrival.flow ∷ []; is = refl }
grows_at limits (current ∷ earlier) t (Media arrival) =
    elim (opens_next limits current t arrival) as (λ (c : Bool). Grows (flows_of (current ∷ earlier)) (flows_of (epoch_with limits (if c then new_epoch t arrival else current) t arrival ∷ (if c then current ∷ earlier else earlier)))) [
      | true ↦ record { more = arrival.flow ∷ []; is = refl }
      | false ↦ record { more = []; is = refl }
    ]
grows_at limits epochs t TimeOnly = record { more = []; is = refl }
grows_at limits epochs t End = record { more = []; is = refl }

-- ---- one more step

-- one more step after epochs in sent numbers
record Extends (limits : Limits) (width : Width) (sent : List SentFlow) (flows : List ℕ) (ss : List SentEpoch) (t : ℕ) (event : Event) : Type 0 where
  what : Shipment
  is : shipped_event (streams_in width sent flows) what ≡ event
  belongs : BelongsAfter limits (streams_in width sent flows) ss t what
  of_sent : IsOfSent sent flows what
  all_sent : AllReachedSent sent flows (sent_epochs_after limits (streams_in width sent flows) ss t what)

-- an epoch with one more copy
with_copy : (limits : Limits) (p : SentStream) (s : SentEpoch) (t n : ℕ) (again : Bool) (sent : List SentFlow) (flow : ℕ) → AllSent sent flow s.reached → was_sent sent flow n ≡ true
    → AllSent sent flow (sent_epoch_with limits p s t n again).reached
with_copy limits p s t n again sent flow a is =
    elim (reaches limits p s t n) as (λ (c : Bool). AllSent sent flow (if c then record { number = n; deadline = copy_deadline limits p s n } ∷ s.reached else s.reached)) [
      | true ↦ (is, a)
      | false ↦ a
    ]

copy_is : (width : Width) (sent : List SentFlow) (flows : List ℕ) (a : Arrival) (c : IsCopy width sent a) (e : ℕ) → flow_in flows e ≡ a.flow
    → shipped_event (streams_in width sent flows) (CopyIn e c.number a.again) ≡ Media a
copy_is width sent flows a c e is = ap (λ f. Media (copy_of (stream_of width sent f) c.number a.again)) is ∙ ap Media (sym c.is)

copy_sent : (width : Width) (sent : List SentFlow) (flows : List ℕ) (a : Arrival) (c : IsCopy width sent a) (e : ℕ) → flow_in flows e ≡ a.flow → was_sent sent (flow_in flows e) c.number ≡ true
copy_sent width sent flows a c e is = subst (λ f. was_sent sent f c.number ≡ true) (sym is) c.sends

as_many : (streams : SentStreams) (ss : List SentEpoch) → length (flows_of (epochs_for streams ss)) ≡ length ss
as_many streams [] = refl
as_many streams (s ∷ ss) = ap suc (as_many streams ss)

-- the first packet of all opens the first epoch
first_extends : (limits : Limits) (width : Width) (sent : List SentFlow) (flows more : List ℕ) (t : ℕ) (a : Arrival) → IsCopy width sent a → flows ≡ more ++ a.flow ∷ [] → Extends limits width sent flows [] t (Media a)
first_extends limits width sent flows more t a c is =
    let here : flow_in flows 0 ≡ a.flow = ap (λ fs. flow_in fs 0) is ∙ flow_at more a.flow [] in
    record {
      what = CopyIn 0 c.number a.again;
      is = copy_is width sent flows a c 0 here;
      belongs = refl;
      of_sent = copy_sent width sent flows a c 0 here;
      all_sent = (with_copy limits (streams_in width sent flows 0) (new_sent_epoch t c.number) t c.number a.again sent (flow_in flows 0) tt (copy_sent width sent flows a c 0 here), tt);
    }

-- one that opens the next
next_extends : (limits : Limits) (width : Width) (sent : List SentFlow) (flows more : List ℕ) (t : ℕ) (a : Arrival) (s : SentEpoch) (ss : List SentEpoch) → IsCopy width sent a
    → AllReachedSent sent flows (s ∷ ss) → follows_epoch limits (streams_in width sent flows (length ss)) s t a.flow ≡ true
    → flow_in flows (length (s ∷ ss)) ≡ a.flow → Extends limits width sent flows (s ∷ ss) t (Media a)
next_extends limits width sent flows more t a s ss c all opens here =
    let streams : SentStreams = streams_in width sent flows in
    let e : ℕ = length (s ∷ ss) in
    let other : (e == length ss) ≡ false = ne_eqb _ _ (λ h. omega (arith, h)) in
    record {
      what = CopyIn e c.number a.again;
      is = copy_is width sent flows a c e here;
      belongs = record {
        near = λ h. absurd (cc (h, other));
        names = λ h. refl;
        opens = λ h. ap (λ f. follows_epoch limits (streams (length ss)) s t f) (stream_flow width sent (flow_in flows e) ∙ here) ∙ opens;
      };
      of_sent = copy_sent width sent flows a c e here;
      all_sent = subst (λ (b : Bool). AllReachedSent sent flows (if b then sent_epoch_with limits (streams e) s t c.number a.again ∷ ss else sent_epoch_with limits (streams e) (new_sent_epoch t c.number) t c.number a.again ∷ s ∷ ss)) (sym other)
          (with_copy limits (streams e) (new_sent_epoch t c.number) t c.number a.again sent (flow_in flows e) tt (copy_sent width sent flows a c e here), all);
    }

-- one of the newest epoch's flow
same_extends : (limits : Limits) (width : Width) (low : ℕ) (sent : List SentFlow) (flows : List ℕ) (t : ℕ) (a : Arrival) (s : SentEpoch) (ss : List SentEpoch) → AreShortFlows width low sent → IsCopy width sent a
    → AllReachedSent sent flows (s ∷ ss) → has s.start.number (numbers_in s.reached) ≡ true → flow_in flows (length ss) ≡ a.flow → Extends limits width sent flows (s ∷ ss) t (Media a)
same_extends limits width low sent flows t a s ss short c all some here =
    let streams : SentStreams = streams_in width sent flows in
    let e : ℕ = length ss in
    let same : (e == length ss) ≡ true = eq-eqb _ _ refl in
    let sends = copy_sent width sent flows a c e here in
    record {
      what = CopyIn e c.number a.again;
      is = copy_is width sent flows a c e here;
      belongs = record {
        near = λ h. near_sent width low sent (flow_in flows e) s.start.number c.number s.reached short all.0 some sends;
        names = λ h. absurd (cc (h, same));
        opens = λ h. absurd (cc (h, same));
      };
      of_sent = sends;
      all_sent = subst (λ (b : Bool). AllReachedSent sent flows (if b then sent_epoch_with limits (streams e) s t c.number a.again ∷ ss else sent_epoch_with limits (streams e) (new_sent_epoch t c.number) t c.number a.again ∷ s ∷ ss)) (sym same)
          (with_copy limits (streams e) s t c.number a.again sent (flow_in flows e) all.0 sends, all.1);
    }

media_extends : (limits : Limits) (width : Width) (low : ℕ) (sent : List SentFlow) (flows more : List ℕ) (t : ℕ) (a : Arrival) (ss : List SentEpoch) → AreShortFlows width low sent → IsCopy width sent a
    → AllSound (streams_in width sent flows) ss → AllReachedSent sent flows ss → flows ≡ more ++ flows_of (epochs_after limits (epochs_for (streams_in width sent flows) ss) t (Media a))
    → Extends limits width sent flows ss t (Media a)
media_extends limits width low sent flows more t a [] short c sound all is = first_extends limits width sent flows more t a c is
media_extends limits width low sent flows more t a (s ∷ ss) short c sound all is =
    let streams : SentStreams = streams_in width sent flows in
    let current : Epoch = epoch_for (streams (length ss)) s in
    let agrees = opens_agrees limits streams (length ss) s t a sound.0.0 in
    elim (opens_next limits current t a) as (λ (c : Bool). opens_next limits current t a ≡ c
    → flows ≡ more ++ flows_of (epoch_with limits (if c then new_epoch t a else current) t a ∷ (if c then current ∷ epochs_for streams ss else epochs_for streams ss))
    → Extends limits width sent flows (s ∷ ss) t (Media a)) [
      | true ↦ λ opens told.
          next_extends limits width sent flows more t a s ss c all (sym agrees ∙ opens)
          (subst (λ k. flow_in flows k ≡ a.flow) (as_many streams (s ∷ ss)) (ap (λ fs. flow_in fs (length (flows_of (epochs_for streams (s ∷ ss))))) told ∙ flow_at more a.flow (flows_of (epochs_for streams (s ∷ ss)))))
      | false ↦ λ stays told.
          elim (a.flow == (streams (length ss)).flow) as (λ (c : Bool). (a.flow == (streams (length ss)).flow) ≡ c → Extends limits width sent flows (s ∷ ss) t (Media a)) [
            | true ↦ λ same.
                same_extends limits width low sent flows t a s ss short c all sound.0.1 (sym (stream_flow width sent (flow_in flows (length ss))) ∙ sym (eqb-true _ _ same))
            | false ↦ λ other.
                record { what = Foreign a; is = refl; belongs = (other, sym agrees ∙ stays); of_sent = tt; all_sent = all }
          ] refl
    ] refl is

event_extends : (limits : Limits) (width : Width) (low : ℕ) (sent : List SentFlow) (flows more : List ℕ) (t : ℕ) (event : Event) (ss : List SentEpoch) → AreShortFlows width low sent → BringsCopy width sent event
    → AllSound (streams_in width sent flows) ss → AllReachedSent sent flows ss → flows ≡ more ++ flows_of (epochs_after limits (epochs_for (streams_in width sent flows) ss) t event)
    → Extends limits width sent flows ss t event
event_extends limits width low sent flows more t (Media a) ss short brings sound all is = media_extends limits width low sent flows more t a ss short brings sound all is
event_extends limits width low sent flows more t TimeOnly ss short brings sound all is = record { what = NoPacket; is = refl; belongs = tt; of_sent = tt; all_sent = all }
event_extends limits width low sent flows more t End ss short brings sound all is = absurd brings

-- ---- a whole history

record Runs (limits : Limits) (width : Width) (sent : List SentFlow) (flows : List ℕ) (history : List Step) : Type 0 where
  run : List Transfer
  steps : shipped_steps (streams_in width sent flows) run ≡ history
  fits : AreTransfersOf limits (streams_in width sent flows) run
  of_sent : AreOfSent sent flows run
  all_sent : AllReachedSent sent flows (sent_epochs limits (streams_in width sent flows) run)

run_extends : (limits : Limits) (width : Width) (low : ℕ) (sent : List SentFlow) (flows more : List ℕ) (step : Step) (before : List Step) → 1 ≤ limits.playout_delay → AreShortFlows width low sent
    → BringsCopy width sent step.event → flows ≡ more ++ flows_of (epochs_of limits (step ∷ before)) → Runs limits width sent flows before → Runs limits width sent flows (step ∷ before)
run_extends limits width low sent flows more step before delay short brings is r =
    let streams : SentStreams = streams_in width sent flows in
    let steady : (epoch : ℕ) → HasSteadyTimestamps (streams epoch) = λ epoch. stream_steady width low sent (flow_in flows epoch) short in
    let agree = all_agree limits streams steady delay r.run r.fits in
    let t : ℕ = max step.tick (transfer_time r.run) in
    let time : effective_time (step ∷ before) ≡ t = ap (λ (h : List Step). max step.tick (effective_time h)) (sym r.steps) ∙ ap (max step.tick) (clock_is streams r.run) in
    let epochs : epochs_of limits before ≡ epochs_for streams (sent_epochs limits streams r.run) = ap (epochs_of limits) (sym r.steps) ∙ agree.is in
    let told : flows ≡ more ++ flows_of (epochs_after limits (epochs_for streams (sent_epochs limits streams r.run)) t step.event)
    = is ∙ ap (λ es. more ++ flows_of (epochs_after limits es (effective_time (step ∷ before)) step.event)) epochs
    ∙ ap (λ k. more ++ flows_of (epochs_after limits (epochs_for streams (sent_epochs limits streams r.run)) k step.event)) time in
    let x = event_extends limits width low sent flows more t step.event (sent_epochs limits streams r.run) short brings agree.sound r.all_sent told in
    record {
      run = record { tick = step.tick; what = x.what } ∷ r.run;
      steps = (λ i. record { tick = step.tick; event = x.is i } ∷ r.steps i);
      fits = (x.belongs, r.fits);
      of_sent = (x.of_sent, r.of_sent);
      all_sent = x.all_sent;
    }

runs : (limits : Limits) (width : Width) (low : ℕ) (sent : List SentFlow) (flows : List ℕ) → 1 ≤ limits.playout_delay → AreShortFlows width low sent → (history : List Step) → BringCopies width sent history
    → (more : List ℕ) → flows ≡ more ++ flows_of (epochs_of limits history) → Runs limits width sent flows history
runs limits width low sent flows delay short [] brings more is = record { run = []; steps = refl; fits = tt; of_sent = tt; all_sent = tt }
runs limits width low sent flows delay short (step ∷ before) brings more is =
    let g = grows_at limits (epochs_of limits before) (effective_time (step ∷ before)) step.event in
    run_extends limits width low sent flows more step before delay short brings.0 is
    (runs limits width low sent flows delay short before brings.1 (more ++ g.more) (is ∙ ap (λ fs. more ++ fs) g.is ∙ sym (append_assoc more g.more (flows_of (epochs_of limits before)))))

pub plays_reached : (limits : Limits) (width : Width) (low : ℕ) (sent : List SentFlow) (history : List Step) → 1 ≤ limits.playout_delay → AreShortFlows width low sent → BringCopies width sent history
    → PlaysReached limits width sent history (released_payloads limits (end_step ∷ history))
plays_reached limits width low sent history delay short brings =
    let flows : List ℕ = flows_of (epochs_of limits history) in
    let r = runs limits width low sent flows delay short history brings [] refl in
    let steady : (epoch : ℕ) → HasSteadyTimestamps (streams_in width sent flows epoch) = λ epoch. stream_steady width low sent (flow_in flows epoch) short in
    record {
      flows = flows;
      run = r.run;
      steps = r.steps;
      fits = r.fits;
      of_sent = r.of_sent;
      reached = ap (λ (h : List Step). released_payloads limits (end_step ∷ h)) (sym r.steps) ∙ release_set limits (streams_in width sent flows) r.run steady delay r.fits;
    }
