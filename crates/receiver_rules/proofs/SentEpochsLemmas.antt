-- Where each epoch's arrivals are copies of what was sent in it, what is kept in it is what was reached in it.
use Rattle.std.proofs.Common.{◌≡◌, ℕ, ◌+◌, ◌^◌, ◌≤◌, max, Bool, true, false, cond, not, ◌&&◌, List, [], ◌∷◌, ◌++◌, length, refl, sym, ◌∙◌, ap, subst, map}
use Rattle.std.specs.Prelude.{nat_le, nat_lt, ◌==◌}
use Rattle.std.proofs.lemmas.Bool.{eqb-true, eq-eqb, true≢false, lt-leb}
use Rattle.receiver_rules.specs.declared.limits.Limits.{Limits}
use Rattle.receiver_rules.specs.declared.verdict.Verdict.TheVariants.{Kept, Stranger, Exhausted, Late, Behind, Early, Twice, Span}
use Rattle.receiver_rules.specs.Steps.{Arrival, Media, effective_time, end_step}
use Rattle.receiver_rules.specs.Packets.{Packet, is_kept, by_number}
use Rattle.receiver_rules.specs.Clock.{transit_of}
use Rattle.receiver_rules.specs.Epochs.{Epoch, new_epoch, epoch_at, opens_next, verdict_in, packet_in, epoch_with, epochs_after, epochs_of}
use Rattle.receiver_rules.specs.History.{packets_over, released_payloads, verdict}
use Rattle.receiver_rules.specs.Sent.{HasSteadyTimestamps, IsKnown, copy_of, greatest_of, IsNear}
use Rattle.receiver_rules.specs.SentEpochs.{Shipment, CopyIn, Foreign, NoPacket, Transfer, SentStreams, SentEpoch, numbers_in, shipped_event, shipped_steps, transfer_time, new_sent_epoch, sent_epoch_with, sent_epochs_after, sent_epochs, follows_epoch, BelongsBehind, BelongsAfter, AreTransfersOf, reached_payloads}
use Rattle.receiver_rules.proofs.HistoryLemmas.{epochs_opened, epochs_continued, opens_of_flow}
use Rattle.receiver_rules.proofs.CopyLemmas.{IsCounted, IsPlaced, AllFixed, epoch_for, has, waiting_among, later_placed, first_placed, epoch_copied, counted_copied, some_copied, some_first}
use Rattle.receiver_rules.proofs.CopyOrderLemmas.{released_end, epoch_payloads}

-- ---- when an arrival opens an epoch

pub opens_agrees : (limits : Limits) (streams : SentStreams) (e : ℕ) (s : SentEpoch) (t : ℕ) (arrival : Arrival) → IsCounted (streams e) s → opens_next limits (epoch_for (streams e) s) t arrival ≡ follows_epoch limits (streams e) s t arrival.flow
opens_agrees limits streams e s t arrival c =
    ap (λ b. not (arrival.flow == (streams e).flow) && (nat_lt 0 limits.restart_time && (not b && nat_le (s.last + limits.restart_time) t)))
    (waiting_among (streams e) s.start t s.reached c.counted s.reached c.counted)

-- ---- one step

-- the receiver's epochs, of those in sent numbers
abbrev pub epochs_for : SentStreams → List SentEpoch → List Epoch
epochs_for streams [] = []
epochs_for streams (s ∷ ss) = epoch_for (streams (length ss)) s ∷ epochs_for streams ss

-- what holds of each epoch's numbers
abbrev pub AllSound : SentStreams → List SentEpoch → Type 0
AllSound streams [] = Unit {0}
AllSound streams (s ∷ ss) = (IsCounted (streams (length ss)) s × (has s.start.number (numbers_in s.reached) ≡ true)) × AllSound streams ss

-- the receiver's epochs are those in sent numbers
pub record AllAgree (streams : SentStreams) (ss : List SentEpoch) (epochs : List Epoch) : Type 0 where
  pub is : epochs ≡ epochs_for streams ss
  pub sound : AllSound streams ss

-- a copy of a number in its epoch
copy_continued : (limits : Limits) (streams : SentStreams) → ((epoch : ℕ) → HasSteadyTimestamps (streams epoch)) → (t n : ℕ) (again : Bool) (s : SentEpoch) (ss : List SentEpoch) → AllSound streams (s ∷ ss)
    → IsNear (streams (length ss)) s.start.number (greatest_of (numbers_in s.reached)) n
    → AllAgree streams (sent_epoch_with limits (streams (length ss)) s t n again ∷ ss) (epochs_after limits (epochs_for streams (s ∷ ss)) t (Media (copy_of (streams (length ss)) n again)))
copy_continued limits streams steady t n again s ss a near =
    let f = later_placed limits (streams (length ss)) s (steady (length ss)) n again a.0.0 a.0.1 near in
    record {
      is = epochs_continued limits (epoch_for (streams (length ss)) s) (epochs_for streams ss) t (copy_of (streams (length ss)) n again) (opens_of_flow limits (epoch_for (streams (length ss)) s) t (copy_of (streams (length ss)) n again) refl)
          ∙ ap (λ x. x ∷ epochs_for streams ss) (epoch_copied limits (streams (length ss)) s t n again a.0.0 f);
      sound = ((counted_copied limits (streams (length ss)) s t n again a.0.0 f.low, some_copied limits (streams (length ss)) s t n again a.0.1), a.1);
    }

-- one that opens its epoch
copy_opens : (limits : Limits) (streams : SentStreams) → 1 ≤ limits.playout_delay → (t n : ℕ) (again : Bool) (ss : List SentEpoch) (epochs : List Epoch) → AllSound streams ss
    → epochs ≡ epoch_with limits (new_epoch t (copy_of (streams (length ss)) n again)) t (copy_of (streams (length ss)) n again) ∷ epochs_for streams ss
    → AllAgree streams (sent_epoch_with limits (streams (length ss)) (new_sent_epoch t n) t n again ∷ ss) epochs
copy_opens limits streams delay t n again ss epochs a e =
    let p = streams (length ss) in
    let f = first_placed limits p t n again in
    let none : IsCounted p (new_sent_epoch t n) = record { counted = tt; different = tt } in
    record {
      is = e ∙ ap (λ x. x ∷ epochs_for streams ss) (epoch_copied limits p (new_sent_epoch t n) t n again none f);
      sound = ((counted_copied limits p (new_sent_epoch t n) t n again none f.low, some_first limits p t n again delay), a);
    }

-- a packet of another flow is refused
refused : (limits : Limits) (epoch : Epoch) (t : ℕ) (arrival : Arrival) → (arrival.flow == epoch.anchor.flow) ≡ false → verdict_in limits epoch t arrival ≡ Stranger
refused limits epoch t arrival e = by_flow _ _ _ _ _ _ _ (ap not e)
  where
    by_flow : (a b c d e f g : Bool) → a ≡ true → cond a Stranger (cond b Exhausted (cond c Late (cond d Behind (cond e Early (cond f Twice (cond g Span Kept)))))) ≡ Stranger
    by_flow true b c d e f g h = refl
    by_flow false b c d e f g h = cc

-- and changes nothing
foreign_continued : (limits : Limits) (epoch : Epoch) (t : ℕ) (arrival : Arrival) → (arrival.flow == epoch.anchor.flow) ≡ false → epoch_with limits epoch t arrival ≡ epoch
foreign_continued limits epoch t arrival e =
    ap (λ (v : Bool). record { anchor = epoch.anchor; accepted = cond v (packet_in limits epoch arrival ∷ epoch.accepted) epoch.accepted; last = cond v t epoch.last; transits = cond (v && not arrival.again) (transit_of epoch.anchor t (packet_in limits epoch arrival).timestamp ∷ epoch.transits) epoch.transits })
    (ap is_kept (refused limits epoch t arrival e))

copy_at : (limits : Limits) (streams : SentStreams) → ((epoch : ℕ) → HasSteadyTimestamps (streams epoch)) → 1 ≤ limits.playout_delay → (t e n : ℕ) (again : Bool) (s : SentEpoch) (ss : List SentEpoch)
    → AllSound streams (s ∷ ss) → BelongsBehind limits streams s ss t e n
    → AllAgree streams (sent_epochs_after limits streams (s ∷ ss) t (CopyIn e n again)) (epochs_after limits (epochs_for streams (s ∷ ss)) t (Media (copy_of (streams e) n again)))
copy_at limits streams steady delay t e n again s ss a b =
    elim (e == length ss) as (λ c. (e == length ss) ≡ c → AllAgree streams (cond c (sent_epoch_with limits (streams e) s t n again ∷ ss) (sent_epoch_with limits (streams e) (new_sent_epoch t n) t n again ∷ s ∷ ss)) (epochs_after limits (epochs_for streams (s ∷ ss)) t (Media (copy_of (streams e) n again)))) [
      | true ↦ λ is.
          subst (λ k. AllAgree streams (sent_epoch_with limits (streams k) s t n again ∷ ss) (epochs_after limits (epochs_for streams (s ∷ ss)) t (Media (copy_of (streams k) n again)))) (sym (eqb-true _ _ is))
          (copy_continued limits streams steady t n again s ss a (subst (λ k. IsNear (streams k) s.start.number (greatest_of (numbers_in s.reached)) n) (eqb-true _ _ is) (b.near is)))
      | false ↦ λ is.
          let opens = opens_agrees limits streams (length ss) s t (copy_of (streams e) n again) a.0.0 ∙ b.opens is in
          subst (λ k. opens_next limits (epoch_for (streams (length ss)) s) t (copy_of (streams k) n again) ≡ true → AllAgree streams (sent_epoch_with limits (streams k) (new_sent_epoch t n) t n again ∷ s ∷ ss) (epochs_after limits (epochs_for streams (s ∷ ss)) t (Media (copy_of (streams k) n again)))) (sym (b.names is))
          (λ o. copy_opens limits streams delay t n again (s ∷ ss) _ a (epochs_opened limits (epoch_for (streams (length ss)) s) (epochs_for streams ss) t (copy_of (streams (length (s ∷ ss))) n again) o))
          opens
    ] refl

transfer_at : (limits : Limits) (streams : SentStreams) → ((epoch : ℕ) → HasSteadyTimestamps (streams epoch)) → 1 ≤ limits.playout_delay → (t : ℕ) (what : Shipment) (ss : List SentEpoch)
    → AllSound streams ss → BelongsAfter limits streams ss t what → AllAgree streams (sent_epochs_after limits streams ss t what) (epochs_after limits (epochs_for streams ss) t (shipped_event streams what))
transfer_at limits streams steady delay t (CopyIn e n again) [] a b =
    subst (λ k. AllAgree streams (sent_epoch_with limits (streams k) (new_sent_epoch t n) t n again ∷ []) (epoch_with limits (new_epoch t (copy_of (streams k) n again)) t (copy_of (streams k) n again) ∷ [])) (sym b)
    (copy_opens limits streams delay t n again [] _ tt refl)
transfer_at limits streams steady delay t (CopyIn e n again) (s ∷ ss) a b = copy_at limits streams steady delay t e n again s ss a b
transfer_at limits streams steady delay t (Foreign arrival) [] a b = absurd b
transfer_at limits streams steady delay t (Foreign arrival) (s ∷ ss) a b =
    record {
      is = epochs_continued limits (epoch_for (streams (length ss)) s) (epochs_for streams ss) t arrival (opens_agrees limits streams (length ss) s t arrival a.0.0 ∙ b.1)
          ∙ ap (λ x. x ∷ epochs_for streams ss) (foreign_continued limits (epoch_for (streams (length ss)) s) t arrival b.0);
      sound = a;
    }
transfer_at limits streams steady delay t NoPacket ss a b = record { is = refl; sound = a }

-- ---- a whole run

pub clock_is : (streams : SentStreams) (run : List Transfer) → effective_time (shipped_steps streams run) ≡ transfer_time run
clock_is streams [] = refl
clock_is streams (d ∷ before) = ap (max d.tick) (clock_is streams before)

pub all_agree : (limits : Limits) (streams : SentStreams) → ((epoch : ℕ) → HasSteadyTimestamps (streams epoch)) → 1 ≤ limits.playout_delay → (run : List Transfer) → AreTransfersOf limits streams run
    → AllAgree streams (sent_epochs limits streams run) (epochs_of limits (shipped_steps streams run))
all_agree limits streams steady delay [] h = record { is = refl; sound = tt }
all_agree limits streams steady delay (d ∷ before) h =
    let old = all_agree limits streams steady delay before h.1 in
    subst (λ t. AllAgree streams (sent_epochs limits streams (d ∷ before)) (epochs_after limits (epochs_of limits (shipped_steps streams before)) t (shipped_event streams d.what))) (sym (clock_is streams (d ∷ before)))
    (subst (λ es. AllAgree streams (sent_epochs limits streams (d ∷ before)) (epochs_after limits es (transfer_time (d ∷ before)) (shipped_event streams d.what))) (sym old.is)
    (transfer_at limits streams steady delay (transfer_time (d ∷ before)) d.what (sent_epochs limits streams before) old.sound h.0))

map-append : (xs ys : List Packet) → map (λ (p : Packet). p.payload) (xs ++ ys) ≡ map (λ (p : Packet). p.payload) xs ++ map (λ (p : Packet). p.payload) ys
map-append [] ys = refl
map-append (x ∷ xs) ys = ap (λ ps. x.payload ∷ ps) (map-append xs ys)

over_payloads : (streams : SentStreams) (ss : List SentEpoch) → AllSound streams ss → map (λ (q : Packet). q.payload) (packets_over (epochs_for streams ss)) ≡ reached_payloads streams ss
over_payloads streams [] a = refl
over_payloads streams (s ∷ ss) a =
    map-append (packets_over (epochs_for streams ss)) (by_number (epoch_for (streams (length ss)) s).accepted)
    ∙ ap (λ xs. xs ++ map (λ (q : Packet). q.payload) (by_number (epoch_for (streams (length ss)) s).accepted)) (over_payloads streams ss a.1)
    ∙ ap (λ xs. reached_payloads streams ss ++ xs) (epoch_payloads (streams (length ss)) s a.0.0)

-- what is written in the end are the payloads of the numbers reached: epoch after epoch, each one's by rising number
pub release_set : (limits : Limits) (streams : SentStreams) (run : List Transfer) → ((epoch : ℕ) → HasSteadyTimestamps (streams epoch)) → 1 ≤ limits.playout_delay → AreTransfersOf limits streams run
    → released_payloads limits (end_step ∷ shipped_steps streams run) ≡ reached_payloads streams (sent_epochs limits streams run)
release_set limits streams run steady delay h =
    let a = all_agree limits streams steady delay run h in
    released_end limits (shipped_steps streams run)
    ∙ ap (λ es. map (λ (q : Packet). q.payload) (packets_over es)) a.is
    ∙ over_payloads streams (sent_epochs limits streams run) a.sound

-- ---- the verdicts on copies

-- each number's deadline is that which its timestamp gives it from the start on
abbrev pub AllFixedIn : Limits → SentStreams → List SentEpoch → Type 0
AllFixedIn limits streams [] = Unit {0}
AllFixedIn limits streams (s ∷ ss) = AllFixed limits (streams (length ss)) s.start s.reached × AllFixedIn limits streams ss

-- the epoch that a copy comes in, in sent numbers
pub record Finds (limits : Limits) (streams : SentStreams) (ss : List SentEpoch) (t e n : ℕ) (again : Bool) : Type 0 where
  pub epoch : SentEpoch
  pub at : epoch_at limits (epochs_for streams ss) t (copy_of (streams e) n again) ≡ epoch_for (streams e) epoch
  pub counted : IsCounted (streams e) epoch
  pub placed : IsPlaced limits (streams e) epoch n again
  pub fixed : AllFixedIn limits streams ss → AllFixed limits (streams e) epoch.start epoch.reached

finds_new : (limits : Limits) (streams : SentStreams) (ss : List SentEpoch) (t e n : ℕ) (again : Bool) → epoch_at limits (epochs_for streams ss) t (copy_of (streams e) n again) ≡ new_epoch t (copy_of (streams e) n again) → Finds limits streams ss t e n again
finds_new limits streams ss t e n again is =
    record { epoch = new_sent_epoch t n; at = is; counted = record { counted = tt; different = tt }; placed = first_placed limits (streams e) t n again; fixed = λ f. tt }

finds_current : (limits : Limits) (streams : SentStreams) → ((epoch : ℕ) → HasSteadyTimestamps (streams epoch)) → (s : SentEpoch) (ss : List SentEpoch) (t n : ℕ) (again : Bool) → AllSound streams (s ∷ ss) → IsNear (streams (length ss)) s.start.number (greatest_of (numbers_in s.reached)) n
    → Finds limits streams (s ∷ ss) t (length ss) n again
finds_current limits streams steady s ss t n again a near =
    record {
      epoch = s;
      at = ap (λ c. cond c (new_epoch t (copy_of (streams (length ss)) n again)) (epoch_for (streams (length ss)) s)) (opens_of_flow limits (epoch_for (streams (length ss)) s) t (copy_of (streams (length ss)) n again) refl);
      counted = a.0.0;
      placed = later_placed limits (streams (length ss)) s (steady (length ss)) n again a.0.0 a.0.1 near;
      fixed = λ f. f.0;
    }

pub finds : (limits : Limits) (streams : SentStreams) → ((epoch : ℕ) → HasSteadyTimestamps (streams epoch)) → (ss : List SentEpoch) (t e n : ℕ) (again : Bool) → AllSound streams ss → BelongsAfter limits streams ss t (CopyIn e n again) → Finds limits streams ss t e n again
finds limits streams steady [] t e n again a b = finds_new limits streams [] t e n again refl
finds limits streams steady (s ∷ ss) t e n again a b =
    elim (e == length ss) as (λ c. (e == length ss) ≡ c → Finds limits streams (s ∷ ss) t e n again) [
      | true ↦ λ is.
          let k : e ≡ length ss = eqb-true _ _ is in
          subst (λ i. Finds limits streams (s ∷ ss) t i n again) (sym k)
          (finds_current limits streams steady s ss t n again a (subst (λ i. IsNear (streams i) s.start.number (greatest_of (numbers_in s.reached)) n) k (b.near is)))
      | false ↦ λ is.
          finds_new limits streams (s ∷ ss) t e n again
          (ap (λ c. cond c (new_epoch t (copy_of (streams e) n again)) (epoch_for (streams (length ss)) s)) (opens_agrees limits streams (length ss) s t (copy_of (streams e) n again) a.0.0 ∙ b.opens is))
    ] refl

known_chain : (a b c d e f g : Bool) → a ≡ false → b ≡ false → IsKnown (cond a Stranger (cond b Exhausted (cond c Late (cond d Behind (cond e Early (cond f Twice (cond g Span Kept)))))))
known_chain true b c d e f g p q = absurd (true≢false p)
known_chain false true c d e f g p q = absurd (true≢false q)
known_chain false false true d e f g p q = record { known = λ h. cc; small = λ h. cc }
known_chain false false false true e f g p q = record { known = λ h. cc; small = λ h. cc }
known_chain false false false false true f g p q = record { known = λ h. cc; small = λ h. cc }
known_chain false false false false false true g p q = record { known = λ h. cc; small = λ h. cc }
known_chain false false false false false false true p q = record { known = λ h. cc; small = λ h. cc }
known_chain false false false false false false false p q = record { known = λ h. cc; small = λ h. cc }

-- what a run has come to when a copy comes
pub copy_finds : (limits : Limits) (streams : SentStreams) (tick e n : ℕ) (again : Bool) (before : List Transfer) → ((epoch : ℕ) → HasSteadyTimestamps (streams epoch)) → 1 ≤ limits.playout_delay → AreTransfersOf limits streams (record { tick = tick; what = CopyIn e n again } ∷ before)
    → Finds limits streams (sent_epochs limits streams before) (max tick (effective_time (shipped_steps streams before))) e n again
copy_finds limits streams tick e n again before steady delay h =
    finds limits streams steady (sent_epochs limits streams before) (max tick (effective_time (shipped_steps streams before))) e n again (all_agree limits streams steady delay before h.1).sound
    (subst (λ t. BelongsAfter limits streams (sent_epochs limits streams before) (max tick t) (CopyIn e n again)) (sym (clock_is streams before)) h.0)

-- the verdict on a copy, by the epoch in sent numbers that it comes in
pub verdict_found : (limits : Limits) (streams : SentStreams) (tick e n : ℕ) (again : Bool) (before : List Transfer) (steady : (epoch : ℕ) → HasSteadyTimestamps (streams epoch)) (delay : 1 ≤ limits.playout_delay) (h : AreTransfersOf limits streams (record { tick = tick; what = CopyIn e n again } ∷ before))
    → verdict limits (shipped_steps streams before) tick (copy_of (streams e) n again)
    ≡ verdict_in limits (epoch_for (streams e) (copy_finds limits streams tick e n again before steady delay h).epoch) (max tick (effective_time (shipped_steps streams before))) (copy_of (streams e) n again)
verdict_found limits streams tick e n again before steady delay h =
    let t : ℕ = max tick (effective_time (shipped_steps streams before)) in
    ap (λ es. verdict_in limits (epoch_at limits es t (copy_of (streams e) n again)) t (copy_of (streams e) n again)) (all_agree limits streams steady delay before h.1).is
    ∙ ap (λ epoch. verdict_in limits epoch t (copy_of (streams e) n again)) (copy_finds limits streams tick e n again before steady delay h).at

-- it is neither of another flow nor past the end of the numbers
pub known : (limits : Limits) (streams : SentStreams) (tick e n : ℕ) (again : Bool) (before : List Transfer) → ((epoch : ℕ) → HasSteadyTimestamps (streams epoch)) → 1 ≤ limits.playout_delay → AreTransfersOf limits streams (record { tick = tick; what = CopyIn e n again } ∷ before)
    → IsKnown (verdict limits (shipped_steps streams before) tick (copy_of (streams e) n again))
known limits streams tick e n again before steady delay h =
    let f = copy_finds limits streams tick e n again before steady delay h in
    subst IsKnown (sym (verdict_found limits streams tick e n again before steady delay h))
    (known_chain _ _ _ _ _ _ _ (ap not (eq-eqb (streams e).flow (streams e).flow refl)) (ap (λ (q : Packet). nat_le (2 ^ 62) q.number) f.placed.at ∙ lt-leb _ _ f.placed.small))

foreign_at : (limits : Limits) (streams : SentStreams) (t : ℕ) (arrival : Arrival) (ss : List SentEpoch) → AllSound streams ss → BelongsAfter limits streams ss t (Foreign arrival)
    → verdict_in limits (epoch_at limits (epochs_for streams ss) t arrival) t arrival ≡ Stranger
foreign_at limits streams t arrival [] a b = absurd b
foreign_at limits streams t arrival (s ∷ ss) a b =
    ap (λ c. verdict_in limits (cond c (new_epoch t arrival) (epoch_for (streams (length ss)) s)) t arrival) (opens_agrees limits streams (length ss) s t arrival a.0.0 ∙ b.1)
    ∙ refused limits (epoch_for (streams (length ss)) s) t arrival b.0

-- any other packet is a stranger
pub foreign : (limits : Limits) (streams : SentStreams) (tick : ℕ) (arrival : Arrival) (before : List Transfer) → ((epoch : ℕ) → HasSteadyTimestamps (streams epoch)) → 1 ≤ limits.playout_delay → AreTransfersOf limits streams (record { tick = tick; what = Foreign arrival } ∷ before)
    → verdict limits (shipped_steps streams before) tick arrival ≡ Stranger
foreign limits streams tick arrival before steady delay h =
    let t : ℕ = max tick (effective_time (shipped_steps streams before)) in
    let a = all_agree limits streams steady delay before h.1 in
    ap (λ es. verdict_in limits (epoch_at limits es t arrival) t arrival) a.is
    ∙ foreign_at limits streams t arrival (sent_epochs limits streams before) a.sound
    (subst (λ u. BelongsAfter limits streams (sent_epochs limits streams before) (max tick u) (Foreign arrival)) (sym (clock_is streams before)) h.0)
