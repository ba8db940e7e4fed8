-- Where the base of deadlines stays, a number is reached where a copy of it arrives in its window.
use Rattle.std.proofs.Common.{◌≡◌, ℕ, ◌+◌, ◌*◌, ◌%◌, ◌^◌, ◌≤◌, max, pos, Bool, true, false, cond, not, ◌||◌, ◌&&◌, List, [], ◌∷◌, Option, Some, None, length, take, refl, sym, ◌∙◌, ap, subst, map, arith, ⊎_elim}
use Rattle.std.specs.Prelude.{if◌then◌else◌, nat_le, ◌==◌, int_le, int_lt, ◌+ℤ◌, ◌-ℤ◌, ℤ}
use Rattle.std.proofs.lemmas.Bool.{leb-true, le-leb, true≢false, eqb-true, eq-eqb, or_from, or_left, or_right, or_cases, and_from, lt-leb}
use Rattle.std.proofs.lemmas.Int.{ints}
use Rattle.std.specs.List.{list_any}
use Rattle.receiver_rules.specs.declared.limits.Limits.{Limits}
use Rattle.receiver_rules.specs.declared.verdict.Verdict.TheVariants.{Kept, Stranger, Exhausted, Late, Behind, Early, Twice, Span}
use Rattle.receiver_rules.specs.Clock.{clock_base, base_towards, least_of}
use Rattle.receiver_rules.specs.Steps.{effective_time, end_step}
use Rattle.receiver_rules.specs.Packets.{Packet, At, distance, is_behind_playout, is_duplicate, is_beyond_capacity}
use Rattle.receiver_rules.specs.Epochs.{verdict_in}
use Rattle.receiver_rules.specs.History.{released_payloads, verdict}
use Rattle.receiver_rules.specs.Sent.{SentStream, Start, Delivery, Content, CopyOf, NoCopy, HasSteadyTimestamps, IsOrdinary, IsNear, IsNearAfter, AreDeliveriesOf, copy_of, event_of, steps_of, run_time, start_of, start_after, arrives_in_window, reached_numbers, reached_after, number_deadline, greatest_of, rising_numbers, insert_number}
use Rattle.receiver_rules.specs.SentEpochs.{Shipment, CopyIn, Foreign, NoPacket, Transfer, SentStreams, SentEpoch, Reach, numbers_in, shipped_event, shipped_steps, transfer_time, new_sent_epoch, sent_epoch_with, sent_epochs_with, sent_epochs_after, sent_epochs, copy_deadline, is_reached, is_number_out, reaches, BelongsAfter, AreTransfersOf, reached_payloads}
use Rattle.receiver_rules.proofs.PacketLemmas.{is_behind_playout-floor, is_played_out-floor}
use Rattle.receiver_rules.proofs.CopyLemmas.{AllFixed, IsPlaced, IsCounted, has, reached_numbers_in, greatest_has, packets_for, packet_for, epoch_for, reach_of, out_is}
use Rattle.receiver_rules.proofs.CopyOrderLemmas.{insert_has, up-rising, has-rising}
use Rattle.receiver_rules.proofs.SentEpochsLemmas as by_epochs
use Rattle.receiver_rules.proofs.SentEpochsLemmas.{AllFixedIn, copy_finds, verdict_found}

-- ---- the base stays

pub base_stays : (limits : Limits) (start : ℕ) (xs : List ℤ) → limits.drift ≡ false → clock_base limits start xs ≡ pos start
base_stays limits start [] never = refl
base_stays limits start (x ∷ xs) never =
    ap (λ b. cond (b && (length (x ∷ xs) % 1024 == 0)) (base_towards (clock_base limits start xs) (least_of (take 1024 (x ∷ xs)))) (clock_base limits start xs)) never
    ∙ base_stays limits start xs never

deadline_stays : (limits : Limits) (p : SentStream) (s : SentEpoch) (n : ℕ) → limits.drift ≡ false → copy_deadline limits p s n ≡ number_deadline limits p s.start n
deadline_stays limits p s n never =
    ap (λ b. b +ℤ (pos (p.timestamp n + limits.playout_delay) -ℤ pos (p.timestamp s.start.number))) (base_stays limits s.start.time s.transits never)
    ∙ same s.start.time (p.timestamp n) limits.playout_delay (p.timestamp s.start.number)
  where
    same : (time timestamp delay from : ℕ) → pos time +ℤ (pos (timestamp + delay) -ℤ pos from) ≡ pos (time + timestamp + delay) -ℤ pos from
    same time timestamp delay from = omega (arith, ints)

fixed_with : (limits : Limits) (p : SentStream) (s : SentEpoch) (t n : ℕ) (again : Bool) → limits.drift ≡ false → AllFixed limits p s.start s.reached → AllFixed limits p s.start (sent_epoch_with limits p s t n again).reached
fixed_with limits p s t n again never f = cases (reaches limits p s t n)
  where
    cases : (c : Bool) → AllFixed limits p s.start (cond c (reach_of limits p s n ∷ s.reached) s.reached)
    cases true = (deadline_stays limits p s n never, f)
    cases false = f

fixed_after : (limits : Limits) (streams : SentStreams) (t : ℕ) (what : Shipment) (ss : List SentEpoch) → limits.drift ≡ false → BelongsAfter limits streams ss t what → AllFixedIn limits streams ss → AllFixedIn limits streams (sent_epochs_after limits streams ss t what)
fixed_after limits streams t (CopyIn e n again) [] never b f =
    subst (λ k. AllFixedIn limits streams (sent_epoch_with limits (streams k) (new_sent_epoch t n) t n again ∷ [])) (sym b)
    (fixed_with limits (streams 0) (new_sent_epoch t n) t n again never tt, tt)
fixed_after limits streams t (CopyIn e n again) (s ∷ ss) never b f =
    elim (e == length ss) as (λ c. (e == length ss) ≡ c → AllFixedIn limits streams (cond c (sent_epoch_with limits (streams e) s t n again ∷ ss) (sent_epoch_with limits (streams e) (new_sent_epoch t n) t n again ∷ s ∷ ss))) [
      | true ↦ λ is.
          subst (λ k. AllFixedIn limits streams (sent_epoch_with limits (streams k) s t n again ∷ ss)) (sym (eqb-true _ _ is))
          (fixed_with limits (streams (length ss)) s t n again never f.0, f.1)
      | false ↦ λ is.
          subst (λ k. AllFixedIn limits streams (sent_epoch_with limits (streams k) (new_sent_epoch t n) t n again ∷ s ∷ ss)) (sym (b.names is))
          (fixed_with limits (streams (length (s ∷ ss))) (new_sent_epoch t n) t n again never tt, f)
    ] refl
fixed_after limits streams t (Foreign arrival) ss never b f = f
fixed_after limits streams t NoPacket ss never b f = f

pub all_fixed : (limits : Limits) (streams : SentStreams) (run : List Transfer) → limits.drift ≡ false → AreTransfersOf limits streams run → AllFixedIn limits streams (sent_epochs limits streams run)
all_fixed limits streams [] never h = tt
all_fixed limits streams (d ∷ before) never h =
    fixed_after limits streams (transfer_time (d ∷ before)) d.what (sent_epochs limits streams before) never h.0 (all_fixed limits streams before never h.1)

-- ---- out is past its own deadline

due_sooner : (time delay from m k t : ℕ) → m ≤ k → int_le (pos (time + m + delay) -ℤ pos from) (pos t) ≡ false → int_le (pos (time + k + delay) -ℤ pos from) (pos t) ≡ false
due_sooner time delay from m k t h e = grind (arith, ints)

-- before its deadline a number isn't out, since no higher one is past
out_not_past : (limits : Limits) (p : SentStream) (s : Start) → HasSteadyTimestamps p → (t m : ℕ) → int_le (number_deadline limits p s m) (pos t) ≡ false → (rs : List Reach) → AllFixed limits p s rs → is_number_out rs t m ≡ false
out_not_past limits p s steady t m e [] f = refl
out_not_past limits p s steady t m e (r ∷ rs) f =
    or_from _ _
    (elim (nat_le m r.number) as (λ c. nat_le m r.number ≡ c → (c && int_le r.deadline (pos t)) ≡ false) [
      | true ↦ λ le. ap (λ d. int_le d (pos t)) f.0 ∙ due_sooner s.time limits.playout_delay (p.timestamp s.number) (p.timestamp m) (p.timestamp r.number) t (steady m r.number (leb-true _ _ le)) e
      | false ↦ λ le. refl
    ] refl)
    (out_not_past limits p s steady t m e rs f.1)

-- at its deadline it is out
out_past : (limits : Limits) (p : SentStream) (s : Start) (t m : ℕ) → int_le (number_deadline limits p s m) (pos t) ≡ true → (rs : List Reach) → AllFixed limits p s rs → is_reached rs m ≡ true → is_number_out rs t m ≡ true
out_past limits p s t m e [] f h = cc
out_past limits p s t m e (r ∷ rs) f h =
    ⊎_elim
    (λ (same : (r.number == m) ≡ true). let q : r.number ≡ m = eqb-true _ _ same in
    or_left _ _ (and_from _ _ (le-leb m r.number (omega (arith, q))) (ap (λ d. int_le d (pos t)) (f.0 ∙ ap (number_deadline limits p s) q) ∙ e)))
    (λ (later : is_reached rs m ≡ true). or_right _ _ (out_past limits p s t m e rs f.1 later))
    (or_cases (r.number == m) (is_reached rs m) h)

held_is_not_past : (limits : Limits) (p : SentStream) (s : Start) → HasSteadyTimestamps p → (t m : ℕ) (rs : List Reach) → AllFixed limits p s rs → is_reached rs m ≡ true → not (is_number_out rs t m) ≡ not (int_le (number_deadline limits p s m) (pos t))
held_is_not_past limits p s steady t m rs f member =
    elim (int_le (number_deadline limits p s m) (pos t)) as (λ c. int_le (number_deadline limits p s m) (pos t) ≡ c → not (is_number_out rs t m) ≡ not c) [
      | true ↦ λ e. ap not (out_past limits p s t m e rs f member)
      | false ↦ λ e. ap not (out_not_past limits p s steady t m e rs f)
    ] refl

-- the span test, on some of the numbers
span_among : (limits : Limits) (p : SentStream) (s : Start) → HasSteadyTimestamps p → (t n : ℕ) (rs : List Reach) → AllFixed limits p s rs
    → (ms : List Reach) → ((m : ℕ) → is_reached ms m ≡ true → is_reached rs m ≡ true)
    → list_any (λ j. not (is_number_out rs t j.number) && nat_le limits.capacity (distance j.number n)) ms ≡ list_any (λ m. not (int_le (number_deadline limits p s m) (pos t)) && nat_le limits.capacity (distance m n)) (numbers_in ms)
span_among limits p s steady t n rs f [] sub = refl
span_among limits p s steady t n rs f (m ∷ ms) sub =
    ap (λ b. (b && nat_le limits.capacity (distance m.number n)) || list_any (λ j. not (is_number_out rs t j.number) && nat_le limits.capacity (distance j.number n)) ms)
    (held_is_not_past limits p s steady t m.number rs f (sub m.number (or_left _ _ (eq-eqb m.number m.number refl))))
    ∙ ap (λ b. (not (int_le (number_deadline limits p s m.number) (pos t)) && nat_le limits.capacity (distance m.number n)) || b)
    (span_among limits p s steady t n rs f ms (λ k e. sub k (or_right _ _ e)))

window_chain : (c d e f g : Bool) → (c ≡ false → d ≡ false) → (not c && (not d && (not e && (not f && not g)))) ≡ ((not c && (not e && not g)) && not f)
window_chain true d e f g r = refl
window_chain false true e f g r = absurd (true≢false (r refl))
window_chain false false true f g r = refl
window_chain false false false true true r = refl
window_chain false false false true false r = refl
window_chain false false false false true r = refl
window_chain false false false false false r = refl

-- a copy reaches its number where it arrives in its window, for the first time
pub reaches_in_window : (limits : Limits) (p : SentStream) (s : SentEpoch) → HasSteadyTimestamps p → (t n : ℕ) → limits.drift ≡ false → AllFixed limits p s.start s.reached
    → reaches limits p s t n ≡ (arrives_in_window limits p s.start (numbers_in s.reached) t n && not (is_reached s.reached n))
reaches_in_window limits p s steady t n never f =
    ap (λ d. not (int_le d (pos t)) && (not (is_number_out s.reached t n) && (not (int_lt (pos (t + 2 * limits.playout_delay)) d) && (not (is_reached s.reached n)
    && not (list_any (λ j. not (is_number_out s.reached t j.number) && nat_le limits.capacity (distance j.number n)) s.reached))))) (deadline_stays limits p s n never)
    ∙ window_chain _ _ _ _ _ (λ e. out_not_past limits p s.start steady t n e s.reached f)
    ∙ ap (λ b. (not (int_le (number_deadline limits p s.start n) (pos t)) && (not (int_lt (pos (t + 2 * limits.playout_delay)) (number_deadline limits p s.start n)) && not b)) && not (is_reached s.reached n))
    (span_among limits p s.start steady t n s.reached f s.reached (λ m e. e))

-- for the newest epoch of a run
pub newest_in_window : (limits : Limits) (streams : SentStreams) (run : List Transfer) (current : SentEpoch) (earlier : List SentEpoch) (t n : ℕ) → ((epoch : ℕ) → HasSteadyTimestamps (streams epoch)) → limits.drift ≡ false → AreTransfersOf limits streams run
    → sent_epochs limits streams run ≡ current ∷ earlier
    → reaches limits (streams (length earlier)) current t n ≡ (arrives_in_window limits (streams (length earlier)) current.start (numbers_in current.reached) t n && not (is_reached current.reached n))
newest_in_window limits streams run current earlier t n steady never h is =
    let f : AllFixedIn limits streams (current ∷ earlier) = subst (AllFixedIn limits streams) is (all_fixed limits streams run never h) in
    reaches_in_window limits (streams (length earlier)) current (steady (length earlier)) t n never f.0

-- ---- the verdict on a copy is ordinary

ordinary_chain : (a b c d e f g : Bool) → a ≡ false → b ≡ false → (c ≡ false → d ≡ false) → IsOrdinary (cond a Stranger (cond b Exhausted (cond c Late (cond d Behind (cond e Early (cond f Twice (cond g Span Kept)))))))
ordinary_chain true b c d e f g p q r = absurd (true≢false p)
ordinary_chain false true c d e f g p q r = absurd (true≢false q)
ordinary_chain false false true d e f g p q r = record { known = λ h. cc; small = λ h. cc; ahead = λ h. cc }
ordinary_chain false false false true e f g p q r = absurd (true≢false (r refl))
ordinary_chain false false false false true f g p q r = record { known = λ h. cc; small = λ h. cc; ahead = λ h. cc }
ordinary_chain false false false false false true g p q r = record { known = λ h. cc; small = λ h. cc; ahead = λ h. cc }
ordinary_chain false false false false false false true p q r = record { known = λ h. cc; small = λ h. cc; ahead = λ h. cc }
ordinary_chain false false false false false false false p q r = record { known = λ h. cc; small = λ h. cc; ahead = λ h. cc }

ordinary_in : (limits : Limits) (p : SentStream) (s : SentEpoch) → HasSteadyTimestamps p → (t n : ℕ) (again : Bool) → limits.drift ≡ false → IsCounted p s → IsPlaced limits p s n again → AllFixed limits p s.start s.reached
    → IsOrdinary (verdict_in limits (epoch_for p s) t (copy_of p n again))
ordinary_in limits p s steady t n again never c f fixed =
    let ks : List Packet = packets_for p s.start s.reached in
    let q : Packet = packet_for p s.start (reach_of limits p s n) in
    subst (λ r. IsOrdinary (cond (not (p.flow == p.flow)) Stranger (cond (nat_le (2 ^ 62) r.number) Exhausted (cond (int_le r.deadline (pos t)) Late (cond (is_behind_playout ks (At t) r) Behind (cond (int_lt (pos (t + 2 * limits.playout_delay)) r.deadline) Early (cond (is_duplicate ks r) Twice (cond (is_beyond_capacity limits ks (At t) r) Span Kept)))))))) (sym f.at)
    (ordinary_chain _ _ _ _ _ _ _
    (ap not (eq-eqb p.flow p.flow refl))
    (lt-leb _ _ f.small)
    (λ e. is_behind_playout-floor ks (At t) q ∙ sym (is_played_out-floor ks (At t) q) ∙ out_is p s.start t n f.low s.reached c.counted
    ∙ out_not_past limits p s.start steady t n (ap (λ d. int_le d (pos t)) (sym (deadline_stays limits p s n never)) ∙ e) s.reached fixed))

-- on a copy in an epoch
pub ordinary_by_epochs : (limits : Limits) (streams : SentStreams) (tick e n : ℕ) (again : Bool) (before : List Transfer) → ((epoch : ℕ) → HasSteadyTimestamps (streams epoch)) → 1 ≤ limits.playout_delay → limits.drift ≡ false → AreTransfersOf limits streams (record { tick = tick; what = CopyIn e n again } ∷ before)
    → IsOrdinary (verdict limits (shipped_steps streams before) tick (copy_of (streams e) n again))
ordinary_by_epochs limits streams tick e n again before steady delay never h =
    let f = copy_finds limits streams tick e n again before steady delay h in
    subst IsOrdinary (sym (verdict_found limits streams tick e n again before steady delay h))
    (ordinary_in limits (streams e) f.epoch (steady e) (max tick (effective_time (shipped_steps streams before))) n again never f.counted f.placed (f.fixed (all_fixed limits streams before never h.1)))

-- ---- one stream

-- each number once
abbrev firsts : List ℕ → List ℕ
firsts [] = []
firsts (n ∷ ns) = if has n ns then firsts ns else n ∷ firsts ns

pub any-firsts : (f : ℕ → Bool) (ns : List ℕ) → list_any f (firsts ns) ≡ list_any f ns
any-firsts f [] = refl
any-firsts f (n ∷ ns) =
    elim (has n ns) as (λ c. has n ns ≡ c → list_any f (cond c (firsts ns) (n ∷ firsts ns)) ≡ (f n || list_any f ns)) [
      | true ↦ λ e. any-firsts f ns ∙ covered f n ns e
      | false ↦ λ e. ap (λ b. f n || b) (any-firsts f ns)
    ] refl
  where
    covered : (f : ℕ → Bool) (n : ℕ) (ns : List ℕ) → has n ns ≡ true → list_any f ns ≡ (f n || list_any f ns)
    covered f n [] e = cc
    covered f n (m ∷ ms) e = grind (arith, covered f n ms)

greatest-firsts : (ns : List ℕ) → greatest_of (firsts ns) ≡ greatest_of ns
greatest-firsts [] = refl
greatest-firsts (n ∷ ns) =
    elim (has n ns) as (λ c. has n ns ≡ c → greatest_of (cond c (firsts ns) (n ∷ firsts ns)) ≡ max n (greatest_of ns)) [
      | true ↦ λ e. let l = greatest_has n ns e in let i = greatest-firsts ns in omega arith
      | false ↦ λ e. ap (max n) (greatest-firsts ns)
    ] refl

rising-firsts : (ns : List ℕ) → rising_numbers (firsts ns) ≡ rising_numbers ns
rising-firsts [] = refl
rising-firsts (n ∷ ns) =
    elim (has n ns) as (λ c. has n ns ≡ c → rising_numbers (cond c (firsts ns) (n ∷ firsts ns)) ≡ insert_number n (rising_numbers ns)) [
      | true ↦ λ e. rising-firsts ns ∙ sym (insert_has 0 n (rising_numbers ns) (up-rising ns) (has-rising n ns ∙ e))
      | false ↦ λ e. ap (insert_number n) (rising-firsts ns)
    ] refl

-- a run of one stream, as one of its only epoch
abbrev shipment_of : Content → Shipment
shipment_of (CopyOf n again) = CopyIn 0 n again
shipment_of NoCopy = NoPacket

abbrev transfers_of : List Delivery → List Transfer
transfers_of [] = []
transfers_of (d ∷ before) = record { tick = d.tick; what = shipment_of d.what } ∷ transfers_of before

abbrev only : SentStream → SentStreams
only p epoch = p

steps_only : (p : SentStream) (run : List Delivery) → shipped_steps (only p) (transfers_of run) ≡ steps_of p run
steps_only p [] = refl
steps_only p (d ∷ before) = ap (λ e. record { tick = d.tick; event = e } ∷ shipped_steps (only p) (transfers_of before)) (same d.what) ∙ ap (λ h. record { tick = d.tick; event = event_of p d.what } ∷ h) (steps_only p before)
  where
    same : (what : Content) → shipped_event (only p) (shipment_of what) ≡ event_of p what
    same (CopyOf n again) = refl
    same NoCopy = refl

time_only : (run : List Delivery) → transfer_time (transfers_of run) ≡ run_time run
time_only [] = refl
time_only (d ∷ before) = ap (max d.tick) (time_only before)

-- the only epoch is that of the numbers reached
record SingleAt (limits : Limits) (p : SentStream) (s : Start) (ss : List SentEpoch) (rs : List ℕ) : Type 0 where
  epoch : SentEpoch
  is : ss ≡ epoch ∷ []
  start : epoch.start ≡ s
  numbers : numbers_in epoch.reached ≡ firsts rs
  fixed : AllFixed limits p epoch.start epoch.reached

record BlankAt (ss : List SentEpoch) (rs : List ℕ) : Type 0 where
  is : ss ≡ []
  reached : rs ≡ []

abbrev StateAt : Limits → SentStream → Option Start → List SentEpoch → List ℕ → Type 0
StateAt limits p None ss rs = BlankAt ss rs
StateAt limits p (Some s) ss rs = SingleAt limits p s ss rs

numbers_cases : (limits : Limits) (p : SentStream) (s : SentEpoch) (rs : List ℕ) (n : ℕ) (w : Bool) → numbers_in s.reached ≡ firsts rs
    → numbers_in (cond (w && not (has n rs)) (reach_of limits p s n ∷ s.reached) s.reached) ≡ firsts (cond w (n ∷ rs) rs)
numbers_cases limits p s rs n false e = e
numbers_cases limits p s rs n true e =
    elim (has n rs) as (λ h. numbers_in (cond (not h) (reach_of limits p s n ∷ s.reached) s.reached) ≡ cond h (firsts rs) (n ∷ firsts rs)) [ true ↦ e | false ↦ ap (λ ns. n ∷ ns) e ]

-- what a copy leaves of the numbers
numbers_with : (limits : Limits) (p : SentStream) (s : SentEpoch) → HasSteadyTimestamps p → (t n : ℕ) (again : Bool) (rs : List ℕ) → limits.drift ≡ false → AllFixed limits p s.start s.reached → numbers_in s.reached ≡ firsts rs
    → numbers_in (sent_epoch_with limits p s t n again).reached ≡ firsts (cond (arrives_in_window limits p s.start rs t n) (n ∷ rs) rs)
numbers_with limits p s steady t n again rs never f e =
    let same : reaches limits p s t n ≡ (arrives_in_window limits p s.start rs t n && not (has n rs)) =
    reaches_in_window limits p s steady t n never f
    ∙ ap (λ b. arrives_in_window limits p s.start (numbers_in s.reached) t n && not b) (reached_numbers_in s.reached n)
    ∙ ap (λ ns. arrives_in_window limits p s.start ns t n && not (has n ns)) e
    ∙ ap (λ b. (not (int_le (number_deadline limits p s.start n) (pos t)) && (not (int_lt (pos (t + 2 * limits.playout_delay)) (number_deadline limits p s.start n)) && not b)) && not (has n (firsts rs)))
    (any-firsts (λ m. not (int_le (number_deadline limits p s.start m) (pos t)) && nat_le limits.capacity (distance m n)) rs)
    ∙ ap (λ b. arrives_in_window limits p s.start rs t n && not b) (any-firsts (λ m. m == n) rs) in
    ap (λ c. numbers_in (cond c (reach_of limits p s n ∷ s.reached) s.reached)) same
    ∙ numbers_cases limits p s rs n (arrives_in_window limits p s.start rs t n) e

single_with : (limits : Limits) (p : SentStream) (s : Start) → HasSteadyTimestamps p → (t n : ℕ) (again : Bool) (ss : List SentEpoch) (rs : List ℕ) → limits.drift ≡ false → SingleAt limits p s ss rs
    → SingleAt limits p s (sent_epochs_after limits (only p) ss t (CopyIn 0 n again)) (cond (arrives_in_window limits p s rs t n) (n ∷ rs) rs)
single_with limits p s steady t n again ss rs never a =
    record {
      epoch = sent_epoch_with limits p a.epoch t n again;
      is = ap (λ es. sent_epochs_with limits (only p) es t 0 n again) a.is;
      start = a.start;
      numbers = numbers_with limits p a.epoch steady t n again rs never a.fixed a.numbers ∙ ap (λ x. firsts (cond (arrives_in_window limits p x rs t n) (n ∷ rs) rs)) a.start;
      fixed = fixed_with limits p a.epoch t n again never a.fixed;
    }

single_first : (limits : Limits) (p : SentStream) → HasSteadyTimestamps p → (t n : ℕ) (again : Bool) (ss : List SentEpoch) (rs : List ℕ) → limits.drift ≡ false → BlankAt ss rs
    → SingleAt limits p (record { number = n; time = t }) (sent_epochs_after limits (only p) ss t (CopyIn 0 n again)) (cond (arrives_in_window limits p (record { number = n; time = t }) rs t n) (n ∷ rs) rs)
single_first limits p steady t n again ss rs never b =
    record {
      epoch = sent_epoch_with limits p (new_sent_epoch t n) t n again;
      is = ap (λ es. sent_epochs_with limits (only p) es t 0 n again) b.is;
      start = refl;
      numbers = numbers_with limits p (new_sent_epoch t n) steady t n again rs never tt (sym (ap firsts b.reached));
      fixed = fixed_with limits p (new_sent_epoch t n) t n again never tt;
    }

step_at : (limits : Limits) (p : SentStream) → HasSteadyTimestamps p → limits.drift ≡ false → (t : ℕ) (what : Content) (from : Option Start) (ss : List SentEpoch) (rs : List ℕ) → StateAt limits p from ss rs
    → StateAt limits p (start_after from t what) (sent_epochs_after limits (only p) ss t (shipment_of what)) (reached_after limits p from rs t what)
step_at limits p steady never t (CopyOf n again) None ss rs a = single_first limits p steady t n again ss rs never a
step_at limits p steady never t (CopyOf n again) (Some s) ss rs a = single_with limits p s steady t n again ss rs never a
step_at limits p steady never t NoCopy None ss rs a = a
step_at limits p steady never t NoCopy (Some s) ss rs a = a

agrees : (limits : Limits) (p : SentStream) → HasSteadyTimestamps p → limits.drift ≡ false → (run : List Delivery) → StateAt limits p (start_of run) (sent_epochs limits (only p) (transfers_of run)) (reached_numbers limits p run)
agrees limits p steady never [] = record { is = refl; reached = refl }
agrees limits p steady never (d ∷ before) =
    subst (λ t. StateAt limits p (start_of (d ∷ before)) (sent_epochs_after limits (only p) (sent_epochs limits (only p) (transfers_of before)) (max d.tick t) (shipment_of d.what)) (reached_numbers limits p (d ∷ before)))
    (sym (time_only before))
    (step_at limits p steady never (run_time (d ∷ before)) d.what (start_of before) (sent_epochs limits (only p) (transfers_of before)) (reached_numbers limits p before) (agrees limits p steady never before))

belongs_at : (limits : Limits) (p : SentStream) (t : ℕ) (what : Content) (from : Option Start) (ss : List SentEpoch) (rs : List ℕ) → StateAt limits p from ss rs → IsNearAfter limits p from rs what → BelongsAfter limits (only p) ss t (shipment_of what)
belongs_at limits p t (CopyOf n again) None ss rs a near = subst (λ es. BelongsAfter limits (only p) es t (CopyIn 0 n again)) (sym a.is) refl
belongs_at limits p t (CopyOf n again) (Some s) ss rs a near =
    subst (λ es. BelongsAfter limits (only p) es t (CopyIn 0 n again)) (sym a.is)
    (record {
      near = λ e. subst (λ f. IsNear p f (greatest_of (numbers_in a.epoch.reached)) n) (sym (ap (λ (x : Start). x.number) a.start))
          (subst (λ g. IsNear p s.number g n) (sym (ap greatest_of a.numbers ∙ greatest-firsts rs)) near);
      names = λ e. absurd (true≢false e);
      opens = λ e. absurd (true≢false e);
    })
belongs_at limits p t NoCopy from ss rs a near = tt

pub are_transfers : (limits : Limits) (p : SentStream) → HasSteadyTimestamps p → limits.drift ≡ false → (run : List Delivery) → AreDeliveriesOf limits p run → AreTransfersOf limits (only p) (transfers_of run)
are_transfers limits p steady never [] h = tt
are_transfers limits p steady never (d ∷ before) h = (
  belongs_at limits p (transfer_time (transfers_of (d ∷ before))) d.what (start_of before) (sent_epochs limits (only p) (transfers_of before)) (reached_numbers limits p before) (agrees limits p steady never before) h.0,
  are_transfers limits p steady never before h.1,
)

payloads_at : (limits : Limits) (p : SentStream) (from : Option Start) (ss : List SentEpoch) (rs : List ℕ) → StateAt limits p from ss rs → reached_payloads (only p) ss ≡ map p.payload (rising_numbers rs)
payloads_at limits p None ss rs a = ap (reached_payloads (only p)) a.is ∙ sym (ap (λ ns. map p.payload (rising_numbers ns)) a.reached)
payloads_at limits p (Some s) ss rs a = ap (reached_payloads (only p)) a.is ∙ ap (λ ns. map p.payload (rising_numbers ns)) a.numbers ∙ ap (map p.payload) (rising-firsts rs)

-- what is written in the end are the payloads of the numbers reached, by rising number
pub release_set : (limits : Limits) (p : SentStream) (run : List Delivery) → HasSteadyTimestamps p → 1 ≤ limits.playout_delay → limits.drift ≡ false → AreDeliveriesOf limits p run → released_payloads limits (end_step ∷ steps_of p run) ≡ map p.payload (rising_numbers (reached_numbers limits p run))
release_set limits p run steady delay never h =
    ap (λ x. released_payloads limits (end_step ∷ x)) (sym (steps_only p run))
    ∙ by_epochs.release_set limits (only p) (transfers_of run) (λ epoch. steady) delay (are_transfers limits p steady never run h)
    ∙ payloads_at limits p (start_of run) (sent_epochs limits (only p) (transfers_of run)) (reached_numbers limits p run) (agrees limits p steady never run)

-- the verdict on a copy is none of the three
pub ordinary : (limits : Limits) (p : SentStream) (tick n : ℕ) (again : Bool) (before : List Delivery) → HasSteadyTimestamps p → 1 ≤ limits.playout_delay → limits.drift ≡ false → AreDeliveriesOf limits p (record { tick = tick; what = CopyOf n again } ∷ before) → IsOrdinary (verdict limits (steps_of p before) tick (copy_of p n again))
ordinary limits p tick n again before steady delay never h =
    subst (λ x. IsOrdinary (verdict limits x tick (copy_of p n again))) (steps_only p before)
    (ordinary_by_epochs limits (only p) tick 0 n again (transfers_of before) (λ epoch. steady) delay never (are_transfers limits p steady never (record { tick = tick; what = CopyOf n again } ∷ before) h))
