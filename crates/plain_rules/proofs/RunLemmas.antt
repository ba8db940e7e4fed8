-- What a plain program knows after an arrival is what the history says.
use Rattle.std.proofs.Common.{◌≡◌, ℕ, Bool, true, false, cond, not, ◌&&◌, max, List, [], ◌∷◌, ◌++◌, Option, Some, unwrap_or, length, suc, ◌+◌, ◌^◌, ◌<◌, ◌≤◌, refl, sym, ◌∙◌, ap, subst, map, arith}
use Rattle.std.specs.List.{filter}
use Rattle.std.proofs.lemmas.List.{map-append}
use Rattle.receiver_rules.specs.declared.limits.Limits.{Limits}
use Rattle.receiver_rules.specs.Steps.{Arrival, Media, Step, effective_time, media_step}
use Rattle.receiver_rules.specs.Packets.{Packet, Moment, highest_of, placed_packet, verdict_of, is_kept, is_played_out, by_number, insert_by_number}
use Rattle.receiver_rules.specs.Epochs.{Epoch, base_of, IsNewestClock, new_anchor, new_epoch, opens_next, opens_epoch, epoch_at, earlier_at, verdict_in, packet_in, epoch_with, epochs_after, epochs_of, newest_accepted}
use Rattle.receiver_rules.specs.History.{packets_over, playout_of, verdicts_of}
use Rattle.receiver_rules.specs.declared.anchor.Anchor.{Anchor}
use Rattle.receiver_rules.specs.declared.anchor.Highest.{Highest}
use Rattle.receiver_rules.specs.declared.verdict.Verdict.{Verdict}
use Rattle.receiver_rules.specs.declared.place.Position.{Position}
use Rattle.receiver_rules.specs.Bounds.{AreInRange, IsEarlyAnchor, IsMidHighest, IsMid, IsNearBase, IsClockWithin}
use Rattle.receiver_rules.proofs.BoundLemmas.{mid_when_kept, holding_some}
use Rattle.receiver_rules.proofs.HistoryLemmas.{accepted_parts}
use Rattle.std.specs.Option.{ForSome}
use Rattle.std.proofs.lemmas.Bool.{leb-false}
use Rattle.plain_rules.specs.declared.receiver.kept.Kept.{Kept}
use Rattle.plain_rules.specs.declared.receiver.running.Run.{Run}
use Rattle.plain_rules.specs.Receiver.Kept.{kept_packets, packets_before}
use Rattle.plain_rules.specs.Receiver.Run.{IsSmallRun, EpochsShow, RunShows}
use Rattle.receiver_rules.specs.Clock.{clock_of, starting_clock}
use Rattle.receiver_rules.specs.Seen.{packet_at, IsPlaceOf, begun_clock, counted_clock}
use Rattle.plain_rules.proofs.KeptLemmas.{packet_plain}
use Rattle.receiver_rules.specs.declared.clock.Clock.{Clock}
use Rattle.receiver_rules.proofs.ClockLemmas.{counted_follows}
use Rattle.plain_rules.specs.Inside.ReceiverRun.{opens_here, opens_now, anchor_here, verdict_here, packet_here, clock_now, clock_here, kept_with, ordered_with, IsTurned, IsBrought, IsTaken}

-- whether an arrival opens an epoch, by what is known of the newest one
pub opens_shown : (limits : Limits) (run : Run) (epochs : List Epoch) (t : ℕ) (arrival : Arrival) → EpochsShow run epochs → opens_here limits run.anchor (kept_packets run.kept.items) run.last t arrival ≡ opens_epoch limits epochs t arrival
opens_shown limits run [] t arrival s = ap (λ o. opens_here limits o (kept_packets run.kept.items) run.last t arrival) s.anchor
opens_shown limits run (current ∷ earlier) t arrival s =
    ap (λ o. opens_here limits o (kept_packets run.kept.items) run.last t arrival) s.anchor
    ∙ ap (λ ps. opens_here limits (Some current.anchor) ps run.last t arrival) s.kept
    ∙ ap (λ n. opens_here limits (Some current.anchor) current.accepted n t arrival) s.last

-- what is known before an arrival is judged: the epoch that it comes in, and those before that
record Faces (limits : Limits) (run : Run) (arrival : Arrival) (epoch : Epoch) (earlier : List Epoch) : Type 0 where
  anchor : anchor_here run arrival ≡ epoch.anchor
  kept : kept_packets run.kept.items ≡ epoch.accepted
  ordered : kept_packets run.ordered.items ≡ by_number epoch.accepted
  last : run.last ≡ epoch.last
  over : kept_packets run.over.items ≡ packets_over earlier
  clock : clock_now run ≡ clock_of limits epoch.anchor.time epoch.transits

-- where it opens an epoch
faces_opened : (limits : Limits) (run turned : Run) (arrival : Arrival) (es : List Epoch) → IsTurned true run turned → EpochsShow run es → Faces limits turned arrival (new_epoch run.time arrival) es
faces_opened limits run turned arrival es i s =
    record {
      anchor = ap (λ o. unwrap_or o (new_anchor turned.time arrival)) i.anchor ∙ ap (λ t. new_anchor t arrival) i.time;
      kept = i.kept;
      ordered = i.ordered;
      last = i.last;
      over = i.over ∙ ap (λ ps. ps ++ kept_packets run.ordered.items) s.over ∙ ap (λ ps. packets_before es ++ ps) s.ordered ∙ whole es;
      clock = ap (λ o. begun_clock o turned.clock turned.time) i.anchor ∙ ap starting_clock i.time;
    }
  where
    whole : (es : List Epoch) → packets_before es ++ by_number (newest_accepted es) ≡ packets_over es
    whole [] = refl
    whole (current ∷ earlier) = refl

faces_continued : (limits : Limits) (run turned : Run) (arrival : Arrival) (current : Epoch) (earlier : List Epoch) → IsTurned false run turned → EpochsShow run (current ∷ earlier) → IsNewestClock limits run.clock (current ∷ earlier) → Faces limits turned arrival current earlier
faces_continued limits run turned arrival current earlier i s k =
    record {
      anchor = ap (λ o. unwrap_or o (new_anchor turned.time arrival)) (i.anchor ∙ s.anchor);
      kept = i.kept ∙ s.kept;
      ordered = i.ordered ∙ s.ordered;
      last = i.last ∙ s.last;
      over = i.over ∙ s.over;
      clock = ap (λ o. begun_clock o turned.clock turned.time) (i.anchor ∙ s.anchor) ∙ i.clock ∙ k;
    }

faces : (limits : Limits) (run turned : Run) (arrival : Arrival) (epochs : List Epoch) → EpochsShow run epochs → IsNewestClock limits run.clock epochs → IsTurned (opens_now limits run arrival) run turned
    → Faces limits turned arrival (epoch_at limits epochs run.time arrival) (earlier_at limits epochs run.time arrival)
faces limits run turned arrival [] s k i = faces_opened limits run turned arrival [] (subst (λ c. IsTurned c run turned) (opens_shown limits run [] run.time arrival s) i) s
faces limits run turned arrival (current ∷ earlier) s k i =
    elim (opens_next limits current run.time arrival) as (λ c. IsTurned c run turned → Faces limits turned arrival (cond c (new_epoch run.time arrival) current) (cond c (current ∷ earlier) earlier)) [
      | true ↦ λ turns. faces_opened limits run turned arrival (current ∷ earlier) turns s
      | false ↦ λ turns. faces_continued limits run turned arrival current earlier turns s k
    ] (subst (λ c. IsTurned c run turned) (opens_shown limits run (current ∷ earlier) run.time arrival s) i)

ordered_cases : (c : Bool) (p : Packet) (ps : List Packet) → cond c (insert_by_number p (by_number ps)) (by_number ps) ≡ by_number (cond c (p ∷ ps) ps)
ordered_cases true p ps = refl
ordered_cases false p ps = refl

verdict_faced : (limits : Limits) (run : Run) (arrival : Arrival) (epoch : Epoch) (earlier : List Epoch) → Faces limits run arrival epoch earlier → verdict_here limits run arrival ≡ verdict_in limits epoch run.time arrival
verdict_faced limits run arrival epoch earlier f =
    ap (λ a. verdict_of limits a (clock_now run).base (kept_packets run.kept.items) run.time arrival) f.anchor
    ∙ ap (λ (k : Clock). verdict_of limits epoch.anchor k.base (kept_packets run.kept.items) run.time arrival) f.clock
    ∙ ap (λ ps. verdict_of limits epoch.anchor (base_of limits epoch) ps run.time arrival) f.kept

packet_faced : (limits : Limits) (run : Run) (arrival : Arrival) (epoch : Epoch) (earlier : List Epoch) → Faces limits run arrival epoch earlier → packet_here limits run arrival ≡ packet_in limits epoch arrival
packet_faced limits run arrival epoch earlier f =
    ap (λ a. placed_packet limits a (clock_now run).base (highest_of (kept_packets run.kept.items)) arrival) f.anchor
    ∙ ap (λ (k : Clock). placed_packet limits epoch.anchor k.base (highest_of (kept_packets run.kept.items)) arrival) f.clock
    ∙ ap (λ ps. placed_packet limits epoch.anchor (base_of limits epoch) (highest_of ps) arrival) f.kept

-- the clock after the arrival
clock_brought : (limits : Limits) (turned : Run) (arrival : Arrival) (epoch : Epoch) (earlier : List Epoch) → Faces limits turned arrival epoch earlier
    → clock_here limits turned arrival ≡ clock_of limits epoch.anchor.time (epoch_with limits epoch turned.time arrival).transits
clock_brought limits turned arrival epoch earlier f =
    ap (λ v. counted_clock limits (anchor_here turned arrival) (clock_now turned) turned.time (packet_here limits turned arrival).timestamp (is_kept v && not arrival.again)) (verdict_faced limits turned arrival epoch earlier f)
    ∙ ap (λ a. counted_clock limits a (clock_now turned) turned.time (packet_here limits turned arrival).timestamp (is_kept (verdict_in limits epoch turned.time arrival) && not arrival.again)) f.anchor
    ∙ ap (λ (p : Packet). counted_clock limits epoch.anchor (clock_now turned) turned.time p.timestamp (is_kept (verdict_in limits epoch turned.time arrival) && not arrival.again)) (packet_faced limits turned arrival epoch earlier f)
    ∙ ap (λ k. counted_clock limits epoch.anchor k turned.time (packet_in limits epoch arrival).timestamp (is_kept (verdict_in limits epoch turned.time arrival) && not arrival.again)) f.clock
    ∙ counted_follows limits epoch.anchor turned.time (packet_in limits epoch arrival).timestamp epoch.transits (is_kept (verdict_in limits epoch turned.time arrival) && not arrival.again)

-- the epochs after the arrival
brought : (limits : Limits) (turned new : Run) (arrival : Arrival) (epoch : Epoch) (earlier : List Epoch) → Faces limits turned arrival epoch earlier → IsBrought limits arrival turned new
    → EpochsShow new (epoch_with limits epoch turned.time arrival ∷ earlier)
brought limits turned new arrival epoch earlier f b =
    let v = verdict_faced limits turned arrival epoch earlier f in
    let p = packet_faced limits turned arrival epoch earlier f in
    record {
      anchor = b.anchor ∙ ap Some f.anchor;
      kept = b.kept ∙ ap (λ x. kept_with x (packet_here limits turned arrival) (kept_packets turned.kept.items)) v ∙ ap (λ x. kept_with (verdict_in limits epoch turned.time arrival) x (kept_packets turned.kept.items)) p
          ∙ ap (λ ps. kept_with (verdict_in limits epoch turned.time arrival) (packet_in limits epoch arrival) ps) f.kept;
      ordered = b.ordered ∙ ap (λ x. ordered_with x (packet_here limits turned arrival) (kept_packets turned.ordered.items)) v ∙ ap (λ x. ordered_with (verdict_in limits epoch turned.time arrival) x (kept_packets turned.ordered.items)) p
          ∙ ap (λ ps. ordered_with (verdict_in limits epoch turned.time arrival) (packet_in limits epoch arrival) ps) f.ordered
          ∙ ordered_cases (is_kept (verdict_in limits epoch turned.time arrival)) (packet_in limits epoch arrival) epoch.accepted;
      last = b.last ∙ ap (λ x. cond (is_kept x) turned.time turned.last) v ∙ ap (λ n. cond (is_kept (verdict_in limits epoch turned.time arrival)) turned.time n) f.last;
      over = ap kept_packets b.over ∙ f.over;
    }

-- what an arrival leaves, by what it was judged by
pub record IsJudged (limits : Limits) (arrival : Arrival) (old new : Run) (anchor : Anchor) (clock : Clock) (place : Position) (verdict : Verdict) : Type 0 where
  pub fixed : anchor ≡ anchor_here old arrival
  pub counted : clock ≡ clock_now old
  pub known : old.highest ≡ highest_of (kept_packets old.kept.items)
  pub placed : IsPlaceOf place (placed_packet limits anchor clock.base old.highest arrival)
  pub judged : verdict ≡ verdict_of limits anchor clock.base (kept_packets old.kept.items) old.time arrival
  pub time : new.time ≡ old.time
  pub ended : new.has_ended ≡ old.has_ended
  pub anchor_is : new.anchor ≡ Some anchor
  pub clock_is : new.clock ≡ counted_clock limits anchor clock old.time place.timestamp (is_kept verdict && not arrival.again)
  pub verdicts : new.verdicts.items ≡ old.verdicts.items ++ verdict ∷ []
  pub kept : kept_packets new.kept.items ≡ kept_with verdict (packet_at place arrival.payload) (kept_packets old.kept.items)
  pub ordered : kept_packets new.ordered.items ≡ ordered_with verdict (packet_at place arrival.payload) (kept_packets old.ordered.items)
  pub last : new.last ≡ cond (is_kept verdict) old.time old.last
  pub over : new.over.items ≡ old.over.items

-- the packet at its place
placed_here : (limits : Limits) (arrival : Arrival) (old new : Run) (anchor : Anchor) (clock : Clock) (place : Position) (verdict : Verdict) → IsJudged limits arrival old new anchor clock place verdict → IsPlaceOf place (packet_here limits old arrival)
placed_here limits arrival old new anchor clock place verdict j =
    subst (λ a. IsPlaceOf place (placed_packet limits a (clock_now old).base (highest_of (kept_packets old.kept.items)) arrival)) j.fixed
    (subst (λ (k : Clock). IsPlaceOf place (placed_packet limits anchor k.base (highest_of (kept_packets old.kept.items)) arrival)) j.counted
    (subst (λ h. IsPlaceOf place (placed_packet limits anchor clock.base h arrival)) j.known j.placed))

pub judged_here : (limits : Limits) (arrival : Arrival) (old new : Run) (anchor : Anchor) (clock : Clock) (place : Position) (verdict : Verdict) → IsJudged limits arrival old new anchor clock place verdict → verdict ≡ verdict_here limits old arrival
judged_here limits arrival old new anchor clock place verdict j =
    j.judged
    ∙ ap (λ a. verdict_of limits a clock.base (kept_packets old.kept.items) old.time arrival) j.fixed
    ∙ ap (λ (k : Clock). verdict_of limits (anchor_here old arrival) k.base (kept_packets old.kept.items) old.time arrival) j.counted

pub brought_here : (limits : Limits) (arrival : Arrival) (old new : Run) (anchor : Anchor) (clock : Clock) (place : Position) (verdict : Verdict) → IsJudged limits arrival old new anchor clock place verdict → IsBrought limits arrival old new
brought_here limits arrival old new anchor clock place verdict j =
    let v = judged_here limits arrival old new anchor clock place verdict j in
    let at = placed_here limits arrival old new anchor clock place verdict j in
    let p : packet_at place arrival.payload ≡ packet_here limits old arrival = packet_plain place (packet_here limits old arrival) at in
    record {
      time = j.time;
      ended = j.ended;
      anchor = j.anchor_is ∙ ap Some j.fixed;
      clock = j.clock_is
          ∙ ap (λ a. counted_clock limits a clock old.time place.timestamp (is_kept verdict && not arrival.again)) j.fixed
          ∙ ap (λ k. counted_clock limits (anchor_here old arrival) k old.time place.timestamp (is_kept verdict && not arrival.again)) j.counted
          ∙ ap (λ n. counted_clock limits (anchor_here old arrival) (clock_now old) old.time n (is_kept verdict && not arrival.again)) at.timestamp
          ∙ ap (λ x. counted_clock limits (anchor_here old arrival) (clock_now old) old.time (packet_here limits old arrival).timestamp (is_kept x && not arrival.again)) v;
      verdicts = j.verdicts ∙ ap (λ x. old.verdicts.items ++ x ∷ []) v;
      kept = j.kept ∙ ap (λ x. kept_with x (packet_at place arrival.payload) (kept_packets old.kept.items)) v ∙ ap (λ x. kept_with (verdict_here limits old arrival) x (kept_packets old.kept.items)) p;
      ordered = j.ordered ∙ ap (λ x. ordered_with x (packet_at place arrival.payload) (kept_packets old.ordered.items)) v ∙ ap (λ x. ordered_with (verdict_here limits old arrival) x (kept_packets old.ordered.items)) p;
      last = j.last ∙ ap (λ x. cond (is_kept x) old.time old.last) v;
      over = j.over;
    }

-- ---- bounds after an arrival

-- as many packets as the program keeps
shown_length : (ks : List Kept) → length (kept_packets ks) ≡ length ks
shown_length [] = refl
shown_length (k ∷ ks) = ap suc (shown_length ks)

few_more : (n m : ℕ) (kept again : Bool) (xs : List Packet) (p : Packet) → length xs ≡ n → m ≡ length (cond kept (p ∷ xs) xs) → cond (kept && not again) (n + 1) n ≤ m
few_more n m true true xs p e f = omega (arith, e, f)
few_more n m true false xs p e f = omega (arith, e, f)
few_more n m false again xs p e f = omega (arith, e, f)

highest_small : (v : Bool) (old new : Option Highest) (ps : List Packet) (p : Packet) → ForSome old IsMidHighest → old ≡ highest_of ps → new ≡ highest_of (cond v (p ∷ ps) ps) → (v ≡ true → IsMid (highest_of ps) p × (p.number < 2 ^ 62)) → ForSome new IsMidHighest
highest_small true old new ps p small e f mid =
    let m = mid refl in
    subst (λ o. ForSome o IsMidHighest) (sym f) (holding_some (highest_of ps) p (subst (λ o. ForSome o IsMidHighest) e small) m.1 m.0)
highest_small false old new ps p small e f mid = subst (λ o. ForSome o IsMidHighest) (e ∙ sym f) small

-- what stays small
pub small_here : (limits : Limits) (arrival : Arrival) (old new : Run) (anchor : Anchor) (clock : Clock) (place : Position) (verdict : Verdict) → IsJudged limits arrival old new anchor clock place verdict
    → AreInRange limits → IsSmallRun old → IsEarlyAnchor old.time anchor → IsNearBase anchor.time clock.base
    → IsClockWithin anchor.time (cond (is_kept verdict && not arrival.again) (length old.kept.items + 1) (length old.kept.items)) new.clock
    → new.highest ≡ highest_of (kept_packets new.kept.items) → IsSmallRun new
small_here limits arrival old new anchor clock place verdict j range small early near within known =
    let b = brought_here limits arrival old new anchor clock place verdict j in
    let v = judged_here limits arrival old new anchor clock place verdict j in
    record {
      time = subst (λ t. t < 2 ^ 61) (sym j.time) small.time;
      anchor = subst (λ o. ForSome o (IsEarlyAnchor new.time)) (sym j.anchor_is) (λ a e. subst (IsEarlyAnchor new.time) (anchor_same e) (subst (λ t. IsEarlyAnchor t anchor) (sym j.time) early));
      clock = subst (λ o. ForSome o (λ a. IsClockWithin a.time (length new.kept.items) new.clock)) (sym j.anchor_is)
          (λ a e. subst (λ (x : Anchor). IsClockWithin x.time (length new.kept.items) new.clock) (anchor_same e)
          (record {
            near = within.near;
            few = omega (arith, within.few, few_more (length old.kept.items) (length new.kept.items) (is_kept verdict) arrival.again (kept_packets old.kept.items) (packet_at place arrival.payload) (shown_length old.kept.items) (sym (shown_length new.kept.items) ∙ ap length j.kept));
          }));
      highest = highest_small (is_kept (verdict_here limits old arrival)) old.highest new.highest (kept_packets old.kept.items) (packet_here limits old arrival) small.highest j.known (known ∙ ap highest_of b.kept)
          (λ e. mid_here e);
      known = known;
      last = omega (arith, last_small (is_kept verdict), j.last, j.time);
    }
  where
    anchor_same : {x y : Anchor} → Some x ≡ Some y → x ≡ y
    anchor_same e = cc

    last_small : (c : Bool) → cond c old.time old.last ≤ old.time
    last_small true = omega arith
    last_small false = small.last

    mid_here : is_kept (verdict_here limits old arrival) ≡ true → IsMid (highest_of (kept_packets old.kept.items)) (packet_here limits old arrival) × ((packet_here limits old arrival).number < 2 ^ 62)
    mid_here e =
        let a : IsEarlyAnchor old.time (anchor_here old arrival) = subst (IsEarlyAnchor old.time) j.fixed early in
        let n : IsNearBase (anchor_here old arrival).time (clock_now old).base = subst (λ (x : Anchor). IsNearBase x.time (clock_now old).base) j.fixed (subst (λ (k : Clock). IsNearBase anchor.time k.base) j.counted near) in (
          mid_when_kept limits (anchor_here old arrival) (clock_now old).base old.time (kept_packets old.kept.items) arrival range a n small.time e,
          leb-false _ _ (accepted_parts limits (anchor_here old arrival) (clock_now old).base (kept_packets old.kept.items) old.time arrival e).small,
        )

-- ---- a step with an arrival

-- what is known once the time has moved
pub record IsMoved (run moved : Run) (tick : ℕ) : Type 0 where
  pub time : moved.time ≡ max tick run.time
  pub ended : moved.has_ended ≡ run.has_ended
  pub anchor : moved.anchor ≡ run.anchor
  pub kept : moved.kept.items ≡ run.kept.items
  pub ordered : moved.ordered.items ≡ run.ordered.items
  pub last : moved.last ≡ run.last
  pub over : moved.over.items ≡ run.over.items
  pub verdicts : moved.verdicts.items ≡ run.verdicts.items
  pub clock : moved.clock ≡ run.clock

pub after_arrival : (limits : Limits) (run moved new : Run) (history : List Step) (tick : ℕ) (arrival : Arrival) → IsMoved run moved tick → IsTaken limits arrival moved new → RunShows limits run history → RunShows limits new (media_step tick arrival ∷ history)
after_arrival limits run moved new history tick arrival m i s =
    let shown : EpochsShow moved (epochs_of limits history) = record {
      anchor = m.anchor ∙ s.epochs.anchor;
      kept = ap kept_packets m.kept ∙ s.epochs.kept;
      ordered = ap kept_packets m.ordered ∙ s.epochs.ordered;
      last = m.last ∙ s.epochs.last;
      over = ap kept_packets m.over ∙ s.epochs.over;
    } in
    let t : moved.time ≡ max tick (effective_time history) = m.time ∙ ap (max tick) s.time in
    let k : IsNewestClock limits moved.clock (epochs_of limits history) = subst (λ c. IsNewestClock limits c (epochs_of limits history)) (sym m.clock) s.clock in
    let f = faces limits moved i.turned arrival (epochs_of limits history) shown k i.turns in
    let then : i.turned.time ≡ max tick (effective_time history) = i.turns.time ∙ t in
    let e : Epoch = epoch_at limits (epochs_of limits history) moved.time arrival in
    record {
      time = i.brings.time ∙ then;
      ended = i.brings.ended ∙ i.turns.ended ∙ m.ended ∙ s.ended;
      epochs = subst (λ n. EpochsShow new (epochs_after limits (epochs_of limits history) n (Media arrival))) t
          (subst (λ n. EpochsShow new (epoch_with limits e n arrival ∷ earlier_at limits (epochs_of limits history) moved.time arrival)) i.turns.time (brought limits i.turned new arrival e (earlier_at limits (epochs_of limits history) moved.time arrival) f i.brings));
      verdicts = i.brings.verdicts
          ∙ ap (λ vs. vs ++ verdict_here limits i.turned arrival ∷ []) (i.turns.verdicts ∙ m.verdicts ∙ s.verdicts)
          ∙ ap (λ v. verdicts_of limits history ++ v ∷ []) (verdict_faced limits i.turned arrival e (earlier_at limits (epochs_of limits history) moved.time arrival) f
          ∙ ap (λ n. verdict_in limits e n arrival) i.turns.time
          ∙ ap (λ n. verdict_in limits (epoch_at limits (epochs_of limits history) n arrival) n arrival) t);
      clock = subst (λ n. IsNewestClock limits new.clock (epochs_after limits (epochs_of limits history) n (Media arrival))) t
          (subst (λ n. IsNewestClock limits new.clock (epoch_with limits e n arrival ∷ earlier_at limits (epochs_of limits history) moved.time arrival)) i.turns.time
          (i.brings.clock ∙ clock_brought limits i.turned arrival e (earlier_at limits (epochs_of limits history) moved.time arrival) f));
    }

-- ---- what is released

-- what was played out, by what is known
pub playout_shown : (run : Run) (epochs : List Epoch) (m : Moment) → EpochsShow run epochs
    → map (λ (p : Packet). p.payload) (kept_packets run.over.items) ++ map (λ (p : Packet). p.payload) (filter (is_played_out (kept_packets run.kept.items) m) (kept_packets run.ordered.items)) ≡ map (λ (p : Packet). p.payload) (playout_of epochs m)
playout_shown run epochs m s =
    sym (map-append (λ (p : Packet). p.payload) (kept_packets run.over.items) (filter (is_played_out (kept_packets run.kept.items) m) (kept_packets run.ordered.items)))
    ∙ ap (map (λ (p : Packet). p.payload))
    (ap (λ ps. ps ++ filter (is_played_out (kept_packets run.kept.items) m) (kept_packets run.ordered.items)) s.over
    ∙ ap (λ ps. packets_before epochs ++ filter (is_played_out ps m) (kept_packets run.ordered.items)) s.kept
    ∙ ap (λ ps. packets_before epochs ++ filter (is_played_out (newest_accepted epochs) m) ps) s.ordered
    ∙ whole epochs)
  where
    whole : (es : List Epoch) → packets_before es ++ filter (is_played_out (newest_accepted es) m) (by_number (newest_accepted es)) ≡ playout_of es m
    whole [] = refl
    whole (current ∷ earlier) = refl
