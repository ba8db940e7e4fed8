-- Facts about whole histories.
use Rattle.std.proofs.Common.{◌≡◌, max, ℕ, ◌+◌, ◌*◌, ◌^◌, ◌≤◌, pos, Bool, true, false, cond, not, ◌||◌, ◌&&◌, List, [], ◌∷◌, ◌++◌, None, refl, sym, ◌∙◌, ap, arith, append_assoc}
use Rattle.std.specs.Prelude.{ℤ, nat_le, nat_lt, ◌==◌, int_lt}
use Rattle.std.proofs.lemmas.Bool.{not-true, and_parts, or_parts, eq-eqb}
use Rattle.std.proofs.lemmas.List.{append-nil}
use Rattle.std.proofs.lemmas.List.Concat.{flat_map-append}
use Rattle.std.proofs.lemmas.List.Elements.{All-nil, All-push}
use Rattle.std.specs.List.{filter, list_any, flat_map, All}
use Rattle.receiver_rules.specs.declared.verdict.Verdict.TheVariants.{Kept, Stranger, Exhausted, Late, Behind, Early, Twice, Span}
use Rattle.receiver_rules.specs.declared.limits.Limits.{Limits}
use Rattle.receiver_rules.specs.declared.anchor.Anchor.{Anchor}
use Rattle.receiver_rules.specs.Steps.{Arrival, Event, Media, TimeOnly, End, Step, effective_time, is_end, has_ended, media_step, time_step}
use Rattle.receiver_rules.specs.Packets.{Packet, highest_of, Moment, At, Ever, placed_packet, is_past_deadline, is_played_out, is_buffered, is_behind_playout, is_duplicate, is_beyond_capacity, verdict_of, is_kept, playout_floor, by_number, insert_by_number, IsRising, is_below}
use Rattle.receiver_rules.specs.Epochs.{Epoch, base_of, new_epoch, opens_next, verdict_in, packet_in, epoch_with, epochs_after, epochs_of, newest_anchor, newest_accepted}
use Rattle.receiver_rules.specs.History.{anchor_of, accepted_packets, current_moment, packets_over, playout_of, played_out_packets}
use Rattle.receiver_rules.specs.Playouts.{playouts_over, playouts_at, playouts_of}
use Rattle.receiver_rules.proofs.PacketLemmas.{is_behind_playout-floor, is_played_out-floor, any-by_number, filter_same, rising-insert, rising-filter, filter-insert_refused, IsLater, later_At, later_Ever, played_out_later}

-- where no epoch is open nothing was kept
pub anchorless_newest : (epochs : List Epoch) → newest_anchor epochs ≡ None → newest_accepted epochs ≡ []
anchorless_newest [] e = refl
anchorless_newest (current ∷ earlier) e = cc

-- where nothing came nothing was kept
pub anchorless : (limits : Limits) (history : List Step) → anchor_of limits history ≡ None → accepted_packets limits history ≡ []
anchorless limits history = anchorless_newest (epochs_of limits history)

pub now_open : (history : List Step) → has_ended history ≡ false → current_moment history ≡ At (effective_time history)
now_open history h = ap (λ b. cond b Ever (At (effective_time history))) h

-- what the verdict Kept says
pub record IsKept (limits : Limits) (anchor : Anchor) (base : ℤ) (packets : List Packet) (t : ℕ) (arrival : Arrival) : Type 0 where
  pub known : not (arrival.flow == anchor.flow) ≡ false
  pub small : nat_le (2 ^ 62) (placed_packet limits anchor base (highest_of packets) arrival).number ≡ false
  pub in_time : is_past_deadline (At t) (placed_packet limits anchor base (highest_of packets) arrival) ≡ false
  pub ahead : is_behind_playout packets (At t) (placed_packet limits anchor base (highest_of packets) arrival) ≡ false
  pub nearest : int_lt (pos (t + 2 * limits.playout_delay)) (placed_packet limits anchor base (highest_of packets) arrival).deadline ≡ false
  pub once : is_duplicate packets (placed_packet limits anchor base (highest_of packets) arrival) ≡ false
  pub within : is_beyond_capacity limits packets (At t) (placed_packet limits anchor base (highest_of packets) arrival) ≡ false

pub chain : (a b c d e f g : Bool) → is_kept (cond a Stranger (cond b Exhausted (cond c Late (cond d Behind (cond e Early (cond f Twice (cond g Span Kept))))))) ≡ true → (a ≡ false) × (b ≡ false) × (c ≡ false) × (d ≡ false) × (e ≡ false) × (f ≡ false) × (g ≡ false)
chain true b c d e f g h = cc
chain false true c d e f g h = cc
chain false false true d e f g h = cc
chain false false false true e f g h = cc
chain false false false false true f g h = cc
chain false false false false false true g h = cc
chain false false false false false false true h = cc
chain false false false false false false false h = (refl, refl, refl, refl, refl, refl, refl)

pub accepted_parts : (limits : Limits) (anchor : Anchor) (base : ℤ) (packets : List Packet) (t : ℕ) (arrival : Arrival) → is_kept (verdict_of limits anchor base packets t arrival) ≡ true → IsKept limits anchor base packets t arrival
accepted_parts limits anchor base packets t arrival h =
    let c = chain _ _ _ _ _ _ _ h in
    record { known = c.0; small = c.1; in_time = c.2; ahead = c.3; nearest = c.4; once = c.5; within = c.6 }

-- a kept packet is buffered
pub buffered_when_accepted : (packets : List Packet) (m : Moment) (p : Packet) → is_behind_playout packets m p ≡ false → is_buffered packets m p ≡ true
buffered_when_accepted packets m p h = ap not (is_played_out-floor packets m p ∙ sym (is_behind_playout-floor packets m p) ∙ h)

-- ---- an arrival that opens an epoch, or doesn't

-- what an arrival that opens the next epoch finds
pub record Opens (limits : Limits) (current : Epoch) (t : ℕ) (arrival : Arrival) : Type 0 where
  pub other : not (arrival.flow == current.anchor.flow) ≡ true
  pub some : nat_lt 0 limits.restart_time ≡ true
  pub empty : list_any (is_buffered current.accepted (At t)) current.accepted ≡ false
  pub silent : nat_le (current.last + limits.restart_time) t ≡ true

pub opens_parts : (limits : Limits) (current : Epoch) (t : ℕ) (arrival : Arrival) → opens_next limits current t arrival ≡ true → Opens limits current t arrival
opens_parts limits current t arrival h =
    let a = and_parts _ _ h in
    let b = and_parts _ _ a.1 in
    let c = and_parts _ _ b.1 in
    record { other = a.0; some = b.0; empty = not_is_true _ c.0; silent = c.1 }
  where
    not_is_true : (b : Bool) → not b ≡ true → b ≡ false
    not_is_true true e = cc
    not_is_true false e = refl

-- it is the first of a new one
pub epochs_opened : (limits : Limits) (current : Epoch) (earlier : List Epoch) (t : ℕ) (arrival : Arrival) → opens_next limits current t arrival ≡ true
    → epochs_after limits (current ∷ earlier) t (Media arrival) ≡ epoch_with limits (new_epoch t arrival) t arrival ∷ current ∷ earlier
epochs_opened limits current earlier t arrival h = ap (λ c. epoch_with limits (cond c (new_epoch t arrival) current) t arrival ∷ cond c (current ∷ earlier) earlier) h

-- any other belongs to the current one
pub epochs_continued : (limits : Limits) (current : Epoch) (earlier : List Epoch) (t : ℕ) (arrival : Arrival) → opens_next limits current t arrival ≡ false
    → epochs_after limits (current ∷ earlier) t (Media arrival) ≡ epoch_with limits current t arrival ∷ earlier
epochs_continued limits current earlier t arrival h = ap (λ c. epoch_with limits (cond c (new_epoch t arrival) current) t arrival ∷ cond c (current ∷ earlier) earlier) h

-- one of the current flow opens none
pub opens_of_flow : (limits : Limits) (current : Epoch) (t : ℕ) (arrival : Arrival) → arrival.flow ≡ current.anchor.flow → opens_next limits current t arrival ≡ false
opens_of_flow limits current t arrival h = ap (λ b. not b && (nat_lt 0 limits.restart_time && (not (list_any (is_buffered current.accepted (At t)) current.accepted) && nat_le (current.last + limits.restart_time) t))) (eq-eqb _ _ h)

-- without a restart time none does
pub opens_never : (limits : Limits) (current : Epoch) (t : ℕ) (arrival : Arrival) → limits.restart_time ≡ 0 → opens_next limits current t arrival ≡ false
opens_never limits current t arrival h =
    ap (λ n. not (arrival.flow == current.anchor.flow) && (nat_lt 0 n && (not (list_any (is_buffered current.accepted (At t)) current.accepted) && nat_le (current.last + n) t))) h
    ∙ never (not (arrival.flow == current.anchor.flow))
  where
    never : (b : Bool) → (b && false) ≡ false
    never true = refl
    never false = refl

-- ---- numbers within an epoch

-- the kept numbers of each epoch are all different
abbrev pub AreDistinct : List Epoch → Type 0
AreDistinct [] = Unit {0}
AreDistinct (epoch ∷ earlier) = IsRising 0 (by_number epoch.accepted) × AreDistinct earlier

distinct_with : (limits : Limits) (epoch : Epoch) (t : ℕ) (arrival : Arrival) → IsRising 0 (by_number epoch.accepted) → IsRising 0 (by_number (epoch_with limits epoch t arrival).accepted)
distinct_with limits epoch t arrival r =
    elim (is_kept (verdict_in limits epoch t arrival)) as (λ c. is_kept (verdict_in limits epoch t arrival) ≡ c → IsRising 0 (by_number (cond c (packet_in limits epoch arrival ∷ epoch.accepted) epoch.accepted))) [
      | true ↦ λ e. rising-insert 0 (packet_in limits epoch arrival) (by_number epoch.accepted) (omega arith) (any-by_number _ epoch.accepted ∙ (accepted_parts limits epoch.anchor (base_of limits epoch) epoch.accepted t arrival e).once) r
      | false ↦ λ e. r
    ] refl

distinct_after : (limits : Limits) (epochs : List Epoch) (t : ℕ) (event : Event) → AreDistinct epochs → AreDistinct (epochs_after limits epochs t event)
distinct_after limits [] t (Media arrival) d = (distinct_with limits (new_epoch t arrival) t arrival tt, tt)
distinct_after limits (current ∷ earlier) t (Media arrival) d =
    elim (opens_next limits current t arrival) as (λ c. AreDistinct (epoch_with limits (cond c (new_epoch t arrival) current) t arrival ∷ cond c (current ∷ earlier) earlier)) [
      | true ↦ (distinct_with limits (new_epoch t arrival) t arrival tt, d)
      | false ↦ (distinct_with limits current t arrival d.0, d.1)
    ]
distinct_after limits epochs t TimeOnly d = d
distinct_after limits epochs t End d = d

pub epochs_distinct : (limits : Limits) (history : List Step) → AreDistinct (epochs_of limits history)
epochs_distinct limits [] = tt
epochs_distinct limits (step ∷ before) = distinct_after limits (epochs_of limits before) (effective_time (step ∷ before)) step.event (epochs_distinct limits before)

-- the kept numbers of the current epoch are all different
pub accepted_rises : (limits : Limits) (history : List Step) → IsRising 0 (by_number (accepted_packets limits history))
accepted_rises limits history = newest (epochs_of limits history) (epochs_distinct limits history)
  where
    newest : (epochs : List Epoch) → AreDistinct epochs → IsRising 0 (by_number (newest_accepted epochs))
    newest [] d = tt
    newest (current ∷ earlier) d = d.0

over_rise : (epochs : List Epoch) → AreDistinct epochs → All (IsRising 0) (playouts_over epochs)
over_rise [] d = All-nil (IsRising 0)
over_rise (epoch ∷ earlier) d = All-push (IsRising 0) (playouts_over earlier) (by_number epoch.accepted) (over_rise earlier d.1) d.0

playouts_rise_at : (epochs : List Epoch) (m : Moment) → AreDistinct epochs → All (IsRising 0) (playouts_at epochs m)
playouts_rise_at [] m d = All-nil (IsRising 0)
playouts_rise_at (current ∷ earlier) m d =
    All-push (IsRising 0) (playouts_over earlier) (filter (is_played_out current.accepted m) (by_number current.accepted)) (over_rise earlier d.1) (rising-filter (is_played_out current.accepted m) 0 (by_number current.accepted) d.0)

-- within an epoch numbers go out strictly rising
pub playouts_rise : (limits : Limits) (history : List Step) → All (IsRising 0) (playouts_of limits history)
playouts_rise limits history = playouts_rise_at (epochs_of limits history) (current_moment history) (epochs_distinct limits history)

joined : (pss : List (List Packet)) (ps : List Packet) → flat_map (λ (xs : List Packet). xs) (pss ++ ps ∷ []) ≡ flat_map (λ (xs : List Packet). xs) pss ++ ps
joined pss ps = flat_map-append (λ (xs : List Packet). xs) pss (ps ∷ []) ∙ ap (λ xs. flat_map (λ (ys : List Packet). ys) pss ++ xs) (append-nil ps)

over_joined : (epochs : List Epoch) → packets_over epochs ≡ flat_map (λ (xs : List Packet). xs) (playouts_over epochs)
over_joined [] = refl
over_joined (epoch ∷ earlier) = ap (λ ps. ps ++ by_number epoch.accepted) (over_joined earlier) ∙ sym (joined (playouts_over earlier) (by_number epoch.accepted))

-- what was played out is that of one epoch after another
pub playout_joined : (limits : Limits) (history : List Step) → played_out_packets limits history ≡ flat_map (λ ps. ps) (playouts_of limits history)
playout_joined limits history = at (epochs_of limits history) (current_moment history)
  where
    at : (epochs : List Epoch) (m : Moment) → playout_of epochs m ≡ flat_map (λ ps. ps) (playouts_at epochs m)
    at [] m = refl
    at (current ∷ earlier) m = ap (λ ps. ps ++ filter (is_played_out current.accepted m) (by_number current.accepted)) (over_joined earlier) ∙ sym (joined (playouts_over earlier) (filter (is_played_out current.accepted m) (by_number current.accepted)))

-- ---- what went out

-- a packet that is kept before its deadline is not among those that are out
played_out-cons : (packets : List Packet) (m : Moment) (p : Packet) → is_past_deadline m p ≡ false → is_buffered packets m p ≡ true → filter (is_played_out (p ∷ packets) m) (by_number (p ∷ packets)) ≡ filter (is_played_out packets m) (by_number packets)
played_out-cons packets m p h held =
    filter_same _ (is_played_out packets m) (λ q. grind (arith, h)) (insert_by_number p (by_number packets))
    ∙ filter-insert_refused (is_played_out packets m) p (by_number packets) (not-true _ held)

-- an arrival puts nothing of its epoch out
playout_with : (limits : Limits) (epoch : Epoch) (t : ℕ) (arrival : Arrival)
    → filter (is_played_out (epoch_with limits epoch t arrival).accepted (At t)) (by_number (epoch_with limits epoch t arrival).accepted) ≡ filter (is_played_out epoch.accepted (At t)) (by_number epoch.accepted)
playout_with limits epoch t arrival =
    let p : Packet = packet_in limits epoch arrival in
    elim (is_kept (verdict_in limits epoch t arrival)) as (λ c. is_kept (verdict_in limits epoch t arrival) ≡ c → filter (is_played_out (cond c (p ∷ epoch.accepted) epoch.accepted) (At t)) (by_number (cond c (p ∷ epoch.accepted) epoch.accepted)) ≡ filter (is_played_out epoch.accepted (At t)) (by_number epoch.accepted)) [
      | true ↦ λ k. let parts = accepted_parts limits epoch.anchor (base_of limits epoch) epoch.accepted t arrival k in
          played_out-cons epoch.accepted (At t) p parts.in_time (buffered_when_accepted epoch.accepted (At t) p parts.ahead)
      | false ↦ λ k. refl
    ] refl

all_pass : (f : Packet → Bool) (ps : List Packet) → list_any (λ p. not (f p)) ps ≡ false → filter f ps ≡ ps
all_pass f [] h = refl
all_pass f (p ∷ ps) h =
    let parts = or_parts (not (f p)) (list_any (λ q. not (f q)) ps) h in
    ap (λ c. cond c (p ∷ filter f ps) (filter f ps)) (passes (f p) parts.0) ∙ ap (λ qs. p ∷ qs) (all_pass f ps parts.1)
  where
    passes : (b : Bool) → not b ≡ false → b ≡ true
    passes true e = refl
    passes false e = cc

-- where nothing waits all that was kept is out
pub all_played_out : (packets : List Packet) (m : Moment) → list_any (is_buffered packets m) packets ≡ false → filter (is_played_out packets m) (by_number packets) ≡ by_number packets
all_played_out packets m h = all_pass (is_played_out packets m) (by_number packets) (any-by_number (is_buffered packets m) packets ∙ h)

-- an arrival puts nothing out that its time alone does not
pub playout_arrival : (limits : Limits) (epochs : List Epoch) (t : ℕ) (arrival : Arrival) → playout_of (epochs_after limits epochs t (Media arrival)) (At t) ≡ playout_of epochs (At t)
playout_arrival limits [] t arrival = playout_with limits (new_epoch t arrival) t arrival
playout_arrival limits (current ∷ earlier) t arrival =
    elim (opens_next limits current t arrival) as (λ c. opens_next limits current t arrival ≡ c → playout_of (epochs_after limits (current ∷ earlier) t (Media arrival)) (At t) ≡ playout_of (current ∷ earlier) (At t)) [
      | true ↦ λ e. ap (λ es. playout_of es (At t)) (epochs_opened limits current earlier t arrival e)
          ∙ ap (λ ps. packets_over (current ∷ earlier) ++ ps) (playout_with limits (new_epoch t arrival) t arrival)
          ∙ append-nil (packets_over earlier ++ by_number current.accepted)
          ∙ ap (λ ps. packets_over earlier ++ ps) (sym (all_played_out current.accepted (At t) (opens_parts limits current t arrival e).empty))
      | false ↦ λ e. ap (λ es. playout_of es (At t)) (epochs_continued limits current earlier t arrival e)
          ∙ ap (λ ps. packets_over earlier ++ ps) (playout_with limits current t arrival)
    ] refl

-- what a later moment adds to what was out
pub record Grows (before after : List Packet) : Type 0 where
  pub more : List Packet
  pub behind : after ≡ before ++ more

grows_later : (epochs : List Epoch) (m later : Moment) → IsLater m later → Grows (playout_of epochs m) (playout_of epochs later)
grows_later [] m later h = record { more = []; behind = refl }
grows_later (current ∷ earlier) m later h =
    let more : List Packet = filter (is_below (playout_floor current.accepted later)) (filter (is_buffered current.accepted m) (by_number current.accepted)) in
    record {
      more = more;
      behind = ap (λ ps. packets_over earlier ++ ps) (played_out_later m later h current.accepted) ∙ sym (append_assoc (packets_over earlier) (filter (is_played_out current.accepted m) (by_number current.accepted)) more);
    }

grows_after : (limits : Limits) (epochs : List Epoch) (t before : ℕ) (event : Event) → before ≤ t → (ended : Bool) → ended ≡ is_end event → Grows (playout_of epochs (At before)) (playout_of (epochs_after limits epochs t event) (cond ended Ever (At t)))
grows_after limits epochs t before (Media arrival) le true e = cc
grows_after limits epochs t before (Media arrival) le false e =
    let g = grows_later epochs (At before) (At t) (later_At before t le) in
    record { more = g.more; behind = playout_arrival limits epochs t arrival ∙ g.behind }
grows_after limits epochs t before TimeOnly le true e = cc
grows_after limits epochs t before TimeOnly le false e = grows_later epochs (At before) (At t) (later_At before t le)
grows_after limits epochs t before End le true e = grows_later epochs (At before) Ever (later_Ever (At before))
grows_after limits epochs t before End le false e = cc

-- what is out stays as it is: a step only adds behind it
pub played_out_grows : (limits : Limits) (step : Step) (history : List Step) → has_ended history ≡ false → (more : List Packet) × (played_out_packets limits (step ∷ history) ≡ played_out_packets limits history ++ more)
played_out_grows limits step history going =
    let m : current_moment history ≡ At (effective_time history) = now_open history going in
    let e : (is_end step.event || has_ended history) ≡ is_end step.event = or_going (is_end step.event) (has_ended history) going in
    let g = grows_after limits (epochs_of limits history) (effective_time (step ∷ history)) (effective_time history) step.event (omega arith) (is_end step.event || has_ended history) e in
    (g.more, g.behind ∙ ap (λ n. playout_of (epochs_of limits history) n ++ g.more) (sym m))
  where
    or_going : (a b : Bool) → b ≡ false → (a || b) ≡ a
    or_going true b h = refl
    or_going false b h = h

-- ---- an arrival after the time has moved

-- an arrival puts nothing out that its time alone does not
pub played_out_arrival : (limits : Limits) (history : List Step) (tick at : ℕ) (arrival : Arrival) → has_ended history ≡ false → at ≡ max tick (effective_time history) → played_out_packets limits (media_step tick arrival ∷ history) ≡ played_out_packets limits (time_step at ∷ history)
played_out_arrival limits history tick at arrival going e =
    let t : ℕ = max tick (effective_time history) in
    let same : max at (effective_time history) ≡ t = omega arith in
    let epochs : List Epoch = epochs_of limits history in
    let now : current_moment (media_step tick arrival ∷ history) ≡ At t = ap (λ c. cond c Ever (At t)) going in
    let then : current_moment (time_step at ∷ history) ≡ At t = ap (λ c. cond c Ever (At (max at (effective_time history)))) going ∙ ap At same in
    ap (playout_of (epochs_of limits (media_step tick arrival ∷ history))) now
    ∙ playout_arrival limits epochs t arrival
    ∙ sym (ap (playout_of epochs) then)
