-- A copy of what was sent, as the receiver places and keeps it.
use Rattle.std.proofs.Common.{◌≡◌, ℕ, ◌+◌, ◌-◌, ◌*◌, ◌/◌, ◌%◌, ◌^◌, ◌<◌, ◌≤◌, max, pos, Bool, true, false, cond, not, ◌||◌, ◌&&◌, List, [], ◌∷◌, Some, refl, sym, ◌∙◌, ap, map, arith, lit≤}
use Rattle.std.specs.Prelude.{ℤ, nat_lt, nat_le, ◌==◌, int_le, int_lt, ◌+ℤ◌, ◌-ℤ◌}
use Rattle.std.proofs.lemmas.Bool.{ltb-true, ltb-false, true≢false, eq-eqb, or_left, or_right, lt-leb}
use Rattle.std.proofs.lemmas.Int.{ints}
use Rattle.std.proofs.Math.Nat.{div-add-mod, add-mul-mod_self_left}
use Rattle.std.specs.List.{list_any}
use Rattle.seq_unwrap.specs.declared.width.Width.{Width}
use Rattle.seq_unwrap.specs.declared.width.Width.TheVariants.{W16, W32}
use Rattle.receiver_rules.specs.declared.limits.Limits.{Limits}
use Rattle.receiver_rules.specs.declared.anchor.Anchor.{Anchor}
use Rattle.receiver_rules.specs.declared.anchor.Highest.{Highest}
use Rattle.receiver_rules.specs.declared.verdict.Verdict.TheVariants.{Kept, Stranger, Exhausted, Late, Behind, Early, Twice, Span}
use Rattle.seq_unwrap.specs.Nearest.{cycle_of, nearest}
use Rattle.seq_unwrap.proofs.NearestLemmas.{nearest_is}
use Rattle.receiver_rules.specs.Clock.{transit_of, clock_base}
use Rattle.receiver_rules.specs.Packets.{Packet, At, placed_packet, deadline_of, is_past_deadline, is_behind_playout, is_duplicate, is_beyond_capacity, is_kept, higher, highest_of, distance, is_buffered}
use Rattle.receiver_rules.specs.Epochs.{Epoch, verdict_in, packet_in, epoch_with}
use Rattle.receiver_rules.specs.Sent.{SentStream, Start, HasSteadyTimestamps, IsNear, copy_of, number_deadline, greatest_of}
use Rattle.receiver_rules.specs.SentEpochs.{Reach, numbers_in, SentEpoch, new_sent_epoch, copy_deadline, copy_transit, is_reached, is_number_out, reaches, sent_epoch_with}
use Rattle.receiver_rules.proofs.PacketLemmas.{is_behind_playout-floor, is_played_out-floor}

-- ---- numbers and timestamps, as the receiver counts them

-- what lies below the first number's own cycle
abbrev pub cycle_base : ℕ → ℕ → ℕ
cycle_base cycle first = cycle * (first / cycle)

-- a number, counted from the first one's place, 2^40 or 2^60
abbrev pub counted_from : ℕ → ℕ → ℕ → ℕ
counted_from place base n = place + n - base

abbrev pub counted : ℕ → ℕ → ℕ
counted base n = counted_from (2 ^ 40) base n

cycle_base_le : (cycle first : ℕ) → cycle_base cycle first ≤ first
cycle_base_le cycle first = omega (arith, div-add-mod first cycle)

cycle_base_rest : (cycle first : ℕ) → cycle_base cycle first + first % cycle ≡ first
cycle_base_rest cycle first = div-add-mod first cycle

-- its rest by the cycle is the number's own
counted_rest : (place cycle k first n : ℕ) → 0 < cycle → place ≡ cycle * k → cycle_base cycle first ≤ place + n → counted_from place (cycle_base cycle first) n % cycle ≡ n % cycle
counted_rest place cycle k first n some e le =
    let sum : counted_from place (cycle_base cycle first) n + cycle * (first / cycle) ≡ n + cycle * k = omega arith in
    sym (add-mul-mod_self_left (counted_from place (cycle_base cycle first) n) cycle (first / cycle)) ∙ ap (λ m. m % cycle) sum ∙ add-mul-mod_self_left n cycle k

-- a number near the greatest is unwrapped to itself
unwraps : (place cycle half k first best n : ℕ) → cycle ≡ half + half → 1 ≤ half → half ≤ 2 ^ 31 → 2 ^ 40 ≤ place → place ≡ cycle * k → first ≤ best → best ≤ n + half → n < best + half
    → nearest cycle (counted_from place (cycle_base cycle first) best) (n % cycle) ≡ counted_from place (cycle_base cycle first) n
unwraps place cycle half k first best n e some small far even since low high =
    let le = cycle_base_le cycle first in
    ap (nearest cycle (counted_from place (cycle_base cycle first) best)) (sym (counted_rest place cycle k first n (omega arith) even (omega arith)))
    ∙ nearest_is cycle half (counted_from place (cycle_base cycle first) best) (counted_from place (cycle_base cycle first) n) e some (omega arith) (omega arith) (omega arith)

-- the two widths
unwraps_width : (width : Width) (first best n : ℕ) → first ≤ best → best ≤ n + cycle_of width / 2 → n < best + cycle_of width / 2
    → nearest (cycle_of width) (counted (cycle_base (cycle_of width) first) best) (n % cycle_of width) ≡ counted (cycle_base (cycle_of width) first) n
unwraps_width W16 first best n since low high = unwraps (2 ^ 40) 65536 32768 16777216 first best n refl (lit≤ tt) (lit≤ tt) (lit≤ tt) refl since low high
unwraps_width W32 first best n since low high = unwraps (2 ^ 40) 4294967296 2147483648 256 first best n refl (lit≤ tt) (lit≤ tt) (lit≤ tt) refl since low high

half_small : (width : Width) → cycle_of width / 2 ≤ 2 ^ 31
half_small W16 = lit≤ tt
half_small W32 = lit≤ tt

-- ---- the packet of a number that was reached

abbrev pub number_then : SentStream → Start → ℕ → ℕ
number_then p s n = counted (cycle_base (cycle_of p.width) s.number) n

abbrev pub timestamp_then : SentStream → Start → ℕ → ℕ
timestamp_then p s n = counted_from (2 ^ 60) (cycle_base 4294967296 (p.timestamp s.number)) (p.timestamp n)

abbrev pub packet_for : SentStream → Start → Reach → Packet
packet_for p s r = record { number = number_then p s r.number; timestamp = timestamp_then p s r.number; deadline = r.deadline; payload = p.payload r.number }

abbrev pub packets_for : SentStream → Start → List Reach → List Packet
packets_for p s rs = map (packet_for p s) rs

-- each number counts from 2^40
abbrev pub AllCounted : ℕ → List ℕ → Type 0
AllCounted base [] = Unit {0}
AllCounted base (n ∷ ns) = (base ≤ 2 ^ 40 + n) × AllCounted base ns

abbrev pub has : ℕ → List ℕ → Bool
has n ns = list_any (λ m. m == n) ns

-- the numbers are all different
abbrev pub AreDifferent : List ℕ → Type 0
AreDifferent [] = Unit {0}
AreDifferent (n ∷ ns) = (has n ns ≡ false) × AreDifferent ns

pub reached_numbers_in : (rs : List Reach) (n : ℕ) → is_reached rs n ≡ has n (numbers_in rs)
reached_numbers_in [] n = refl
reached_numbers_in (r ∷ rs) n = ap (λ b. (r.number == n) || b) (reached_numbers_in rs n)

pub greatest_has : (n : ℕ) (ns : List ℕ) → has n ns ≡ true → n ≤ greatest_of ns
greatest_has n [] e = cc
greatest_has n (m ∷ ms) e = grind (arith, greatest_has n ms)

greatest_counted : (base : ℕ) (ns : List ℕ) (n : ℕ) → AllCounted base (n ∷ ns) → base ≤ 2 ^ 40 + greatest_of (n ∷ ns)
greatest_counted base ns n h = omega (arith, h.0)

left_is : (n g : ℕ) → g ≤ n → n ≡ max n g
left_is n g h = omega arith

right_is : (n g : ℕ) → n ≤ g → g ≡ max n g
right_is n g h = omega arith

abbrev pub highest_at : SentStream → Start → ℕ → Highest
highest_at p s n = record { number = number_then p s n; timestamp = timestamp_then p s n }

higher_at : (p : SentStream) (s : Start) (n g : ℕ) → cycle_base (cycle_of p.width) s.number ≤ 2 ^ 40 + n → cycle_base (cycle_of p.width) s.number ≤ 2 ^ 40 + g → (c : Bool) → nat_lt (number_then p s g) (number_then p s n) ≡ c → cond c (highest_at p s n) (highest_at p s g) ≡ highest_at p s (max n g)
higher_at p s n g hn hg true e = ap (highest_at p s) (left_is n g (let l : number_then p s g < number_then p s n = ltb-true _ _ e in omega arith))
higher_at p s n g hn hg false e = ap (highest_at p s) (right_is n g (let l : number_then p s n ≤ number_then p s g = ltb-false _ _ e in omega arith))

-- the highest kept number is the greatest
highest-packets : (p : SentStream) (s : Start) (r : Reach) (rs : List Reach) → AllCounted (cycle_base (cycle_of p.width) s.number) (numbers_in (r ∷ rs))
    → highest_of (packets_for p s (r ∷ rs)) ≡ Some (highest_at p s (greatest_of (numbers_in (r ∷ rs))))
highest-packets p s r [] h = ap (λ g. Some (highest_at p s g)) (left_is r.number 0 (omega arith))
highest-packets p s r (k ∷ ks) h =
    ap (λ o. Some (higher (packet_for p s r) o)) (highest-packets p s k ks h.1)
    ∙ ap Some (higher_at p s r.number (greatest_of (numbers_in (k ∷ ks))) h.0 (greatest_counted (cycle_base (cycle_of p.width) s.number) (numbers_in ks) k.number h.1) (nat_lt (number_then p s (greatest_of (numbers_in (k ∷ ks)))) (number_then p s r.number)) refl)

highest_some : (p : SentStream) (s : Start) (x : ℕ) (rs : List Reach) → has x (numbers_in rs) ≡ true → AllCounted (cycle_base (cycle_of p.width) s.number) (numbers_in rs)
    → highest_of (packets_for p s rs) ≡ Some (highest_at p s (greatest_of (numbers_in rs)))
highest_some p s x [] e h = cc
highest_some p s x (r ∷ rs) e h = highest-packets p s r rs h

-- ---- played out and buffered, in sent numbers

same_order_le : (base m k : ℕ) → base ≤ 2 ^ 40 + m → base ≤ 2 ^ 40 + k → nat_le (counted base m) (counted base k) ≡ nat_le m k
same_order_le base m k hm hk = grind arith

-- a number is out where its packet is
pub out_is : (p : SentStream) (s : Start) (t m : ℕ) → cycle_base (cycle_of p.width) s.number ≤ 2 ^ 40 + m → (rs : List Reach) → AllCounted (cycle_base (cycle_of p.width) s.number) (numbers_in rs)
    → list_any (λ k. nat_le (number_then p s m) k.number && is_past_deadline (At t) k) (packets_for p s rs) ≡ is_number_out rs t m
out_is p s t m hm [] h = refl
out_is p s t m hm (r ∷ rs) h =
    ap (λ b. (b && int_le r.deadline (pos t)) || list_any (λ k. nat_le (number_then p s m) k.number && is_past_deadline (At t) k) (packets_for p s rs))
    (same_order_le (cycle_base (cycle_of p.width) s.number) m r.number hm h.0)
    ∙ ap (λ b. (nat_le m r.number && int_le r.deadline (pos t)) || b) (out_is p s t m hm rs h.1)

distance_counted : (base m n : ℕ) → base ≤ 2 ^ 40 + m → base ≤ 2 ^ 40 + n → distance (counted base m) (counted base n) ≡ distance m n
distance_counted base m n hm hn = omega arith

-- some buffered packet passes a test on numbers where some number passes it that was reached and is not out
buffered_among : (p : SentStream) (s : Start) (t : ℕ) (rs : List Reach) → AllCounted (cycle_base (cycle_of p.width) s.number) (numbers_in rs) → (f : Packet → Bool) (g : ℕ → Bool)
    → ((r : Reach) → cycle_base (cycle_of p.width) s.number ≤ 2 ^ 40 + r.number → f (packet_for p s r) ≡ g r.number)
    → (ms : List Reach) → AllCounted (cycle_base (cycle_of p.width) s.number) (numbers_in ms)
    → list_any (λ k. is_buffered (packets_for p s rs) (At t) k && f k) (packets_for p s ms) ≡ list_any (λ j. not (is_number_out rs t j.number) && g j.number) ms
buffered_among p s t rs h f g same [] hm = refl
buffered_among p s t rs h f g same (m ∷ ms) hm =
    ap (λ b. (not b && f (packet_for p s m)) || list_any (λ k. is_buffered (packets_for p s rs) (At t) k && f k) (packets_for p s ms)) (out_is p s t m.number hm.0 rs h)
    ∙ ap (λ b. (not (is_number_out rs t m.number) && b) || list_any (λ k. is_buffered (packets_for p s rs) (At t) k && f k) (packets_for p s ms)) (same m hm.0)
    ∙ ap (λ b. (not (is_number_out rs t m.number) && g m.number) || b) (buffered_among p s t rs h f g same ms hm.1)

-- what waits
pub waiting_among : (p : SentStream) (s : Start) (t : ℕ) (rs : List Reach) → AllCounted (cycle_base (cycle_of p.width) s.number) (numbers_in rs)
    → (ms : List Reach) → AllCounted (cycle_base (cycle_of p.width) s.number) (numbers_in ms)
    → list_any (is_buffered (packets_for p s rs) (At t)) (packets_for p s ms) ≡ list_any (λ j. not (is_number_out rs t j.number)) ms
waiting_among p s t rs h [] hm = refl
waiting_among p s t rs h (m ∷ ms) hm =
    ap (λ b. not b || list_any (is_buffered (packets_for p s rs) (At t)) (packets_for p s ms)) (out_is p s t m.number hm.0 rs h)
    ∙ ap (λ b. not (is_number_out rs t m.number) || b) (waiting_among p s t rs h ms hm.1)

twice_packets : (p : SentStream) (s : Start) (n : ℕ) (rs : List Reach) → cycle_base (cycle_of p.width) s.number ≤ 2 ^ 40 + n → AllCounted (cycle_base (cycle_of p.width) s.number) (numbers_in rs)
    → list_any (λ k. k.number == number_then p s n) (packets_for p s rs) ≡ is_reached rs n
twice_packets p s n [] hn h = refl
twice_packets p s n (r ∷ rs) hn h =
    ap (λ b. b || list_any (λ k. k.number == number_then p s n) (packets_for p s rs)) (same_counted (cycle_base (cycle_of p.width) s.number) r.number n h.0 hn)
    ∙ ap (λ b. (r.number == n) || b) (twice_packets p s n rs hn h.1)
  where
    same_counted : (base m n : ℕ) → base ≤ 2 ^ 40 + m → base ≤ 2 ^ 40 + n → (counted base m == counted base n) ≡ (m == n)
    same_counted base m n hm hn = grind arith

-- ---- one copy that comes

abbrev pub anchor_for : SentStream → Start → Anchor
anchor_for p s = record { flow = p.flow; time = s.time; number = 2 ^ 40 + s.number % cycle_of p.width; timestamp = 2 ^ 60 + p.timestamp s.number % 4294967296 }

-- the epoch of the numbers reached in it
abbrev pub epoch_for : SentStream → SentEpoch → Epoch
epoch_for p s = record { anchor = anchor_for p s.start; accepted = packets_for p s.start s.reached; last = s.last; transits = s.transits }

-- a copy that comes now
abbrev pub reach_of : Limits → SentStream → SentEpoch → ℕ → Reach
reach_of limits p s n = record { number = n; deadline = copy_deadline limits p s n }

same_deadline : (clock : ℤ) (delay first rest base timestamp : ℕ) → base + rest ≡ first → base ≤ 2 ^ 60 + timestamp
    → clock +ℤ (pos (2 ^ 60 + timestamp - base + delay) -ℤ pos (2 ^ 60 + rest)) ≡ clock +ℤ (pos (timestamp + delay) -ℤ pos first)
same_deadline clock delay first rest base timestamp e le = omega (arith, ints)

same_transit : (t first rest base timestamp : ℕ) → base + rest ≡ first → base ≤ 2 ^ 60 + timestamp
    → pos (t + (2 ^ 60 + rest)) -ℤ pos (2 ^ 60 + timestamp - base) ≡ pos (t + first) -ℤ pos timestamp
same_transit t first rest base timestamp e le = omega (arith, ints)

packet_same : (limits : Limits) (p : SentStream) (s : SentEpoch) (n number timestamp : ℕ) → number ≡ number_then p s.start n → timestamp ≡ timestamp_then p s.start n → cycle_base 4294967296 (p.timestamp s.start.number) ≤ 2 ^ 60 + p.timestamp n
    → record { number = number; timestamp = timestamp; deadline = deadline_of limits (anchor_for p s.start) (clock_base limits s.start.time s.transits) timestamp; payload = p.payload n } ≡ packet_for p s.start (reach_of limits p s n)
packet_same limits p s n number timestamp e f le =
    let clock : ℤ = clock_base limits s.start.time s.transits in
    ap (λ k. record { number = k; timestamp = timestamp; deadline = deadline_of limits (anchor_for p s.start) clock timestamp; payload = p.payload n }) e
    ∙ ap (λ k. record { number = number_then p s.start n; timestamp = k; deadline = deadline_of limits (anchor_for p s.start) clock k; payload = p.payload n }) f
    ∙ ap (λ d. record { number = number_then p s.start n; timestamp = timestamp_then p s.start n; deadline = d; payload = p.payload n })
    (same_deadline clock limits.playout_delay (p.timestamp s.start.number) (p.timestamp s.start.number % 4294967296) (cycle_base 4294967296 (p.timestamp s.start.number)) (p.timestamp n) (cycle_base_rest 4294967296 (p.timestamp s.start.number)) le)

-- a copy is placed where its number belongs
pub record IsPlaced (limits : Limits) (p : SentStream) (s : SentEpoch) (n : ℕ) (again : Bool) : Type 0 where
  pub low : cycle_base (cycle_of p.width) s.start.number ≤ 2 ^ 40 + n
  pub timestamp : cycle_base 4294967296 (p.timestamp s.start.number) ≤ 2 ^ 60 + p.timestamp n
  pub small : number_then p s.start n < 2 ^ 62
  pub at : placed_packet limits (anchor_for p s.start) (clock_base limits s.start.time s.transits) (highest_of (packets_for p s.start s.reached)) (copy_of p n again) ≡ packet_for p s.start (reach_of limits p s n)

-- what holds of an epoch's numbers
pub record IsCounted (p : SentStream) (s : SentEpoch) : Type 0 where
  pub counted : AllCounted (cycle_base (cycle_of p.width) s.start.number) (numbers_in s.reached)
  pub different : AreDifferent (numbers_in s.reached)

rest_small : (width : Width) (n : ℕ) → n % cycle_of width < 2 ^ 32
rest_small W16 n = omega arith
rest_small W32 n = omega arith

pub first_placed : (limits : Limits) (p : SentStream) (t n : ℕ) (again : Bool) → IsPlaced limits p (new_sent_epoch t n) n again
first_placed limits p t n again =
    let le : cycle_base (cycle_of p.width) n ≤ n = cycle_base_le (cycle_of p.width) n in
    let rest = cycle_base_rest (cycle_of p.width) n in
    let few = rest_small p.width n in
    let le_timestamp : cycle_base 4294967296 (p.timestamp n) ≤ p.timestamp n = cycle_base_le 4294967296 (p.timestamp n) in
    let rest_timestamp = cycle_base_rest 4294967296 (p.timestamp n) in
    record {
      low = omega arith;
      timestamp = omega arith;
      small = omega arith;
      at = packet_same limits p (new_sent_epoch t n) n _ _ (omega arith) (omega arith) (omega arith);
    }

-- one near the greatest number reached is
pub later_placed : (limits : Limits) (p : SentStream) (s : SentEpoch) → HasSteadyTimestamps p → (n : ℕ) (again : Bool) → IsCounted p s → has s.start.number (numbers_in s.reached) ≡ true → IsNear p s.start.number (greatest_of (numbers_in s.reached)) n → IsPlaced limits p s n again
later_placed limits p s steady n again c some near =
    let best : ℕ = greatest_of (numbers_in s.reached) in
    let since : s.start.number ≤ best = greatest_has s.start.number (numbers_in s.reached) some in
    let le : cycle_base (cycle_of p.width) s.start.number ≤ s.start.number = cycle_base_le (cycle_of p.width) s.start.number in
    let half = half_small p.width in
    let low = near.low in
    let rest = cycle_base_rest (cycle_of p.width) s.start.number in
    let bound = near.small in
    let first : p.timestamp s.start.number ≤ p.timestamp best = steady s.start.number best since in
    let le_timestamp : cycle_base 4294967296 (p.timestamp s.start.number) ≤ p.timestamp s.start.number = cycle_base_le 4294967296 (p.timestamp s.start.number) in
    let low_timestamp = near.timestamp_low in
    let below : cycle_base 4294967296 (p.timestamp s.start.number) ≤ 2 ^ 60 + p.timestamp n = omega arith in
    record {
      low = omega arith;
      timestamp = below;
      small = omega arith;
      at = ap (λ o. placed_packet limits (anchor_for p s.start) (clock_base limits s.start.time s.transits) o (copy_of p n again)) (highest_some p s.start s.start.number s.reached some c.counted)
          ∙ packet_same limits p s n _ _
          (unwraps_width p.width s.start.number best n since near.low near.high)
          (unwraps (2 ^ 60) 4294967296 2147483648 268435456 (p.timestamp s.start.number) (p.timestamp best) (p.timestamp n) refl (lit≤ tt) (lit≤ tt) (lit≤ tt) refl first near.timestamp_low near.timestamp_high)
          below;
    }

reach_chain : (a b c d e f g : Bool) → a ≡ false → b ≡ false
    → is_kept (cond a Stranger (cond b Exhausted (cond c Late (cond d Behind (cond e Early (cond f Twice (cond g Span Kept))))))) ≡ (not c && (not d && (not e && (not f && not g))))
reach_chain true b c d e f g p q = absurd (true≢false p)
reach_chain false true c d e f g p q = absurd (true≢false q)
reach_chain false false true d e f g p q = refl
reach_chain false false false true e f g p q = refl
reach_chain false false false false true f g p q = refl
reach_chain false false false false false true g p q = refl
reach_chain false false false false false false true p q = refl
reach_chain false false false false false false false p q = refl

-- the verdict is Kept exactly where the copy reaches its number
pub accepted_is_reached : (limits : Limits) (p : SentStream) (s : SentEpoch) (t n : ℕ) (again : Bool) → IsCounted p s → IsPlaced limits p s n again
    → is_kept (verdict_in limits (epoch_for p s) t (copy_of p n again)) ≡ reaches limits p s t n
accepted_is_reached limits p s t n again c f =
    let ks : List Packet = packets_for p s.start s.reached in
    let q : Packet = packet_for p s.start (reach_of limits p s n) in
    let late : Bool = int_le (copy_deadline limits p s n) (pos t) in
    let early : Bool = int_lt (pos (t + 2 * limits.playout_delay)) (copy_deadline limits p s n) in
    ap (λ r. is_kept (cond (not (p.flow == p.flow)) Stranger (cond (nat_le (2 ^ 62) r.number) Exhausted (cond (int_le r.deadline (pos t)) Late (cond (is_behind_playout ks (At t) r) Behind (cond (int_lt (pos (t + 2 * limits.playout_delay)) r.deadline) Early (cond (is_duplicate ks r) Twice (cond (is_beyond_capacity limits ks (At t) r) Span Kept)))))))) f.at
    ∙ reach_chain _ _ _ _ _ _ _
    (ap not (eq-eqb p.flow p.flow refl))
    (lt-leb _ _ f.small)
    ∙ ap (λ b. not late && (not b && (not early && (not (is_duplicate ks q) && not (is_beyond_capacity limits ks (At t) q)))))
    (is_behind_playout-floor ks (At t) q ∙ sym (is_played_out-floor ks (At t) q) ∙ out_is p s.start t n f.low s.reached c.counted)
    ∙ ap (λ b. not late && (not (is_number_out s.reached t n) && (not early && (not b && not (is_beyond_capacity limits ks (At t) q)))))
    (twice_packets p s.start n s.reached f.low c.counted)
    ∙ ap (λ b. not late && (not (is_number_out s.reached t n) && (not early && (not (is_reached s.reached n) && not b))))
    (buffered_among p s.start t s.reached c.counted (λ k. nat_le limits.capacity (distance k.number q.number)) (λ m. nat_le limits.capacity (distance m n))
    (λ r h. ap (nat_le limits.capacity) (distance_counted (cycle_base (cycle_of p.width) s.start.number) r.number n h f.low)) s.reached c.counted)

packets_cases : (p : SentStream) (s : Start) (r : Reach) (rs : List Reach) (c : Bool) → cond c (packet_for p s r ∷ packets_for p s rs) (packets_for p s rs) ≡ packets_for p s (cond c (r ∷ rs) rs)
packets_cases p s r rs true = refl
packets_cases p s r rs false = refl

-- what a copy leaves of its epoch
pub epoch_copied : (limits : Limits) (p : SentStream) (s : SentEpoch) (t n : ℕ) (again : Bool) → IsCounted p s → IsPlaced limits p s n again
    → epoch_with limits (epoch_for p s) t (copy_of p n again) ≡ epoch_for p (sent_epoch_with limits p s t n again)
epoch_copied limits p s t n again c f =
    let ks : List Packet = packets_for p s.start s.reached in
    let r : Reach = reach_of limits p s n in
    let a : Anchor = anchor_for p s.start in
    let after : Bool → Packet → Epoch = λ kept q. record { anchor = a; accepted = cond kept (q ∷ ks) ks; last = cond kept t s.last; transits = cond (kept && not again) (transit_of a t q.timestamp ∷ s.transits) s.transits } in
    let leaves : List Packet → ℤ → Epoch = λ ps x. record { anchor = a; accepted = ps; last = cond (reaches limits p s t n) t s.last; transits = cond (reaches limits p s t n && not again) (x ∷ s.transits) s.transits } in
    ap (λ k. after k (packet_in limits (epoch_for p s) (copy_of p n again))) (accepted_is_reached limits p s t n again c f)
    ∙ ap (after (reaches limits p s t n)) f.at
    ∙ ap (λ (x : ℤ). leaves (cond (reaches limits p s t n) (packet_for p s.start r ∷ ks) ks) x)
    (same_transit t (p.timestamp s.start.number) (p.timestamp s.start.number % 4294967296) (cycle_base 4294967296 (p.timestamp s.start.number)) (p.timestamp n) (cycle_base_rest 4294967296 (p.timestamp s.start.number)) f.timestamp)
    ∙ ap (λ (ps : List Packet). leaves ps (copy_transit p s.start t n))
    (packets_cases p s.start r s.reached (reaches limits p s t n))

once_when : (a b c d e : Bool) → (a && (b && (c && (not d && e)))) ≡ true → d ≡ false
once_when false b c d e h = cc
once_when true false c d e h = cc
once_when true true false d e h = cc
once_when true true true true e h = cc
once_when true true true false e h = refl

-- a number that is reached was not before
new_when_reached : (limits : Limits) (p : SentStream) (s : SentEpoch) (t n : ℕ) → reaches limits p s t n ≡ true → has n (numbers_in s.reached) ≡ false
new_when_reached limits p s t n e = sym (reached_numbers_in s.reached n) ∙ once_when (not (int_le (copy_deadline limits p s n) (pos t))) (not (is_number_out s.reached t n)) (not (int_lt (pos (t + 2 * limits.playout_delay)) (copy_deadline limits p s n))) (is_reached s.reached n)
    (not (list_any (λ j. not (is_number_out s.reached t j.number) && nat_le limits.capacity (distance j.number n)) s.reached)) e

-- and of its numbers
pub counted_copied : (limits : Limits) (p : SentStream) (s : SentEpoch) (t n : ℕ) (again : Bool) → IsCounted p s → cycle_base (cycle_of p.width) s.start.number ≤ 2 ^ 40 + n
    → IsCounted p (sent_epoch_with limits p s t n again)
counted_copied limits p s t n again c low =
    record { counted = counted (reaches limits p s t n); different = different (reaches limits p s t n) (new_when_reached limits p s t n) }
  where
    counted : (b : Bool) → AllCounted (cycle_base (cycle_of p.width) s.start.number) (numbers_in (cond b (reach_of limits p s n ∷ s.reached) s.reached))
    counted true = (low, c.counted)
    counted false = c.counted

    different : (b : Bool) → (b ≡ true → has n (numbers_in s.reached) ≡ false) → AreDifferent (numbers_in (cond b (reach_of limits p s n ∷ s.reached) s.reached))
    different true h = (h refl, c.different)
    different false h = c.different

some_cases : (limits : Limits) (p : SentStream) (s : SentEpoch) (n x : ℕ) (b : Bool) → has x (numbers_in s.reached) ≡ true → has x (numbers_in (cond b (reach_of limits p s n ∷ s.reached) s.reached)) ≡ true
some_cases limits p s n x true h = or_right _ _ h
some_cases limits p s n x false h = h

-- the first number stays among those that were reached
pub some_copied : (limits : Limits) (p : SentStream) (s : SentEpoch) (t n : ℕ) (again : Bool) → has s.start.number (numbers_in s.reached) ≡ true → has s.start.number (numbers_in (sent_epoch_with limits p s t n again).reached) ≡ true
some_copied limits p s t n again h = some_cases limits p s n s.start.number (reaches limits p s t n) h

-- and is one of them from the first copy on
pub some_first : (limits : Limits) (p : SentStream) (t n : ℕ) (again : Bool) → 1 ≤ limits.playout_delay → has n (numbers_in (sent_epoch_with limits p (new_sent_epoch t n) t n again).reached) ≡ true
some_first limits p t n again some =
    ap (λ b. has n (numbers_in (cond b (reach_of limits p (new_sent_epoch t n) n ∷ []) []))) (first_reaches t limits.playout_delay (p.timestamp n) some)
    ∙ or_left _ _ (eq-eqb n n refl)
  where
    first_reaches : (t delay timestamp : ℕ) → 1 ≤ delay → (not (int_le (pos t +ℤ (pos (timestamp + delay) -ℤ pos timestamp)) (pos t)) && (true && (not (int_lt (pos (t + 2 * delay)) (pos t +ℤ (pos (timestamp + delay) -ℤ pos timestamp))) && (true && true)))) ≡ true
    first_reaches t delay timestamp some = grind (arith, ints)

-- each number's deadline is that which its timestamp gives it from the start on
abbrev pub AllFixed : Limits → SentStream → Start → List Reach → Type 0
AllFixed limits p s [] = Unit {0}
AllFixed limits p s (r ∷ rs) = (r.deadline ≡ number_deadline limits p s r.number) × AllFixed limits p s rs
