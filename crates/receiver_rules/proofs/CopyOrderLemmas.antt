-- Copies by rising number, and what all that was kept is at the end.
use Rattle.std.proofs.Common.{◌≡◌, ℕ, ◌+◌, ◌^◌, ◌≤◌, Bool, true, false, cond, ◌||◌, ◌&&◌, List, [], ◌∷◌, ◌++◌, refl, sym, ◌∙◌, ap, map, arith, ⊎_elim}
use Rattle.std.specs.Prelude.{nat_lt, ◌==◌, if◌then◌else◌}
use Rattle.std.proofs.lemmas.Bool.{ltb-true, ltb-false, le-leb, eqb-true, eq-eqb, or_left, or_right, or_cases, or_parts, and_from, and_parts, le-ltb, eqb-false, ne_eqb}
use Rattle.std.specs.List.{list_any, list_all, filter}
use Rattle.receiver_rules.specs.declared.limits.Limits.{Limits}
use Rattle.seq_unwrap.specs.Nearest.{cycle_of}
use Rattle.receiver_rules.specs.Steps.{Step, end_step}
use Rattle.receiver_rules.specs.Packets.{Packet, Ever, by_number, insert_by_number, is_played_out}
use Rattle.receiver_rules.specs.Epochs.{Epoch, epochs_of}
use Rattle.receiver_rules.specs.History.{packets_over, playout_of, released_payloads}
use Rattle.receiver_rules.specs.Sent.{SentStream, Start, rising_numbers, insert_number}
use Rattle.receiver_rules.specs.SentEpochs.{Reach, numbers_in, SentEpoch}
use Rattle.receiver_rules.proofs.CopyLemmas.{cycle_base, counted, packet_for, packets_for, epoch_for, AllCounted, AreDifferent, IsCounted, has}

-- ---- numbers by rising value

any-insert_number : (n x : ℕ) (ms : List ℕ) → has x (insert_number n ms) ≡ ((n == x) || has x ms)
any-insert_number n x [] = refl
any-insert_number n x (m ∷ ms) = grind (arith, any-insert_number n x ms)

pub has-rising : (x : ℕ) (ns : List ℕ) → has x (rising_numbers ns) ≡ has x ns
has-rising x [] = refl
has-rising x (n ∷ ns) = any-insert_number n x (rising_numbers ns) ∙ ap (λ b. (n == x) || b) (has-rising x ns)

abbrev pub IsUp : ℕ → List ℕ → Type 0
IsUp low [] = Unit {0}
IsUp low (m ∷ ms) = (low ≤ m) × IsUp (m + 1) ms

up-insert : (low n : ℕ) (ms : List ℕ) → low ≤ n → IsUp low ms → IsUp low (insert_number n ms)
up-insert low n [] h u = (h, tt)
up-insert low n (m ∷ ms) h u =
    elim (nat_lt n m) as (λ c. nat_lt n m ≡ c → IsUp low (cond c (n ∷ m ∷ ms) (cond (n == m) (m ∷ ms) (m ∷ insert_number n ms)))) [
      | true ↦ λ e. (h, (omega (arith, ltb-true _ _ e), u.1))
      | false ↦ λ e.
          elim (n == m) as (λ c. (n == m) ≡ c → IsUp low (cond c (m ∷ ms) (m ∷ insert_number n ms))) [
            | true ↦ λ f. u
            | false ↦ λ f. (u.0, up-insert (m + 1) n ms (omega (arith, ltb-false _ _ e, eqb-false _ _ f)) u.1)
          ] refl
    ] refl

pub up-rising : (ns : List ℕ) → IsUp 0 (rising_numbers ns)
up-rising [] = tt
up-rising (n ∷ ns) = up-insert 0 n (rising_numbers ns) (omega arith) (up-rising ns)

has_low : (low n : ℕ) (ms : List ℕ) → IsUp low ms → has n ms ≡ true → low ≤ n
has_low low n [] u e = cc
has_low low n (m ∷ ms) u e =
    ⊎_elim
    (λ (same : (m == n) ≡ true). omega (arith, u.0, eqb-true _ _ same))
    (λ (later : has n ms ≡ true). omega (arith, u.0, has_low (m + 1) n ms u.1 later))
    (or_cases (m == n) (has n ms) e)

-- a number that is there already changes nothing
pub insert_has : (low n : ℕ) (ms : List ℕ) → IsUp low ms → has n ms ≡ true → insert_number n ms ≡ ms
insert_has low n [] u e = cc
insert_has low n (m ∷ ms) u e =
    ⊎_elim
    (λ (same : (m == n) ≡ true). let q : m ≡ n = eqb-true _ _ same in
    ap (λ c. cond c (n ∷ m ∷ ms) (cond (n == m) (m ∷ ms) (m ∷ insert_number n ms))) (le-ltb n m (omega arith)) ∙ ap (λ c. cond c (m ∷ ms) (m ∷ insert_number n ms)) (eq-eqb n m (sym q)))
    (λ (later : has n ms ≡ true). let low' = has_low (m + 1) n ms u.1 later in
    ap (λ c. cond c (n ∷ m ∷ ms) (cond (n == m) (m ∷ ms) (m ∷ insert_number n ms))) (le-ltb n m (omega arith))
    ∙ ap (λ c. cond c (m ∷ ms) (m ∷ insert_number n ms)) (ne_eqb n m (λ q. omega arith))
    ∙ ap (λ ks. m ∷ ks) (insert_has (m + 1) n ms u.1 later))
    (or_cases (m == n) (has n ms) e)

-- ---- the order of numbers

-- a number that was reached at its place among others
abbrev pub insert_reach : Reach → List Reach → List Reach
insert_reach r [] = r ∷ []
insert_reach r (k ∷ ks) = if nat_lt r.number k.number then r ∷ k ∷ ks else k ∷ insert_reach r ks

abbrev pub ordered_reaches : List Reach → List Reach
ordered_reaches [] = []
ordered_reaches (r ∷ rs) = insert_reach r (ordered_reaches rs)

counted-insert : (base : ℕ) (r : Reach) (rs : List Reach) → base ≤ 2 ^ 40 + r.number → AllCounted base (numbers_in rs) → AllCounted base (numbers_in (insert_reach r rs))
counted-insert base r [] hr h = (hr, tt)
counted-insert base r (k ∷ ks) hr h =
    elim (nat_lt r.number k.number) as (λ c. AllCounted base (numbers_in (cond c (r ∷ k ∷ ks) (k ∷ insert_reach r ks)))) [
      | true ↦ (hr, h)
      | false ↦ (h.0, counted-insert base r ks hr h.1)
    ]

counted-ordered : (base : ℕ) (rs : List Reach) → AllCounted base (numbers_in rs) → AllCounted base (numbers_in (ordered_reaches rs))
counted-ordered base [] h = tt
counted-ordered base (r ∷ rs) h = counted-insert base r (ordered_reaches rs) h.0 (counted-ordered base rs h.1)

insert_packet : (p : SentStream) (s : Start) (r : Reach) (rs : List Reach) → cycle_base (cycle_of p.width) s.number ≤ 2 ^ 40 + r.number → AllCounted (cycle_base (cycle_of p.width) s.number) (numbers_in rs)
    → insert_by_number (packet_for p s r) (packets_for p s rs) ≡ packets_for p s (insert_reach r rs)
insert_packet p s r [] hr h = refl
insert_packet p s r (k ∷ ks) hr h =
    ap (λ c. cond c (packet_for p s r ∷ packets_for p s (k ∷ ks)) (packet_for p s k ∷ insert_by_number (packet_for p s r) (packets_for p s ks))) (same_order (cycle_base (cycle_of p.width) s.number) r.number k.number hr h.0)
    ∙ ap (λ ps. cond (nat_lt r.number k.number) (packet_for p s r ∷ packets_for p s (k ∷ ks)) (packet_for p s k ∷ ps)) (insert_packet p s r ks hr h.1)
    ∙ choose (nat_lt r.number k.number)
  where
    same_order : (base n m : ℕ) → base ≤ 2 ^ 40 + n → base ≤ 2 ^ 40 + m → nat_lt (counted base n) (counted base m) ≡ nat_lt n m
    same_order base n m hn hm = grind arith

    choose : (c : Bool) → cond c (packet_for p s r ∷ packets_for p s (k ∷ ks)) (packet_for p s k ∷ packets_for p s (insert_reach r ks)) ≡ packets_for p s (cond c (r ∷ k ∷ ks) (k ∷ insert_reach r ks))
    choose true = refl
    choose false = refl

ordered_packets : (p : SentStream) (s : Start) (rs : List Reach) → AllCounted (cycle_base (cycle_of p.width) s.number) (numbers_in rs) → by_number (packets_for p s rs) ≡ packets_for p s (ordered_reaches rs)
ordered_packets p s [] h = refl
ordered_packets p s (r ∷ rs) h =
    ap (insert_by_number (packet_for p s r)) (ordered_packets p s rs h.1)
    ∙ insert_packet p s r (ordered_reaches rs) h.0 (counted-ordered (cycle_base (cycle_of p.width) s.number) rs h.1)

insert_numbers : (r : Reach) (rs : List Reach) → has r.number (numbers_in rs) ≡ false → numbers_in (insert_reach r rs) ≡ insert_number r.number (numbers_in rs)
insert_numbers r [] e = refl
insert_numbers r (k ∷ ks) e =
    let parts = or_parts (k.number == r.number) (has r.number (numbers_in ks)) e in
    choose (nat_lt r.number k.number)
    ∙ ap (λ ns. cond (nat_lt r.number k.number) (r.number ∷ k.number ∷ numbers_in ks) (k.number ∷ ns)) (insert_numbers r ks parts.1)
    ∙ sym (ap (λ c. cond (nat_lt r.number k.number) (r.number ∷ k.number ∷ numbers_in ks) (cond c (k.number ∷ numbers_in ks) (k.number ∷ insert_number r.number (numbers_in ks)))) (ne_eqb r.number k.number (λ q. eqb-false _ _ parts.0 (sym q))))
  where
    choose : (c : Bool) → numbers_in (cond c (r ∷ k ∷ ks) (k ∷ insert_reach r ks)) ≡ cond c (r.number ∷ k.number ∷ numbers_in ks) (k.number ∷ numbers_in (insert_reach r ks))
    choose true = refl
    choose false = refl

ordered_numbers : (rs : List Reach) → AreDifferent (numbers_in rs) → numbers_in (ordered_reaches rs) ≡ rising_numbers (numbers_in rs)
ordered_numbers [] d = refl
ordered_numbers (r ∷ rs) d =
    insert_numbers r (ordered_reaches rs) (ap (has r.number) (ordered_numbers rs d.1) ∙ has-rising r.number (numbers_in rs) ∙ d.0)
    ∙ ap (insert_number r.number) (ordered_numbers rs d.1)

payloads : (p : SentStream) (s : Start) (rs : List Reach) → map (λ (q : Packet). q.payload) (packets_for p s rs) ≡ map p.payload (numbers_in rs)
payloads p s [] = refl
payloads p s (r ∷ rs) = ap (λ xs. p.payload r.number ∷ xs) (payloads p s rs)

-- of an epoch, by rising number
pub epoch_payloads : (p : SentStream) (s : SentEpoch) → IsCounted p s → map (λ (q : Packet). q.payload) (by_number (epoch_for p s).accepted) ≡ map p.payload (rising_numbers (numbers_in s.reached))
epoch_payloads p s c =
    ap (map (λ (q : Packet). q.payload)) (ordered_packets p s.start s.reached c.counted)
    ∙ payloads p s.start (ordered_reaches s.reached)
    ∙ ap (map p.payload) (ordered_numbers s.reached c.different)

-- ---- at the end all is out

all-insert : (f : Packet → Bool) (p : Packet) (ps : List Packet) → list_all f (insert_by_number p ps) ≡ (f p && list_all f ps)
all-insert f p [] = refl
all-insert f p (q ∷ qs) = grind (arith, all-insert f p qs)

all-by_number : (f : Packet → Bool) (ps : List Packet) → list_all f (by_number ps) ≡ list_all f ps
all-by_number f [] = refl
all-by_number f (p ∷ ps) = all-insert f p (by_number ps) ∙ ap (λ b. f p && b) (all-by_number f ps)

filter_all : (f : Packet → Bool) (ps : List Packet) → list_all f ps ≡ true → filter f ps ≡ ps
filter_all f [] h = refl
filter_all f (p ∷ ps) h =
    let parts = and_parts (f p) (list_all f ps) h in
    ap (λ c. cond c (p ∷ filter f ps) (filter f ps)) parts.0 ∙ ap (λ qs. p ∷ qs) (filter_all f ps parts.1)

out_at_end : (q : Packet) (ps : List Packet) → list_any (λ k. k.number == q.number) ps ≡ true → is_played_out ps Ever q ≡ true
out_at_end q [] e = cc
out_at_end q (p ∷ ps) e =
    ⊎_elim
    (λ (same : (p.number == q.number) ≡ true). or_left _ _ (and_from _ _ (le-leb q.number p.number (let i : p.number ≡ q.number = eqb-true _ _ same in omega arith)) refl))
    (λ (later : list_any (λ k. k.number == q.number) ps ≡ true). or_right _ _ (out_at_end q ps later))
    (or_cases (p.number == q.number) (list_any (λ k. k.number == q.number) ps) e)

all_out : (ps ms : List Packet) → ((n : ℕ) → list_any (λ k. k.number == n) ms ≡ true → list_any (λ k. k.number == n) ps ≡ true) → list_all (is_played_out ps Ever) ms ≡ true
all_out ps [] sub = refl
all_out ps (m ∷ ms) sub =
    and_from _ _ (out_at_end m ps (sub m.number (or_left _ _ (eq-eqb m.number m.number refl)))) (all_out ps ms (λ n e. sub n (or_right _ _ e)))

-- once the run has ended all that was kept is out
pub playout_end : (epochs : List Epoch) → playout_of epochs Ever ≡ packets_over epochs
playout_end [] = refl
playout_end (current ∷ earlier) =
    ap (λ ps. packets_over earlier ++ ps)
    (filter_all (is_played_out current.accepted Ever) (by_number current.accepted) (all-by_number (is_played_out current.accepted Ever) current.accepted ∙ all_out current.accepted current.accepted (λ n e. e)))

pub released_end : (limits : Limits) (history : List Step) → released_payloads limits (end_step ∷ history) ≡ map (λ (q : Packet). q.payload) (packets_over (epochs_of limits history))
released_end limits history = ap (map (λ (q : Packet). q.payload)) (playout_end (epochs_of limits history))
