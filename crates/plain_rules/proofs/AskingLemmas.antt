-- What the plain program keeps, against the definitions.
use Rattle.std.proofs.Common.{◌≡◌, ℕ, zero, suc, ◌+◌, ◌-◌, ◌<◌, ◌≤◌, Bool, true, false, cond, not, ◌&&◌, List, [], ◌∷◌, ◌++◌, length, map, Option, Some, None, refl, sym, ap, subst, ◌∙◌, arith, unwrap_or, option_map, length-append}
use Rattle.std.specs.Prelude.{nat_lt, ◌==◌, if◌then◌else◌, slice_get}
use Rattle.std.specs.List.{filter, range_with_len}
use Rattle.std.proofs.lemmas.List.{map-append}
use Rattle.std.proofs.lemmas.List.Elements.{filter-append}
use Rattle.std.proofs.lemmas.Bool.{eq-eqb, ltb-true, ltb-false}
use Rattle.request_rules.specs.declared.policy.NackKind.{NackKind}
use Rattle.request_rules.specs.declared.policy.Policy.{Policy}
use Rattle.request_rules.specs.declared.word.AskWord.{AskWord}
use Rattle.plain_rules.specs.declared.requests.asking.Made.{Made}
use Rattle.request_rules.specs.Requests.{Request, request_times, requests_of, is_due, due_numbers}
use Rattle.request_rules.specs.Words.{words_for, asked_numbers}
use Rattle.request_rules.specs.Building.{with_number, takes, IsAboveLast}
use Rattle.request_rules.specs.Times.{AreTimes}
use Rattle.request_rules.specs.Missing.{is_below_highest}
use Rattle.plain_rules.specs.Inside.RequestsAsking.{request_of, requests_seen, found_in, is_wanted, AskingShows}
use Rattle.std.specs.List.{All, AllByRecursion}
use Rattle.std.proofs.lemmas.List.Elements.{All-from_recursion}
use Rattle.receiver_rules.specs.declared.limits.Limits.{Limits}
use Rattle.receiver_rules.specs.declared.anchor.Anchor.{Anchor}
use Rattle.receiver_rules.specs.declared.anchor.Highest.{Highest}
use Rattle.plain_rules.specs.declared.receiver.kept.Kept.{Kept}
use Rattle.receiver_rules.specs.Packets.{Packet, Moment, At, Ever, highest_of, higher}
use Rattle.receiver_rules.specs.History.{anchor_of}
use Rattle.receiver_rules.specs.Steps.{effective_time}
use Rattle.receiver_rules.specs.Steps.{Step as BufferStep}
use Rattle.plain_rules.specs.declared.requests.asking.Mark.{Mark}
use Rattle.plain_rules.specs.Receiver.Kept.{kept_packet, kept_packets}
use Rattle.plain_rules.specs.declared.requests.asking.Asking.{Asking}
use Rattle.request_rules.specs.Steps.{Step, buffer_history, longest_rtt}
use Rattle.request_rules.specs.Missing.{is_accepted, is_passed, lowest_wanted, numbers_up_to, missing_among, missing_numbers, moment_at, accepted_before, found_time}
use Rattle.request_rules.specs.Words.{IsRisingIn}
use Rattle.request_rules.proofs.KeptLemmas.{passed_highest}
use Rattle.request_rules.proofs.WordLemmas.{rising-filter, range-snoc, named, words-snoc}

pub append_nil : {X : Type 0} (xs : List X) → xs ++ [] ≡ xs
append_nil [] = refl
append_nil (x ∷ xs) = ap (λ l. x ∷ l) (append_nil xs)

-- ---- times

times-append : (newer older : List Request) (x : ℕ) → request_times (newer ++ older) x ≡ request_times newer x ++ request_times older x
times-append newer older x = ap (map (λ r. r.time)) (filter-append (λ r. r.number == x) newer older) ∙ map-append (λ r. r.time) (filter (λ r. r.number == x) newer) (filter (λ r. r.number == x) older)

times-seen : (newer : List Made) (r : Made) (x : ℕ) → request_times (requests_seen (newer ++ r ∷ [])) x ≡ request_times (requests_seen newer) x ++ request_times (request_of r ∷ []) x
times-seen newer r x = ap (λ l. request_times l x) (map-append request_of newer (r ∷ [])) ∙ times-append (requests_seen newer) (request_of r ∷ []) x

-- one more time behind others
first_time : (times : List ℕ) (t : ℕ) (last : Option ℕ) → last ≡ slice_get times 0 → Some (unwrap_or last t) ≡ slice_get (times ++ t ∷ []) 0
first_time [] t last e = ap (λ o. Some (unwrap_or o t)) e
first_time (u ∷ us) t last e = ap (λ o. Some (unwrap_or o t)) e

pub noted_same : (last : Option ℕ) (count : ℕ) (newer : List Made) (r : Made) (x : ℕ) → r.number ≡ x → AreTimes last count (request_times (requests_seen newer) x)
    → AreTimes (Some (unwrap_or last r.time)) (count + 1) (request_times (requests_seen (newer ++ r ∷ [])) x)
noted_same last count newer r x e h =
    let all : request_times (requests_seen (newer ++ r ∷ [])) x ≡ request_times (requests_seen newer) x ++ r.time ∷ [] = times-seen newer r x ∙ ap (λ l. request_times (requests_seen newer) x ++ l) (rw (eq-eqb r.number x e) refl) in
    record {
      newest = first_time (request_times (requests_seen newer) x) r.time last h.newest ∙ ap (λ l. slice_get l 0) (sym all);
      count_is = omega (arith, h.count_is, ap length all, length-append (request_times (requests_seen newer) x) (r.time ∷ []));
    }

-- ---- words

pub snoc_asked : (kind : NackKind) (low x : ℕ) (due : List ℕ) (c : Bool) (words words' : List AskWord) → IsRisingIn low x due → words ≡ words_for kind 64 due
    → words' ≡ (if c then with_number kind 64 words x else words) → words' ≡ words_for kind 64 (due ++ (if c then x ∷ [] else []))
snoc_asked kind low x due true words words' h e f = f ∙ ap (λ ws. with_number kind 64 ws x) e ∙ sym (words-snoc kind low x due h)
snoc_asked kind low x due false words words' h e f = f ∙ e ∙ ap (words_for kind 64) (sym (append_nil due))

-- a number that is named when it is added
pub put_named : (kind : NackKind) (ws ws' : List AskWord) (x : ℕ) (ns ns' : List ℕ) (b : Bool) → IsAboveLast kind ws x → ws' ≡ with_number kind 64 ws x → ns ≡ asked_numbers kind ws → b ≡ takes kind 64 ws x
    → ns' ≡ ns ++ (if b then x ∷ [] else []) → ns' ≡ asked_numbers kind ws'
put_named kind ws ws' x ns ns' b h e f g k =
    k ∙ ap (λ c. ns ++ (if c then x ∷ [] else [])) g ∙ ap (λ l. l ++ (if takes kind 64 ws x then x ∷ [] else [])) f ∙ sym (named kind 64 ws x h) ∙ ap (asked_numbers kind) (sym e)

-- ---- numbers one after another

range_rising : (low n : ℕ) → IsRisingIn low (low + n) (range_with_len low n)
range_rising low zero = omega arith
range_rising low (suc n) = (omega arith, subst (λ h. IsRisingIn (low + 1) h (range_with_len (low + 1) n)) (next low n) (range_rising (low + 1) n))
  where
    next : (low n : ℕ) → low + 1 + n ≡ low + suc n
    next low n = omega arith

pub rising_between : (p : ℕ → Bool) (low x : ℕ) → low ≤ x → IsRisingIn low x (filter p (range_with_len low (x - low)))
rising_between p low x le =
    let whole : low + (x - low) ≡ x = omega arith in
    subst (λ h. IsRisingIn low h (filter p (range_with_len low (x - low)))) whole (rising-filter p low (low + (x - low)) (range_with_len low (x - low)) (range_rising low (x - low)))

-- one more number is looked at
pub between-more : (p : ℕ → Bool) (low x : ℕ) → low ≤ x → filter p (range_with_len low (x + 1 - low)) ≡ filter p (range_with_len low (x - low)) ++ (if p x then x ∷ [] else [])
between-more p low x le =
    let k : x + 1 - low ≡ x - low + 1 = omega arith in
    let whole : low + (x - low) ≡ x = omega arith in
    ap (λ n. filter p (range_with_len low n)) k ∙ ap (filter p) (range-snoc low (x - low) ∙ ap (λ z. range_with_len low (x - low) ++ z ∷ []) whole)
    ∙ filter-append p (range_with_len low (x - low)) (x ∷ []) ∙ ap (λ l. filter p (range_with_len low (x - low)) ++ l) (one (p x))
  where
    one : (c : Bool) → cond c (x ∷ []) [] ≡ (if c then x ∷ [] else [])
    one c = refl

-- ---- what is due

filter_both : (f g : ℕ → Bool) (xs : List ℕ) → filter (λ x. f x && g x) xs ≡ filter g (filter f xs)
filter_both f g [] = refl
filter_both f g (x ∷ xs) =
    elim (f x) as (λ c. cond (c && g x) (x ∷ filter (λ x. f x && g x) xs) (filter (λ x. f x && g x) xs) ≡ filter g (cond c (x ∷ filter f xs) (filter f xs))) [
      | true ↦ ap (λ l. cond (g x) (x ∷ l) l) (filter_both f g xs)
      | false ↦ filter_both f g xs
    ]

-- the numbers that are wanted are those that are due
pub due_here : (limits : Limits) (policy : Policy) (rtt t low : ℕ) (a : Asking) (history : List Step) (anchor : Anchor) (highest : Highest) (moment : Moment) → AskingShows limits policy a history → a.run.highest ≡ highest_of (kept_packets a.run.kept.items)
    → a.run.anchor ≡ Some anchor → a.run.highest ≡ Some highest → rtt ≡ longest_rtt 16 history → moment ≡ (if a.run.has_ended then Ever else At t) → low ≡ lowest_wanted limits anchor (kept_packets a.run.kept.items) moment highest
    → filter (is_wanted policy rtt t a) (numbers_up_to low highest.number) ≡ due_numbers limits policy history (requests_of limits policy history) t
due_here limits policy rtt t low a history anchor highest moment shows known first top rtts now lowest =
    let accepted = kept_packets a.run.kept.items in
    let test = λ (r : ℕ) (found : ℕ → ℕ) (requests : List Request) (x : ℕ). is_due policy r t (found x) (request_times requests x) in
    let missing : filter (λ x. not (is_accepted accepted x)) (numbers_up_to low highest.number) ≡ missing_numbers limits (buffer_history history) t =
    ap (λ n. filter (λ x. not (is_accepted accepted x)) (numbers_up_to n highest.number)) lowest
    ∙ ap (λ m. missing_among limits (Some anchor) accepted m (Some highest)) (now ∙ ap (λ c. if c then Ever else At t) shows.run.ended)
    ∙ ap (λ o. missing_among limits o accepted (moment_at (buffer_history history) t) (Some highest)) (sym first ∙ shows.run.epochs.anchor)
    ∙ ap (λ o. missing_among limits (anchor_of limits (buffer_history history)) accepted (moment_at (buffer_history history) t) o) (sym top ∙ known)
    ∙ ap (λ ps. missing_among limits (anchor_of limits (buffer_history history)) ps (moment_at (buffer_history history) t) (highest_of ps)) shows.run.epochs.kept in
    filter_both (λ x. not (is_accepted accepted x)) (test rtt (found_in a.marks.items) (requests_seen a.made.items)) (numbers_up_to low highest.number)
    ∙ ap (filter (test rtt (found_in a.marks.items) (requests_seen a.made.items))) missing
    ∙ ap (λ r. filter (test r (found_in a.marks.items) (requests_seen a.made.items)) (missing_numbers limits (buffer_history history) t)) rtts
    ∙ ap (λ f. filter (test (longest_rtt 16 history) f (requests_seen a.made.items)) (missing_numbers limits (buffer_history history) t)) (λ i x. shows.marks x i)
    ∙ ap (λ l. filter (test (longest_rtt 16 history) (found_time limits (buffer_history history)) l) (missing_numbers limits (buffer_history history) t)) shows.made

higher_parts : (p : Packet) (o : Option Highest) (bound : ℕ) → (higher p o).number < bound → (p.number < bound) × ((h : Highest) → o ≡ Some h → h.number < bound)
higher_parts p None bound lt = (lt, λ h e. absurd cc)
higher_parts p (Some g) bound lt =
    elim (nat_lt g.number p.number) as (λ c. nat_lt g.number p.number ≡ c → (cond c (record { number = p.number; timestamp = p.timestamp }) g).number < bound → (p.number < bound) × ((h : Highest) → Some g ≡ Some h → h.number < bound)) [
      | true ↦ λ e l. (l, λ h f. let same : g.number ≡ h.number = inside g h f in omega (arith, same, ltb-true g.number p.number e, l))
      | false ↦ λ e l. (omega (arith, ltb-false g.number p.number e, l), λ h f. let same : g.number ≡ h.number = inside g h f in omega (arith, same, l))
    ] refl lt
  where
    inside : (g h : Highest) → Some g ≡ Some h → g.number ≡ h.number
    inside g h f = let same : g ≡ h = cc in ap (λ k. k.number) same

below_each : (ks : List Kept) (bound : ℕ) → ((h : Highest) → highest_of (kept_packets ks) ≡ Some h → h.number < bound) → AllByRecursion (λ k. k.place.number < bound) ks
below_each [] bound h = tt
below_each (k ∷ ks) bound h =
    let parts = higher_parts (kept_packet k) (highest_of (kept_packets ks)) bound (h (higher (kept_packet k) (highest_of (kept_packets ks))) refl) in
    (parts.0, below_each ks bound parts.1)

-- no kept number is above the highest
pub below_all : (ks : List Kept) (highest : Highest) (bound : ℕ) → highest_of (kept_packets ks) ≡ Some highest → highest.number < bound → All (λ k. k.place.number < bound) ks
below_all ks highest bound e lt =
    All-from_recursion (λ k. k.place.number < bound) ks (below_each ks bound (λ h f. let same : highest ≡ h = cc in subst (λ g. g.number < bound) same lt))

-- one more mark
pub mark_more : (limits : Limits) (s : BufferStep) (history : List BufferStep) (mark : Mark) (marks : List Mark) (x : ℕ) → mark.highest ≡ option_map (λ h. h.number) (highest_of (accepted_before limits s history))
    → mark.time ≡ effective_time (s ∷ history) → found_in marks x ≡ found_time limits history x → found_in (mark ∷ marks) x ≡ found_time limits (s ∷ history) x
mark_more limits s history mark marks x top time found =
    ap (λ o. if is_below_highest o x then found_in marks x else mark.time) top
    ∙ ap (λ b. if b then found_in marks x else mark.time) (passed_highest (accepted_before limits s history) x)
    ∙ ap (λ n. if is_passed (accepted_before limits s history) x then n else mark.time) found
    ∙ ap (λ n. if is_passed (accepted_before limits s history) x then found_time limits history x else n) time

-- the highest number that was kept in the epoch before a step
pub highest_before : (opens : Bool) (ps : List Packet) → (if opens then None else highest_of ps) ≡ highest_of (if opens then [] else ps)
highest_before true ps = refl
highest_before false ps = refl
