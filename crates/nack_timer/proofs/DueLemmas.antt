-- What a pass asks for, and what it leaves.
use Rattle.std.proofs.Common.{◌≡◌, ℕ, ◌+◌, ◌<◌, ◌≤◌, Bool, true, false, not, ◌&&◌, List, [], ◌∷◌, ◌++◌, length, map, refl, sym, ap, subst, ◌∙◌, arith, append_assoc}
use Rattle.std.specs.Prelude.{nat_le, ◌==◌, if◌then◌else◌, slice_get}
use Rattle.std.specs.List.{list_any}
use Rattle.std.proofs.lemmas.Bool.{leb-true, eq-eqb, ne_eqb, and_parts}
use Rattle.receiver_rules.specs.declared.bounds.TheConstants.{MAX_SPAN}
use Rattle.receiver_rules.specs.Packets.{Packet}
use Rattle.request_rules.specs.declared.policy.Policy.{Policy}
use Rattle.request_rules.specs.declared.word.AskWord.{AskWord}
use Rattle.request_rules.specs.Words.{words_for, asked_numbers}
use Rattle.request_rules.specs.Building.{with_number, takes, IsAboveLast}
use Rattle.request_rules.specs.Requests.{Request, request_times}
use Rattle.request_rules.specs.Times.{AreTimes}
use Rattle.request_rules.specs.Requests.{request_at}
use Rattle.request_rules.specs.Words.{IsRisingIn}
use Rattle.request_rules.proofs.WordLemmas.{words-snoc, words_above, named}
use Rattle.nack_timer.specs.declared.entry.Missing.{Missing}
use Rattle.nack_timer.specs.State.{AreRising}
use Rattle.nack_timer.specs.Inside.Pass.{is_live, is_due_entry, stamped, words_after, entry_after, words_of, entries_of}
use Rattle.nack_timer.specs.TimerAfter.{IsEntryOf, AreEntriesOf}
use Rattle.nack_timer.proofs.PassLemmas.{append_nil, rising-snoc, rising_left}

-- the numbers of entries that are live and due
abbrev pub due_in : Policy → ℕ → ℕ → ℕ → List Packet → List Missing → List ℕ
due_in policy rtt t low held [] = []
due_in policy rtt t low held (e ∷ es) = (if is_live low held e && is_due_entry policy rtt t e then e.number ∷ [] else []) ++ due_in policy rtt t low held es

low_is : (low : ℕ) (held : List Packet) (e : Missing) → is_live low held e ≡ true → low ≤ e.number
low_is low held e live = leb-true low e.number (and_parts (nat_le low e.number) (not (list_any (λ p. p.number == e.number) held)) live).0

-- the words of a pass are those for the numbers that are due
pub words_is : (policy : Policy) (rtt t low from high : ℕ) (held : List Packet) (words : List AskWord) (due : List ℕ) (es : List Missing) → words ≡ words_for policy.kind 64 due
    → ((x : ℕ) → from ≤ x → low ≤ x → IsRisingIn low x due) → AreRising from high es → words_of policy rtt t low held words es ≡ words_for policy.kind 64 (due ++ due_in policy rtt t low held es)
words_is policy rtt t low from high held words due [] is rising order = is ∙ ap (words_for policy.kind 64) (sym (append_nil due))
words_is policy rtt t low from high held words due (e ∷ es) is rising order =
    elim (is_live low held e) as (λ c. is_live low held e ≡ c → words_of policy rtt t low held (if c then words_after policy rtt t words e else words) es
    ≡ words_for policy.kind 64 (due ++ ((if c && is_due_entry policy rtt t e then e.number ∷ [] else []) ++ due_in policy rtt t low held es))) [
      | true ↦ λ live. elim (is_due_entry policy rtt t e) as (λ c. words_of policy rtt t low held (if c then with_number policy.kind 64 words e.number else words) es
          ≡ words_for policy.kind 64 (due ++ ((if c then e.number ∷ [] else []) ++ due_in policy rtt t low held es))) [
            | true ↦ words_is policy rtt t low (e.number + 1) high held (with_number policy.kind 64 words e.number) (due ++ e.number ∷ []) es
                (ap (λ ws. with_number policy.kind 64 ws e.number) is ∙ sym (words-snoc policy.kind low e.number due (rising e.number order.0 (low_is low held e live))))
                (λ x h g. rising-snoc low e.number x due (rising e.number order.0 (low_is low held e live)) (omega (arith, h))) order.2
                ∙ ap (words_for policy.kind 64) (append_assoc due (e.number ∷ []) (due_in policy rtt t low held es))
            | false ↦ words_is policy rtt t low (e.number + 1) high held words due es is (λ x h g. rising x (omega (arith, h, order.0)) g) order.2
          ]
      | false ↦ λ live. words_is policy rtt t low (e.number + 1) high held words due es is (λ x h g. rising x (omega (arith, h, order.0)) g) order.2
    ] refl

-- ---- the numbers that are named

-- an entry is live and due, and there is room for it
abbrev pub is_named : Policy → ℕ → ℕ → ℕ → List Packet → List AskWord → Missing → Bool
is_named policy rtt t low held words e = is_live low held e && (is_due_entry policy rtt t e && takes policy.kind 64 words e.number)

abbrev pub named_in : Policy → ℕ → ℕ → ℕ → List Packet → List AskWord → List Missing → List ℕ
named_in policy rtt t low held words [] = []
named_in policy rtt t low held words (e ∷ es) =
    (if is_named policy rtt t low held words e then e.number ∷ [] else [])
    ++ named_in policy rtt t low held (if is_live low held e then words_after policy rtt t words e else words) es

pub asked_is : (policy : Policy) (rtt t low from : ℕ) (held : List Packet) (words : List AskWord) (due : List ℕ) (es : List Missing) → words ≡ words_for policy.kind 64 due
    → ((x : ℕ) → from ≤ x → low ≤ x → IsRisingIn low x due) → AreRising from (low + MAX_SPAN) es
    → asked_numbers policy.kind (words_of policy rtt t low held words es) ≡ asked_numbers policy.kind words ++ named_in policy rtt t low held words es
asked_is policy rtt t low from held words due [] is rising order = sym (append_nil (asked_numbers policy.kind words))
asked_is policy rtt t low from held words due (e ∷ es) is rising order =
    elim (is_live low held e) as (λ c. is_live low held e ≡ c → asked_numbers policy.kind (words_of policy rtt t low held (if c then words_after policy rtt t words e else words) es)
    ≡ asked_numbers policy.kind words ++ ((if c && (is_due_entry policy rtt t e && takes policy.kind 64 words e.number) then e.number ∷ [] else []) ++ named_in policy rtt t low held (if c then words_after policy rtt t words e else words) es)) [
      | true ↦ λ live. elim (is_due_entry policy rtt t e) as (λ c. asked_numbers policy.kind (words_of policy rtt t low held (if c then with_number policy.kind 64 words e.number else words) es)
          ≡ asked_numbers policy.kind words ++ ((if c && takes policy.kind 64 words e.number then e.number ∷ [] else []) ++ named_in policy rtt t low held (if c then with_number policy.kind 64 words e.number else words) es)) [
            | true ↦
                let order_here = rising e.number order.0 (low_is low held e live) in
                let above = subst (λ ws. IsAboveLast policy.kind ws e.number) (sym is) (words_above policy.kind low e.number due (omega (arith, order.1)) order_here) in
                asked_is policy rtt t low (e.number + 1) held (with_number policy.kind 64 words e.number) (due ++ e.number ∷ []) es
                (ap (λ ws. with_number policy.kind 64 ws e.number) is ∙ sym (words-snoc policy.kind low e.number due order_here))
                (λ x h g. rising-snoc low e.number x due order_here (omega (arith, h))) order.2
                ∙ ap (λ l. l ++ named_in policy rtt t low held (with_number policy.kind 64 words e.number) es) (named policy.kind 64 words e.number above)
                ∙ append_assoc (asked_numbers policy.kind words) (if takes policy.kind 64 words e.number then e.number ∷ [] else []) (named_in policy rtt t low held (with_number policy.kind 64 words e.number) es)
            | false ↦ asked_is policy rtt t low (e.number + 1) held words due es is (λ x h g. rising x (omega (arith, h, order.0)) g) order.2
          ]
      | false ↦ λ live. asked_is policy rtt t low (e.number + 1) held words due es is (λ x h g. rising x (omega (arith, h, order.0)) g) order.2
    ] refl

-- ---- the times of the entries

-- requests for some numbers at a time, and those before
abbrev pub asks : ℕ → List ℕ → List Request → List Request
asks t ns requests = map (λ x. request_at x t) ns ++ requests

times_other : (t n m : ℕ) (c : Bool) (ns : List ℕ) (requests : List Request) → (n ≡ m → ⊥) → request_times (asks t ((if c then n ∷ [] else []) ++ ns) requests) m ≡ request_times (asks t ns requests) m
times_other t n m true ns requests apart = rw (ne_eqb n m apart) refl
times_other t n m false ns requests apart = refl

times_same : (t n : ℕ) (ns : List ℕ) (requests : List Request) → request_times (asks t (n ∷ ns) requests) n ≡ t ∷ request_times (asks t ns requests) n
times_same t n ns requests = rw (eq-eqb n n refl) refl

-- those named are not below the first
named_from : (policy : Policy) (rtt t low from high m : ℕ) (held : List Packet) (words : List AskWord) (es : List Missing) (requests : List Request) → AreRising from high es → m < from
    → request_times (asks t (named_in policy rtt t low held words es) requests) m ≡ request_times requests m
named_from policy rtt t low from high m held words [] requests order lt = refl
named_from policy rtt t low from high m held words (e ∷ es) requests order lt =
    times_other t e.number m (is_named policy rtt t low held words e) (named_in policy rtt t low held (if is_live low held e then words_after policy rtt t words e else words) es) requests (λ g. omega (arith, g, order.0, lt))
    ∙ named_from policy rtt t low (e.number + 1) high m held (if is_live low held e then words_after policy rtt t words e else words) es requests order.2 (omega (arith, order.0, lt))

entries_same : (found : ℕ → ℕ) (before after : List Request) (from high : ℕ) (es : List Missing) → AreRising from high es → ((m : ℕ) → from ≤ m → request_times after m ≡ request_times before m) → AreEntriesOf found before es → AreEntriesOf found after es
entries_same found before after from high [] order same h = tt
entries_same found before after from high (e ∷ es) order same h = (
  record { since = h.0.since; times = subst (AreTimes e.last e.count) (sym (same e.number order.0)) h.0.times },
  entries_same found before after (e.number + 1) high es order.2 (λ m le. same m (omega (arith, le, order.0))) h.1,
)

entry_is : (found : ℕ → ℕ) (t : ℕ) (c : Bool) (e : Missing) (ns : List ℕ) (requests : List Request) → request_times (asks t ns requests) e.number ≡ request_times requests e.number → IsEntryOf found requests e
    → IsEntryOf found (asks t ((if c then e.number ∷ [] else []) ++ ns) requests) (if c then stamped t e else e)
entry_is found t true e ns requests same h =
    let all : request_times (asks t (e.number ∷ ns) requests) e.number ≡ t ∷ request_times requests e.number = times_same t e.number ns requests ∙ ap (λ l. t ∷ l) same in
    record { since = h.since; times = record { newest = ap (λ l. slice_get l 0) (sym all); count_is = omega (arith, h.times.count_is, ap length all) } }
entry_is found t false e ns requests same h = record { since = h.since; times = subst (AreTimes e.last e.count) (sym same) h.times }

-- the entries that a pass leaves tell of the requests that it makes
pub entries_are : (policy : Policy) (rtt t low from high : ℕ) (held : List Packet) (words : List AskWord) (es : List Missing) (found : ℕ → ℕ) (requests : List Request) → AreRising from high es → AreEntriesOf found requests es
    → AreEntriesOf found (asks t (named_in policy rtt t low held words es) requests) (entries_of policy rtt t low held words es)
entries_are policy rtt t low from high held words [] found requests order h = tt
entries_are policy rtt t low from high held words (e ∷ es) found requests order h =
    let next = if is_live low held e then words_after policy rtt t words e else words in
    let ns = named_in policy rtt t low held next es in
    let rest = entries_are policy rtt t low (e.number + 1) high held next es found requests order.2 h.1 in
    let later = entries_same found (asks t ns requests) (asks t ((if is_named policy rtt t low held words e then e.number ∷ [] else []) ++ ns) requests) (e.number + 1) high (entries_of policy rtt t low held next es)
    (rising_left policy rtt t low held next (e.number + 1) high es order.2)
    (λ m le. times_other t e.number m (is_named policy rtt t low held words e) ns requests (λ g. omega (arith, g, le))) rest in
    let none = named_from policy rtt t low (e.number + 1) high e.number held next es requests order.2 (omega arith) in
    elim (is_live low held e) as (λ c. AreEntriesOf found (asks t ((if c && (is_due_entry policy rtt t e && takes policy.kind 64 words e.number) then e.number ∷ [] else []) ++ ns) requests) (entries_of policy rtt t low held next es)
    → AreEntriesOf found (asks t ((if c && (is_due_entry policy rtt t e && takes policy.kind 64 words e.number) then e.number ∷ [] else []) ++ ns) requests)
    ((if c then entry_after policy rtt t words e ∷ [] else []) ++ entries_of policy rtt t low held next es)) [
      | true ↦ λ l. (entry_is found t (is_due_entry policy rtt t e && takes policy.kind 64 words e.number) e ns requests none h.0, l)
      | false ↦ λ l. l
    ] later

-- nothing from a number on is named
pub named_below : (policy : Policy) (rtt t low from high m : ℕ) (held : List Packet) (words : List AskWord) (es : List Missing) (requests : List Request) → AreRising from high es → high ≤ m
    → request_times (asks t (named_in policy rtt t low held words es) requests) m ≡ request_times requests m
named_below policy rtt t low from high m held words [] requests order le = refl
named_below policy rtt t low from high m held words (e ∷ es) requests order le =
    times_other t e.number m (is_named policy rtt t low held words e) (named_in policy rtt t low held (if is_live low held e then words_after policy rtt t words e else words) es) requests (λ g. omega (arith, g, order.1, le))
    ∙ named_below policy rtt t low (e.number + 1) high m held (if is_live low held e then words_after policy rtt t words e else words) es requests order.2 le
