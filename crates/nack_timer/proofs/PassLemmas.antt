-- A pass over entries, one after another.
use Rattle.std.proofs.Common.{◌≡◌, ℕ, zero, suc, ◌+◌, ◌<◌, ◌≤◌, ◌^◌, Bool, true, false, cond, not, ◌&&◌, List, [], ◌∷◌, ◌++◌, length, drop, Option, refl, sym, ap, subst, ◌∙◌, arith, length-append, append_assoc}
use Rattle.std.specs.Prelude.{nat_le, ◌==◌, if◌then◌else◌}
use Rattle.std.specs.List.{list_any}
use Rattle.std.proofs.lemmas.Bool.{leb-true, and_parts}
use Rattle.receiver_rules.specs.declared.bounds.TheConstants.{MAX_SPAN}
use Rattle.receiver_rules.specs.Packets.{Packet}
use Rattle.request_rules.specs.declared.policy.NackKind.{NackKind}
use Rattle.request_rules.specs.declared.policy.NackKind.TheVariants.{Range, Mask}
use Rattle.request_rules.specs.declared.policy.Policy.{Policy}
use Rattle.request_rules.specs.declared.word.AskWord.{AskWord}
use Rattle.request_rules.specs.Words.{words_for}
use Rattle.request_rules.specs.Building.{with_number, takes, IsAboveLast}
use Rattle.request_rules.specs.Words.{IsRisingIn}
use Rattle.request_rules.proofs.WordLemmas.{words-snoc, words_above}
use Rattle.nack_timer.specs.declared.entry.Missing.{Missing}
use Rattle.nack_timer.specs.State.{AreRising, high_or}
use Rattle.nack_timer.specs.Inside.Sound.{IsSmallEntry, AreSmall, IsSoundTimer}
use Rattle.nack_timer.specs.Inside.Pass.{is_live, is_due_entry, stamped, words_after, entry_after, words_of, entries_of}

pub append_nil : {X : Type 0} (xs : List X) → xs ++ [] ≡ xs
append_nil [] = refl
append_nil (x ∷ xs) = ap (λ l. x ∷ l) (append_nil xs)

pub rising-snoc : (low x y : ℕ) (xs : List ℕ) → IsRisingIn low x xs → x < y → IsRisingIn low y (xs ++ x ∷ [])
rising-snoc low x y [] h lt = (h, omega (arith, lt))
rising-snoc low x y (z ∷ zs) h lt = (h.0, rising-snoc (z + 1) x y zs h.1 lt)

rising_wider : (low x y : ℕ) (xs : List ℕ) → IsRisingIn low x xs → x ≤ y → IsRisingIn low y xs
rising_wider low x y [] h le = omega (arith, h, le)
rising_wider low x y (z ∷ zs) h le = (h.0, rising_wider (z + 1) x y zs h.1 le)

pub small_append : (xs ys : List Missing) → AreSmall xs → AreSmall ys → AreSmall (xs ++ ys)
small_append [] ys h g = g
small_append (x ∷ xs) ys h g = (h.0, small_append xs ys h.1 g)

-- the first entry that is left
pub record FirstLeft (place : ℕ) (all : List Missing) : Type 0 where
  pub entry : Missing
  pub rest : List Missing
  pub here : drop place all ≡ entry ∷ rest
  pub next : drop (place + 1) all ≡ rest

pub first_left : (place : ℕ) (all : List Missing) → place < length all → FirstLeft place all
first_left zero [] lt = absurd (omega (arith, lt))
first_left zero (e ∷ es) lt = record { entry = e; rest = es; here = refl; next = refl }
first_left (suc place) [] lt = absurd (omega (arith, lt))
first_left (suc place) (e ∷ es) lt =
    let f = first_left place es (omega (arith, lt)) in
    let k : suc place + 1 ≡ suc (place + 1) = omega arith in
    record { entry = f.entry; rest = f.rest; here = f.here; next = ap (λ n. drop n (e ∷ es)) k ∙ f.next }

-- some entries were looked at, and the rest stands before those that are left of them
pub record Passing (policy : Policy) (rtt t low : ℕ) (held : List Packet) (all rest items : List Missing) (words : List AskWord) : Type 0 where
  pub done : List Missing
  pub due : List ℕ
  pub from : ℕ
  pub stands : items ≡ rest ++ done
  pub entries : done ++ entries_of policy rtt t low held words rest ≡ entries_of policy rtt t low held [] all
  pub final : words_of policy rtt t low held words rest ≡ words_of policy rtt t low held [] all
  pub asked : words ≡ words_for policy.kind 64 due
  pub rising : (x : ℕ) → from ≤ x → low ≤ x → IsRisingIn low x due
  pub left : AreRising from (low + MAX_SPAN) rest
  pub small : AreSmall items

pub passing_none : (policy : Policy) (rtt t low : ℕ) (held : List Packet) (all : List Missing) → AreRising 0 (low + MAX_SPAN) all → AreSmall all → Passing policy rtt t low held all all all []
passing_none policy rtt t low held all rising small = record {
  done = [];
  due = [];
  from = 0;
  stands = sym (append_nil all);
  entries = refl;
  final = refl;
  asked = none policy.kind;
  rising = λ x h le. le;
  left = rising;
  small = small;
}
  where
    none : (kind : NackKind) → [] ≡ words_for kind 64 []
    none Range = refl
    none Mask = refl

-- an entry that is due and live may be added
pub passing_above : (policy : Policy) (rtt t low : ℕ) (held : List Packet) (all rest items : List Missing) (words : List AskWord) (e : Missing) → Passing policy rtt t low held all (e ∷ rest) items words → is_live low held e ≡ true → IsAboveLast policy.kind words e.number
passing_above policy rtt t low held all rest items words e p live =
    let le = leb-true low e.number (and_parts (nat_le low e.number) (not (list_any (λ p. p.number == e.number) held)) live).0 in
    subst (λ ws. IsAboveLast policy.kind ws e.number) (sym p.asked)
    (words_above policy.kind low e.number p.due (omega (arith, p.left.1)) (p.rising e.number p.left.0 le))

-- the numbers that words name, with one more that is looked at
record Added (kind : NackKind) (low from : ℕ) (words : List AskWord) : Type 0 where
  due : List ℕ
  asked : words ≡ words_for kind 64 due
  rising : (x : ℕ) → from ≤ x → low ≤ x → IsRisingIn low x due

added : (policy : Policy) (rtt t low from : ℕ) (words words' : List AskWord) (due : List ℕ) (e : Missing) (live : Bool) → (live ≡ true → low ≤ e.number) → from ≤ e.number → words ≡ words_for policy.kind 64 due
    → ((x : ℕ) → from ≤ x → low ≤ x → IsRisingIn low x due) → words' ≡ (if live then words_after policy rtt t words e else words) → Added policy.kind low (e.number + 1) words'
added policy rtt t low from words words' due e false le since asked rising is = record { due = due; asked = is ∙ asked; rising = λ x h g. rising x (omega (arith, h, since)) g }
added policy rtt t low from words words' due e true le since asked rising is =
    elim (is_due_entry policy rtt t e) as (λ c. words' ≡ cond c (with_number policy.kind 64 words e.number) words → Added policy.kind low (e.number + 1) words') [
      | true ↦ λ is. record {
        due = due ++ e.number ∷ [];
        asked = is ∙ ap (λ ws. with_number policy.kind 64 ws e.number) asked ∙ sym (words-snoc policy.kind low e.number due (rising e.number since (le refl)));
        rising = λ x h g. rising-snoc low e.number x due (rising e.number since (le refl)) (omega (arith, h));
      }
      | false ↦ λ is. record { due = due; asked = is ∙ asked; rising = λ x h g. rising x (omega (arith, h, since)) g }
    ] is

small_after : (c : Bool) (t : ℕ) (e : Missing) → IsSmallEntry e → t < 2 ^ 61 → IsSmallEntry (if c then stamped t e else e)
small_after true t e h lt = record { found = h.found; last = λ u g. let same : t ≡ u = cc in omega (arith, same, lt) }
small_after false t e h lt = h

small_if : (c : Bool) (e : Missing) → IsSmallEntry e → AreSmall (if c then e ∷ [] else [])
small_if true e h = (h, tt)
small_if false e h = tt

-- one more entry is looked at
pub passing_more : (policy : Policy) (rtt t low : ℕ) (held : List Packet) (all rest items items' : List Missing) (words words' : List AskWord) (e : Missing) (p : Passing policy rtt t low held all (e ∷ rest) items words) → t < 2 ^ 61
    → items' ≡ (rest ++ p.done) ++ (if is_live low held e then entry_after policy rtt t words e ∷ [] else []) → words' ≡ (if is_live low held e then words_after policy rtt t words e else words)
    → Passing policy rtt t low held all rest items' words'
passing_more policy rtt t low held all rest items items' words words' e p now is ws =
    let new = if is_live low held e then entry_after policy rtt t words e ∷ [] else [] in
    let a = added policy rtt t low p.from words words' p.due e (is_live low held e) (λ live. leb-true low e.number (and_parts (nat_le low e.number) (not (list_any (λ p. p.number == e.number) held)) live).0) p.left.0 p.asked p.rising ws in
    let smalls = subst AreSmall p.stands p.small in
    record {
      done = p.done ++ new;
      due = a.due;
      from = e.number + 1;
      stands = is ∙ append_assoc rest p.done new;
      entries = append_assoc p.done new (entries_of policy rtt t low held words' rest) ∙ ap (λ vs. p.done ++ (new ++ entries_of policy rtt t low held vs rest)) ws ∙ p.entries;
      final = ap (λ vs. words_of policy rtt t low held vs rest) ws ∙ p.final;
      asked = a.asked;
      rising = a.rising;
      left = p.left.2;
      small = subst AreSmall (sym is) (small_append (rest ++ p.done) new smalls.1
          (small_if (is_live low held e) (entry_after policy rtt t words e) (small_after (is_due_entry policy rtt t e && takes policy.kind 64 words e.number) t e smalls.0 now)));
    }

-- ---- in terms of the place

pub step_above : (policy : Policy) (rtt t low place : ℕ) (held : List Packet) (all items : List Missing) (words : List AskWord) → Passing policy rtt t low held all (drop place all) items words → place < length all
    → (e : Missing) (rest : List Missing) → items ≡ e ∷ rest → is_live low held e ≡ true → IsAboveLast policy.kind words e.number
step_above policy rtt t low place held all items words p lt e rest is live =
    let f = first_left place all lt in
    let q = subst (λ l. Passing policy rtt t low held all l items words) f.here p in
    let same : f.entry ≡ e = same_head (sym q.stands ∙ is) in
    subst (λ x. IsAboveLast policy.kind words x.number) same (passing_above policy rtt t low held all f.rest items words f.entry q (ap (is_live low held) same ∙ live))
  where
    same_head : {x y : Missing} {xs ys : List Missing} → x ∷ xs ≡ y ∷ ys → x ≡ y
    same_head g = cc

few_if : (c : Bool) (e : Missing) → length (if c then e ∷ [] else []) ≤ 1
few_if true e = omega arith
few_if false e = omega arith

-- what looking at the first entry leaves
pub record Looks (policy : Policy) (rtt t low : ℕ) (held : List Packet) (items items' : List Missing) (ws ws' : List AskWord) : Type 0 where
  pub entries : (e : Missing) (rest : List Missing) → items ≡ e ∷ rest → items' ≡ rest ++ (if is_live low held e then entry_after policy rtt t ws e ∷ [] else [])
  pub words : (e : Missing) (rest : List Missing) → items ≡ e ∷ rest → ws' ≡ (if is_live low held e then words_after policy rtt t ws e else ws)

pub step_more : (policy : Policy) (rtt t low place capacity : ℕ) (held : List Packet) (all items items' : List Missing) (ws ws' : List AskWord) → Passing policy rtt t low held all (drop place all) items ws → place < length all → t < 2 ^ 61
    → length items ≤ capacity → Looks policy rtt t low held items items' ws ws' → Passing policy rtt t low held all (drop (place + 1) all) items' ws' × (length items' ≤ capacity)
step_more policy rtt t low place capacity held all items items' ws ws' p lt now room looks =
    let f = first_left place all lt in
    let q = subst (λ l. Passing policy rtt t low held all l items ws) f.here p in
    let is = looks.entries f.entry (f.rest ++ q.done) q.stands in
    let new = if is_live low held f.entry then entry_after policy rtt t ws f.entry ∷ [] else [] in (
      subst (λ l. Passing policy rtt t low held all l items' ws') (sym f.next)
          (passing_more policy rtt t low held all f.rest items items' ws ws' f.entry q now is (looks.words f.entry (f.rest ++ q.done) q.stands)),
      omega (arith, room, ap length q.stands, ap length is, length-append (f.rest ++ q.done) new, few_if (is_live low held f.entry) (entry_after policy rtt t ws f.entry)),
    )

drop_all : (n : ℕ) (xs : List Missing) → length xs ≤ n → drop n xs ≡ []
drop_all zero [] le = refl
drop_all zero (x ∷ xs) le = absurd (omega (arith, le))
drop_all (suc n) [] le = refl
drop_all (suc n) (x ∷ xs) le = drop_all n xs (omega (arith, le))

pub pass_end : (policy : Policy) (rtt t low place : ℕ) (held : List Packet) (all items : List Missing) (words : List AskWord) → Passing policy rtt t low held all (drop place all) items words → length all ≤ place
    → (words ≡ words_of policy rtt t low held [] all) × (items ≡ entries_of policy rtt t low held [] all)
pass_end policy rtt t low place held all items words p le =
    let q = subst (λ l. Passing policy rtt t low held all l items words) (drop_all place all le) p in
    (q.final, q.stands ∙ sym (append_nil q.done) ∙ q.entries)

-- ---- what holds of the entries that are left

few_left : (policy : Policy) (rtt t low : ℕ) (held : List Packet) (words : List AskWord) (es : List Missing) → length (entries_of policy rtt t low held words es) ≤ length es
few_left policy rtt t low held words [] = omega arith
few_left policy rtt t low held words (e ∷ es) =
    let next = if is_live low held e then words_after policy rtt t words e else words in
    let new = if is_live low held e then entry_after policy rtt t words e ∷ [] else [] in
    omega (arith, few_left policy rtt t low held next es, few_if (is_live low held e) (entry_after policy rtt t words e), length-append new (entries_of policy rtt t low held next es))

pub same_number : (policy : Policy) (rtt t : ℕ) (words : List AskWord) (e : Missing) → (entry_after policy rtt t words e).number ≡ e.number
same_number policy rtt t words e =
    elim (is_due_entry policy rtt t e && takes policy.kind 64 words e.number) as (λ c. (if c then stamped t e else e).number ≡ e.number) [ true ↦ refl | false ↦ refl ]

rising_lower : (low lower high : ℕ) (es : List Missing) → lower ≤ low → AreRising low high es → AreRising lower high es
rising_lower low lower high [] le h = tt
rising_lower low lower high (e ∷ es) le h = (omega (arith, le, h.0), h.1, h.2)

pub rising_left : (policy : Policy) (rtt t low : ℕ) (held : List Packet) (words : List AskWord) (from high : ℕ) (es : List Missing) → AreRising from high es → AreRising from high (entries_of policy rtt t low held words es)
rising_left policy rtt t low held words from high [] h = tt
rising_left policy rtt t low held words from high (e ∷ es) h =
    let next = if is_live low held e then words_after policy rtt t words e else words in
    let rest = rising_left policy rtt t low held next (e.number + 1) high es h.2 in
    elim (is_live low held e) as (λ c. AreRising from high ((if c then entry_after policy rtt t words e ∷ [] else []) ++ entries_of policy rtt t low held next es)) [
      | true ↦ (omega (arith, same_number policy rtt t words e, h.0), omega (arith, same_number policy rtt t words e, h.1), subst (λ n. AreRising (n + 1) high (entries_of policy rtt t low held next es)) (sym (same_number policy rtt t words e)) rest)
      | false ↦ rising_lower (e.number + 1) from high (entries_of policy rtt t low held next es) (omega (arith, h.0)) rest
    ]

small_left : (policy : Policy) (rtt t low : ℕ) (held : List Packet) (words : List AskWord) (es : List Missing) → t < 2 ^ 61 → AreSmall es → AreSmall (entries_of policy rtt t low held words es)
small_left policy rtt t low held words [] now h = tt
small_left policy rtt t low held words (e ∷ es) now h =
    let next = if is_live low held e then words_after policy rtt t words e else words in
    small_append (if is_live low held e then entry_after policy rtt t words e ∷ [] else []) (entries_of policy rtt t low held next es)
    (small_if (is_live low held e) (entry_after policy rtt t words e) (small_after (is_due_entry policy rtt t e && takes policy.kind 64 words e.number) t e h.0 now))
    (small_left policy rtt t low held next es now h.1)

pub sound_passed : (policy : Policy) (span rtt t low : ℕ) (held : List Packet) (high : Option ℕ) (es : List Missing) → t < 2 ^ 61 → IsSoundTimer policy span high es → IsSoundTimer policy span high (entries_of policy rtt t low held [] es)
sound_passed policy span rtt t low held high es now s = record {
  reorder = s.reorder;
  least = s.least;
  tries = s.tries;
  some = s.some;
  few = s.few;
  room = omega (arith, s.room, few_left policy rtt t low held [] es);
  rising = rising_left policy rtt t low held [] 0 (high_or high) es s.rising;
  below = s.below;
  small = small_left policy rtt t low held [] es now s.small;
}
