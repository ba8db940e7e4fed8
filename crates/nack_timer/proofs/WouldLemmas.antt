-- Whether a pass would ask for anything.
use Rattle.std.proofs.Common.{◌≡◌, ℕ, zero, suc, ◌+◌, Bool, true, false, cond, ◌||◌, List, [], ◌∷◌, ◌++◌, drop, take, Some, refl, sym, ap, subst, ◌∙◌, arith}
use Rattle.std.specs.Prelude.{slice_get, ◌==◌, if◌then◌else◌}
use Rattle.std.specs.List.{list_any}
use Rattle.receiver_rules.specs.Packets.{Packet}
use Rattle.request_rules.specs.declared.policy.NackKind.{NackKind}
use Rattle.request_rules.specs.declared.policy.NackKind.TheVariants.{Range, Mask}
use Rattle.request_rules.specs.declared.policy.Policy.{Policy}
use Rattle.request_rules.specs.declared.word.AskWord.{AskWord}
use Rattle.request_rules.specs.Words.{words_for, runs_of, run_with}
use Rattle.nack_timer.specs.declared.entry.Missing.{Missing}
use Rattle.nack_timer.specs.Inside.Sound.{IsSmallEntry, AreSmall}
use Rattle.nack_timer.specs.Inside.Pass.{is_wanted, is_wanted_one}
use Rattle.nack_timer.specs.OneMore.{is_any}
use Rattle.nack_timer.proofs.DueLemmas.{due_in}

pub small_at : (es : List Missing) (k : ℕ) (e : Missing) → AreSmall es → Some e ≡ slice_get es k → IsSmallEntry e
small_at [] k e h g = absurd cc
small_at (x ∷ xs) zero e h g = let same : x ≡ e = cc in subst IsSmallEntry same h.0
small_at (x ∷ xs) (suc k) e h g = small_at xs k e h.1 g

pub any_here : (policy : Policy) (rtt t low : ℕ) (held : List Packet) (es : List Missing) (k : ℕ) → is_wanted_one policy rtt t low held (slice_get es k) ≡ true → list_any (is_wanted policy rtt t low held) es ≡ true
any_here policy rtt t low held [] k e = absurd cc
any_here policy rtt t low held (x ∷ xs) zero e = rw e refl
any_here policy rtt t low held (x ∷ xs) (suc k) e = let rest = any_here policy rtt t low held xs k e in rw rest (or_true (is_wanted policy rtt t low held x))
  where
    or_true : (b : Bool) → (b || true) ≡ true
    or_true true = refl
    or_true false = refl

pub any_next : (policy : Policy) (rtt t low : ℕ) (held : List Packet) (es : List Missing) (k : ℕ) → is_wanted_one policy rtt t low held (slice_get es k) ≡ false
    → list_any (is_wanted policy rtt t low held) (drop (k + 1) es) ≡ list_any (is_wanted policy rtt t low held) (drop k es)
any_next policy rtt t low held [] k e = ap (list_any (is_wanted policy rtt t low held)) (drop_none (k + 1) ∙ sym (drop_none k))
  where
    drop_none : (n : ℕ) → ◌≡◌ {A = List Missing} (drop n []) []
    drop_none zero = refl
    drop_none (suc n) = refl
any_next policy rtt t low held (x ∷ xs) zero e = rw e refl
any_next policy rtt t low held (x ∷ xs) (suc k) e =
    let n : suc k + 1 ≡ suc (k + 1) = omega arith in
    ap (λ m. list_any (is_wanted policy rtt t low held) (drop m (x ∷ xs))) n ∙ any_next policy rtt t low held xs k e

-- some words, where there are numbers
run_some : (x : ℕ) (ws : List AskWord) → is_any (take 64 (run_with x ws)) ≡ true
run_some x [] = refl
run_some x (w ∷ ws) = elim (w.first == x + 1) as (λ c. is_any (take 64 (cond c (record { first = x; second = w.second + 1 } ∷ ws) (record { first = x; second = 0 } ∷ w ∷ ws))) ≡ true) [ true ↦ refl | false ↦ refl ]

some_words : (kind : NackKind) (x : ℕ) (xs : List ℕ) → is_any (words_for kind 64 (x ∷ xs)) ≡ true
some_words Range x xs = run_some x (runs_of xs)
some_words Mask x xs = refl

no_words : (kind : NackKind) → is_any (words_for kind 64 []) ≡ false
no_words Range = refl
no_words Mask = refl

pub would_is : (policy : Policy) (rtt t low : ℕ) (held : List Packet) (es : List Missing) → list_any (is_wanted policy rtt t low held) es ≡ is_any (words_for policy.kind 64 (due_in policy rtt t low held es))
would_is policy rtt t low held [] = sym (no_words policy.kind)
would_is policy rtt t low held (e ∷ es) =
    elim (is_wanted policy rtt t low held e) as (λ c. (c || list_any (is_wanted policy rtt t low held) es) ≡ is_any (words_for policy.kind 64 ((if c then e.number ∷ [] else []) ++ due_in policy rtt t low held es))) [
      | true ↦ sym (some_words policy.kind e.number (due_in policy rtt t low held es))
      | false ↦ would_is policy rtt t low held es
    ]
