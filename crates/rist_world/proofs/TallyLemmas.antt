-- What is counted while a network runs.
use Rattle.std.proofs.Common.{◌≡◌, ◌∙◌, ℕ, zero, suc, ◌+◌, ◌<◌, ◌≤◌, Bool, true, false, List, [], ◌∷◌, ◌++◌, length, get_or, Result, Ok, Err, IfOk, refl, sym, ap, arith}
use Rattle.std.specs.Prelude.{◌==◌, ◌||◌}
use Rattle.std.specs.List.{range_with_len}
use Rattle.std.proofs.Math.Dec.{eqb-zero-suc, eqb-suc-zero, eqb-suc-suc}
use Rattle.std.specs.List.{sum_by, count_by}
use Rattle.std.specs.Prelude.{cond}
use Rattle.std.proofs.lemmas.List.Sums.{sum_by-cons, sum_by_push}
use Rattle.rist_ends.specs.Counts.{capped}
use Rattle.rist_world.specs.Tally.{raised_if}

-- ---- places that have come

snoc_at : (xs : List Bool) (k : ℕ) → get_or (xs ++ true ∷ []) k false ≡ (length xs == k || get_or xs k false)
snoc_at [] zero = refl
snoc_at [] (suc k) = sym (ap (λ b. b || false) (eqb-zero-suc k))
snoc_at (x ∷ xs) zero = sym (ap (λ b. b || x) (eqb-suc-zero (length xs)))
snoc_at (x ∷ xs) (suc k) = snoc_at xs k ∙ sym (ap (λ b. b || get_or xs k false) (eqb-suc-suc (length xs) k))

-- a list that was filled up to a place, and one more
pub pushed : {A E : Type 0} → (old filled new : List Bool) (place : ℕ) (r : Result A E) → ((k : ℕ) → get_or filled k false ≡ get_or old k false) → length filled ≡ place → IfOk r (λ done. new ≡ filled ++ true ∷ [])
    → IfOk r (λ done. (k : ℕ) → get_or new k false ≡ (place == k || get_or old k false))
pushed old filled new place (Err e) same long more = tt
pushed old filled new place (Ok x) same long more = λ k.
    ap (λ xs. get_or xs k false) more ∙ snoc_at filled k ∙ ap (λ n. n == k || get_or filled k false) long ∙ ap (λ b. place == k || b) (same k)

-- ---- counts over places and links

suc_more : (n : ℕ) → suc n + 1 ≡ suc (n + 1)
suc_more n = omega arith

range_more : (a n : ℕ) → range_with_len a (n + 1) ≡ range_with_len a n ++ (a + n) ∷ []
range_more a zero = ap (λ b. b ∷ []) (omega arith)
range_more a (suc n) =
    ap (range_with_len a) (suc_more n)
    ∙ ap (λ xs. a ∷ xs) (range_more (a + 1) n ∙ ap (λ b. range_with_len (a + 1) n ++ b ∷ []) (omega arith))

sum_more : (f : ℕ → ℕ) (n : ℕ) → sum_by f (range_with_len 0 (n + 1)) ≡ sum_by f (range_with_len 0 n) + f n
sum_more f n = ap (sum_by f) (range_more 0 n ∙ ap (λ b. range_with_len 0 n ++ b ∷ []) (omega arith)) ∙ sum_by_push f (range_with_len 0 n) n

-- one where a test holds
pub one_if : (c d : Bool) → c ≡ d → ◌≡◌ {A = ℕ} (cond c 1 0) (cond d 1 0)
one_if c d e = ap {B = ℕ} (λ b. cond b 1 0) e

-- one more place was looked at
pub raised_more : (p : ℕ → Bool) (n count : ℕ) → count ≡ capped (count_by p (range_with_len 0 n)) → raised_if (p n) count ≡ capped (count_by p (range_with_len 0 (n + 1)))
raised_more p n count is = by (p n) refl
  where
    by : (c : Bool) → p n ≡ c → raised_if c count ≡ capped (count_by p (range_with_len 0 (n + 1)))
    by true e = omega (arith, is, sum_more (λ x. cond (p x) 1 0) n, one_if (p n) true e)
    by false e = omega (arith, is, sum_more (λ x. cond (p x) 1 0) n, one_if (p n) false e)

-- one more link was added
pub added_more : (f : ℕ → ℕ) (n count more : ℕ) → count ≡ capped (sum_by f (range_with_len 0 n)) → more ≡ capped (f n) → capped (count + more) ≡ capped (sum_by f (range_with_len 0 (n + 1)))
added_more f n count more is one = omega (arith, is, one, sum_more f n)

-- counts that are the same at each place are the same in all
pub sum_same : (f g : ℕ → ℕ) (a n : ℕ) → ((i : ℕ) → a ≤ i → i < a + n → f i ≡ g i) → sum_by f (range_with_len a n) ≡ sum_by g (range_with_len a n)
sum_same f g a zero same = refl
sum_same f g a (suc n) same =
    sum_by-cons f a (range_with_len (a + 1) n)
    ∙ ap (λ x. x + sum_by f (range_with_len (a + 1) n)) (same a (omega arith) (omega arith))
    ∙ ap (λ x. g a + x) (sum_same f g (a + 1) n (λ i low high. same i (omega (arith, low)) (omega (arith, high))))
    ∙ sym (sum_by-cons g a (range_with_len (a + 1) n))
