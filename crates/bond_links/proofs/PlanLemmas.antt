-- Links between two, and links that aren't down.
use Rattle.std.proofs.Common.{◌≡◌, ◌∙◌, ℕ, suc, ◌+◌, ◌-◌, ◌<◌, Bool, true, List, [], ◌∷◌, None, Some, refl, sym, ap, arith}
use Rattle.std.specs.Prelude.{not, if◌then◌else◌}
use Rattle.std.specs.List.{find, filter, range_with_len}
use Rattle.std.proofs.lemmas.List.Folds.{find-append}
use Rattle.std.specs.Option.{option_or}
use Rattle.sender_rules.specs.Bonding.{next_up}

-- the first of the links between two stands before the others
pub find_step : (test : ℕ → Bool) (link to : ℕ) → link < to
    → find test (range_with_len link (to - link)) ≡ (if test link then Some link else find test (range_with_len (link + 1) (to - (link + 1))))
find_step test link to lt = ap (λ n. find test (range_with_len link n)) (more link to lt)
  where
    more : (link to : ℕ) → link < to → to - link ≡ suc (to - (link + 1))
    more link to lt = omega (arith, lt)

-- where the test always holds nothing is left out
pub filter_all : (xs : List ℕ) → filter (λ x. true) xs ≡ xs
filter_all [] = refl
filter_all (x ∷ xs) = ap (λ ys. x ∷ ys) (filter_all xs)

-- a link that is up from one on, or else below it
pub next_from : (is_down : ℕ → Bool) (link count up : ℕ) → Some up ≡ find (λ l. not (is_down l)) (range_with_len link (count - link)) → Some up ≡ next_up is_down link count
next_from is_down link count up e =
    let test : ℕ → Bool = λ l. not (is_down l) in
    ap (λ o. option_or o (find test (range_with_len 0 link))) e ∙ sym (find-append test (range_with_len link (count - link)) (range_with_len 0 link))

pub next_below : (is_down : ℕ → Bool) (link count : ℕ) → None ≡ find (λ l. not (is_down l)) (range_with_len link (count - link))
    → find (λ l. not (is_down l)) (range_with_len 0 (link - 0)) ≡ next_up is_down link count
next_below is_down link count e =
    let test : ℕ → Bool = λ l. not (is_down l) in
    let whole : link - 0 ≡ link = omega arith in
    ap (λ n. find test (range_with_len 0 n)) whole
    ∙ ap (λ o. option_or o (find test (range_with_len 0 link))) e ∙ sym (find-append test (range_with_len link (count - link)) (range_with_len 0 link))
