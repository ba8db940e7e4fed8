-- The nearest number is the one that its definition computes.
use Rattle.std.proofs.Common.{◌≡◌, ℕ, ◌+◌, ◌-◌, ◌*◌, ◌/◌, ◌%◌, ◌^◌, ◌<◌, ◌≤◌, ⊎_elim, refl, sym, ◌∙◌, ap, arith, lit≤}
use Rattle.std.proofs.lemmas.Bool.{cases_lt}
use Rattle.std.proofs.lemmas.Nat.{mod-mul-add}
use Rattle.std.proofs.Math.Nat.{div-add-mod}
use Rattle.seq_unwrap.specs.declared.width.Width.{Width}
use Rattle.seq_unwrap.specs.declared.width.Width.TheVariants.{W16, W32}
use Rattle.seq_unwrap.specs.Nearest.{cycle_of, nearest, IsNearest}

nearest_rest : (cycle a r d : ℕ) → r < cycle → d < cycle → ((a * cycle + r + d) % cycle + cycle - r) % cycle ≡ d
nearest_rest cycle a r d hr hd =
    ⊎_elim
    (λ (below : r + d < cycle).
    let e : a * cycle + r + d ≡ a * cycle + (r + d) = omega arith in
    let rest : (a * cycle + r + d) % cycle ≡ r + d = ap (λ n. n % cycle) e ∙ mod-mul-add a cycle (r + d) below in
    let f : (a * cycle + r + d) % cycle + cycle - r ≡ 1 * cycle + d = omega arith in
    ap (λ n. n % cycle) f ∙ mod-mul-add 1 cycle d hd)
    (λ (above : cycle ≤ r + d).
    let e : a * cycle + r + d ≡ (a + 1) * cycle + (r + d - cycle) = omega arith in
    let rest : (a * cycle + r + d) % cycle ≡ r + d - cycle = ap (λ n. n % cycle) e ∙ mod-mul-add (a + 1) cycle (r + d - cycle) (omega arith) in
    let f : (a * cycle + r + d) % cycle + cycle - r ≡ 0 * cycle + d = omega arith in
    ap (λ n. n % cycle) f ∙ mod-mul-add 0 cycle d hd)
    (cases_lt (r + d) cycle)

-- a number that is near enough is told by what it ends in
pub nearest_is : (cycle half h n : ℕ) → cycle ≡ half + half → 1 ≤ half → half ≤ h → h ≤ n + half → n < h + half → nearest cycle h (n % cycle) ≡ n
unfolding nearest
nearest_is cycle half h n e some low lo hi =
    let middle : cycle / 2 ≡ half = omega arith in
    ap (λ m. h - m + (n % cycle + cycle - (h - m) % cycle) % cycle) middle ∙ told (h - half) (n - (h - half)) (omega arith) (omega arith)
  where
    told : (l d : ℕ) → l + d ≡ n → d < cycle → l + (n % cycle + cycle - l % cycle) % cycle ≡ n
    told l d sum small =
        let parts : l / cycle * cycle + l % cycle ≡ l = omega (arith, div-add-mod l cycle) in
        let rest : l % cycle < cycle = omega arith in
        let n_is : n ≡ l / cycle * cycle + l % cycle + d = omega arith in
        ap (λ k. l + (k % cycle + cycle - l % cycle) % cycle) n_is ∙ ap (λ k. l + k) (nearest_rest cycle (l / cycle) (l % cycle) d rest small) ∙ sum

-- what is computed ends in the word
nearest_ends : (cycle l word : ℕ) → word < cycle → (l + (word + cycle - l % cycle) % cycle) % cycle ≡ word
nearest_ends cycle l word small =
    let parts : l / cycle * cycle + l % cycle ≡ l = omega (arith, div-add-mod l cycle) in
    let rest : l % cycle < cycle = omega arith in
    ⊎_elim
    (λ (below : word < l % cycle).
    let d : (word + cycle - l % cycle) % cycle ≡ word + cycle - l % cycle = ap (λ n. n % cycle) (less cycle (word + cycle - l % cycle)) ∙ mod-mul-add 0 cycle (word + cycle - l % cycle) (omega arith) in
    let sum : l + (word + cycle - l % cycle) % cycle ≡ (l / cycle + 1) * cycle + word = omega arith in
    ap (λ n. n % cycle) sum ∙ mod-mul-add (l / cycle + 1) cycle word small)
    (λ (above : l % cycle ≤ word).
    let f : word + cycle - l % cycle ≡ 1 * cycle + (word - l % cycle) = omega arith in
    let d : (word + cycle - l % cycle) % cycle ≡ word - l % cycle = ap (λ n. n % cycle) f ∙ mod-mul-add 1 cycle (word - l % cycle) (omega arith) in
    let sum : l + (word + cycle - l % cycle) % cycle ≡ l / cycle * cycle + word = omega arith in
    ap (λ n. n % cycle) sum ∙ mod-mul-add (l / cycle) cycle word small)
    (cases_lt word (l % cycle))
  where
    less : (cycle n : ℕ) → n ≡ 0 * cycle + n
    less cycle n = omega arith

-- what is computed is nearest
pub is_nearest : (cycle half h word : ℕ) → cycle ≡ half + half → 1 ≤ half → half ≤ h → word < cycle → IsNearest cycle h word (nearest cycle h word)
unfolding nearest
is_nearest cycle half h word e some low small =
    let middle : cycle / 2 ≡ half = omega arith in
    let rest : (word + cycle - (h - cycle / 2) % cycle) % cycle < cycle = omega arith in
    record { ends = nearest_ends cycle (h - cycle / 2) word small; low = omega arith; high = omega arith }

pub is_nearest_width : (width : Width) (h word : ℕ) → cycle_of width / 2 ≤ h → word < cycle_of width → IsNearest (cycle_of width) h word (nearest (cycle_of width) h word)
is_nearest_width W16 h word low small = is_nearest 65536 32768 h word refl (lit≤ tt) low small
is_nearest_width W32 h word low small = is_nearest 4294967296 2147483648 h word refl (lit≤ tt) low small

-- and no other number is
pub nearest_only : (width : Width) (h word x : ℕ) → cycle_of width / 2 ≤ h → IsNearest (cycle_of width) h word x → x ≡ nearest (cycle_of width) h word
nearest_only W16 h word x low is = sym (nearest_is 65536 32768 h x refl (lit≤ tt) low is.low is.high) ∙ ap (nearest 65536 h) is.ends
nearest_only W32 h word x low is = sym (nearest_is 4294967296 2147483648 h x refl (lit≤ tt) low is.low is.high) ∙ ap (nearest 4294967296 h) is.ends

pub half_small : (width : Width) → cycle_of width / 2 ≤ 2 ^ 32
half_small W16 = lit≤ tt
half_small W32 = lit≤ tt
