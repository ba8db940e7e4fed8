-- Words that lie near together have two upper halves at most, one after the other.
use Rattle.std.proofs.Common.{◌≡◌, ◌≢◌, ℕ, ◌+◌, ◌-◌, ◌*◌, ◌/◌, ◌%◌, ◌<◌, ◌≤◌, suc, zero, List, [], ◌∷◌, ◌++◌, length, take, drop, refl, ap, ◌∙◌, sym, subst, arith, Bool, true, false, nat_eq, inl, inr, slice_index_or, length-drop, append_assoc}
use Rattle.std.specs.List.{flat_map}
use Rattle.std.proofs.lemmas.List.{append-nil, take-append-drop}
use Rattle.std.proofs.lemmas.List.Concat.{flat_map-cons}
use Rattle.rtcp_compound.specs.Compound.{Content}
use Rattle.std.specs.Prelude.{◌⊎◌, ◌==◌, if◌then◌else◌}
use Rattle.std.proofs.lemmas.Bool.Decides.{eqb_tells}
use Rattle.std.proofs.lemmas.List.Folds.{length-prefix_len}
use Rattle.request_rules.specs.declared.word.AskWord.{AskWord}
use Rattle.rist_reporter.specs.Nacks.{upper_of, Group, group_with, groups_of}
use Rattle.request_rules.specs.Near.{AreAscending, AreClose}
use Rattle.rist_reporter.specs.Inside.Groups.{leading, AreOfUpper, IsOtherUpper}

-- ---- groups of uniform words

abbrev one_group : ℕ → List AskWord → Group
one_group upper words = record { upper = upper; words = words }

same_upper : (w : AskWord) (u : ℕ) (ws : List AskWord) (gs : List Group) → upper_of w ≡ u → group_with w (one_group u ws ∷ gs) ≡ one_group u (w ∷ ws) ∷ gs
same_upper w u ws gs e = grind (arith, e)

other_upper : (w : AskWord) (u v : ℕ) (ws : List AskWord) (gs : List Group) → upper_of w ≡ u → v ≢ u → group_with w (one_group v ws ∷ gs) ≡ one_group u (w ∷ []) ∷ one_group v ws ∷ gs
other_upper w u v ws gs e n = grind (arith, e, n)

uniform_groups : (u : ℕ) (w : AskWord) (ws : List AskWord) → AreOfUpper u (w ∷ ws) → groups_of (w ∷ ws) ≡ one_group u (w ∷ ws) ∷ []
uniform_groups u w [] a = ap (λ x. one_group x (w ∷ []) ∷ []) a.0
uniform_groups u w (v ∷ vs) a = ap (group_with w) (uniform_groups u v vs a.1) ∙ same_upper w u (v ∷ vs) [] a.0

pub one_upper : (u : ℕ) (ws : List AskWord) → 0 < length ws → AreOfUpper u ws → groups_of ws ≡ one_group u ws ∷ []
one_upper u [] l a = absurd (omega (arith, l))
one_upper u (w ∷ ws) l a = uniform_groups u w ws a

two_groups : (u v : ℕ) (w : AskWord) (ws ys : List AskWord) → v ≢ u → AreOfUpper u (w ∷ ws) → groups_of ys ≡ one_group v ys ∷ [] → groups_of ((w ∷ ws) ++ ys) ≡ one_group u (w ∷ ws) ∷ one_group v ys ∷ []
two_groups u v w [] ys n a e = ap (group_with w) e ∙ other_upper w u v ys [] a.0 n
two_groups u v w (x ∷ xs) ys n a e = ap (group_with w) (two_groups u v x xs ys n a.1 e) ∙ same_upper w u (x ∷ xs) (one_group v ys ∷ []) a.0

two_uppers : (u v : ℕ) (xs ys : List AskWord) → 0 < length xs → v ≢ u → AreOfUpper u xs → groups_of ys ≡ one_group v ys ∷ [] → groups_of (xs ++ ys) ≡ one_group u xs ∷ one_group v ys ∷ []
two_uppers u v [] ys l n a e = absurd (omega (arith, l))
two_uppers u v (x ∷ xs) ys l n a e = two_groups u v x xs ys n a e

-- ---- the words of the first one's upper half, and those behind them

abbrev Tells : ℕ → ℕ → Type 0
Tells a b = ((nat_eq a b ≡ true) × (a ≡ b)) ⊎ ((nat_eq a b ≡ false) × (a ≢ b))

counts_on : (u : ℕ) (w : AskWord) (ws : List AskWord) → (upper_of w == u) ≡ true → leading u (w ∷ ws) ≡ suc (leading u ws)
counts_on u w ws t =
    let e : leading u (w ∷ ws) ≡ 1 + leading u ws = ap (λ (b : Bool). if b then 1 + leading u ws else 0) t in
    omega (arith, e)

counts_none : (u : ℕ) (w : AskWord) (ws : List AskWord) → (upper_of w == u) ≡ false → leading u (w ∷ ws) ≡ zero
counts_none u w ws f = ap (λ (b : Bool). if b then 1 + leading u ws else 0) f

front_step : (u : ℕ) (w : AskWord) (ws : List AskWord) → Tells (upper_of w) u → AreOfUpper u (take (leading u ws) ws) → AreOfUpper u (take (leading u (w ∷ ws)) (w ∷ ws))
front_step u w ws (inl t) ih = subst (λ (n : ℕ). AreOfUpper u (take n (w ∷ ws))) (sym (counts_on u w ws t.0)) (t.1, ih)
front_step u w ws (inr f) ih = subst (λ (n : ℕ). AreOfUpper u (take n (w ∷ ws))) (sym (counts_none u w ws f.0)) tt

pub front_upper : (u : ℕ) (ws : List AskWord) → AreOfUpper u (take (leading u ws) ws)
front_upper u [] = tt
front_upper u (w ∷ ws) = front_step u w ws (eqb_tells (upper_of w) u) (front_upper u ws)

rest_step : (u : ℕ) (w : AskWord) (ws : List AskWord) → Tells (upper_of w) u → IsOtherUpper u (drop (leading u ws) ws) → IsOtherUpper u (drop (leading u (w ∷ ws)) (w ∷ ws))
rest_step u w ws (inl t) ih = subst (λ (n : ℕ). IsOtherUpper u (drop n (w ∷ ws))) (sym (counts_on u w ws t.0)) ih
rest_step u w ws (inr f) ih = subst (λ (n : ℕ). IsOtherUpper u (drop n (w ∷ ws))) (sym (counts_none u w ws f.0)) f.1

rest_upper : (u : ℕ) (ws : List AskWord) → IsOtherUpper u (drop (leading u ws) ws)
rest_upper u [] = tt
rest_upper u (w ∷ ws) = rest_step u w ws (eqb_tells (upper_of w) u) (rest_upper u ws)

some_step : (u : ℕ) (w : AskWord) (ws : List AskWord) → Tells (upper_of w) u → upper_of w ≡ u → 0 < leading u (w ∷ ws)
some_step u w ws (inl t) e = omega (arith, counts_on u w ws t.0)
some_step u w ws (inr f) e = absurd (f.1 e)

-- ---- near words

weaker : (a b high : ℕ) (ws : List AskWord) → a ≤ b → AreAscending b high ws → AreAscending a high ws
weaker a b high [] l asc = tt
weaker a b high (w ∷ ws) l asc = (omega (arith, l, asc.0), asc.1, asc.2)

tail_ascends : (k low high : ℕ) (ws : List AskWord) → AreAscending low high ws → AreAscending low high (drop k ws)
tail_ascends zero low high ws asc = asc
tail_ascends (suc k) low high [] asc = tt
tail_ascends (suc k) low high (w ∷ ws) asc = weaker low w.first high (drop k ws) asc.0 (tail_ascends k w.first high ws asc.2)

quotient : (q x : ℕ) → q * 65536 ≤ x → x < q * 65536 + 65536 → x / 65536 ≡ q
quotient q x a b = omega (arith, a, b)

of_interval : (q low high : ℕ) (ws : List AskWord) → q * 65536 ≤ low → high ≤ q * 65536 + 65536 → AreAscending low high ws → AreOfUpper (q % 65536) ws
of_interval q low high [] a b asc = tt
of_interval q low high (w ∷ ws) a b asc =
    (ap (λ (y : ℕ). y % 65536) (quotient q w.first (omega (arith, a, asc.0)) (omega (arith, b, asc.1))), of_interval q w.first high ws (omega (arith, a, asc.0)) b asc.2)

next_quotient : (base x : ℕ) → base ≤ x → (x / 65536 ≡ base / 65536 → ⊥) → (base / 65536 + 1) * 65536 ≤ x
next_quotient base x l n = grind (arith, l, n)

rest_of : (base : ℕ) (v : AskWord) (vs : List AskWord) → AreAscending base (base + 65536) (v ∷ vs) → upper_of v ≢ base / 65536 % 65536 → AreOfUpper (upper_of v) (v ∷ vs)
rest_of base v vs asc other =
    let low : (base / 65536 + 1) * 65536 ≤ v.first = next_quotient base v.first asc.0 (λ e. other (ap (λ (y : ℕ). y % 65536) e)) in
    let all = of_interval (base / 65536 + 1) v.first (base + 65536) (v ∷ vs) low (omega arith) (omega arith, asc.1, asc.2) in
    subst (λ (u : ℕ). AreOfUpper u (v ∷ vs)) (sym all.0) all

pub rest_uniform : (base : ℕ) (ys : List AskWord) (e : AskWord) → 0 < length ys → AreAscending base (base + 65536) ys → IsOtherUpper (base / 65536 % 65536) ys
    → (upper_of (slice_index_or ys 0 e) ≢ base / 65536 % 65536) × AreOfUpper (upper_of (slice_index_or ys 0 e)) ys
rest_uniform base [] e l asc other = absurd (omega (arith, l))
rest_uniform base (v ∷ vs) e l asc other = (other, rest_of base v vs asc other)

-- ---- the groups of near words

take_all : (k : ℕ) (words : List AskWord) → length words ≤ k → take k words ≡ words
take_all zero [] l = refl
take_all zero (w ∷ ws) l = absurd (omega (arith, l))
take_all (suc k) [] l = refl
take_all (suc k) (w ∷ ws) l = ap (λ rest. w ∷ rest) (take_all k ws (omega (arith, l)))

some_leading : (words : List AskWord) (d : AskWord) → 0 < length words → 0 < leading (upper_of (slice_index_or words 0 d)) words
some_leading [] d l = absurd (omega (arith, l))
some_leading (w ∷ ws) d l = some_step (upper_of w) w ws (eqb_tells (upper_of w) (upper_of w)) refl

first_base : (words : List AskWord) (d : AskWord) → 0 < length words → AreClose words → AreAscending (slice_index_or words 0 d).first ((slice_index_or words 0 d).first + 65536) words
first_base [] d l close = absurd (omega (arith, l))
first_base (w ∷ ws) d l close = (omega arith, omega arith, close)

pub near_one : (words : List AskWord) (d : AskWord) (u k : ℕ) → 0 < length words → u ≡ upper_of (slice_index_or words 0 d) → k ≡ leading u words → length words ≤ k
    → groups_of words ≡ one_group u (take k words) ∷ []
near_one words d u k some first is whole =
    let all : take k words ≡ words = take_all k words whole in
    let upper : AreOfUpper u words = subst (λ ws. AreOfUpper u ws) (ap (λ n. take n words) (sym is) ∙ all) (front_upper u words) in
    one_upper u words some upper ∙ sym (ap (λ ws. one_group u ws ∷ []) all)

near_rest : (words : List AskWord) (d e : AskWord) (k : ℕ) → 0 < length words → AreClose words → k ≡ leading (upper_of (slice_index_or words 0 d)) words → k < length words
    → groups_of words ≡ one_group (upper_of (slice_index_or words 0 d)) (take k words) ∷ one_group (upper_of (slice_index_or (drop k words) 0 e)) (drop k words) ∷ []
near_rest words d e k some close is below =
    let u = upper_of (slice_index_or words 0 d) in
    let base = (slice_index_or words 0 d).first in
    let front : AreOfUpper u (take k words) = subst (λ (n : ℕ). AreOfUpper u (take n words)) (sym is) (front_upper u words) in
    let other : IsOtherUpper u (drop k words) = subst (λ (n : ℕ). IsOtherUpper u (drop n words)) (sym is) (rest_upper u words) in
    let size : 0 < length (drop k words) = omega (arith, length-drop k words, below) in
    let rest = rest_uniform base (drop k words) e size (tail_ascends k base (base + 65536) words (first_base words d some close)) other in
    let v = upper_of (slice_index_or (drop k words) 0 e) in
    let long : 0 < length (take k words) = omega (arith, some_leading words d some, is, ap (λ (n : ℕ). length (take n words)) is ∙ length-prefix_len (λ w. upper_of w == u) words) in
    ap groups_of (sym (take-append-drop k words)) ∙ two_uppers u v (take k words) (drop k words) long rest.0 front (one_upper v (drop k words) size rest.1)

behind : (k : ℕ) (words : List AskWord) → take (length words - k) (drop k words) ≡ drop k words
behind k words = take_all (length words - k) (drop k words) (omega (arith, length-drop k words))

pub near_two : (words : List AskWord) (d e : AskWord) (u v k : ℕ) → 0 < length words → AreClose words → u ≡ upper_of (slice_index_or words 0 d) → k ≡ leading u words → k < length words
    → v ≡ upper_of (slice_index_or (take (length words - k) (drop k words)) 0 e)
    → groups_of words ≡ one_group u (take k words) ∷ one_group v (take (length words - k) (drop k words)) ∷ []
near_two words d e u v k some close first is below next =
    let far : v ≡ upper_of (slice_index_or (drop k words) 0 e) = next ∙ ap (λ l. upper_of (slice_index_or l 0 e)) (behind k words) in
    near_rest words d e k some close (is ∙ ap (λ n. leading n words) first) below
    ∙ ap (λ n. one_group n (take k words) ∷ one_group (upper_of (slice_index_or (drop k words) 0 e)) (drop k words) ∷ []) (sym first)
    ∙ ap (λ n. one_group u (take k words) ∷ one_group n (drop k words) ∷ []) (sym far)
    ∙ ap (λ l. one_group u (take k words) ∷ one_group v l ∷ []) (sym (behind k words))

-- ---- their packets

pub packets_one : (f : Group → List Content) (p0 p1 : List Content) (g : Group) (gs : List Group) → p1 ≡ p0 ++ f g → gs ≡ g ∷ [] → p1 ≡ p0 ++ flat_map f gs
packets_one f p0 p1 g gs e is = e ∙ ap (λ l. p0 ++ l) (sym (append-nil (f g)) ∙ sym (flat_map-cons f g [])) ∙ sym (ap (λ l. p0 ++ flat_map f l) is)

pub packets_two : (f : Group → List Content) (p0 p1 p2 : List Content) (g h : Group) (gs : List Group) → p1 ≡ p0 ++ f g → p2 ≡ p1 ++ f h → gs ≡ g ∷ h ∷ [] → p2 ≡ p0 ++ flat_map f gs
packets_two f p0 p1 p2 g h gs e e2 is =
    e2 ∙ ap (λ l. l ++ f h) e ∙ append_assoc p0 (f g) (f h)
    ∙ ap (λ l. p0 ++ l) (ap (λ l. f g ++ l) (sym (append-nil (f h)) ∙ sym (flat_map-cons f h [])) ∙ sym (flat_map-cons f g (h ∷ [])))
    ∙ sym (ap (λ l. p0 ++ flat_map f l) is)
