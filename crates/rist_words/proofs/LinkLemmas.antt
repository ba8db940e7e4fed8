-- Links and weights one after another.
use Rattle.std.proofs.Common.{◌≡◌, ◌<◌, ◌+◌, ◌-◌, ℕ, zero, suc, List, [], ◌∷◌, ◌++◌, Option, Some, None, refl, arith, get_or, length, drop, map, ◌≤◌, append_assoc, append-nil, ap, sym}
use Rattle.std.specs.Borrow.{Bor}
use Rattle.std.specs.Prelude.{option_map}
use Rattle.clap.specs.Words.{Text}
use Rattle.link_channels.specs.declared.profile.Profile.{Profile}
use Rattle.outside_net.specs.declared.link_spec.LinkSpec.{LinkSpec}
use Rattle.outside_net.specs.declared.link_spec.Role.{Role}
use Rattle.rist_words.specs.Values.{number_in, ◌>>=◌}
use Rattle.rist_words.specs.Links.{colon, each_link, link_of, link_weights, split_at, weights_in}

-- links before others
abbrev pub links_with : List LinkSpec → Option (List LinkSpec) → Option (List LinkSpec)
links_with links more = option_map (λ ls. links ++ ls) more

one_more : (links : List LinkSpec) (link : LinkSpec) (more : Option (List LinkSpec))
    → links_with links (more >>= (λ ls. Some (link ∷ ls))) ≡ links_with (links ++ link ∷ []) more
one_more links link None = refl
one_more links link (Some ls) = ap Some (sym (append_assoc links (link ∷ []) ls))

-- the links that references from a place on write
abbrev pub links_from : Role → Profile → List (Bor Text) → ℕ → Option (List LinkSpec)
links_from role profile texts i = each_link role profile (drop i (map (λ t. t.now) texts))

next_at : (role : Role) (profile : Profile) (texts : List (Bor Text)) (i j : ℕ) (d : Bor Text) (links : List LinkSpec) (link : LinkSpec) → i < length texts → j ≡ i + 1
    → link_of role profile (get_or texts i d).now ≡ Some link
    → links_with links (links_from role profile texts i) ≡ links_with (links ++ link ∷ []) (links_from role profile texts j)
next_at role profile [] i j d links link inside next is = absurd (omega arith)
next_at role profile (text ∷ texts) zero zero d links link inside next is = absurd (omega arith)
next_at role profile (text ∷ texts) zero (suc zero) d links link inside next is = rw is (one_more links link (each_link role profile (map (λ t. t.now) texts)))
next_at role profile (text ∷ texts) zero (suc (suc j)) d links link inside next is = absurd (omega arith)
next_at role profile (text ∷ texts) (suc i) zero d links link inside next is = absurd (omega arith)
next_at role profile (text ∷ texts) (suc i) (suc j) d links link inside next is = next_at role profile texts i j d links link (omega arith) (omega arith) is

pub next_link : (role : Role) (profile : Profile) (texts : List (Bor Text)) (i : ℕ) (d : Bor Text) (links : List LinkSpec) (link : LinkSpec) → i < length texts
    → link_of role profile (get_or texts i d).now ≡ Some link
    → links_with links (links_from role profile texts i) ≡ links_with (links ++ link ∷ []) (links_from role profile texts (i + 1))
next_link role profile texts i d links link inside is = next_at role profile texts i (i + 1) d links link inside refl is

pub no_link : (role : Role) (profile : Profile) (texts : List (Bor Text)) (i : ℕ) (d : Bor Text) (links : List LinkSpec) → i < length texts
    → link_of role profile (get_or texts i d).now ≡ None
    → links_with links (links_from role profile texts i) ≡ None
no_link role profile [] i d links inside is = absurd (omega arith)
no_link role profile (text ∷ texts) zero d links inside is = rw is refl
no_link role profile (text ∷ texts) (suc i) d links inside is = no_link role profile texts i d links (omega arith) is

pub no_more : (role : Role) (profile : Profile) (texts : List (Bor Text)) (i : ℕ) (links : List LinkSpec) → length texts ≤ i → links_with links (links_from role profile texts i) ≡ Some links
no_more role profile [] zero links past = ap Some (append-nil links)
no_more role profile [] (suc i) links past = ap Some (append-nil links)
no_more role profile (text ∷ texts) zero links past = absurd (omega arith)
no_more role profile (text ∷ texts) (suc i) links past = no_more role profile texts i links (omega arith)

-- ---- weights

-- weights before others
abbrev pub weights_with : List ℕ → Option (List ℕ) → Option (List ℕ)
weights_with weights more = option_map (λ ws. weights ++ ws) more

weights_after : (weights : List ℕ) (weight : ℕ) (more : Option (List ℕ))
    → weights_with weights (more >>= (λ ws. Some (weight ∷ ws))) ≡ weights_with (weights ++ weight ∷ []) more
weights_after weights weight None = refl
weights_after weights weight (Some ws) = ap Some (sym (append_assoc weights (weight ∷ []) ws))

-- two weights or more begin with one
pub next_weight : (weights : List ℕ) (links : ℕ) (text front back : Text) (weight : ℕ) → 2 ≤ links
    → split_at colon text ≡ Some (front, back) → number_in link_weights front ≡ Some weight
    → weights_with weights (weights_in links text) ≡ weights_with (weights ++ weight ∷ []) (weights_in (links - 1) back)
next_weight weights zero text front back weight two split is = absurd (omega arith)
next_weight weights (suc zero) text front back weight two split is = absurd (omega arith)
next_weight weights (suc (suc links)) text front back weight two split is =
    let less : suc (suc links) - 1 ≡ suc links = omega arith in
    rw (split, is, less) (weights_after weights weight (weights_in (suc links) back))

pub no_split : (weights : List ℕ) (links : ℕ) (text : Text) → 2 ≤ links → split_at colon text ≡ None → weights_with weights (weights_in links text) ≡ None
no_split weights zero text two split = absurd (omega arith)
no_split weights (suc zero) text two split = absurd (omega arith)
no_split weights (suc (suc links)) text two split = rw split refl

pub no_weight : (weights : List ℕ) (links : ℕ) (text front back : Text) → 2 ≤ links → split_at colon text ≡ Some (front, back)
    → number_in link_weights front ≡ None → weights_with weights (weights_in links text) ≡ None
no_weight weights zero text front back two split is = absurd (omega arith)
no_weight weights (suc zero) text front back two split is = absurd (omega arith)
no_weight weights (suc (suc links)) text front back two split is = rw split (rw is refl)

pub last_weight : (weights : List ℕ) (links : ℕ) (text : Text) (weight : ℕ) → links ≡ 1 → number_in link_weights text ≡ Some weight
    → weights_with weights (weights_in links text) ≡ Some (weights ++ weight ∷ [])
last_weight weights links text weight one is = rw one (rw is refl)

pub no_last_weight : (weights : List ℕ) (links : ℕ) (text : Text) → links ≡ 1 → number_in link_weights text ≡ None
    → weights_with weights (weights_in links text) ≡ None
no_last_weight weights links text one is = rw one (rw is refl)

-- what a split gives, and where it gives nothing
pub split_parts : (r : Option (Bor Text × Bor Text)) (x : Bor Text × Bor Text) (s : Option (Text × Text)) → option_map (λ p. (p.0.now, p.1.now)) r ≡ s → r ≡ Some x
    → s ≡ Some (x.0.now, x.1.now)
split_parts r x s e is = rw (← e, is) refl

pub split_none : (r : Option (Bor Text × Bor Text)) (s : Option (Text × Text)) → option_map (λ p. (p.0.now, p.1.now)) r ≡ s → r ≡ None → s ≡ None
split_none r s e is = rw (← e, is) refl
