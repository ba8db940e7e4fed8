-- The steps of one link, against the link's own list.
use Rattle.std.proofs.Common.{◌≡◌, ◌<◌, ◌≤◌, ℕ, ◌+◌, ◌==◌, List, [], ◌∷◌, ◌++◌, length, take, drop, slice_get, Bool, true, false, cond, None, Some, refl, ap, sym, ◌∙◌, subst, arith, append_assoc, length-append}
use Rattle.std.proofs.lemmas.Bool.Decides.{nat_tests}
use Rattle.std.proofs.lemmas.List.{take_more, take_all, length-take-le, take-append-drop}
use Rattle.std.proofs.lemmas.List.Elements.{filter-append}
use Rattle.std.proofs.lemmas.Option.{slice_get_within, slice_get_past, get_or_from_slice_get, slice_get-get_or}
use Rattle.std.proofs.Math.Seq.{take-append_seam, get_or-append_seam}
use Rattle.rist_desk.specs.declared.step.Step.{Step}
use Rattle.rist_compare.specs.declared.tear.Tear.{Tear}
use Rattle.rist_compare.specs.Tears.{of, IsTear}
use Rattle.rist_compare.specs.Inside.Passing.{DiffersAt}

-- one more of a list
pub take_one : (own : List Step) (place : ℕ) (s : Step) → slice_get own place ≡ Some s → take (place + 1) own ≡ take place own ++ s ∷ []
take_one own place s e = take_more own place s (slice_get_within own place s e) ∙ ap (λ (x : Step). take place own ++ x ∷ []) (get_or_from_slice_get own place s s e)

-- of one step the steps of a link: the step, or none
pub of_one : (link : ℕ) (s : Step) → s.link ≡ link → of link (s ∷ []) ≡ s ∷ []
of_one link s e =
    let is : (s.link == link) ≡ true = grind (arith, nat_tests) in
    ap (λ (b : Bool). cond b (s ∷ []) []) is

pub of_other : (link : ℕ) (s : Step) → s.link < link → of link (s ∷ []) ≡ []
of_other link s e =
    let is : (s.link == link) ≡ false = grind (arith, nat_tests) in
    ap (λ (b : Bool). cond b (s ∷ []) []) is

-- the steps of a link with one step more
pub of_more : (link : ℕ) (kept : List Step) (i : ℕ) (s : Step) → slice_get kept i ≡ Some s → of link (take (i + 1) kept) ≡ of link (take i kept) ++ of link (s ∷ [])
of_more link kept i s e = ap (of link) (take_one kept i s e) ∙ filter-append (λ t. t.link == link) (take i kept) (s ∷ [])

seam_get : (front rest : List Step) (s : Step) → slice_get (front ++ s ∷ rest) (length front) ≡ Some s
seam_get front rest s =
    slice_get-get_or (front ++ s ∷ rest) (length front) s (omega (arith, length-append front (s ∷ rest))) ∙ ap Some (get_or-append_seam front s rest s)

-- at a step of the link
pub of_at : (link : ℕ) (kept : List Step) (i : ℕ) (s : Step) → slice_get kept i ≡ Some s → s.link ≡ link → (rest : List Step) × (of link kept ≡ of link (take i kept) ++ s ∷ rest)
of_at link kept i s e l =
    let cut : kept ≡ take (i + 1) kept ++ drop (i + 1) kept = sym (take-append-drop (i + 1) kept) in
    let front : of link (take (i + 1) kept) ≡ of link (take i kept) ++ s ∷ [] = of_more link kept i s e ∙ ap (λ (x : List Step). of link (take i kept) ++ x) (of_one link s l) in
    (of link (drop (i + 1) kept), ap (of link) cut ∙ (filter-append (λ t. t.link == link) (take (i + 1) kept) (drop (i + 1) kept) ∙ (ap (λ (x : List Step). x ++ of link (drop (i + 1) kept)) front ∙ append_assoc (of link (take i kept)) (s ∷ []) (of link (drop (i + 1) kept)))))

-- the lists agree up to a place, and there the desk has another step
pub tear_at : (link : ℕ) (kept own : List Step) (i place : ℕ) (s : Step) (tear : Tear) → slice_get kept i ≡ Some s → place ≤ length own → of link (take i kept) ≡ take place own → DiffersAt s link own place tear
    → (tear.link ≡ link) × IsTear (of link kept) own tear
tear_at link kept own i place s tear e within same d =
    let at = of_at link kept i s e d.link_is in
    let size : length (take place own) ≡ place = length-take-le place own within in
    let whole : of link kept ≡ take place own ++ s ∷ at.0 = at.1 ∙ ap (λ (x : List Step). x ++ s ∷ at.0) same in
    let front : take place (of link kept) ≡ take place own = ap (take place) whole ∙ (ap (λ n. take n (take place own ++ s ∷ at.0)) (sym size) ∙ take-append_seam (take place own) (s ∷ at.0)) in
    let next : slice_get (of link kept) place ≡ Some s = ap (λ l. slice_get l place) whole ∙ (ap (λ n. slice_get (take place own ++ s ∷ at.0) n) (sym size) ∙ seam_get (take place own) at.0 s) in
    let P : Tear → Type 0 = λ t. (t.link ≡ link) × IsTear (of link kept) own t in
    subst P (sym d.tear_is) (refl, record { same = front; desk_is = sym next; own_is = refl; differ = d.differ })

-- the lists agree up to a place, and there the desk has no more
pub tear_behind : (link : ℕ) (kept own : List Step) (place : ℕ) (s : Step) → place ≤ length own → of link kept ≡ take place own → slice_get own place ≡ Some s
    → IsTear (of link kept) own (record { link = link; place = place; desk = None; own = Some s })
tear_behind link kept own place s within same e =
    let size : length (of link kept) ≡ place = ap length same ∙ length-take-le place own within in
    record {
      same = take_all place (of link kept) (omega (arith, size)) ∙ same;
      desk_is = sym (slice_get_past (of link kept) place (omega (arith, size)));
      own_is = sym e;
      differ = λ f. cc (f);
    }
