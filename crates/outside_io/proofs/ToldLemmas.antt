-- Laws of told octets, for the crates above.
use Rattle.std.specs.Prelude.{ℕ, List, [], ◌++◌, None, Some, Option}
use Rattle.std.specs.Option.{option_map}
use Rattle.outside_io.specs.Told.{Appends, Takes}
use Rattle.std.proofs.Common.{refl, sym, ap, ◌∙◌, append_assoc, append-nil}

-- nothing put leaves what was held
pub appends_none : (a : Option (List ℕ)) → Appends a a []
appends_none None = refl
appends_none (Some x) = ap Some (sym (append-nil x))

-- two pieces put are one
pub appends_both : (a b c : Option (List ℕ)) (xs ys : List ℕ) → Appends a b xs → Appends b c ys → Appends a c (xs ++ ys)
appends_both None b c xs ys p q = q ∙ ap (option_map (λ held. held ++ ys)) p
appends_both (Some x) b c xs ys p q = q ∙ ap (option_map (λ held. held ++ ys)) p ∙ ap Some (append_assoc x xs ys)

-- nothing taken leaves what remained
pub takes_none : (a : Option (List ℕ)) → Takes a a []
takes_none None = refl
takes_none (Some x) = refl

-- two pieces taken are one
pub takes_both : (a b c : Option (List ℕ)) (xs ys : List ℕ) → Takes a b xs → Takes b c ys → Takes a c (xs ++ ys)
takes_both a b None xs ys p q = p ∙ ap (option_map (λ rest. xs ++ rest)) q
takes_both a b (Some z) xs ys p q = p ∙ ap (option_map (λ rest. xs ++ rest)) q ∙ ap Some (sym (append_assoc xs ys z))
