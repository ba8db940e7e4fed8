-- What a writer of std holds after two writes, where it tells.
use Rattle.std.specs.Prelude.{ℕ, ◌+◌, List, ◌++◌, take, drop, None, Some}
use Rattle.std.specs.declared.option.Option.{Option}
use Rattle.std.specs.Io.KnownBytes.{Appends}
use Rattle.std.proofs.Common.{sym, ap, ◌∙◌, subst, append_assoc}
use Rattle.std.proofs.Math.Seq.{take-add}

written_both : (a b c : Option (List ℕ)) (xs ys : List ℕ) → Appends a b xs → Appends b c ys → Appends a c (xs ++ ys)
written_both None b c xs ys p q = tt
written_both (Some x) None c xs ys p q = absurd p
written_both (Some x) (Some y) None xs ys p q = absurd q
written_both (Some x) (Some y) (Some z) xs ys p q = q ∙ ap (λ l. l ++ ys) p ∙ append_assoc x xs ys

pub written_more : (a b c : Option (List ℕ)) (piece : List ℕ) (n m : ℕ) → Appends a b (take n piece) → Appends b c (take m (drop n piece)) → Appends a c (take (n + m) piece)
written_more a b c piece n m p q = subst (Appends a c) (sym (take-add n m piece)) (written_both a b c (take n piece) (take m (drop n piece)) p q)
