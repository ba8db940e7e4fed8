-- A record that is spelled into a block.
use Rattle.std.proofs.Common.{◌≡◌, ℕ, ◌+◌, List, ◌++◌, length, take, ap, ◌∙◌, arith, length-append}
use Rattle.std.proofs.lemmas.List.{take_at, take_all}
use borrow.Rule.Slice.PartMut.{put_mid}
use Rattle.outside_io.proofs.FillingLemmas.{taken_more}

pub spelled : (front rest octets : List ℕ) (n k : ℕ) → length front ≡ 12 → length octets ≡ n → take (12 + n) (put_mid 12 k (front ++ rest) octets) ≡ front ++ octets
spelled front rest octets n k size long =
    taken_more 12 n k (front ++ rest) octets (omega (arith, size, length-append front rest)) (omega (arith, long))
    ∙ ap (λ l. l ++ take n octets) (take_at front rest 12 size) ∙ ap (λ l. front ++ l) (take_all n octets (omega (arith, long)))
