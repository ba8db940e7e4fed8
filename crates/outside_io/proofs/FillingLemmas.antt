-- What filling a slice took, read by read.
use Rattle.std.proofs.Common.{◌≡◌, ℕ, ◌+◌, ◌-◌, ◌≤◌, List, ◌++◌, length, take, drop, sym, ap, ◌∙◌, subst, arith, length-append, length-drop}
use Rattle.std.specs.declared.option.Option.{Option}
use Rattle.std.proofs.lemmas.List.{length-take-le, take-append-le}
use Rattle.std.proofs.Math.Seq.{take-append-add}
use borrow.Rule.Slice.PartMut.{put_mid, post_of}
use Rattle.outside_io.specs.Told.{Takes}
use Rattle.outside_io.proofs.ToldLemmas.{takes_both}

pub taken_more : (a n k : ℕ) (xs ys : List ℕ) → a ≤ length xs → n ≤ length ys → take (a + n) (put_mid a k xs ys) ≡ take a xs ++ take n ys
taken_more a n k xs ys inside fits =
    let size : length (take a xs) ≡ a = length-take-le a xs inside in
    ap (λ i. take (i + n) (put_mid a k xs ys)) (sym size) ∙ take-append-add (take a xs) (ys ++ post_of a k xs) n
    ∙ ap (λ l. take a xs ++ l) (take-append-le n ys (post_of a k xs) fits)

pub length_kept : (a : ℕ) (xs ys : List ℕ) → a ≤ length xs → length ys ≡ length xs - a → length (put_mid a (length xs - a) xs ys) ≡ length xs
length_kept a xs ys inside size =
    let k = length xs - a in
    let whole = length-append (take a xs) (ys ++ post_of a k xs) in
    let back = length-append ys (post_of a k xs) in
    let end = length-drop k (drop a xs) in
    omega (arith, whole, back, end, length-drop a xs, length-take-le a xs inside)

pub filled_more : (s t u : Option (List ℕ)) (a n k : ℕ) (xs ys : List ℕ) → a ≤ length xs → n ≤ length ys
    → Takes s t (take a xs) → Takes t u (take n ys) → Takes s u (take (a + n) (put_mid a k xs ys))
filled_more s t u a n k xs ys inside fits before read =
    subst (Takes s u) (sym (taken_more a n k xs ys inside fits)) (takes_both s t u (take a xs) (take n ys) before read)
