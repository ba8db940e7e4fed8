-- Octets given from the front of a block, and those changed where they stand.
use Rattle.std.proofs.Common.{◌≡◌, ℕ, ◌+◌, ◌-◌, ◌≤◌, List, [], ◌∷◌, ◌++◌, take, drop, length, None, Some, refl, sym, ap, ◌∙◌, arith, take-append-drop, append_assoc, length-append}
use Rattle.std.proofs.lemmas.List.{drop-take, drop-drop, take-take}
use Rattle.std.proofs.lemmas.Slice.{between-put_mid, drop-put_mid}
use Rattle.std.specs.declared.option.Option.{Option}
use borrow.Rule.Slice.PartMut.{put_mid}
use Rattle.outside_io.specs.Told.{Takes, IsEmpty}
use Rattle.block_source.specs.Block.{between, behind}
use Rattle.std.specs.Prelude.{IfSome}

-- what stands past the first octets of a block
pub between_rest : (octets : List ℕ) (from to n : ℕ) → from + n ≤ to → drop n (between octets from to) ≡ between octets (from + n) to
between_rest octets from to n fits =
    let size : to - from ≡ n + (to - (from + n)) = omega arith in
    ap (λ m. drop n (take m (drop from octets))) size ∙ drop-take n (to - (from + n)) (drop from octets) ∙ ap (take (to - (from + n))) (drop-drop n from octets)

-- the first octets of a block
pub between_front : (octets : List ℕ) (from to n : ℕ) → from + n ≤ to → between octets from (from + n) ≡ take n (between octets from to)
between_front octets from to n fits =
    let size : from + n - from ≡ n = omega arith in
    ap (λ m. take m (drop from octets)) size ∙ sym (take-take n (to - from) (drop from octets) (omega (arith, fits)))

behind_both : (xs ys : List ℕ) (rest : Option (List ℕ)) → behind (xs ++ ys) rest ≡ behind xs (behind ys rest)
behind_both xs ys None = refl
behind_both xs ys (Some x) = ap Some (append_assoc xs ys x)

-- the first octets of a block were taken
pub takes_front : (octets got : List ℕ) (from to n : ℕ) (rest : Option (List ℕ)) → from + n ≤ to → got ≡ take n (between octets from to)
    → Takes (behind (between octets from to) rest) (behind (between octets (from + n) to) rest) got
takes_front octets got from to n rest fits front =
    let whole : between octets from to ≡ got ++ between octets (from + n) to =
    sym (take-append-drop n (between octets from to)) ∙ ap (λ l. l ++ drop n (between octets from to)) (sym front) ∙ ap (λ l. got ++ l) (between_rest octets from to n fits) in
    ap (λ l. behind l rest) whole ∙ behind_both got (between octets (from + n) to) rest

-- the octets between two places were changed
pub changed_between : (octets ys : List ℕ) (from to : ℕ) → from ≤ length octets → length ys ≡ to - from → between (put_mid from (to - from) octets ys) from to ≡ ys
changed_between octets ys from to inside size = between-put_mid from (to - from) octets ys to inside size

-- those behind them were not
pub same_between : (octets ys : List ℕ) (last from to : ℕ) → last ≤ from → last ≤ length octets → length ys ≡ from - last
    → between (put_mid last (from - last) octets ys) from to ≡ between octets from to
same_between octets ys last from to order inside size = ap (take (to - from)) (drop-put_mid last (from - last) octets ys from (omega (arith, order)) inside size)

nothing_behind : (xs ys : List ℕ) → xs ++ ys ≡ xs → ys ≡ []
nothing_behind xs [] e = refl
nothing_behind xs (y ∷ ys) e = absurd (omega (arith, ap length e, length-append xs (y ∷ ys)))

-- all octets of a block were given, and nothing remains behind them
pub ends_after : (octets : List ℕ) (from to n : ℕ) (rest : Option (List ℕ)) → n ≡ to - from
    → IfSome (behind (between octets from to) rest) (λ all. all ≡ between octets from to) → IsEmpty (behind (between octets (from + n) to) rest)
ends_after octets from to n None whole end = tt
ends_after octets from to n (Some rest) whole end =
    let none : to - (from + n) ≡ 0 = omega (arith, whole) in
    ap (λ m. take m (drop (from + n) octets) ++ rest) none ∙ nothing_behind (between octets from to) rest end
