-- Parts behind one another.
use Rattle.std.proofs.Common.{◌≡◌, ◌∙◌, ◌++◌, ℕ, List, ap}
use Rattle.std.proofs.lemmas.List.{append_assoc}

-- four parts that were put in turn stand behind what stood before
pub put_in_turn : (front a b c d x y z whole : List ℕ) → x ≡ front ++ a → y ≡ x ++ b → z ≡ y ++ c → whole ≡ z ++ d
    → whole ≡ front ++ (((a ++ b) ++ c) ++ d)
put_in_turn front a b c d x y z whole first second third last =
    last ∙ ap (λ l. l ++ d) (third ∙ ap (λ l. l ++ c) (second ∙ ap (λ l. l ++ b) first))
    ∙ ap (λ l. (l ++ c) ++ d) (append_assoc front a b)
    ∙ ap (λ l. l ++ d) (append_assoc front (a ++ b) c)
    ∙ append_assoc front ((a ++ b) ++ c) d
