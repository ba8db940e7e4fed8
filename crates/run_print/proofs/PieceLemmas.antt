-- A text that is written in pieces.
use Rattle.std.proofs.Common.{◌≡◌, ◌<◌, ◌+◌, ◌++◌, ◌∙◌, ℕ, List, ap, append_assoc, drop, get_or, length, map, refl, sym}
use Rattle.std.proofs.Common.{take, append-nil}
use Rattle.std.proofs.lemmas.List.{drop_more, map-append, take-append-drop, take_more}
use Rattle.std.proofs.lemmas.List.Folds.{concat-append}
use Rattle.std.specs.Borrow.{Bor}
use Rattle.std.specs.List.{concat}
use Rattle.std.specs.Prelude.{Option}
use Rattle.outside_io.proofs.ToldLemmas.{appends_both}
use Rattle.outside_io.specs.Told.{Appends, AppendsPart}

pub pieces_more : (pieces : List (Bor (List ℕ))) (i : ℕ) (d : Bor (List ℕ)) (piece : List ℕ) → i < length pieces → piece ≡ (get_or pieces i d).now
    → concat (map (λ p. p.now) (take (i + 1) pieces)) ≡ concat (map (λ p. p.now) (take i pieces)) ++ piece
pieces_more pieces i d piece lt is = rw (take_more pieces i d lt, map-append, concat-append, append-nil, is) refl

pub pieces_whole : (pieces : List (Bor (List ℕ))) (i : ℕ) (d : Bor (List ℕ)) (piece : List ℕ) → i < length pieces → piece ≡ (get_or pieces i d).now
    → concat (map (λ p. p.now) pieces) ≡ concat (map (λ p. p.now) (take i pieces)) ++ (piece ++ concat (map (λ p. p.now) (drop (i + 1) pieces)))
pieces_whole pieces i d piece lt is =
    ap (λ ps. concat (map (λ (p : Bor (List ℕ)). p.now) ps)) (sym (take-append-drop i pieces))
    ∙ rw (drop_more pieces i d lt, map-append, concat-append, is) refl

pub part_of_pieces : (a b c : Option (List ℕ)) (done piece rest whole : List ℕ) → Appends a b done → AppendsPart b c piece
    → whole ≡ done ++ (piece ++ rest) → AppendsPart a c whole
part_of_pieces a b c done piece rest whole p q w =
    (done ++ q.0, (q.1.0 ++ rest, w ∙ ap (λ x. done ++ (x ++ rest)) q.1.1 ∙ simp append_assoc), appends_both a b c done q.0 p q.2)
