-- Records of pieces, where a function gives the record of each.
use Rattle.std.proofs.Common.{◌≡◌, ℕ, suc, ◌+◌, List, [], ◌∷◌, ◌++◌, length, flat_map, sym, ap, ◌∙◌, arith, append_assoc, append-nil}
use Rattle.std.proofs.lemmas.Grind.{flat_map-append}
use Rattle.capture_file.specs.Capture.{Record, magic, spelling}
use Rattle.rist_pack.specs.Capture.{records_of, capture_of}
use Rattle.rist_pack.specs.Inside.Steps.{spelled_from}

records_behind : (f : ℕ → List ℕ → Record) (k : ℕ) (ps qs : List (List ℕ)) → records_of f k (ps ++ qs) ≡ records_of f k ps ++ records_of f (k + length ps) qs
records_behind f k [] qs = let same : k ≡ k + 0 = omega arith in ap (λ i. records_of f i qs) same
records_behind f k (p ∷ ps) qs =
    let same : k + 1 + length ps ≡ k + suc (length ps) = omega arith in
    ap (λ rs. f k p ∷ rs) (records_behind f (k + 1) ps qs ∙ ap (λ i. records_of f (k + 1) ps ++ records_of f i qs) same)

-- a capture goes on with the records of the pieces that follow
pub capture_behind : (f : ℕ → List ℕ → Record) (k : ℕ) (ps qs : List (List ℕ)) → length ps ≡ k → capture_of f (ps ++ qs) ≡ capture_of f ps ++ spelled_from f k qs
capture_behind f k ps qs size =
    let place : 0 + length ps ≡ k = omega arith in
    let all = ap (flat_map spelling) (records_behind f 0 ps qs)
    ∙ flat_map-append spelling (records_of f 0 ps) (records_of f (0 + length ps) qs)
    ∙ ap (λ i. flat_map spelling (records_of f 0 ps) ++ spelled_from f i qs) place in
    ap (λ l. magic ++ l) all ∙ sym (append_assoc magic (flat_map spelling (records_of f 0 ps)) (spelled_from f k qs))

pub one_record : (f : ℕ → List ℕ → Record) (k : ℕ) (p : List ℕ) → spelled_from f k (p ∷ []) ≡ spelling (f k p)
one_record f k p = append-nil (spelling (f k p))
