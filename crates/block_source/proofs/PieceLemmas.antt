-- Pieces of octets.
use Rattle.std.proofs.Common.{◌≡◌, ℕ, zero, suc, ◌+◌, ◌-◌, ◌*◌, ◌/◌, ◌<◌, ◌≤◌, List, [], ◌∷◌, ◌++◌, length, take, drop, refl, sym, ap, ◌∙◌, arith, length-append, append_assoc, append-nil, length-drop, flat_map, get_or}
use Rattle.std.specs.Fork.{slice_chunk}
use Rattle.std.specs.Prelude.{◌⊎◌}
use mathlib.Core.Logic.{inl, inr}
use Rattle.std.proofs.Math.Nat.{eq-or-lt_of_le}
use Rattle.std.proofs.lemmas.Grind.{flat_map-append}
use Rattle.std.proofs.lemmas.List.FromFn.{map-range_with_len_more, length-map-range_with_len, get_or-map-range_with_len}
use Rattle.std.proofs.lemmas.List.{take-append-le, take_all, drop-append-le, length-take}
use Rattle.std.proofs.Math.Seq.{drop-append-add, take-add}
use Rattle.block_source.specs.Pieces.{first_pieces, pieces_of, pieces_before_last, whole_pieces_of}

pub more : (m n : ℕ) (b : List ℕ) → m + 1 ≡ n → first_pieces n b ≡ first_pieces m b ++ slice_chunk b 1316 m ∷ []
more m n b e = ap (λ i. first_pieces i b) (sym e) ∙ map-range_with_len_more (slice_chunk b 1316) 0 m m (omega arith)

-- a piece of the front, and one of what follows whole pieces
piece_in_front : (m : ℕ) (a b : List ℕ) → (m + 1) * 1316 ≤ length a → slice_chunk (a ++ b) 1316 m ≡ slice_chunk a 1316 m
piece_in_front m a b fits =
    ap (take 1316) (drop-append-le (m * 1316) a b (omega arith))
    ∙ take-append-le 1316 (drop (m * 1316) a) b (omega (arith, length-drop (m * 1316) a))

piece_behind : (m n : ℕ) (a b : List ℕ) → length a ≡ 1316 * m → slice_chunk (a ++ b) 1316 (m + n) ≡ slice_chunk b 1316 n
piece_behind m n a b size =
    let place : (m + n) * 1316 ≡ length a + n * 1316 = omega arith in
    ap (λ i. take 1316 (drop i (a ++ b))) place ∙ ap (take 1316) (drop-append-add a b (n * 1316))

front_pieces : (m : ℕ) (a b : List ℕ) → m * 1316 ≤ length a → first_pieces m (a ++ b) ≡ first_pieces m a
front_pieces zero a b fits = refl
front_pieces (suc m) a b fits =
    more m (suc m) (a ++ b) (omega arith)
    ∙ ap (λ ps. ps ++ slice_chunk (a ++ b) 1316 m ∷ []) (front_pieces m a b (omega arith))
    ∙ ap (λ p. first_pieces m a ++ p ∷ []) (piece_in_front m a b (omega arith))
    ∙ sym (more m (suc m) a (omega arith))

both_pieces : (m n : ℕ) (a b : List ℕ) → length a ≡ 1316 * m → first_pieces (m + n) (a ++ b) ≡ first_pieces m a ++ first_pieces n b
both_pieces m zero a b size =
    ap (λ i. first_pieces i (a ++ b)) (omega arith) ∙ front_pieces m a b (omega arith) ∙ sym (append-nil (first_pieces m a))
both_pieces m (suc n) a b size =
    more (m + n) (m + suc n) (a ++ b) (omega arith)
    ∙ ap (λ ps. ps ++ slice_chunk (a ++ b) 1316 (m + n) ∷ []) (both_pieces m n a b size)
    ∙ ap (λ p. (first_pieces m a ++ first_pieces n b) ++ p ∷ []) (piece_behind m n a b size)
    ∙ append_assoc (first_pieces m a) (first_pieces n b) (slice_chunk b 1316 n ∷ [])
    ∙ ap (λ ps. first_pieces m a ++ ps) (sym (more n (suc n) b (omega arith)))

-- whole pieces and what follows them
pub pieces_behind : (m : ℕ) (a b : List ℕ) → length a ≡ 1316 * m → pieces_of (a ++ b) ≡ pieces_of a ++ pieces_of b
unfolding pieces_of
pieces_behind m a b size =
    let all : (length (a ++ b) + 1315) / 1316 ≡ m + (length b + 1315) / 1316 = omega (arith, length-append a b) in
    let front : (length a + 1315) / 1316 ≡ m = omega arith in
    ap (λ i. first_pieces i (a ++ b)) all ∙ both_pieces m ((length b + 1315) / 1316) a b size
    ∙ ap (λ i. first_pieces i a ++ pieces_of b) (sym front)

pub whole_pieces_behind : (m : ℕ) (a b : List ℕ) → length a ≡ 1316 * m → whole_pieces_of (a ++ b) ≡ whole_pieces_of a ++ whole_pieces_of b
unfolding whole_pieces_of
whole_pieces_behind m a b size =
    let all : length (a ++ b) / 1316 ≡ m + length b / 1316 = omega (arith, length-append a b) in
    let front : length a / 1316 ≡ m = omega arith in
    ap (λ i. first_pieces i (a ++ b)) all ∙ both_pieces m (length b / 1316) a b size
    ∙ ap (λ i. first_pieces i a ++ whole_pieces_of b) (sym front)

-- the pieces of few octets
pub no_piece : (b : List ℕ) → length b ≡ 0 → pieces_of b ≡ []
unfolding pieces_of
no_piece b size = let none : (length b + 1315) / 1316 ≡ 0 = omega arith in ap (λ i. first_pieces i b) none

pub one_piece : (b : List ℕ) → 0 < length b → length b ≤ 1316 → pieces_of b ≡ b ∷ []
unfolding pieces_of
one_piece b some few =
    let one : (length b + 1315) / 1316 ≡ 1 = omega arith in
    ap (λ i. first_pieces i b) one ∙ ap (λ p. p ∷ []) (take_all 1316 b few)

pub no_whole_piece : (b : List ℕ) → length b < 1316 → whole_pieces_of b ≡ []
unfolding whole_pieces_of
no_whole_piece b few = let none : length b / 1316 ≡ 0 = omega arith in ap (λ i. first_pieces i b) none

pub all_whole : (m : ℕ) (b : List ℕ) → length b ≡ 1316 * m → whole_pieces_of b ≡ pieces_of b
unfolding pieces_of whole_pieces_of
all_whole m b size = let same : length b / 1316 ≡ (length b + 1315) / 1316 = omega arith in ap (λ i. first_pieces i b) same

pub length-pieces : (m : ℕ) (b : List ℕ) → length b ≡ 1316 * m → length (pieces_of b) ≡ m
unfolding pieces_of
length-pieces m b size =
    let all : (length b + 1315) / 1316 ≡ m = omega arith in
    length-map-range_with_len (slice_chunk b 1316) 0 ((length b + 1315) / 1316) ∙ all

-- all pieces but the last, which may be short
pub before_last : (m : ℕ) (a b : List ℕ) → length a ≡ 1316 * m → 0 < length b → length b ≤ 1316 → pieces_before_last (a ++ b) ≡ pieces_of a
unfolding pieces_of pieces_before_last
before_last m a b size some few =
    let all : (length (a ++ b) + 1315) / 1316 - 1 ≡ m = omega (arith, length-append a b) in
    let front : (length a + 1315) / 1316 ≡ m = omega arith in
    ap (λ i. first_pieces i (a ++ b)) all ∙ front_pieces m a b (omega arith) ∙ ap (λ i. first_pieces i a) (sym front)

-- ---- all pieces

joined : (n : ℕ) (b : List ℕ) → flat_map (λ piece. piece) (first_pieces n b) ≡ take (n * 1316) b
joined zero b = refl
joined (suc n) b =
    let on : n * 1316 + 1316 ≡ suc n * 1316 = omega arith in
    ap (flat_map (λ piece. piece)) (more n (suc n) b (omega arith))
    ∙ flat_map-append (λ piece. piece) (first_pieces n b) (slice_chunk b 1316 n ∷ [])
    ∙ ap (λ l. flat_map (λ piece. piece) (first_pieces n b) ++ l) (append-nil (slice_chunk b 1316 n))
    ∙ ap (λ l. l ++ slice_chunk b 1316 n) (joined n b)
    ∙ sym (take-add (n * 1316) 1316 b) ∙ ap (λ i. take i b) on

pub pieces_joined : (b : List ℕ) → flat_map (λ piece. piece) (pieces_of b) ≡ b
unfolding pieces_of
pieces_joined b = joined ((length b + 1315) / 1316) b ∙ take_all ((length b + 1315) / 1316 * 1316) b (omega arith)

pub length-pieces_of : (b : List ℕ) → length (pieces_of b) ≡ (length b + 1315) / 1316
unfolding pieces_of
length-pieces_of b = length-map-range_with_len (slice_chunk b 1316) 0 ((length b + 1315) / 1316)

piece_at : (b : List ℕ) (k : ℕ) (d : List ℕ) → k < length (pieces_of b) → get_or (pieces_of b) k d ≡ slice_chunk b 1316 k
unfolding pieces_of
piece_at b k d inside = get_or-map-range_with_len (slice_chunk b 1316) 0 ((length b + 1315) / 1316) k k d (omega (arith, length-pieces_of b)) (omega arith)

pub piece_sized : (b : List ℕ) (k : ℕ) (d : List ℕ) → k < length (pieces_of b) → (1 ≤ length (get_or (pieces_of b) k d)) × (length (get_or (pieces_of b) k d) ≤ 1316)
piece_sized b k d inside =
    let at = ap length (piece_at b k d inside) in
    let part = length-take 1316 (drop (k * 1316) b) in
    let rest = length-drop (k * 1316) b in
    let count = length-pieces_of b in
    (omega (arith, at, part, rest, count), omega (arith, at, part))

next_of : (piece : List ℕ) (x : ℕ) (xs : List ℕ) → 0 < length piece → length piece ≤ 1316 → (length piece < 1316 → x ∷ xs ≡ []) → (length piece ≡ 1316) ⊎ (length piece < 1316)
    → pieces_of (piece ++ x ∷ xs) ≡ piece ∷ pieces_of (x ∷ xs)
next_of piece x xs some few last (inl whole) =
    pieces_behind 1 piece (x ∷ xs) (omega (arith, whole)) ∙ ap (λ ps. ps ++ pieces_of (x ∷ xs)) (one_piece piece some few)
next_of piece x xs some few last (inr short) = let none = last short in cc

-- a piece at the front is the first: a whole one, or all that there is
pub next_piece : (piece rest : List ℕ) → 0 < length piece → length piece ≤ 1316 → (length piece < 1316 → rest ≡ []) → pieces_of (piece ++ rest) ≡ piece ∷ pieces_of rest
next_piece piece [] some few last = ap pieces_of (append-nil piece) ∙ one_piece piece some few ∙ ap (λ ps. piece ∷ ps) (sym (no_piece [] refl))
next_piece piece (x ∷ xs) some few last = next_of piece x xs some few last (eq-or-lt_of_le few)
