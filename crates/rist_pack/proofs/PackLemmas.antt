-- A packing, piece by piece.
use Rattle.std.proofs.Common.{◌≡◌, ℕ, ◌+◌, ◌*◌, ◌<◌, List, [], ◌++◌, length, sym, ap, ◌∙◌, subst, arith, append-nil, append_assoc, length-append, Ok, Err, refl}
use mathlib.Core.Logic.{inl, inr}
use Rattle.std.specs.Prelude.{Option, ◌≤◌}
use Rattle.outside_io.specs.Told.{Appends, AppendsPart, AppendsBetween}
use Rattle.outside_io.proofs.ToldLemmas.{takes_none, takes_both, appends_both}
use Rattle.capture_file.specs.Capture.{Record, magic}
use Rattle.block_source.specs.Pieces.{pieces_of, pieces_before_last, whole_pieces_of}
use Rattle.rist_pack.specs.Capture.{capture_of}
use Rattle.rist_pack.specs.Packing.{Packs}
use Rattle.rist_pack.specs.Inside.Steps.{PacksPiece, spelled_from, Sofar}
use Rattle.rist_pack.specs.declared.packing.Turn.TheVariants.{On, Over}
use Rattle.rist_pack.specs.declared.bad.PackBad.{PackBad}
use Rattle.rist_pack.specs.declared.bad.PackBad.TheVariants.{ReadFault, WriteFault, TooLong}
use Rattle.block_source.proofs.PieceLemmas.{no_piece, pieces_behind, whole_pieces_behind, no_whole_piece, all_whole, length-pieces, before_last}
use Rattle.rist_pack.proofs.CaptureLemmas.{capture_behind}

-- no piece is the name alone
name_alone : (f : ℕ → List ℕ → Record) → magic ≡ capture_of f (pieces_of [])
name_alone f = sym (ap (capture_of f) (no_piece [] refl))

pub at_start : (f : ℕ → List ℕ → Record) (had old new : Option (List ℕ)) → Appends old new magic → Sofar f 0 (record { had = had; left = had; held = old; holds = new })
at_start f had old new named = record { read = []; taken = takes_none had; size = refl; written = subst (Appends old new) (name_alone f) named }

pub name_failed : (f : ℕ → List ℕ → Record) (had old new : Option (List ℕ)) → AppendsPart old new magic → Packs f (record { had = had; left = had; held = old; holds = new }) (Err WriteFault)
name_failed f had old new named = ([], takes_none had, (omega arith, inl (refl, named)))

-- what was packed and the next piece are a front of a capture
packed_more : (f : ℕ → List ℕ → Record) (k : ℕ) (a b : List ℕ) → length a ≡ 1316 * k
    → capture_of f (pieces_of a) ++ spelled_from f k (pieces_of b) ≡ capture_of f (pieces_of (a ++ b))
packed_more f k a b size = sym (ap (capture_of f) (pieces_behind k a b size) ∙ capture_behind f k (pieces_of a) (pieces_of b) (length-pieces k a size))

-- fewer octets than a piece has add no whole piece
packed_whole : (f : ℕ → List ℕ → Record) (k : ℕ) (a b : List ℕ) → length a ≡ 1316 * k → length b < 1316
    → capture_of f (pieces_of a) ++ [] ≡ capture_of f (whole_pieces_of (a ++ b))
packed_whole f k a b size few =
    append-nil (capture_of f (pieces_of a))
    ∙ sym (ap (capture_of f) (whole_pieces_behind k a b size ∙ ap (λ ps. whole_pieces_of a ++ ps) (no_whole_piece b few)
    ∙ append-nil (whole_pieces_of a) ∙ all_whole k a size))

-- a part that was put behind what was put stands between both
part_behind : (a b c : Option (List ℕ)) (xs ys : List ℕ) → Appends a b xs → AppendsPart b c ys → AppendsBetween a c xs (xs ++ ys)
part_behind a b c xs ys put (front, (rest, whole), part) =
    (xs ++ front, appends_both a b c xs front put part, (front, refl), (rest, ap (λ l. xs ++ l) whole ∙ sym (append_assoc xs front rest)))

-- what was packed before the last piece
packed_before : (f : ℕ → List ℕ → Record) (k : ℕ) (a b : List ℕ) → length a ≡ 1316 * k → 0 < length b → length b ≤ 1316
    → capture_of f (pieces_of a) ≡ capture_of f (pieces_before_last (a ++ b))
packed_before f k a b size some few = sym (ap (capture_of f) (before_last k a b size some few))

pub goes_on : (f : ℕ → List ℕ → Record) (k : ℕ) (had left rest old held new : Option (List ℕ)) → Sofar f k (record { had = had; left = left; held = old; holds = held })
    → PacksPiece f k (record { had = left; left = rest; held = held; holds = new }) (Ok On) → Sofar f (k + 1) (record { had = had; left = rest; held = old; holds = new })
goes_on f k had left rest old held new s (b, taken, (whole, bound, written)) = record {
  read = s.read ++ b;
  taken = takes_both had left rest s.read b s.taken taken;
  size = omega (arith, s.size, whole, length-append s.read b);
  written = subst (Appends old new) (packed_more f k s.read b s.size) (appends_both old held new (capture_of f (pieces_of s.read)) (spelled_from f k (pieces_of b)) s.written written);
}

pub ended : (f : ℕ → List ℕ → Record) (k : ℕ) (had left rest old held new : Option (List ℕ)) → Sofar f k (record { had = had; left = left; held = old; holds = held })
    → PacksPiece f k (record { had = left; left = rest; held = held; holds = new }) (Ok Over) → Packs f (record { had = had; left = rest; held = old; holds = new }) (Ok tt)
ended f k had left rest old held new s (b, taken, (empty, bound, written)) = (
  s.read ++ b,
  takes_both had left rest s.read b s.taken taken,
  (
    empty,
    omega (arith, s.size, length-append s.read b),
    subst (Appends old new) (packed_more f k s.read b s.size) (appends_both old held new (capture_of f (pieces_of s.read)) (spelled_from f k (pieces_of b)) s.written written),
  ),
)

pub stopped : (f : ℕ → List ℕ → Record) (k : ℕ) (had left rest old held new : Option (List ℕ)) (bad : PackBad) → Sofar f k (record { had = had; left = left; held = old; holds = held })
    → PacksPiece f k (record { had = left; left = rest; held = held; holds = new }) (Err bad) → Packs f (record { had = had; left = rest; held = old; holds = new }) (Err bad)
stopped f k had left rest old held new ReadFault s (d, written) = (
  s.read ++ d.part,
  takes_both had left rest s.read d.part s.taken d.taken,
  (
    omega (arith, s.size, d.fact, length-append s.read d.part),
    subst (Appends old new) (packed_whole f k s.read d.part s.size d.few) (appends_both old held new (capture_of f (pieces_of s.read)) [] s.written written),
  ),
)
stopped f k had left rest old held new TooLong s (d, written) = (
  s.read ++ d.part,
  takes_both had left rest s.read d.part s.taken d.taken,
  (
    omega (arith, s.size, d.fact, length-append s.read d.part),
    subst (Appends old new) (packed_whole f k s.read d.part s.size d.few) (appends_both old held new (capture_of f (pieces_of s.read)) [] s.written written),
  ),
)
stopped f k had left rest old held new WriteFault s (b, taken, ((some, few), bound, written)) = (
  s.read ++ b,
  takes_both had left rest s.read b s.taken taken,
  (
    omega (arith, s.size, length-append s.read b),
    inr (subst (λ xs. AppendsBetween old new xs (capture_of f (pieces_of (s.read ++ b)))) (packed_before f k s.read b s.size some few)
        (subst (AppendsBetween old new (capture_of f (pieces_of s.read))) (packed_more f k s.read b s.size)
        (part_behind old held new (capture_of f (pieces_of s.read)) (spelled_from f k (pieces_of b)) s.written written))),
  ),
)
