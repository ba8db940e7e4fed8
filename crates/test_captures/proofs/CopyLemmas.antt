-- A copy of one more record is the copy so far and its octets.
use Rattle.std.proofs.Common.{◌≡◌, ℕ, List, [], ◌∷◌, ◌++◌, refl, sym, ap, ◌∙◌, append_assoc, append-nil, Option}
use Rattle.std.proofs.lemmas.Grind.{flat_map-append}
use Rattle.outside_io.specs.Told.{Appends, AppendsPart, Writes, WritesPart}
use Rattle.capture_file.specs.Capture.{Record}
use Rattle.test_captures.specs.Copied.{copied}

copied_more : (done : List Record) (r : Record) → copied (done ++ r ∷ []) ≡ copied done ++ r.octets
copied_more done r = flat_map-append (λ (r : Record). r.octets) done (r ∷ []) ∙ ap (λ l. copied done ++ l) (append-nil r.octets)

pub writes_more : (old new : Option (List ℕ)) (done : List Record) (r : Record) → Appends old new r.octets → Writes old new (copied done) (copied (done ++ r ∷ []))
writes_more old new done r told = (r.octets, told, copied_more done r)

pub writes_part_more : (old new : Option (List ℕ)) (first whole more : List ℕ) → whole ≡ first ++ more → AppendsPart old new more → WritesPart old new first whole
writes_part_more old new first whole more is part = (
  part.0,
  part.2,
  (part.1.0, is ∙ ap (λ l. first ++ l) part.1.1 ∙ sym (append_assoc first part.0 part.1.0)),
)

pub writes_part : (old new : Option (List ℕ)) (done : List Record) (r : Record) → AppendsPart old new r.octets → WritesPart old new (copied done) (copied (done ++ r ∷ []))
writes_part old new done r = writes_part_more old new (copied done) (copied (done ++ r ∷ [])) r.octets (copied_more done r)

pub writes_stop : (old new : Option (List ℕ)) (done : List Record) → Appends old new (46 ∷ []) → Writes old new (copied done) (copied done ++ 46 ∷ [])
writes_stop old new done told = (46 ∷ [], told, refl)

pub writes_part_stop : (old new : Option (List ℕ)) (done : List Record) → AppendsPart old new (46 ∷ []) → WritesPart old new (copied done) (copied done ++ 46 ∷ [])
writes_part_stop old new done = writes_part_more old new (copied done) (copied done ++ 46 ∷ []) (46 ∷ []) refl
