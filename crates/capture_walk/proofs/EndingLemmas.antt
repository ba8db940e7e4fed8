-- A walk ends.
use Rattle.std.proofs.Common.{◌≡◌, ◌⊎◌, ℕ, ◌≤◌, List, [], ◌∷◌, ◌++◌, length, None, Some, refl, sym, ap, ◌∙◌, subst, arith, length-append, Option, IfSome}
use mathlib.Core.Logic.{inl, inr}
use Rattle.std.specs.Prelude.{Result, Ok, Err, IsErrOf}
use Rattle.std.proofs.lemmas.List.{nil_from_length}
use Rattle.outside_io.specs.Told.{Passage, Appends, AppendsBetween, IsReadTo, Takes, IsEmpty, WritesPart}
use Rattle.outside_io.proofs.ToldLemmas.{appends_both}
use Rattle.capture_file.specs.Capture.{Record}
use Rattle.capture_walk.specs.Form.{Form}
use Rattle.capture_walk.specs.Leaves.{HasGiven, EndsAfter, Brought, IfBrought, WantsMemory, IsUnbegun, Leaves, passage}
use Rattle.capture_walk.specs.Inside.Turns.{EndsBy}
use Rattle.capture_walk.specs.declared.walk_bad.WalkBad.{WalkBad}
use Rattle.capture_walk.specs.declared.walk_bad.WalkBad.TheVariants as bads

-- a call that failed wrote a front part of what it had to write
between : (u v w : Option (List ℕ)) (first whole : List ℕ) → Appends u v first → WritesPart v w first whole → AppendsBetween u w first whole
between u v w first whole before told = (first ++ told.0, appends_both u v w first told.0 before told.1, (told.0, refl), told.2)

-- ---- where the source may not tell

-- records that ended so, with all that is written of them and the end
ended : (form : Form) (so_far whole : List Record → List ℕ) (p : Passage) (done : List Record) (end : Result Unit WalkBad) → IfSome p.had (λ b. EndsAfter form 0 b p.left done end)
    → Appends p.held p.holds (whole done) → Leaves form so_far whole 0 p end
ended form so_far whole p done end ends all = by_end p.had end ends
  where
    taken : (had : Option (List ℕ)) (end : Result Unit WalkBad) → IfSome had (λ b. EndsAfter form 0 b p.left done end)
        → IfSome had (λ b. (rs : List Record) × EndsAfter form 0 b p.left rs end × Appends p.held p.holds (whole rs))
    taken None end ends = tt
    taken (Some b) end ends = (done, ends, all)

    by_end : (had : Option (List ℕ)) (end : Result Unit WalkBad) → IfSome had (λ b. EndsAfter form 0 b p.left done end)
        → Leaves form so_far whole 0 (record p { had = had }) end
    by_end had (Ok x) ends = taken had (Ok x) ends
    by_end had (Err (bads.BadCapture kind at)) ends = taken had (Err (bads.BadCapture kind at)) ends
    by_end had (Err (bads.BadPcap kind at)) ends = taken had (Err (bads.BadPcap kind at)) ends
    by_end had (Err bads.TooLong) ends = taken had (Err bads.TooLong) ends
    by_end had (Err bads.ReadFault) ends = taken had (Err bads.ReadFault) ends
    by_end None (Err bads.WriteFault) ends = tt
    by_end (Some b) (Err bads.WriteFault) ends = absurd ends
    by_end None (Err bads.Memory) ends = tt
    by_end (Some b) (Err bads.Memory) ends = absurd ends

-- the records ended, and all was written
pub ended_told : (form : Form) (so_far whole : List Record → List ℕ) (first b u w : Option (List ℕ)) (done : List Record) (end : Result Unit WalkBad) → IfSome first (λ x. EndsAfter form 0 x b done end)
    → Appends u w (whole done) → Leaves form so_far whole 0 (passage first b u w) end
ended_told form so_far whole first b u w done end ends all = ended form so_far whole (passage first b u w) done end ends all

-- the write of a record failed
pub front_told : (form : Form) (so_far whole : List Record → List ℕ) (first b u v w : Option (List ℕ)) (done : List Record) (r : Record) → IfSome first (λ x. HasGiven form 0 (done ++ r ∷ []) x b)
    → Appends u v (so_far done) → WritesPart v w (so_far done) (so_far (done ++ r ∷ [])) → Leaves form so_far whole 0 (passage first b u w) (Err bads.WriteFault)
front_told form so_far whole None b u v w done r given before part = tt
front_told form so_far whole (Some x) b u v w done r given before part =
    inl (record { done = done; last = r; read = given; written = between u v w (so_far done) (so_far (done ++ r ∷ [])) before part })

-- the write of the end failed
pub end_front_told : (form : Form) (so_far whole : List Record → List ℕ) (first b u v w : Option (List ℕ)) (done : List Record) (end : Result Unit WalkBad) → IfSome first (λ x. EndsAfter form 0 x b done end)
    → Appends u v (so_far done) → WritesPart v w (so_far done) (whole done) → Leaves form so_far whole 0 (passage first b u w) (Err bads.WriteFault)
end_front_told form so_far whole None b u v w done end ends before part = tt
end_front_told form so_far whole (Some x) b u v w done end ends before part =
    inr (record { done = done; end = end; ended = ends; written = between u v w (so_far done) (whole done) before part })

-- memory was refused: what was read before is written
pub refused_told : (form : Form) (so_far whole : List Record → List ℕ) (first b u v w : Option (List ℕ)) (done : List Record) (r : Record) → IfSome first (λ x. HasGiven form 0 (done ++ r ∷ []) x b)
    → Appends u v (so_far done) → w ≡ v → Leaves form so_far whole 0 (passage first b u w) (Err bads.Memory)
refused_told form so_far whole None b u v w done r given before same = tt
refused_told form so_far whole (Some x) b u v w done r given before same =
    inl (record { done = done; last = r; read = given; written = same ∙ before })

-- memory was refused before anything was read
pub unbegun : (form : Form) (so_far whole : List Record → List ℕ) (p : Passage) → p.left ≡ p.had → p.holds ≡ p.held → Leaves form so_far whole 0 p (Err bads.Memory)
unbegun form so_far whole p unread unwritten = by_told p.had unread
  where
    by_told : (had : Option (List ℕ)) → p.left ≡ had → IfSome had (λ b. WantsMemory form so_far 0 b p ⊎ IsUnbegun 0 b p)
    by_told None unread = tt
    by_told (Some b) unread = inr (record {
      read = record { more = []; rest = b; whole = refl; told = unread; within = omega arith };
      written = unwritten;
    })

-- ---- a reader is given back

takes_nothing : (a b : Option (List ℕ)) → Takes a b [] → a ≡ b
takes_nothing a None e = e
takes_nothing a (Some x) e = e

nothing_left : (rest spent : Option (List ℕ)) (ahead : List ℕ) → Takes rest spent ahead → IsEmpty rest → IsEmpty spent
nothing_left rest None ahead told empty = tt
nothing_left rest (Some c) ahead told empty = let whole : ahead ++ c ≡ [] = subst IsEmpty told empty in nil_from_length c (omega (arith, ap length whole, length-append ahead c))

-- what was taken ahead of need is gone
read_back : (most : ℕ) (read b : List ℕ) (rest spent : Option (List ℕ)) (ahead : List ℕ) → Takes rest spent ahead → length ahead ≤ most → IsReadTo 0 read b rest → IsReadTo most read b spent
read_back most read b rest None ahead told bound r = absurd (no_some (sym r.told ∙ told))
  where
    no_some : {x : List ℕ} → ◌≡◌ {A = Option (List ℕ)} (Some x) None → ⊥
    no_some e = cc
read_back most read b rest (Some c) ahead told bound r =
    let none : r.more ≡ [] = nil_from_length r.more (omega (arith, r.within)) in
    let same : r.rest ≡ ahead ++ c = some_same r.rest (ahead ++ c) (sym r.told ∙ told) in
    record {
      more = ahead;
      rest = c;
      whole = r.whole ∙ ap (λ l. read ++ (l ++ r.rest)) none ∙ ap (λ l. read ++ l) same;
      told = refl;
      within = bound;
    }
  where
    some_same : (a b : List ℕ) → ◌≡◌ {A = Option (List ℕ)} (Some a) (Some b) → a ≡ b
    some_same a b e = cc

ends_back : (form : Form) (most : ℕ) (b : List ℕ) (rest spent : Option (List ℕ)) (done : List Record) (ahead : List ℕ) (end : Result Unit WalkBad) → Takes rest spent ahead → length ahead ≤ most
    → EndsAfter form 0 b rest done end → EndsAfter form most b spent done end
ends_back form most b rest spent done ahead (Ok x) told bound ends = (nothing_left rest spent ahead told ends.0, ends.1, ends.2)
ends_back form most b rest spent done ahead (Err (bads.BadCapture kind at)) told bound ends = ends
ends_back form most b rest spent done ahead (Err (bads.BadPcap kind at)) told bound ends = ends
ends_back form most b rest spent done ahead (Err bads.TooLong) told bound ends = ends
ends_back form most b rest spent done ahead (Err bads.ReadFault) told bound ends = (ends.0, read_back most ends.0 b rest spent ahead told bound ends.1, ends.2)
ends_back form most b rest spent done ahead (Err bads.WriteFault) told bound ends = ends
ends_back form most b rest spent done ahead (Err bads.Memory) told bound ends = ends

given_on : (form : Form) (most : ℕ) (rs : List Record) (b : List ℕ) (rest spent : Option (List ℕ)) (ahead : List ℕ) → Takes rest spent ahead → length ahead ≤ most → HasGiven form 0 rs b rest → HasGiven form most rs b spent
given_on form most rs b rest spent ahead told bound given =
    record { octets = given.octets; file = given.file; read = read_back most given.octets b rest spent ahead told bound given.read }

-- what a walk left stands when its source is given back, without what was taken of it ahead of need
pub given_back : (form : Form) (so_far whole : List Record → List ℕ) (most : ℕ) (source rest spent old new : Option (List ℕ)) (ahead : List ℕ) (end : Result Unit WalkBad) → (IsErrOf end bads.ReadFault → ahead ≡ [])
    → Takes rest spent ahead → length ahead ≤ most → Leaves form so_far whole 0 (record { had = source; left = rest; held = old; holds = new }) end
    → Leaves form so_far whole most (record { had = source; left = spent; held = old; holds = new }) end
given_back form so_far whole most None rest spent old new ahead (Ok x) none told bound left = tt
given_back form so_far whole most None rest spent old new ahead (Err (bads.BadCapture kind at)) none told bound left = tt
given_back form so_far whole most None rest spent old new ahead (Err (bads.BadPcap kind at)) none told bound left = tt
given_back form so_far whole most None rest spent old new ahead (Err bads.TooLong) none told bound left = tt
given_back form so_far whole most None rest spent old new ahead (Err bads.ReadFault) none told bound left = tt
given_back form so_far whole most None rest spent old new ahead (Err bads.WriteFault) none told bound left = tt
given_back form so_far whole most None rest spent old new ahead (Err bads.Memory) none told bound left = tt
given_back form so_far whole most (Some b) rest spent old new ahead (Ok x) none told bound left = (left.0, (nothing_left rest spent ahead told left.1.0, left.1.1, left.1.2), left.2)
given_back form so_far whole most (Some b) rest spent old new ahead (Err (bads.BadCapture kind at)) none told bound left = left
given_back form so_far whole most (Some b) rest spent old new ahead (Err (bads.BadPcap kind at)) none told bound left = left
given_back form so_far whole most (Some b) rest spent old new ahead (Err bads.TooLong) none told bound left = left
given_back form so_far whole most (Some b) rest spent old new ahead (Err bads.ReadFault) none told bound left =
    let same : rest ≡ spent = takes_nothing rest spent (subst (Takes rest spent) (none refl) told) in
    (left.0, subst (λ o. EndsAfter form 0 b o left.0 (Err bads.ReadFault)) same left.1, left.2)
given_back form so_far whole most (Some b) rest spent old new ahead (Err bads.WriteFault) none told bound (inl f) =
    inl (record { done = f.done; last = f.last; read = given_on form most (f.done ++ f.last ∷ []) b rest spent ahead told bound f.read; written = f.written })
given_back form so_far whole most (Some b) rest spent old new ahead (Err bads.WriteFault) none told bound (inr f) =
    inr (record { done = f.done; end = f.end; ended = ends_back form most b rest spent f.done ahead f.end told bound f.ended; written = f.written })
given_back form so_far whole most (Some b) rest spent old new ahead (Err bads.Memory) none told bound (inl f) =
    inl (record { done = f.done; last = f.last; read = given_on form most (f.done ++ f.last ∷ []) b rest spent ahead told bound f.read; written = f.written })
given_back form so_far whole most (Some b) rest spent old new ahead (Err bads.Memory) none told bound (inr f) =
    inr (record { read = read_back most [] b rest spent ahead told bound f.read; written = f.written })

-- what holds of a walk's end
pub brought : (end : Result Unit WalkBad) (P : Type 0) → P → IfBrought end P
brought (Ok x) P p = p
brought (Err (bads.BadCapture kind at)) P p = p
brought (Err (bads.BadPcap kind at)) P p = p
brought (Err bads.TooLong) P p = p
brought (Err bads.ReadFault) P p = p
brought (Err bads.WriteFault) P p = tt
brought (Err bads.Memory) P p = tt

-- a walk ended so, by what its form and its visitor were at first
pub ends_as : (f g : Form) (s t w v : List Record → List ℕ) (has_ended : List Record → Type 0) (p : Passage) (end : Result Unit WalkBad) → f ≡ g → s ≡ t → w ≡ v
    → EndsBy f s w has_ended p end → EndsBy g t v has_ended p end
ends_as f g s t w v has_ended p end form so_far whole ends = record {
  leaves = subst (λ (x : Form). Leaves x t v 0 p end) form
      (subst (λ (x : List Record → List ℕ). Leaves f x v 0 p end) so_far (subst (λ (x : List Record → List ℕ). Leaves f s x 0 p end) whole ends.leaves));
  seen = subst (λ (x : Form). IfBrought end (Brought x p.had p.left has_ended end)) form ends.seen;
}
