-- A walk goes on from record to record.
use Rattle.std.proofs.Common.{◌≡◌, ℕ, ◌+◌, ◌^◌, ◌<◌, ◌≤◌, List, [], ◌∷◌, ◌++◌, length, take, flat_map, None, Some, refl, sym, ap, ◌∙◌, subst, append_assoc, append-nil, arith, length-append, Option}
use Rattle.std.specs.Prelude.{Ok}
use Rattle.std.proofs.lemmas.List.Elements.{All-push, All-nil}
use Rattle.std.proofs.lemmas.List.{nil_from_length}
use Rattle.std.proofs.lemmas.Grind.{flat_map-append}
use Rattle.std.proofs.lemmas.Bool.Decides.{nat_tests}
use Rattle.outside_io.specs.Told.{Appends, Takes, Writes}
use Rattle.outside_io.proofs.ToldLemmas.{appends_none, appends_both, takes_none, takes_both}
use Rattle.capture_file.specs.Capture.{Record, Fits, magic, spelling}
use Rattle.capture_file.specs.Reading.{ReadsNext, name_at, offset_at}
use Rattle.capture_file.specs.Heads.{record_of}
use Rattle.capture_file.specs.Reader.{ReaderState, new_reader}
use Rattle.capture_file.specs.declared.head.Head.{Head}
use Rattle.capture_walk.specs.Inside.Sofar.{Rest, HasRead, Sofar}

pub no_name : (at : ℕ) → 0 < at → name_at at ≡ []
no_name at more = grind (arith, nat_tests)

same_offset : (at : ℕ) → 0 < at → offset_at at ≡ at
same_offset at more = grind (arith, nat_tests)

pub offset_bound : (at : ℕ) → at ≤ 2 ^ 40 → offset_at at ≤ 2 ^ 40
offset_bound at bound = grind (arith, nat_tests)

pub first_offset : (at n : ℕ) → at ≡ 0 → offset_at at ≡ 8 + n → n ≡ 0
first_offset at n zero off = grind (arith, nat_tests)

pub first_name : (at : ℕ) → at ≡ 0 → name_at at ≡ magic
first_name at zero = ap name_at zero

one_more : (rs : List Record) (r : Record) → flat_map spelling (rs ++ r ∷ []) ≡ flat_map spelling rs ++ spelling r
one_more rs r = flat_map-append spelling rs (r ∷ []) ∙ ap (λ l. flat_map spelling rs ++ l) (append-nil (spelling r))

spelled_long : (r : Record) → length (spelling r) ≡ 12 + length r.octets
spelled_long r = omega arith

place_on : (f g s : List ℕ) (off len : ℕ) → off ≡ 8 + length f → g ≡ f ++ s → length s ≡ 12 + len → off + 12 + len ≡ 8 + length g
place_on f g s off len p q l = omega (arith, ap length q, length-append f s)

named : (t n s k m f g : List ℕ) → t ++ n ≡ m ++ f → k ≡ [] → g ≡ f ++ s → (t ++ (n ++ s)) ++ k ≡ m ++ g
named t n s k m f g p none all =
    ap (λ l. (t ++ (n ++ s)) ++ l) none ∙ append-nil (t ++ (n ++ s)) ∙ sym (append_assoc t n s) ∙ ap (λ l. l ++ s) p ∙ append_assoc m f s ∙ ap (λ l. m ++ l) (sym all)

pub rest_on : (first a b : Option (List ℕ)) (at next : ℕ) (done : List Record) (r : Record) → Rest first a at done → 0 < next → Takes a b (name_at at ++ spelling r) → Rest first b next (done ++ r ∷ [])
rest_on first a b at next done r rest some told = (
  rest.0 ++ (name_at at ++ spelling r),
  takes_both first a b rest.0 (name_at at ++ spelling r) rest.1 told,
  named rest.0 (name_at at) (spelling r) (name_at next) magic (flat_map spelling done) (flat_map spelling (done ++ r ∷ [])) rest.2 (no_name next some) (one_more done r),
)

-- a sink that gained what one more adds holds all that was written
pub gained : (u old new : Option (List ℕ)) (first whole : List ℕ) → Appends u old first → Writes old new first whole → Appends u new whole
gained u old new first whole before w = subst (Appends u new) (sym w.2) (appends_both u old new first w.0 before w.1)

-- a reader that gave a record has read one more
pub reads_on : (first a b : Option (List ℕ)) (at next : ℕ) (done : List Record) (buf : List ℕ) (head : Head)
    → HasRead first a at done → ReadsNext at a b buf (Ok (Some head)) → next ≡ offset_at at + 12 + head.length → next ≤ 2 ^ 40 → length (take head.length buf) ≡ head.length
    → HasRead first b next (done ++ record_of head (take head.length buf) ∷ [])
reads_on first a b at next done buf head read told place bound size =
    let r = record_of head (take head.length buf) in
    let some : 0 < next = omega (arith, place) in
    record {
      each = All-push Fits done r read.each told.0;
      place = same_offset next some ∙ place
          ∙ place_on (flat_map spelling done) (flat_map spelling (done ++ r ∷ [])) (spelling r) (offset_at at) head.length read.place (one_more done r) (spelled_long r ∙ ap (λ n. 12 + n) size);
      bound = bound;
      rest = rest_on first a b at next done r read.rest some told.1;
    }

pub none_done : (done : List Record) → length (flat_map spelling done) ≡ 0 → done ≡ []
none_done [] none = refl
none_done (r ∷ done) none = let long = length-append (spelling r) (flat_map spelling done) in absurd (omega (arith, long, spelled_long r, none))

-- nothing was taken where nothing was read
pub none_taken : (t n m f : List ℕ) → t ++ n ≡ m ++ f → n ≡ m → length f ≡ 0 → t ≡ []
none_taken t n m f e same none =
    nil_from_length t (omega (arith, ap length e, length-append t n, length-append m f, ap length same))

-- what a source that tells had is what was taken and what it has left
pub record Left (x taken : List ℕ) (left : Option (List ℕ)) : Type 0 where
  pub rest : List ℕ
  pub told : left ≡ Some rest
  pub whole : x ≡ taken ++ rest

pub left_of : (x taken : List ℕ) (left : Option (List ℕ)) → Takes (Some x) left taken → Left x taken left
left_of x taken None t = cc
left_of x taken (Some c) t = record { rest = c; told = refl; whole = some_same x (taken ++ c) t }
  where
    some_same : (a b : List ℕ) → Some a ≡ Some b → a ≡ b
    some_same a b e = cc

-- before the first record
at_start : (remaining : Option (List ℕ)) → HasRead remaining remaining 0 []
at_start remaining = record {
  each = All-nil Fits;
  place = refl;
  bound = omega arith;
  rest = ([], takes_none remaining, refl);
}

-- a new reader has read nothing
pub new_has_read : (remaining : Option (List ℕ)) (faults : ℕ) (reader : ReaderState) → reader ≡ new_reader remaining faults → HasRead reader.remaining reader.remaining reader.at []
new_has_read remaining faults reader is = subst (λ (r : ReaderState). HasRead r.remaining r.remaining r.at []) (sym is) (at_start remaining)

-- a walk begins with nothing written
pub begins : {R V : Type 0} (so_far : List Record → List ℕ) (has_read : R → Option (List ℕ) → List Record → Type 0) (has_seen : V → List Record → Type 0) (first u : Option (List ℕ)) (reader : R) (visitor : V)
    → has_read reader first [] → has_seen visitor [] → so_far [] ≡ [] → Sofar so_far has_read has_seen first reader visitor u u
begins so_far has_read has_seen first u reader visitor read seen empty = record {
  done = [];
  read = read;
  seen = seen;
  sink = subst (Appends u u) (sym empty) (appends_none u);
}
