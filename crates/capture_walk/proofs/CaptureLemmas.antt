-- A reader of a capture file comes to its end, or to a fault.
use Rattle.std.proofs.Common.{◌≡◌, ◌≢◌, ◌⊎◌, ℕ, ◌+◌, ◌^◌, ◌<◌, ◌≤◌, List, [], ◌∷◌, ◌++◌, length, take, flat_map, None, Some, refl, sym, ap, ◌∙◌, subst, append_assoc, append-nil, arith, length-append, length-take, All, Option, IfSome}
use mathlib.Core.Logic.{inl, inr}
use Rattle.std.specs.Prelude.{Result, Ok, Err}
use Rattle.std.proofs.lemmas.List.Elements.{All-push}
use Rattle.outside_io.specs.Told.{IsReadTo, Takes, IsEmpty}
use Rattle.outside_io.proofs.ToldLemmas.{takes_both}
use Rattle.capture_file.specs.Capture.{Record, Fits, magic, spelling}
use Rattle.capture_file.specs.Tests.{BadAt}
use Rattle.capture_file.proofs.FormatLemmas.{no_record_at_fault}
use Rattle.capture_file.specs.Reading.{ReadsNext, IsBadAt, IsCutShort, IsUnfinished, name_at, offset_at}
use Rattle.capture_file.specs.declared.reader.CapKind.{CapKind}
use Rattle.capture_file.specs.declared.reader.CapKind.TheVariants as kinds
use Rattle.capture_file.specs.declared.reader.CapBad.{CapBad}
use Rattle.capture_file.specs.declared.reader.CapBad.TheVariants.{Bad, ReadFault}
use Rattle.capture_walk.specs.Form.{Capture, Fronts, records_before}
use Rattle.capture_walk.specs.Leaves.{HasGiven, EndsAfter, walk_bad_of}
use Rattle.capture_walk.specs.Inside.Sofar.{HasRead}
use Rattle.capture_walk.specs.declared.walk_bad.WalkBad.TheVariants as bads
use Rattle.capture_walk.proofs.GoingLemmas.{no_name, offset_bound, first_offset, first_name, rest_on, none_done, none_taken, left_of}

-- ---- what was read of octets that are told

given_at : (at : ℕ) (x : List ℕ) (b : Option (List ℕ)) (done : List Record) (c taken : List ℕ) → 0 < at → All Fits done → x ≡ taken ++ c → b ≡ Some c
    → taken ++ name_at at ≡ magic ++ flat_map spelling done → HasGiven Capture 0 done x b
given_at at x b done c taken some each p told e = record {
  octets = magic ++ flat_map spelling done;
  file = record { each = each; whole = refl };
  read = record {
    more = [];
    rest = c;
    whole = p ∙ ap (λ l. l ++ c) (sym (append-nil taken) ∙ ap (λ l. taken ++ l) (sym (no_name at some)) ∙ e);
    told = told;
    within = omega arith;
  };
}

-- a record was read behind those that were taken
given_one : (x : List ℕ) (a b : Option (List ℕ)) (at next : ℕ) (done : List Record) (r : Record) → HasRead (Some x) a at done → Fits r → 0 < next
    → Takes a b (name_at at ++ spelling r) → HasGiven Capture 0 (done ++ r ∷ []) x b
given_one x a b at next done r read fits some told =
    let on = rest_on (Some x) a b at next done r read.rest some told in
    let l = left_of x on.0 b on.1 in
    given_at next x b (done ++ r ∷ []) l.rest on.0 some (All-push Fits done r read.each fits) l.whole l.told on.2

whole_size : (x m f : List ℕ) (at : ℕ) → x ≡ m ++ f → length m ≡ 8 → offset_at at ≡ 8 + length f → at ≤ 2 ^ 40 → length x ≤ 2 ^ 40
whole_size x m f at whole size place bound = let long = offset_bound at bound in omega (arith, ap length whole, length-append m f)

-- at the end the octets that were told first are a capture of these records
ends_whole : (x : List ℕ) (a b : Option (List ℕ)) (at : ℕ) (done : List Record) → HasRead (Some x) a at done → Takes a b (name_at at) → IsEmpty b
    → EndsAfter Capture 0 x b done (Ok tt)
ends_whole x a b at done read told empty =
    let l = left_of x (read.rest.0 ++ name_at at) b (takes_both (Some x) a b read.rest.0 (name_at at) read.rest.1 told) in
    let nothing : l.rest ≡ [] = subst (λ o. IsEmpty o) l.told empty in
    let all_of : x ≡ magic ++ flat_map spelling done = l.whole ∙ ap (λ c. (read.rest.0 ++ name_at at) ++ c) nothing ∙ append-nil (read.rest.0 ++ name_at at) ∙ read.rest.2 in
    (empty, record { each = read.each; whole = all_of }, whole_size x magic (flat_map spelling done) at all_of refl read.place read.bound)

regrouped : (x t n m f c r : List ℕ) → x ≡ t ++ c → c ≡ n ++ r → t ++ n ≡ m ++ f → x ≡ m ++ (f ++ r)
regrouped x t n m f c r p q e =
    p ∙ ap (λ l. t ++ l) q ∙ sym (append_assoc t n r) ∙ ap (λ l. l ++ r) e ∙ append_assoc m f r

bad_cases : (x t c : List ℕ) (at : ℕ) (done : List Record) (kind : CapKind) (place : ℕ) → x ≡ t ++ c → t ++ name_at at ≡ magic ++ flat_map spelling done
    → All Fits done → offset_at at ≡ 8 + length (flat_map spelling done) → IsBadAt at c (Bad kind place) → (bad : BadAt x kind place) × (records_before bad ≡ done)
bad_cases x t c at done kind place p e each off (inl name) =
    let none : length (flat_map spelling done) ≡ 0 = first_offset at (length (flat_map spelling done)) name.0 off in
    let all : x ≡ c = p ∙ ap (λ l. l ++ c) (none_taken t (name_at at) magic (flat_map spelling done) e (first_name at name.0) none) in
    (inl (name.1, name.2, λ same. name.3 (ap (take 8) (sym all) ∙ same)), sym (none_done done none))
bad_cases x t c at done kind place p e each off (inr fault) = (
  inr (record {
    done = done;
    rest = fault.1.0;
    each = each;
    whole = regrouped x t (name_at at) magic (flat_map spelling done) c fault.1.0 p fault.1.1 e;
    place = fault.0 ∙ off;
    some = fault.1.2;
    fails = fault.1.3;
  }),
  refl,
)

-- at a fault the octets that were told first have it at that place, after these records
told_bad : (x : List ℕ) (a : Option (List ℕ)) (at : ℕ) (done : List Record) (kind : CapKind) (place : ℕ) → HasRead (Some x) a at done → IfSome a (λ b. IsBadAt at b (Bad kind place))
    → (bad : BadAt x kind place) × (records_before bad ≡ done)
told_bad x a at done kind place read told =
    let l = left_of x read.rest.0 a read.rest.1 in
    bad_cases x read.rest.0 l.rest at done kind place l.whole read.rest.2 read.each read.place (subst (λ o. IfSome o (λ b. IsBadAt at b (Bad kind place))) l.told told)

short_name : (part : List ℕ) → length part < 8 → take 8 part ≢ magic
short_name part short same = let size = ap length same in absurd (omega (arith, size, length-take 8 part))

read_fronts : (taken part : List ℕ) (at : ℕ) (done : List Record) → taken ++ name_at at ≡ magic ++ flat_map spelling done → All Fits done → offset_at at ≡ 8 + length (flat_map spelling done)
    → IsUnfinished at part → Fronts Capture done (taken ++ part)
read_fronts taken part at done e each off (inl name) =
    let none : length (flat_map spelling done) ≡ 0 = first_offset at (length (flat_map spelling done)) name.0 off in
    let nothing : taken ≡ [] = none_taken taken (name_at at) magic (flat_map spelling done) e (first_name at name.0) none in
    inr (none_done done none, λ same. short_name part name.1 (ap (λ l. take 8 (l ++ part)) (sym nothing) ∙ same))
read_fronts taken part at done e each off (inr more) = inl (record {
  each = each;
  rest = more.0;
  whole = ap (λ l. taken ++ l) more.1 ∙ sym (append_assoc taken (name_at at) more.0) ∙ ap (λ l. l ++ more.0) e ∙ append_assoc magic (flat_map spelling done) more.0;
  no_more = more.2;
})

-- the records before a fault are the whole records at the front
bad_fronts : (x : List ℕ) (kind : CapKind) (place : ℕ) → kind ≢ kinds.TooLong → (bad : BadAt x kind place) → Fronts Capture (records_before bad) x
bad_fronts x kind place other (inl name) = inr (refl, name.2)
bad_fronts x kind place other (inr fault) = inl (record { each = fault.each; rest = fault.rest; whole = fault.whole; no_more = no_record_at_fault place kind fault.rest fault.fails other })

-- a test fails of what stands behind these records
ends_bad : (x : List ℕ) (b : Option (List ℕ)) (done : List Record) (kind : CapKind) (place : ℕ) → kind ≢ kinds.TooLong
    → (bad : BadAt x kind place) × (records_before bad ≡ done) → EndsAfter Capture 0 x b done (Err (bads.BadCapture kind place))
ends_bad x b done kind place other bad =
    (other, bad.0, subst (λ rs. Fronts Capture rs x) bad.1 (bad_fronts x kind place other bad.0))

-- what was read before a fault holds no more whole records
ends_cut : (x : List ℕ) (a b : Option (List ℕ)) (at : ℕ) (done : List Record) → HasRead (Some x) a at done → IsCutShort a b (IsUnfinished at)
    → EndsAfter Capture 0 x b done (Err bads.ReadFault)
ends_cut x a b at done read cut =
    let l = left_of x (read.rest.0 ++ cut.0) b (takes_both (Some x) a b read.rest.0 cut.0 read.rest.1 cut.1) in (
      read.rest.0 ++ cut.0,
      record { more = []; rest = l.rest; whole = l.whole; told = l.told; within = omega arith },
      read_fronts read.rest.0 cut.0 at done read.rest.2 read.each read.place cut.2,
    )

-- an error of the reader says how the records ended
ends_by : (x : List ℕ) (a b : Option (List ℕ)) (at : ℕ) (done : List Record) (buf : List ℕ) (bad : CapBad) → HasRead (Some x) a at done → ReadsNext at a b buf (Err bad)
    → EndsAfter Capture 0 x b done (Err (walk_bad_of bad))
ends_by x a b at done buf (Bad kinds.TooLong place) read told =
    let bad = told_bad x a at done kinds.TooLong place read told in
    (place, bad.0, sym bad.1)
ends_by x a b at done buf (Bad kinds.Magic place) read told = ends_bad x b done kinds.Magic place (λ e. cc) (told_bad x a at done kinds.Magic place read told)
ends_by x a b at done buf (Bad kinds.Truncated place) read told = ends_bad x b done kinds.Truncated place (λ e. cc) (told_bad x a at done kinds.Truncated place read told)
ends_by x a b at done buf (Bad kinds.Link place) read told = ends_bad x b done kinds.Link place (λ e. cc) (told_bad x a at done kinds.Link place read told)
ends_by x a b at done buf (Bad kinds.Channel place) read told = ends_bad x b done kinds.Channel place (λ e. cc) (told_bad x a at done kinds.Channel place read told)
ends_by x a b at done buf (Bad kinds.Long place) read told = ends_bad x b done kinds.Long place (λ e. cc) (told_bad x a at done kinds.Long place read told)
ends_by x a b at done buf ReadFault read told = ends_cut x a b at done read told

-- ---- where the source may not tell

pub whole_told : (first a b : Option (List ℕ)) (at : ℕ) (done : List Record) → HasRead first a at done → Takes a b (name_at at) → IsEmpty b
    → IfSome first (λ x. EndsAfter Capture 0 x b done (Ok tt))
whole_told None a b at done read told empty = tt
whole_told (Some x) a b at done read told empty = ends_whole x a b at done read told empty

pub by_told : (first a b : Option (List ℕ)) (at : ℕ) (done : List Record) (buf : List ℕ) (bad : CapBad) → HasRead first a at done → ReadsNext at a b buf (Err bad)
    → IfSome first (λ x. EndsAfter Capture 0 x b done (Err (walk_bad_of bad)))
by_told None a b at done buf bad read told = tt
by_told (Some x) a b at done buf bad read told = ends_by x a b at done buf bad read told

-- a record was given
pub given_told : (first a b : Option (List ℕ)) (at next : ℕ) (done : List Record) (r : Record) → HasRead first a at done → Fits r → 0 < next → Takes a b (name_at at ++ spelling r)
    → IfSome first (λ x. HasGiven Capture 0 (done ++ r ∷ []) x b)
given_told None a b at next done r read fits some told = tt
given_told (Some x) a b at next done r read fits some told = given_one x a b at next done r read fits some told
