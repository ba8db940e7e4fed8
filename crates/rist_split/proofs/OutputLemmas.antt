-- What is left of flows is left of their sinks, and a write failed exactly where some flow was cut off.
use Rattle.std.proofs.Common.{◌≡◌, ◌<◌, ℕ, zero, suc, Bool, true, false, ◌||◌, length, map, List, [], ◌∷◌, slice_get, Option, Some, refl, ap, sym, ◌∙◌, subst}
use Rattle.std.specs.Option.{option_map}
use Rattle.std.specs.Prelude.{Result, Err}
use mathlib.Core.Logic.{inl, inr}
use Rattle.std.proofs.Common.{◌⊎◌}
use Rattle.std.specs.List.{list_any}
use Rattle.std.proofs.lemmas.Option.{slice_get_within, slice_get-map}
use Rattle.capture_walk.specs.declared.walk_bad.WalkBad.{WalkBad}
use Rattle.capture_walk.specs.declared.walk_bad.WalkBad.TheVariants as walks
use Rattle.capture_file.specs.Capture.{Record}
use Rattle.receiver_rules.specs.declared.limits.Limits.{Limits}
use Rattle.rist_wire.specs.declared.session.Session.{Session}
use Rattle.rist_wire.specs.Among.{session_at}
use Rattle.rist_desk.specs.Desk.{is_cut_off}
use Rattle.rist_fan.specs.declared.flow.Flow.{Flow}
use Rattle.rist_fan.specs.declared.flow.Came.{Came}
use Rattle.rist_fan.proofs.FanLemmas.{at_some}
use Rattle.rist_replay.specs.Replay.{replayed}
use Rattle.rist_split.specs.Split.{AllSplit, IsSplitOff}
use Rattle.rist_split.specs.Outputs.{AllWhole, AreOutputs, AreWhole, IsAnswered, IsCut, IsWhole, SomeCut, SomeIsCut}
use Rattle.rist_split.specs.Inside.Making.{is_cut, sink_of}

some_same : {A : Type 0} (x y : A) → Some x ≡ Some y → x ≡ y
some_same x y e = cc (e)

pub length_map : {A B : Type 0} (f : A → B) (xs : List A) → length (map f xs) ≡ length xs
length_map f [] = refl
length_map f (x ∷ xs) = ap suc (length_map f xs)

-- what stands in a list of parts is a part of what stands there
at_map : {A B : Type 0} (f : A → B) (xs : List A) (v : ℕ) (y : B) → slice_get (map f xs) v ≡ Some y → (x : A) × (slice_get xs v ≡ Some x) × (f x ≡ y)
at_map f xs v y at =
    let inside : v < length xs = subst (λ (n : ℕ). v < n) (length_map f xs) (slice_get_within (map f xs) v y at) in
    let held = at_some xs v inside in
    (held.0, held.1, some_same (f held.0) y (sym (slice_get-map f xs v ∙ ap (option_map f) held.1) ∙ at))

-- a test that some element passes, and one that none does
any_at : {A : Type 0} (p : A → Bool) (xs : List A) → list_any p xs ≡ true → (v : ℕ) × (x : A) × (slice_get xs v ≡ Some x) × (p x ≡ true)
any_at p [] any = absurd (cc (any))
any_at {A} p (x ∷ xs) any = by_first (p x) refl (λ rest. any_at p xs rest) any
  where
    by_first : (b : Bool) → p x ≡ b → (list_any p xs ≡ true → (v : ℕ) × (y : A) × (slice_get xs v ≡ Some y) × (p y ≡ true)) → (b || list_any p xs) ≡ true
        → (v : ℕ) × (y : A) × (slice_get (x ∷ xs) v ≡ Some y) × (p y ≡ true)
    by_first true first behind rest = (0, x, refl, first)
    by_first false first behind rest = let there = behind rest in (suc there.0, there.1, there.2, there.3)

none_first : (a b : Bool) → (a || b) ≡ false → a ≡ false
none_first true b none = absurd (cc (none))
none_first false b none = refl

none_behind : (a b : Bool) → (a || b) ≡ false → b ≡ false
none_behind true b none = absurd (cc (none))
none_behind false b none = none

none_at : {A : Type 0} (p : A → Bool) (xs : List A) (v : ℕ) (x : A) → list_any p xs ≡ false → slice_get xs v ≡ Some x → p x ≡ false
none_at p [] v x none at = absurd (cc (at))
none_at p (y ∷ ys) zero x none at = subst (λ z. p z ≡ false) (some_same y x at) (none_first (p y) (list_any p ys) none)
none_at p (y ∷ ys) (suc v) x none at = none_at p ys v x (none_behind (p y) (list_any p ys) none) at

-- one output, by whether it was cut off
whole_of : (whole : List ℕ) (held holds : Option (List ℕ)) (before now : ℕ) → IsSplitOff whole held holds before now false → IsWhole whole held holds before now
whole_of whole held holds before now is = record { written = is.written; unfailed = is.cause }

cut_of : (whole : List ℕ) (held holds : Option (List ℕ)) (before now : ℕ) → IsSplitOff whole held holds before now true → IsCut whole held holds before now
cut_of whole held holds before now is = record { written = is.written; failed = is.cause }

output_of : (whole : List ℕ) (held holds : Option (List ℕ)) (before now : ℕ) (cut : Bool) → IsSplitOff whole held holds before now cut
    → IsWhole whole held holds before now ⊎ IsCut whole held holds before now
output_of whole held holds before now true is = inr (cut_of whole held holds before now is)
output_of whole held holds before now false is = inl (whole_of whole held holds before now is)

module _ {K : Type 0} (contents : K → Option (List ℕ)) (faults : K → ℕ) (ports : List ℕ) (session : Session) (limits : Limits)
    (flows next : List (Flow K)) (came : List Came) (old new : List K)
    (were : map sink_of flows ≡ old) (are : map sink_of next ≡ new) (many : length flows ≡ length came) (as_many : length next ≡ length came) where
  -- the flow of a sink, before and after
  flow_of : (v : ℕ) (sink : K) → slice_get old v ≡ Some sink → (flow : Flow K) × (slice_get flows v ≡ Some flow) × (flow.sink ≡ sink)
  flow_of v sink at = at_map sink_of flows v sink (subst (λ (l : List K). slice_get l v ≡ Some sink) (sym were) at)

  next_of : (v : ℕ) (sink : K) → slice_get new v ≡ Some sink → (flow : Flow K) × (slice_get next v ≡ Some flow) × (flow.sink ≡ sink)
  next_of v sink at = at_map sink_of next v sink (subst (λ (l : List K). slice_get l v ≡ Some sink) (sym are) at)

  came_of : (v : ℕ) (flow : Flow K) → slice_get flows v ≡ Some flow → (one : Came) × (slice_get came v ≡ Some one)
  came_of v flow at = at_some came v (subst (λ (n : ℕ). v < n) many (slice_get_within flows v flow at))

  -- what is said of the sinks of a flow before and after, where it is said of the flows
  of_sinks : (rs : List Record) (P : List ℕ → Option (List ℕ) → Option (List ℕ) → ℕ → ℕ → Type 0) (v : ℕ) (sink filled : K) (flow after : Flow K) → flow.sink ≡ sink → after.sink ≡ filled
      → P (replayed (session_at ports v session) limits rs) (contents flow.sink) (contents after.sink) (faults flow.sink) (faults after.sink)
      → P (replayed (session_at ports v session) limits rs) (contents sink) (contents filled) (faults sink) (faults filled)
  of_sinks rs P v sink filled flow after was is p =
      subst (λ (k : K). P (replayed (session_at ports v session) limits rs) (contents k) (contents filled) (faults k) (faults filled)) was
      (subst (λ (k : K). P (replayed (session_at ports v session) limits rs) (contents flow.sink) (contents k) (faults flow.sink) (faults k)) is p)

  outputs_as : (rs : List Record) → AllSplit contents faults ports session limits flows next came rs → AreOutputs contents faults ports session limits old new rs
  outputs_as rs all v sink filled at at_new =
      let held = flow_of v sink at in
      let gained = next_of v filled at_new in
      let one = came_of v held.0 held.1 in
      of_sinks rs (λ whole was is before now. IsWhole whole was is before now ⊎ IsCut whole was is before now) v sink filled held.0 gained.0 held.2 gained.2
      (output_of _ _ _ _ _ (is_cut_off one.0.answer) (all v held.0 gained.0 one.0 held.1 gained.1 one.1))

  -- where none was cut off
  all_whole : (rs : List Record) → AllSplit contents faults ports session limits flows next came rs → list_any is_cut came ≡ false → AreWhole contents faults ports session limits old new rs
  all_whole rs all none v sink filled at at_new =
      let held = flow_of v sink at in
      let gained = next_of v filled at_new in
      let one = came_of v held.0 held.1 in
      let flow : Flow K = held.0 in
      let after : Flow K = gained.0 in
      of_sinks rs IsWhole v sink filled flow after held.2 gained.2
      (whole_of _ _ _ _ _
      (subst (λ (b : Bool). IsSplitOff (replayed (session_at ports v session) limits rs) (contents flow.sink) (contents after.sink) (faults flow.sink) (faults after.sink) b)
      (none_at is_cut came v one.0 none one.1) (all v flow after one.0 held.1 gained.1 one.1)))

  -- and where some was
  some_cut : (rs : List Record) → AllSplit contents faults ports session limits flows next came rs → list_any is_cut came ≡ true → SomeIsCut contents faults ports session limits old new rs
  some_cut rs all any =
      let at = any_at is_cut came any in
      let inside : at.0 < length came = slice_get_within came at.0 at.1 at.2 in
      let held = at_some flows at.0 (subst (λ (n : ℕ). at.0 < n) (sym many) inside) in
      let gained = at_some next at.0 (subst (λ (n : ℕ). at.0 < n) (sym as_many) inside) in
      let flow : Flow K = held.0 in
      let after : Flow K = gained.0 in
      record {
        place = at.0;
        sink = flow.sink;
        filled = after.sink;
        was = subst (λ (l : List K). slice_get l at.0 ≡ Some flow.sink) were (slice_get-map sink_of flows at.0 ∙ ap (option_map sink_of) held.1);
        is = subst (λ (l : List K). slice_get l at.0 ≡ Some after.sink) are (slice_get-map sink_of next at.0 ∙ ap (option_map sink_of) gained.1);
        cut = cut_of _ _ _ _ _
            (subst (λ (b : Bool). IsSplitOff (replayed (session_at ports at.0 session) limits rs) (contents flow.sink) (contents after.sink) (faults flow.sink) (faults after.sink) b) at.3
            (all at.0 flow after at.1 held.1 gained.1 at.2));
      }

  -- the answer where some was cut off, and where none was
  pub answered_cut : (rs : List Record) (end : Result Unit WalkBad) → AllSplit contents faults ports session limits flows next came rs → list_any is_cut came ≡ true
      → IsAnswered contents faults ports session limits old new rs end (Err walks.WriteFault)
  answered_cut rs end all any = SomeCut (outputs_as rs all) (some_cut rs all any) refl

  pub answered_whole : (rs : List Record) (end : Result Unit WalkBad) → AllSplit contents faults ports session limits flows next came rs → list_any is_cut came ≡ false
      → IsAnswered contents faults ports session limits old new rs end end
  answered_whole rs end all none = AllWhole (all_whole rs all none) refl
