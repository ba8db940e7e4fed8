-- Writing the packets below a floor, one by one.
use Rattle.std.proofs.Common.{◌≡◌, ℕ, ◌+◌, ◌<◌, ◌≤◌, Bool, true, false, cond, not, List, [], ◌∷◌, ◌++◌, Option, Some, None, length, refl, sym, ◌∙◌, ap, subst, map, arith, append_assoc, length-append}
use Rattle.std.proofs.lemmas.List.{nil_from_length}
use Rattle.std.specs.Prelude.{nat_lt, Result, Ok, Err, OnErr}
use Rattle.std.proofs.lemmas.Bool.{lt-ltb, le-ltb, ltb-true, ltb-false}
use Rattle.std.specs.List.{filter, concat}
use Rattle.std.specs.Option.{option_map}
use Rattle.outside_io.specs.Told.{Appends, AppendsPart}
use Rattle.receiver_rules.specs.Packets.{Packet, IsRising, is_below, is_from}
use Rattle.receiver_rules.proofs.PacketLemmas.{rising_lower}
use Rattle.reorder_buffer.specs.Inside.Release.{octets_below}
use Rattle.reorder_buffer.specs.Inside.Ring.{first_payload, after_first, starts_below}

-- what was put before, and what is put then
pub appends_both : (a b c : Option (List ℕ)) (x y : List ℕ) → Appends a b x → Appends b c y → Appends a c (x ++ y)
appends_both None b c x y p q = q ∙ ap (option_map (λ held. held ++ y)) p
appends_both (Some a) b c x y p q = q ∙ ap (option_map (λ held. held ++ y)) p ∙ ap Some (append_assoc a x y)

-- of all packets below the floor, these are left; the others were written, in this number
pub record Writes (floor : ℕ) (before told : Option (List ℕ)) (all left : List Packet) (count : ℕ) : Type 0 where
  pub done : List ℕ
  pub put : Appends before told done
  pub octets : done ++ octets_below floor left ≡ octets_below floor all
  pub rest : filter (is_from floor) left ≡ filter (is_from floor) all
  pub counted : count + length (filter (is_below floor) left) ≡ length (filter (is_below floor) all)
  pub rising : IsRising 0 left

append_nothing : (xs : List ℕ) → xs ++ [] ≡ xs
append_nothing [] = refl
append_nothing (x ∷ xs) = ap (λ ys. x ∷ ys) (append_nothing xs)

put_nothing : (told : Option (List ℕ)) → Appends told told []
put_nothing None = refl
put_nothing (Some xs) = ap Some (sym (append_nothing xs))

pub writes_none : (floor : ℕ) (told : Option (List ℕ)) (all : List Packet) → IsRising 0 all → Writes floor told told all all 0
writes_none floor told all r = record { done = []; put = put_nothing told; octets = refl; rest = refl; counted = omega arith; rising = r }

below-cons : (floor : ℕ) (p : Packet) (ps : List Packet) → p.number < floor → filter (is_below floor) (p ∷ ps) ≡ p ∷ filter (is_below floor) ps
below-cons floor p ps h = ap (λ b. cond b (p ∷ filter (is_below floor) ps) (filter (is_below floor) ps)) (lt-ltb _ _ h)

from-cons : (floor : ℕ) (p : Packet) (ps : List Packet) → p.number < floor → filter (is_from floor) (p ∷ ps) ≡ filter (is_from floor) ps
from-cons floor p ps h = ap (λ b. cond (not b) (p ∷ filter (is_from floor) ps) (filter (is_from floor) ps)) (lt-ltb _ _ h)

octets-cons : (floor : ℕ) (p : Packet) (ps : List Packet) → p.number < floor → octets_below floor (p ∷ ps) ≡ p.payload ++ octets_below floor ps
octets-cons floor p ps h = ap (λ qs. concat (map (λ (q : Packet). q.payload) qs)) (below-cons floor p ps h)

-- one more is written
pub writes_more : (floor : ℕ) (before told new : Option (List ℕ)) (all : List Packet) (p : Packet) (left : List Packet) (count : ℕ) → p.number < floor → Writes floor before told all (p ∷ left) count → Appends told new p.payload → Writes floor before new all left (count + 1)
writes_more floor before told new all p left count h w put =
    record {
      done = w.done ++ p.payload;
      put = appends_both before told new w.done p.payload w.put put;
      octets = append_assoc w.done p.payload (octets_below floor left) ∙ ap (λ xs. w.done ++ xs) (sym (octets-cons floor p left h)) ∙ w.octets;
      rest = sym (from-cons floor p left h) ∙ w.rest;
      counted = let e : length (filter (is_below floor) (p ∷ left)) ≡ length (p ∷ filter (is_below floor) left) = ap length (below-cons floor p left h) in let c = w.counted in grind (arith, e, c);
      rising = rising_lower 0 (p.number + 1) left (omega arith) w.rising.1;
    }

-- a write fails after a part of the payload
pub writes_part : (floor : ℕ) (before told new : Option (List ℕ)) (all : List Packet) (p : Packet) (left : List Packet) (count : ℕ) → p.number < floor → Writes floor before told all (p ∷ left) count → AppendsPart told new p.payload → AppendsPart before new (octets_below floor all)
writes_part floor before told new all p left count h w part = (
  w.done ++ part.0,
  (
    part.1.0 ++ octets_below floor left,
    sym w.octets
        ∙ ap (λ xs. w.done ++ xs) (octets-cons floor p left h ∙ ap (λ xs. xs ++ octets_below floor left) part.1.1 ∙ append_assoc part.0 part.1.0 (octets_below floor left))
        ∙ sym (append_assoc w.done part.0 (part.1.0 ++ octets_below floor left)),
  ),
  appends_both before told new w.done part.0 w.put part.2,
)

-- the first is not below the floor, and so none is
abbrev pub IsFrom : ℕ → List Packet → Type 0
IsFrom floor [] = Unit {0}
IsFrom floor (p ∷ ps) = floor ≤ p.number

rising_from : (floor low : ℕ) (ps : List Packet) → floor ≤ low → IsRising low ps → (filter (is_below floor) ps ≡ []) × (filter (is_from floor) ps ≡ ps)
rising_from floor low [] h r = (refl, refl)
rising_from floor low (p ∷ ps) h r =
    let more = rising_from floor (p.number + 1) ps (omega (arith, r.0)) r.1 in
    let e : nat_lt p.number floor ≡ false = le-ltb _ _ (omega (arith, r.0)) in (
      ap (λ b. cond b (p ∷ filter (is_below floor) ps) (filter (is_below floor) ps)) e ∙ more.0,
      ap (λ b. cond (not b) (p ∷ filter (is_from floor) ps) (filter (is_from floor) ps)) e ∙ ap (λ qs. p ∷ qs) more.1,
    )

pub none_left : (floor : ℕ) (ps : List Packet) → IsRising 0 ps → IsFrom floor ps → (filter (is_below floor) ps ≡ []) × (filter (is_from floor) ps ≡ ps)
none_left floor [] r h = (refl, refl)
none_left floor (p ∷ ps) r h = rising_from floor p.number (p ∷ ps) h (omega arith, r.1)

pub record Written (floor : ℕ) (before told : Option (List ℕ)) (all left : List Packet) (count : ℕ) : Type 0 where
  pub rest : left ≡ filter (is_from floor) all
  pub octets : Appends before told (octets_below floor all)
  pub counted : count ≡ length (filter (is_below floor) all)

pub written_all : (floor : ℕ) (before told : Option (List ℕ)) (all left : List Packet) (count : ℕ) → IsFrom floor left → Writes floor before told all left count → Written floor before told all left count
written_all floor before told all left count h w =
    let none = none_left floor left w.rising h in
    let nothing : octets_below floor left ≡ [] = ap (λ qs. concat (map (λ (q : Packet). q.payload) qs)) none.0 in
    record {
      rest = sym none.1 ∙ w.rest;
      octets = subst (Appends before told) (sym (append_nothing w.done) ∙ ap (λ xs. w.done ++ xs) (sym nothing) ∙ w.octets) w.put;
      counted = let e : length (filter (is_below floor) left) ≡ length {A = Packet} [] = ap length none.0 in let c = w.counted in grind (arith, e, c);
    }

-- ---- the same, by what the ring holds

length_filter : (f : Packet → Bool) (ps : List Packet) → length (filter f ps) ≤ length ps
length_filter f [] = omega arith
length_filter f (p ∷ ps) = grind (arith, length_filter f ps)

-- the first packet is below the floor
pub first_more : (floor : ℕ) (before told new : Option (List ℕ)) (all left : List Packet) (count : ℕ) → starts_below floor left ≡ true → Writes floor before told all left count → Appends told new (first_payload left) → Writes floor before new all (after_first left) (count + 1)
first_more floor before told new all [] count first w put = cc
first_more floor before told new all (p ∷ left) count first w put = writes_more floor before told new all p left count (ltb-true _ _ first) w put

pub first_part : (floor : ℕ) (before told new : Option (List ℕ)) (all left : List Packet) (count : ℕ) → starts_below floor left ≡ true → Writes floor before told all left count → AppendsPart told new (first_payload left) → AppendsPart before new (octets_below floor all)
first_part floor before told new all [] count first w part = cc
first_part floor before told new all (p ∷ left) count first w part = writes_part floor before told new all p left count (ltb-true _ _ first) w part

-- where nothing is to be written the payload is empty
pub first_nothing : (floor : ℕ) (before told : Option (List ℕ)) (all left : List Packet) (count : ℕ) → starts_below floor left ≡ true → Writes floor before told all left count → octets_below floor all ≡ [] → first_payload left ≡ []
first_nothing floor before told all [] count first w none = cc
first_nothing floor before told all (p ∷ left) count first w none =
    let octets = ap length (octets-cons floor p left (ltb-true _ _ first)) in
    let whole = ap length (w.octets ∙ none) in
    nil_from_length p.payload (omega (arith, octets, whole, length-append w.done (octets_below floor (p ∷ left)), length-append p.payload (octets_below floor left)))

-- the count with one more is no more than all packets
pub first_fits : (floor : ℕ) (before told : Option (List ℕ)) (all left : List Packet) (count : ℕ) → starts_below floor left ≡ true → Writes floor before told all left count → count + 1 ≤ length all
first_fits floor before told all [] count first w = cc
first_fits floor before told all (p ∷ left) count first w =
    let e : length (filter (is_below floor) (p ∷ left)) ≡ length (p ∷ filter (is_below floor) left) = ap length (below-cons floor p left (ltb-true _ _ first)) in
    let c = w.counted in
    grind (arith, e, c, length_filter (is_below floor) all)

pub first_fewer : (floor : ℕ) (left : List Packet) → starts_below floor left ≡ true → length (after_first left) < length left
first_fewer floor [] first = cc
first_fewer floor (p ∷ left) first = omega arith

from_none : (floor : ℕ) (ps : List Packet) → starts_below floor ps ≡ false → IsFrom floor ps
from_none floor [] h = tt
from_none floor (p ∷ ps) h = ltb-false _ _ h

pub first_end : (floor : ℕ) (before told : Option (List ℕ)) (all left : List Packet) (count : ℕ) → starts_below floor left ≡ false → Writes floor before told all left count → Written floor before told all left count
first_end floor before told all left count first w = written_all floor before told all left count (from_none floor left first) w

pub on_err_always : {T E : Type 0} (r : Result T E) (P : Type 0) → P → OnErr r P
on_err_always (Ok v) P p = tt
on_err_always (Err e) P p = p
