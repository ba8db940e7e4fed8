-- What a program may keep instead of the whole: the newest of some times, and the highest number.
use Rattle.std.proofs.Common.{◌≡◌, ℕ, ◌<◌, ◌≤◌, Bool, true, false, cond, ◌||◌, List, [], ◌∷◌, Option, Some, None, refl, sym, ap, ◌∙◌, arith, option_map}
use Rattle.std.specs.Prelude.{nat_lt, slice_get}
use Rattle.std.proofs.lemmas.Bool.{lt-ltb, ltb-true, ltb-false}
use Rattle.receiver_rules.specs.declared.anchor.Highest.{Highest}
use Rattle.receiver_rules.specs.Packets.{Packet, highest_of, higher}
use Rattle.request_rules.specs.Requests.{has_passed}
use Rattle.link_channels.specs.Intervals.{has_passed_since}
use Rattle.request_rules.specs.Missing.{is_passed, is_below_highest}

or_nothing : (b : Bool) → b ≡ (b || false)
or_nothing true = refl
or_nothing false = refl

pub passed_since : (interval t : ℕ) (times : List ℕ) (last : Option ℕ) → last ≡ slice_get times 0 → has_passed_since interval t last ≡ has_passed interval t times
passed_since interval t [] last e = ap (has_passed_since interval t) e
passed_since interval t (u ∷ us) last e = ap (has_passed_since interval t) e

above_either : (x : ℕ) (p : Packet) (o : Option Highest) → is_below_highest (Some (higher p o).number) x ≡ (nat_lt x p.number || is_below_highest (option_map (λ h. h.number) o) x)
above_either x p None = sym (or_none (nat_lt x p.number))
  where
    or_none : (b : Bool) → (b || false) ≡ b
    or_none true = refl
    or_none false = refl
above_either x p (Some g) =
    elim (nat_lt g.number p.number) as (λ c. nat_lt g.number p.number ≡ c → nat_lt x (cond c (record { number = p.number; timestamp = p.timestamp }) g).number ≡ (nat_lt x p.number || nat_lt x g.number)) [
      | true ↦ λ e. larger (nat_lt x g.number) refl (ltb-true g.number p.number e)
      | false ↦ λ e. smaller (nat_lt x p.number) refl (ltb-false g.number p.number e)
    ] refl
  where
    larger : (c : Bool) → nat_lt x g.number ≡ c → g.number < p.number → nat_lt x p.number ≡ (nat_lt x p.number || c)
    larger true e lt = let yes : nat_lt x p.number ≡ true = lt-ltb x p.number (omega (arith, ltb-true x g.number e, lt)) in rw yes refl
    larger false e lt = or_nothing (nat_lt x p.number)

    smaller : (c : Bool) → nat_lt x p.number ≡ c → p.number ≤ g.number → nat_lt x g.number ≡ (c || nat_lt x g.number)
    smaller true e le = lt-ltb x g.number (omega (arith, ltb-true x p.number e, le))
    smaller false e le = refl

-- a packet of a higher number was kept exactly where the highest is
pub passed_highest : (ps : List Packet) (x : ℕ) → is_below_highest (option_map (λ h. h.number) (highest_of ps)) x ≡ is_passed ps x
passed_highest [] x = refl
passed_highest (p ∷ ps) x = above_either x p (highest_of ps) ∙ ap (λ b. nat_lt x p.number || b) (passed_highest ps x)
