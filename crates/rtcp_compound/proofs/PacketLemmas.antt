-- One packet: what passes the tests is spelled so, and what is spelled so passes them.
use Rattle.std.proofs.Common.{◌≡◌, ℕ, ◌+◌, ◌-◌, ◌%◌, ◌≤◌, Bool, true, false, cond, List, length, Option, Some, None, refl, arith, inl, inr}
use Rattle.std.specs.Prelude.{not, ◌&&◌, ◌||◌, ◌⊎◌, nat_lt, nat_le, ◌==◌}
use Rattle.std.proofs.lemmas.Bool.{eqb-true, eqb-false, ne_eqb, eq-eqb, ltb-false, le-ltb, leb-true, le-leb, and_parts, not-false, not-true, or_cases}
use Rattle.rtcp_compound.specs.Compound.{IsReport}
use Rattle.rtcp_compound.specs.Reading.{version_in, is_padded, count_in, kind_in, length_in, padding_in, body_in, is_padding, pads_well, has_body, fault_at}
use Rattle.rtcp_compound.specs.declared.refusal.RtcpWhy.{RtcpWhy}
use Rattle.rtcp_compound.specs.declared.refusal.RtcpWhy.TheVariants.{Short, Version, Kind, First, Length, Padding, Body}

-- a test that no packet fails
step : (b : Bool) (why : RtcpWhy) (x : Option RtcpWhy) → cond b (Some why) x ≡ None → (b ≡ false) × (x ≡ None)
step true why x e = absurd cc
step false why x e = (refl, e)

-- each test of the packet at the front
pub record Passes (first : Bool) (b : List ℕ) : Type 0 where
  pub header : 4 ≤ length b
  pub version : version_in b ≡ 2
  pub low : 192 ≤ kind_in b
  pub high : kind_in b ≤ 223
  pub report : first ≡ true → IsReport (kind_in b)
  pub whole : length_in b ≤ length b
  pub pads : pads_well b ≡ true
  pub body : has_body (kind_in b) (count_in b) (body_in b) ≡ true

report_of : (first : Bool) (kind : ℕ) → (first && not (kind == 200 || kind == 201)) ≡ false → first ≡ true → IsReport kind
report_of true kind e f = elim (or_cases (kind == 200) (kind == 201) (not-false _ e)) [ inl x ↦ inl (eqb-true _ _ x) | inr x ↦ inr (eqb-true _ _ x) ]
report_of false kind e f = absurd cc

pub passed : (first : Bool) (b : List ℕ) → fault_at first b ≡ None → Passes first b
passed first b e =
    let s1 = step (nat_lt (length b) 4) Short _ e in
    let s2 = step (not (version_in b == 2)) Version _ s1.1 in
    let s3 = step (not (nat_le 192 (kind_in b) && nat_le (kind_in b) 223)) Kind _ s2.1 in
    let s4 = step (first && not (kind_in b == 200 || kind_in b == 201)) First _ s3.1 in
    let s5 = step (nat_lt (length b) (length_in b)) Length _ s4.1 in
    let s6 = step (not (pads_well b)) Padding _ s5.1 in
    let s7 = step (not (has_body (kind_in b) (count_in b) (body_in b))) Body _ s6.1 in
    let kinds = and_parts (nat_le 192 (kind_in b)) (nat_le (kind_in b) 223) (not-false _ s3.0) in
    record {
      header = ltb-false _ _ s1.0;
      version = eqb-true _ _ (not-false _ s2.0);
      low = leb-true _ _ kinds.0;
      high = leb-true _ _ kinds.1;
      report = report_of first (kind_in b) s4.0;
      whole = ltb-false _ _ s5.0;
      pads = not-false _ s6.0;
      body = not-false _ s7.0;
    }

not_none : (b : Bool) (why : RtcpWhy) (x : Option RtcpWhy) → b ≡ true → x ≡ None → cond (not b) (Some why) x ≡ None
not_none true why x h e = e
not_none false why x h e = absurd cc

unreported : (first : Bool) (kind : ℕ) → (first ≡ true → IsReport kind) → (first && not (kind == 200 || kind == 201)) ≡ false
unreported false kind h = refl
unreported true kind h = elim (h refl) [ inl x ↦ rw x refl | inr x ↦ rw x refl ]

pub passing : (first : Bool) (b : List ℕ) → Passes first b → fault_at first b ≡ None
passing first b p =
    rw (le-ltb (length b) 4 p.header, eq-eqb (version_in b) 2 p.version, le-leb 192 (kind_in b) p.low, le-leb (kind_in b) 223 p.high, unreported first (kind_in b) p.report, le-ltb (length b) (length_in b) p.whole, p.pads, p.body) refl

-- a packet has a header at least
pub header_within : (b : List ℕ) → 4 ≤ length_in b
unfolding length_in
header_within b = omega arith

-- padding as the tests want it
pub record Pads (size left padding : ℕ) : Type 0 where
  pub last : size ≡ left
  pub some : padding ≡ 0 → ⊥
  pub words : padding % 4 ≡ 0
  pub within : padding ≤ size - 4

pub pads_parts : (size left padding : ℕ) → is_padding size left padding ≡ true → Pads size left padding
pads_parts size left padding h =
    let p = and_parts (size == left) (not (padding == 0) && (padding % 4 == 0 && nat_le padding (size - 4))) h in
    let q = and_parts (not (padding == 0)) (padding % 4 == 0 && nat_le padding (size - 4)) p.1 in
    let r = and_parts (padding % 4 == 0) (nat_le padding (size - 4)) q.1 in
    record { last = eqb-true _ _ p.0; some = eqb-false _ _ (not-true _ q.0); words = eqb-true _ _ r.0; within = leb-true _ _ r.1 }

pub pads_from : (size left padding : ℕ) → Pads size left padding → is_padding size left padding ≡ true
pads_from size left padding p =
    rw (eq-eqb size left p.last, ne_eqb padding 0 p.some, eq-eqb (padding % 4) 0 p.words, le-leb padding (size - 4) p.within) refl

unless : (t x : Bool) → (not t || x) ≡ true → (t ≡ false) ⊎ ((t ≡ true) × (x ≡ true))
unless true x e = inr (refl, e)
unless false x e = inl refl

-- either no padding, or padding as it is to be
pub padding_cases : (b : List ℕ) → pads_well b ≡ true → (is_padded b ≡ false) ⊎ ((is_padded b ≡ true) × Pads (length_in b) (length b) (padding_in b))
padding_cases b h =
    elim (unless (is_padded b) (is_padding (length_in b) (length b) (padding_in b)) h) [
      | inl f ↦ inl f
      | inr t ↦ inr (t.0, pads_parts (length_in b) (length b) (padding_in b) t.1)
    ]

-- padding is a part of the packet behind its header
pub padding_within : (b : List ℕ) → pads_well b ≡ true → padding_in b + 4 ≤ length_in b
padding_within b h =
    elim (padding_cases b h) [
      | inl f ↦ rw f (header_within b)
      | inr p ↦ (let least = header_within b in omega (arith, p.1.within, least))
    ]

pub padded_fits : (first : Bool) (b : List ℕ) → fault_at first b ≡ None → padding_in b + 4 ≤ length_in b
padded_fits first b e = padding_within b (passed first b e).pads
