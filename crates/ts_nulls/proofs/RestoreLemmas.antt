-- A loop over the packets that are put back.
use Rattle.std.proofs.Common.{◌≡◌, ℕ, zero, suc, ◌+◌, ◌*◌, ◌≤◌, Bool, true, false, cond, List, [], ◌∷◌, ◌++◌, length, take, drop, set, refl, sym, ap, subst, ◌∙◌, append_assoc, arith}
use Rattle.std.specs.Prelude.{◌==◌, if◌then◌else◌, is_ok, replicate, Result, Ok, Err}
use Rattle.std.specs.Int.{bit_at}
use Rattle.std.proofs.lemmas.List.{append-nil, length-drop}
use Rattle.ts_nulls.specs.Packets.{packet_len, null_packet}
use Rattle.std.proofs.lemmas.Bool.{eq-eqb, eqb-true}
use Rattle.ts_nulls.specs.declared.nulls.NullBad.{NullBad}
use Rattle.ts_nulls.specs.declared.nulls.NullBad.TheVariants.{Shape as BadShape}
use Rattle.ts_nulls.specs.Shape.{Shape}
use Rattle.ts_nulls.specs.Nulls.{null_flags, kept_count, flags_of, restored, restoring_of}

-- ---- how many are kept
pub record Counts (units left places bits kept : ℕ) : Type 0 where
  pub so_far : kept + kept_count (null_flags places left bits) ≡ kept_count (null_flags 7 units bits)
  pub within : kept + left ≤ units

pub Counts-at : (units left places bits kept l p : ℕ) → Counts units left places bits kept → left ≡ l → places ≡ p → Counts units l p bits kept
Counts-at units left places bits kept l p g e f =
    subst (λ (n : ℕ). Counts units n p bits kept) e (subst (λ (m : ℕ). Counts units left m bits kept) f g)

count-next : (flag : Bool) (flags : List Bool) → kept_count (flag ∷ flags) ≡ cond flag 0 1 + kept_count flags
count-next true flags = omega arith
count-next false flags = refl

cond-one : (flag : Bool) → cond flag 0 1 ≤ 1
cond-one true = omega arith
cond-one false = omega arith

pub Counts-next : (units left places bits kept one : ℕ) → Counts units (suc left) (suc places) bits kept → one ≡ cond (bit_at bits places == 1) 0 1
    → Counts units left places bits (kept + one)
Counts-next units left places bits kept one g e = record {
  so_far = omega (arith, g.so_far, count-next (bit_at bits places == 1) (null_flags places left bits), e);
  within = omega (arith, g.within, e, cond-one (bit_at bits places == 1));
}

no-flags : (places bits : ℕ) → null_flags places 0 bits ≡ []
no-flags zero bits = refl
no-flags (suc places) bits = refl

pub Counts-end : (units places bits kept : ℕ) → Counts units 0 places bits kept → kept ≡ kept_count (null_flags 7 units bits)
Counts-end units places bits kept g = omega (arith, g.so_far, ap kept_count (no-flags places bits))

-- ---- the packets
pub null-made : (long : Bool) (len : ℕ) → len ≡ packet_len long
    → take len (set (set (set (replicate 204 255) 0 71) 1 31) 3 16) ≡ null_packet long
null-made true len e = ap (λ (n : ℕ). take n (set (set (set (replicate 204 255) 0 71) 1 31) 3 16)) e ∙ refl
null-made false len e = ap (λ (n : ℕ). take n (set (set (set (replicate 204 255) 0 71) 1 31) 3 16)) e ∙ refl

-- so far of a payload, with so many packets and places left
pub record Puts (long : Bool) (units left places bits at : ℕ) (rest octets out : List ℕ) : Type 0 where
  pub end : at + packet_len long * left ≡ packet_len long * units
  pub whole : length rest ≡ packet_len long * kept_count (null_flags places left bits)
  pub made : take at out ++ restored long (null_flags places left bits) rest ≡ restored long (null_flags 7 units bits) octets

pub Puts-begin : (long : Bool) (units bits : ℕ) (octets out : List ℕ) → length octets ≡ packet_len long * kept_count (null_flags 7 units bits)
    → Puts long units units 7 bits 0 octets octets out
Puts-begin long units bits octets out whole = record { end = omega arith; whole = whole; made = refl }

pub Puts-at : (long : Bool) (units left places bits at : ℕ) (rest octets out : List ℕ) (l p : ℕ) → Puts long units left places bits at rest octets out
    → left ≡ l → places ≡ p → Puts long units l p bits at rest octets out
Puts-at long units left places bits at rest octets out l p g e f =
    subst (λ (n : ℕ). Puts long units n p bits at rest octets out) e (subst (λ (m : ℕ). Puts long units left m bits at rest octets out) f g)

-- there is room for the next packet
pub Puts-room : (long : Bool) (units left places bits at : ℕ) (rest octets out : List ℕ) → Puts long units (suc left) places bits at rest octets out
    → units ≤ 7 → at + packet_len long ≤ 1428
Puts-room true units left places bits at rest octets out g few = omega (arith, g.end)
Puts-room false units left places bits at rest octets out g few = omega (arith, g.end)

-- a packet that wasn't null is there
pub Puts-there : (long : Bool) (units left places bits at : ℕ) (rest octets out : List ℕ) → Puts long units (suc left) (suc places) bits at rest octets out
    → (bit_at bits places == 1) ≡ false → packet_len long ≤ length rest
Puts-there long units left places bits at rest octets out g not_null =
    let whole : length rest ≡ packet_len long * (1 + kept_count (null_flags places left bits)) =
    g.whole ∙ (λ i. packet_len long * kept_count (not_null i ∷ null_flags places left bits)) in
    there long (kept_count (null_flags places left bits)) whole
  where
    there : (long : Bool) (n : ℕ) → length rest ≡ packet_len long * (1 + n) → packet_len long ≤ length rest
    there true n e = omega (arith, e)
    there false n e = omega (arith, e)

part-made : (long flag : Bool) (flags : List Bool) (rest : List ℕ)
    → restored long (flag ∷ flags) rest ≡ cond flag (null_packet long) (take (packet_len long) rest) ++ restored long flags (cond flag rest (drop (packet_len long) rest))
part-made long true flags rest = refl
part-made long false flags rest = refl

part-whole : (long flag : Bool) (n : ℕ) (flags : List Bool) (rest : List ℕ) → kept_count flags ≡ n → length rest ≡ packet_len long * kept_count (flag ∷ flags)
    → length (cond flag rest (drop (packet_len long) rest)) ≡ packet_len long * n
part-whole long true n flags rest e h = h ∙ ap (λ (m : ℕ). packet_len long * m) e
part-whole true false n flags rest e h = omega (arith, h, e, length-drop 204 rest)
part-whole false false n flags rest e h = omega (arith, h, e, length-drop 188 rest)

end-next : (long : Bool) (at left units : ℕ) → at + packet_len long * suc left ≡ packet_len long * units → at + packet_len long + packet_len long * left ≡ packet_len long * units
end-next true at left units e = omega (arith, e)
end-next false at left units e = omega (arith, e)

pub Puts-next : (long : Bool) (units left places bits at end : ℕ) (rest after octets out new : List ℕ) → Puts long units (suc left) (suc places) bits at rest octets out
    → end ≡ at + packet_len long → after ≡ cond (bit_at bits places == 1) rest (drop (packet_len long) rest)
    → take end new ≡ take at out ++ cond (bit_at bits places == 1) (null_packet long) (take (packet_len long) rest)
    → Puts long units left places bits end after octets new
Puts-next long units left places bits at end rest after octets out new g e a m =
    let flag : Bool = bit_at bits places == 1 in
    let flags : List Bool = null_flags places left bits in
    let next : List ℕ = cond flag rest (drop (packet_len long) rest) in
    record {
      end = ap (λ (n : ℕ). n + packet_len long * left) e ∙ end-next long at left units g.end;
      whole = ap length a ∙ part-whole long flag (kept_count flags) flags rest refl g.whole;
      made = (λ i. m i ++ restored long flags (a i))
          ∙ append_assoc (take at out) (cond flag (null_packet long) (take (packet_len long) rest)) (restored long flags next)
          ∙ ap (λ (x : List ℕ). take at out ++ x) (sym (part-made long flag flags rest)) ∙ g.made;
    }

pub record PutsEnded (long : Bool) (units bits at : ℕ) (octets out : List ℕ) : Type 0 where
  pub end : at ≡ packet_len long * units
  pub made : take at out ≡ restored long (null_flags 7 units bits) octets

pub Puts-end : (long : Bool) (units places bits at : ℕ) (rest octets out : List ℕ) → Puts long units 0 places bits at rest octets out
    → PutsEnded long units bits at octets out
Puts-end long units places bits at rest octets out g = record {
  end = omega (arith, g.end);
  made = sym (append-nil (take at out)) ∙ ap (λ (flags : List Bool). take at out ++ restored long flags rest) (sym (no-flags places bits)) ∙ g.made;
}

pub end-within : (long : Bool) (units len : ℕ) → units ≤ 7 → len ≡ packet_len long * units → len ≤ 1428
end-within true units len few e = omega (arith, e)
end-within false units len few e = omega (arith, e)

pub restoring-good : (units bits size kept : ℕ) (long : Bool) (octets made : List ℕ) → size ≡ packet_len long → kept ≡ kept_count (null_flags 7 units bits)
    → length octets ≡ size * kept → made ≡ restored long (null_flags 7 units bits) octets → Ok made ≡ restoring_of (record { units = units; long = long; nulls = bits }) octets
unfolding restoring_of
restoring-good units bits size kept long octets made s k e m =
    let test : (length octets == packet_len long * kept_count (null_flags 7 units bits)) ≡ true = eq-eqb _ _ (e ∙ (λ i. s i * k i)) in
    let bad : Result (List ℕ) NullBad = Err BadShape in
    λ i. cond (sym test i) (Ok (m i)) bad

-- the test says whether there is a whole payload
pub Ok-if : (test : Bool) (whole : List ℕ) (bad : NullBad) → test ≡ is_ok (if test then Ok whole else Err bad)
Ok-if true whole bad = refl
Ok-if false whole bad = refl

-- a payload that can be restored has the length of the packets that were kept
pub restoring-whole : (shape : Shape) (octets : List ℕ) → is_ok (restoring_of shape octets) ≡ true
    → length octets ≡ packet_len shape.long * kept_count (flags_of shape)
unfolding restoring_of
restoring-whole shape octets ok =
    eqb-true (length octets) (packet_len shape.long * kept_count (flags_of shape))
    (Ok-if (length octets == packet_len shape.long * kept_count (flags_of shape)) (restored shape.long (flags_of shape) octets) BadShape ∙ ok)

-- the one refusal
pub refused : (result : Result (List ℕ) NullBad) → is_ok result ≡ false → Err BadShape ≡ result
refused (Ok octets) e = absurd cc
refused (Err BadShape) e = refl

pub restoring-test : (units bits size kept : ℕ) (long : Bool) (octets : List ℕ) → size ≡ packet_len long → kept ≡ kept_count (null_flags 7 units bits)
    → (length octets == size * kept) ≡ is_ok (restoring_of (record { units = units; long = long; nulls = bits }) octets)
unfolding restoring_of
restoring-test units bits size kept long octets s k =
    (λ i. length octets == s i * k i)
    ∙ Ok-if (length octets == packet_len long * kept_count (null_flags 7 units bits)) (restored long (null_flags 7 units bits) octets) BadShape
