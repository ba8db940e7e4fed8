-- Packets one after another: fuel, and the tests of all of them.
use Rattle.std.proofs.Common.{◌≡◌, ℕ, zero, suc, ◌+◌, ◌-◌, ◌<◌, ◌≤◌, Bool, false, List, [], ◌∷◌, length, drop, Option, Some, None, refl, sym, ap, subst, ◌∙◌, arith, length-drop, inl, inr}
use Rattle.std.specs.Prelude.{nat_lt, ◌==◌, if◌then◌else◌}
use Rattle.std.proofs.lemmas.List.{drop_all, drop-drop}
use Rattle.std.proofs.lemmas.Bool.{lt-ltb, le-ltb, cases_lt}
use Rattle.rtcp_compound.specs.Compound.{Content, content_of}
use Rattle.rtcp_compound.specs.Reading.{kind_in, count_in, body_in, length_in, fault_at, refused_or, fault_within, fault_of, packets_within, packets_in, ArePackets}
use Rattle.rtcp_compound.specs.declared.refusal.RtcpWhy.{RtcpWhy}
use Rattle.rtcp_compound.specs.declared.refusal.RtcpBad.{RtcpBad}
use Rattle.rtcp_compound.proofs.PacketLemmas.{passed, passing, header_within}

-- more packets than there are octets aren't needed
pub packets_enough : (f g : ℕ) (b : List ℕ) → length b ≤ f → length b ≤ g → packets_within f b ≡ packets_within g b
packets_enough zero zero b h i = refl
packets_enough zero (suc g) [] h i = refl
packets_enough zero (suc g) (x ∷ xs) h i = absurd (omega arith)
packets_enough (suc f) zero [] h i = refl
packets_enough (suc f) zero (x ∷ xs) h i = absurd (omega arith)
packets_enough (suc f) (suc g) [] h i = refl
packets_enough (suc f) (suc g) (x ∷ xs) h i =
    let four = header_within (x ∷ xs) in
    let left = length-drop (length_in (x ∷ xs)) (x ∷ xs) in
    ap (λ (ps : List Content). content_of (kind_in (x ∷ xs)) (count_in (x ∷ xs)) (body_in (x ∷ xs)) ∷ ps)
    (packets_enough f g (drop (length_in (x ∷ xs)) (x ∷ xs)) (omega (arith, four, left)) (omega (arith, four, left)))

-- the first content, and those that follow
pub packets_step : (b : List ℕ) → 0 < length b → packets_in b ≡ content_of (kind_in b) (count_in b) (body_in b) ∷ packets_in (drop (length_in b) b)
unfolding packets_in
packets_step [] h = absurd (omega arith)
packets_step (x ∷ xs) h =
    let four = header_within (x ∷ xs) in
    let left = length-drop (length_in (x ∷ xs)) (x ∷ xs) in
    ap (λ (ps : List Content). content_of (kind_in (x ∷ xs)) (count_in (x ∷ xs)) (body_in (x ∷ xs)) ∷ ps)
    (packets_enough (length xs) (length (drop (length_in (x ∷ xs)) (x ∷ xs))) (drop (length_in (x ∷ xs)) (x ∷ xs)) (omega (arith, four, left)) (omega arith))

-- more packets than there are octets aren't tested
pub fault_enough : (f g place : ℕ) (b : List ℕ) → length b < f → length b < g → fault_within f place b ≡ fault_within g place b
fault_enough zero g place b h i = absurd (omega arith)
fault_enough (suc f) zero place b h i = absurd (omega arith)
fault_enough (suc f) (suc g) place b h i =
    let four = header_within b in
    let left = length-drop (length_in b) b in
    elim (cases_lt (length_in b) (length b)) [
      | inl lt ↦ rw (fault_enough f g (place + length_in b) (drop (length_in b) b) (omega (arith, four, left)) (omega (arith, four, left))) refl
      | inr le ↦ rw (le-ltb (length_in b) (length b) le) refl
    ]

-- the loop over packets goes on behind one
pub fault_stepped : (place n size : ℕ) (b : List ℕ) (total : Option RtcpBad) → n ≡ length_in b → n < length b → size ≡ place + length b → fault_at (place == 0) b ≡ None
    → fault_within (suc (size - place)) place b ≡ total → fault_within (suc (size - (place + n))) (place + n) (drop n b) ≡ total
fault_stepped place n size b total n-is lt size-is ok so_far =
    let four = header_within b in
    let left = length-drop (length_in b) b in
    let here : length_in b < length b = omega arith in
    let one : fault_within (suc (size - place)) place b ≡ fault_within (size - place) (place + length_in b) (drop (length_in b) b) =
    rw (ok, lt-ltb (length_in b) (length b) here) refl in
    let two : fault_within (size - place) (place + length_in b) (drop (length_in b) b) ≡ fault_within (suc (size - (place + length_in b))) (place + length_in b) (drop (length_in b) b) =
    fault_enough (size - place) (suc (size - (place + length_in b))) (place + length_in b) (drop (length_in b) b) (omega (arith, four, left)) (omega (arith, four, left)) in
    rw n-is (sym two ∙ sym one ∙ so_far)

-- the last packet
pub fault_ended : (place most : ℕ) (b : List ℕ) (total : Option RtcpBad) → length b ≤ length_in b → fault_at (place == 0) b ≡ None
    → fault_within (suc most) place b ≡ total → total ≡ None
fault_ended place most b total le ok so_far =
    let one : fault_within (suc most) place b ≡ None = rw (ok, le-ltb (length_in b) (length b) le) refl in
    sym so_far ∙ one

-- a packet that fails a test
pub fault_found : (place most : ℕ) (b : List ℕ) (why : RtcpWhy) (total : Option RtcpBad) → fault_at (place == 0) b ≡ Some why
    → fault_within (suc most) place b ≡ total → total ≡ Some (record { why = why; place = place })
fault_found place most b why total bad so_far =
    let one : fault_within (suc most) place b ≡ Some (record { why = why; place = place }) = rw bad refl in
    sym so_far ∙ one

-- what no test refuses as a first packet, none refuses as a later one
later : (first : Bool) (b : List ℕ) → fault_at first b ≡ None → fault_at false b ≡ None
later first b e =
    let p = passed first b e in
    passing false b (record { header = p.header; version = p.version; low = p.low; high = p.high; report = λ f. absurd cc; whole = p.whole; pads = p.pads; body = p.body })

pub no_refusal : (place : ℕ) (why : Option RtcpWhy) (rest : Option RtcpBad) → refused_or place why rest ≡ None → (why ≡ None) × (rest ≡ None)
no_refusal place None rest e = (refl, e)
no_refusal place (Some why) rest e = absurd cc

-- packets stand there, however many there may be at most
pub packets_more : (f g : ℕ) (b : List ℕ) → length b ≤ f → length b ≤ g → ArePackets f b → ArePackets g b
packets_more zero zero b h i a = a
packets_more zero (suc g) [] h i a = tt
packets_more zero (suc g) (x ∷ xs) h i a = absurd (omega arith)
packets_more (suc f) zero [] h i a = refl
packets_more (suc f) zero (x ∷ xs) h i a = absurd (omega arith)
packets_more (suc f) (suc g) [] h i a = tt
packets_more (suc f) (suc g) (x ∷ xs) h i a =
    let four = header_within (x ∷ xs) in
    let left = length-drop (length_in (x ∷ xs)) (x ∷ xs) in
    (a.0, packets_more f g (drop (length_in (x ∷ xs)) (x ∷ xs)) (omega (arith, four, left)) (omega (arith, four, left)) a.1)

nothing_left : (most : ℕ) → ArePackets most []
nothing_left zero = refl
nothing_left (suc most) = tt

-- packets stand where no test fails
pub packets_from : (most place : ℕ) (b : List ℕ) → length b < most → fault_within most place b ≡ None → ArePackets most b
packets_from zero place b h e = absurd (omega arith)
packets_from (suc most) place [] h e = tt
packets_from (suc most) place (x ∷ xs) h e =
    let b = x ∷ xs in
    let four = header_within b in
    let left = length-drop (length_in b) b in
    let rest = if nat_lt (length_in b) (length b) then fault_within most (place + length_in b) (drop (length_in b) b) else None in
    let parts = no_refusal place (fault_at (place == 0) b) rest e in
    elim (cases_lt (length_in b) (length b)) [
      | inl lt ↦ (later (place == 0) b parts.0, packets_from most (place + length_in b) (drop (length_in b) b) (omega (arith, four, left)) (rw (lt-ltb (length_in b) (length b) lt) at parts.1))
      | inr le ↦ (later (place == 0) b parts.0, subst (ArePackets most) (sym (drop_all (length_in b) b le)) (nothing_left most))
    ]

-- a compound's packets
pub packets_of_compound : (b : List ℕ) → fault_of b ≡ None → ArePackets (length b) b
unfolding fault_of
packets_of_compound b e = packets_more (suc (length b)) (length b) b (omega arith) (omega arith) (packets_from (suc (length b)) 0 b (omega arith) e)

-- the packet at the front, and the packets behind it
pub packets_front : (b : List ℕ) → 0 < length b → ArePackets (length b) b → fault_at false b ≡ None
packets_front [] h a = absurd (omega arith)
packets_front (x ∷ xs) h a = a.0

pub packets_behind : (b rest : List ℕ) (n : ℕ) → rest ≡ drop n b → n ≡ length_in b → 0 < length b → ArePackets (length b) b → ArePackets (length rest) rest
packets_behind [] rest n r e h a = absurd (omega arith)
packets_behind (x ∷ xs) rest n r e h a =
    let four = header_within (x ∷ xs) in
    let left = length-drop (length_in (x ∷ xs)) (x ∷ xs) in
    rw (r, e) (packets_more (length xs) (length (drop (length_in (x ∷ xs)) (x ∷ xs))) (drop (length_in (x ∷ xs)) (x ∷ xs)) (omega (arith, four, left)) (omega arith) a.1)

-- what `next` gives is the first content, and the others are left
pub given : (b rest : List ℕ) (n : ℕ) (all : List Content) (one : Content) → rest ≡ drop n b → n ≡ length_in b → 0 < length b → packets_in b ≡ all
    → one ≡ content_of (kind_in b) (count_in b) (body_in b) → all ≡ one ∷ packets_in rest
given b rest n all one r e h whole first =
    let moved : packets_in (drop (length_in b) b) ≡ packets_in rest = ap packets_in (ap (λ (k : ℕ). drop k b) (sym e) ∙ sym r) in
    sym whole ∙ packets_step b h ∙ ap (λ (ps : List Content). content_of (kind_in b) (count_in b) (body_in b) ∷ ps) moved ∙ ap (λ (p : Content). p ∷ packets_in rest) (sym first)

-- the loop's own slice, which is what is left of all octets
pub tested_on : (octets rest : List ℕ) (place n : ℕ) (total : Option RtcpBad) → rest ≡ drop place octets → place ≤ length octets → n ≡ length_in rest → n ≤ length rest
    → (n ≡ length rest → ⊥) → fault_at (place == 0) rest ≡ None → fault_within (suc (length octets - place)) place (drop place octets) ≡ total
    → fault_within (suc (length octets - (place + n))) (place + n) (drop (place + n) octets) ≡ total
tested_on octets rest place n total rest-is within n-is fits other ok so_far =
    let size : length octets ≡ place + length rest = omega (arith, ap length rest-is, length-drop place octets) in
    let so_far' : fault_within (suc (length octets - place)) place rest ≡ total = rw rest-is so_far in
    let next = fault_stepped place n (length octets) rest total n-is (omega arith) size ok so_far' in
    let moved : drop (place + n) octets ≡ drop n rest = sym (drop-drop n place octets) ∙ ap (drop n) (sym rest-is) in
    rw moved next

pub tested_last : (octets rest : List ℕ) (place n : ℕ) (total : Option RtcpBad) → rest ≡ drop place octets → n ≡ length_in rest → n ≡ length rest
    → fault_at (place == 0) rest ≡ None → fault_within (suc (length octets - place)) place (drop place octets) ≡ total → total ≡ None
tested_last octets rest place n total rest-is n-is size ok so_far =
    fault_ended place (length octets - place) rest total (omega arith) ok (rw rest-is so_far)

pub tested_first : (octets : List ℕ) → fault_within (suc (length octets - 0)) 0 (drop 0 octets) ≡ fault_of octets
unfolding fault_of
tested_first octets = ap (λ (n : ℕ). fault_within (suc n) 0 octets) (omega arith)

pub packets_none : (b : List ℕ) → length b ≡ 0 → packets_in b ≡ []
unfolding packets_in
packets_none [] h = refl
packets_none (x ∷ xs) h = absurd (omega arith)

-- no more packets than octets
packets_count : (most : ℕ) (b : List ℕ) → length (packets_within most b) ≤ length b
packets_count zero b = omega arith
packets_count (suc most) [] = omega arith
packets_count (suc most) (x ∷ xs) =
    let four = header_within (x ∷ xs) in
    let left = length-drop (length_in (x ∷ xs)) (x ∷ xs) in
    let more = packets_count most (drop (length_in (x ∷ xs)) (x ∷ xs)) in
    omega (arith, four, left, more)

pub packets_few : (b : List ℕ) → length (packets_in b) ≤ length b
unfolding packets_in
packets_few b = packets_count (length b) b
