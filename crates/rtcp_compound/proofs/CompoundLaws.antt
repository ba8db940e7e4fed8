-- Octets pass all tests exactly where they spell a compound, and then they spell one list of packets.
use Rattle.std.proofs.Common.{◌≡◌, ℕ, zero, suc, ◌+◌, ◌<◌, ◌≤◌, Bool, true, false, List, [], ◌∷◌, ◌++◌, length, drop, map, None, refl, sym, ap, ◌∙◌, arith, length-append, length-drop, inl, inr}
use Rattle.std.specs.Prelude.{◌⊎◌, nat_lt, ◌==◌, if◌then◌else◌}
use Rattle.std.specs.List.{flat_map, AllByRecursion}
use Rattle.std.proofs.lemmas.List.{drop_at, drop_all, append-nil}
use Rattle.std.proofs.lemmas.List.Concat.{flat_map-cons}
use Rattle.std.proofs.lemmas.Bool.{eqb-true, lt-ltb, le-ltb, cases_lt}
use Rattle.octet_fields.proofs.OctetLemmas.{AreOctets, AreOctets-drop}
use Rattle.rtcp_compound.specs.Compound.{Content, content_of, Wire, content, IsWire, spelling, IsReport, BeginsWithReport, PadsLast, IsCompound}
use Rattle.rtcp_compound.specs.Reading.{kind_in, count_in, body_in, length_in, fault_at, fault_within, fault_of, packets_in}
use Rattle.rtcp_compound.proofs.PacketLemmas.{passed, passing, header_within}
use Rattle.rtcp_compound.proofs.PacketLaws.{wire_in, Front, front, Again, again, spelling_size}
use Rattle.rtcp_compound.proofs.CompoundLemmas.{packets_step, packets_none, no_refusal}

-- ---- what passes all tests is spelled so

record Spelt (first : Bool) (b : List ℕ) : Type 0 where
  pub packets : List Wire
  pub each : AllByRecursion IsWire packets
  pub report : first ≡ true → BeginsWithReport packets
  pub last : PadsLast packets
  pub whole : b ≡ flat_map spelling packets
  pub contents : packets_in b ≡ map content packets

pads_more : (w : Wire) (ws : List Wire) → w.padding ≡ [] → PadsLast ws → PadsLast (w ∷ ws)
pads_more w [] none last = tt
pads_more w (v ∷ ws) none last = (none, last)

positive : (place n : ℕ) → 0 < n → (place + n == 0) ≡ true → ⊥
positive place n some e = omega (arith, eqb-true _ _ e)

spelt_more : (first : Bool) (b : List ℕ) → Front first b → 0 < length b → length_in b < length b → Spelt false (drop (length_in b) b) → Spelt first b
spelt_more first b f some lt s =
    let w = wire_in b in
    record {
      packets = w ∷ s.packets;
      each = (f.fits, s.each);
      report = f.report;
      last = pads_more w s.packets (f.last lt) s.last;
      whole = f.parts ∙ ap (λ (l : List ℕ). spelling w ++ l) s.whole ∙ sym (flat_map-cons spelling w s.packets);
      contents = packets_step b some ∙ ap (λ (ps : List Content). content w ∷ ps) s.contents;
    }

spelt_last : (first : Bool) (b : List ℕ) → Front first b → 0 < length b → length b ≤ length_in b → Spelt first b
spelt_last first b f some le =
    let w = wire_in b in
    let end : drop (length_in b) b ≡ [] = drop_all (length_in b) b le in
    record {
      packets = w ∷ [];
      each = (f.fits, tt);
      report = f.report;
      last = tt;
      whole = f.parts ∙ ap (λ (l : List ℕ). spelling w ++ l) end ∙ sym (flat_map-cons spelling w []);
      contents = packets_step b some ∙ ap (λ (ps : List Content). content w ∷ ps) (ap packets_in end ∙ packets_none [] refl);
    }

spelt_later : (first : Bool) (b : List ℕ) → (first ≡ true → ⊥) → Spelt first b → Spelt false b
spelt_later first b later s = record { packets = s.packets; each = s.each; report = λ e. absurd cc; last = s.last; whole = s.whole; contents = s.contents }

spelt : (most place : ℕ) (b : List ℕ) → AreOctets b → length b < most → fault_within most place b ≡ None → Spelt (place == 0) b
spelt zero place b fits h e = absurd (omega arith)
spelt (suc most) place b fits h e =
    let four = header_within b in
    let left = length-drop (length_in b) b in
    let rest = if nat_lt (length_in b) (length b) then fault_within most (place + length_in b) (drop (length_in b) b) else None in
    let parts = no_refusal place (fault_at (place == 0) b) rest e in
    let f = front (place == 0) b fits parts.0 in
    let header = (passed (place == 0) b parts.0).header in
    let some : 0 < length b = omega (arith, header) in
    elim (cases_lt (length_in b) (length b)) [
      | inl lt ↦ spelt_more (place == 0) b f some lt
          (spelt_later (place + length_in b == 0) (drop (length_in b) b) (positive place (length_in b) (omega (arith, four)))
          (spelt most (place + length_in b) (drop (length_in b) b) (AreOctets-drop (length_in b) b fits) (omega (arith, four, left)) (rw (lt-ltb (length_in b) (length b) lt) at parts.1)))
      | inr le ↦ spelt_last (place == 0) b f some le
    ]

-- octets that no test refuses spell the packets that are read
pub compound_from : (b : List ℕ) → AreOctets b → fault_of b ≡ None → IsCompound (packets_in b) b
unfolding fault_of
compound_from b fits e =
    let s = spelt (suc (length b)) 0 b fits (omega arith) e in
    record { packets = s.packets; each = s.each; first = s.report refl; last = s.last; whole = s.whole; contents = s.contents }

-- ---- what is spelled so passes all tests

front_of : (w : Wire) (ws : List Wire) → flat_map spelling (w ∷ ws) ≡ spelling w ++ flat_map spelling ws
front_of w ws = flat_map-cons spelling w ws

-- the last packet is at the end, and no other has padding
apart : (w : Wire) (ws : List Wire) → PadsLast (w ∷ ws) → ((w.padding ≡ []) ⊎ (flat_map spelling ws ≡ []))
apart w [] last = inr refl
apart w (v ∷ ws) last = inl last.0

pads_rest : (w : Wire) (ws : List Wire) → PadsLast (w ∷ ws) → PadsLast ws
pads_rest w [] last = tt
pads_rest w (v ∷ ws) last = last.1

behind : (w : Wire) (rest : List ℕ) (n : ℕ) → n ≡ length (spelling w) → drop n (spelling w ++ rest) ≡ rest
behind w rest n e = drop_at (spelling w) rest n (sym e)

contents_again : (first : Bool) (w : Wire) (rest : List ℕ) → Again first w rest → packets_in (spelling w ++ rest) ≡ content w ∷ packets_in rest
contents_again first w rest a =
    let b = spelling w ++ rest in
    let some : 0 < length b = omega (arith, a.passes.header) in
    packets_step b some ∙ ap (λ (ps : List Content). content_of (kind_in b) (count_in b) (body_in b) ∷ ps) (ap packets_in (behind w rest (length_in b) a.size))
    ∙ ap (λ (n : ℕ). content_of w.kind n (body_in b) ∷ packets_in rest) a.count ∙ ap (λ (l : List ℕ). content_of w.kind w.count l ∷ packets_in rest) a.body

-- the contents of packets that are spelled
pub contents_of : (ws : List Wire) → AllByRecursion IsWire ws → PadsLast ws → packets_in (flat_map spelling ws) ≡ map content ws
contents_of [] each last = packets_none [] refl
contents_of (w ∷ ws) each last =
    let a = again false w (flat_map spelling ws) each.0 (apart w ws last) (λ e. absurd cc) in
    ap packets_in (front_of w ws) ∙ contents_again false w (flat_map spelling ws) a ∙ ap (λ (ps : List Content). content w ∷ ps) (contents_of ws each.1 (pads_rest w ws last))

report_of : (place : ℕ) (w : Wire) (ws : List Wire) → ((place == 0) ≡ true → BeginsWithReport (w ∷ ws)) → (place == 0) ≡ true → IsReport w.kind
report_of place w ws h e = h e

end_of : (most place : ℕ) (w : Wire) → Again (place == 0) w [] → fault_within (suc most) place (spelling w ++ []) ≡ None
end_of most place w a =
    let b = spelling w ++ [] in
    let size : length b ≤ length_in b = omega (arith, a.size, ap length (append-nil (spelling w))) in
    rw (passing (place == 0) b a.passes, le-ltb (length_in b) (length b) size) refl

step_of : (most place : ℕ) (w : Wire) (rest : List ℕ) → Again (place == 0) w rest → 0 < length rest
    → fault_within (suc most) place (spelling w ++ rest) ≡ fault_within most (place + length (spelling w)) rest
step_of most place w rest a some =
    let b = spelling w ++ rest in
    let size : length_in b < length b = omega (arith, a.size, length-append (spelling w) rest) in
    let here : fault_within (suc most) place b ≡ fault_within most (place + length_in b) (drop (length_in b) b) =
    rw (passing (place == 0) b a.passes, lt-ltb (length_in b) (length b) size) refl in
    here ∙ ap (λ (l : List ℕ). fault_within most (place + length_in b) l) (behind w rest (length_in b) a.size) ∙ ap (λ (n : ℕ). fault_within most (place + n) rest) a.size

no_fault : (ws : List Wire) (w : Wire) (most place : ℕ) → AllByRecursion IsWire (w ∷ ws) → PadsLast (w ∷ ws) → ((place == 0) ≡ true → IsReport w.kind)
    → length (flat_map spelling (w ∷ ws)) < most → fault_within most place (flat_map spelling (w ∷ ws)) ≡ None
no_fault ws w zero place each last report h = absurd (omega arith)
no_fault [] w (suc most) place each last report h =
    ap (fault_within (suc most) place) (front_of w []) ∙ end_of most place w (again (place == 0) w [] each.0 (inr refl) report)
no_fault (v ∷ ws) w (suc most) place each last report h =
    let rest = flat_map spelling (v ∷ ws) in
    let size : length (flat_map spelling (w ∷ v ∷ ws)) ≡ length (spelling w) + length rest = ap length (front_of w (v ∷ ws)) ∙ length-append (spelling w) rest in
    let some : 0 < length rest = omega (arith, ap length (front_of v ws), length-append (spelling v) (flat_map spelling ws), spelling_size v) in
    let long = spelling_size w in
    ap (fault_within (suc most) place) (front_of w (v ∷ ws)) ∙ step_of most place w rest (again (place == 0) w rest each.0 (inl last.0) report) some
    ∙ no_fault ws v most (place + length (spelling w)) each.1 last.1 (λ e. absurd (positive place (length (spelling w)) (omega (arith, long)) e)) (omega (arith, size, long))

accepted : (packets : List Wire) → AllByRecursion IsWire packets → BeginsWithReport packets → PadsLast packets → fault_of (flat_map spelling packets) ≡ None
unfolding fault_of
accepted [] each first last = absurd first
accepted (w ∷ ws) each first last = no_fault ws w (suc (length (flat_map spelling (w ∷ ws)))) 0 each last (λ e. first) (omega arith)

-- a compound is refused by no test
pub compound_accepted : (ps : List Content) (b : List ℕ) → IsCompound ps b → fault_of b ≡ None
compound_accepted ps b c = ap fault_of c.whole ∙ accepted c.packets c.each c.first c.last

-- a compound's packets are those that are read
pub compound_packets : (ps : List Content) (b : List ℕ) → IsCompound ps b → packets_in b ≡ ps
compound_packets ps b c = ap packets_in c.whole ∙ contents_of c.packets c.each c.last ∙ sym c.contents

-- octets spell one list of packets
pub one_list : (b : List ℕ) (ps qs : List Content) → IsCompound ps b → IsCompound qs b → ps ≡ qs
one_list b ps qs p q = sym (compound_packets ps b p) ∙ compound_packets qs b q
