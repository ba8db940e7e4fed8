-- What is written is read back as the packets put.
use Rattle.std.proofs.Common.{◌≡◌, ℕ, ◌+◌, ◌*◌, ◌/◌, ◌%◌, ◌<◌, ◌≤◌, List, [], ◌∷◌, ◌++◌, length, take, get_or, map, refl, sym, ap, subst, ◌∙◌, append_assoc, arith, length-append, inl, inr}
use Rattle.std.specs.Prelude.{◌⊎◌}
use Rattle.std.specs.List.{flat_map, AllByRecursion}
use Rattle.std.specs.Int.{w16, w32, to_be_bytes}
use Rattle.std.proofs.lemmas.List.{append-nil, map-append, take_more, flat_map_more}
use Rattle.std.proofs.lemmas.List.Concat.{flat_map-cons}
use Rattle.rtcp_compound.specs.Compound.{Content, Wire, content, IsWire, Holds, spelling, IsReport, BeginsWithReport, PadsLast, IsCompound}
use Rattle.rtcp_compound.specs.Reading.{packets_in}
use Rattle.rtcp_compound.specs.Writing.{Written, with_packet, numbers_spelling, plain, AreWritten}
use Rattle.rtcp_compound.proofs.PacketLaws.{spelling_size}
use Rattle.rtcp_compound.proofs.CompoundLaws.{contents_of}

-- packets without padding
pads_none : (ws : List Wire) → AllByRecursion (λ w. w.padding ≡ []) ws → PadsLast ws
pads_none [] each = tt
pads_none (w ∷ []) each = tt
pads_none (w ∷ v ∷ ws) each = (each.0, pads_none (v ∷ ws) each.1)

all_more : (P : Wire → Type 0) (ws : List Wire) (w : Wire) → AllByRecursion P ws → P w → AllByRecursion P (ws ++ w ∷ [])
all_more P [] w each here = (here, tt)
all_more P (v ∷ ws) w each here = (each.0, all_more P ws w each.1 here)

pub nothing_written : AreWritten []
nothing_written = record { packets = []; each = tt; plain = tt; first = inl refl; whole = refl }

empty_spelling : (ws : List Wire) → length (flat_map spelling ws) ≡ 0 → ws ≡ []
empty_spelling [] e = refl
empty_spelling (w ∷ ws) e = absurd (omega (arith, ap length (flat_map-cons spelling w ws), length-append (spelling w) (flat_map spelling ws), spelling_size w))

first_of : (ws : List Wire) (w : Wire) → ((ws ≡ []) ⊎ BeginsWithReport ws) → (ws ≡ [] → IsReport w.kind) → BeginsWithReport (ws ++ w ∷ [])
first_of [] w begins first = first refl
first_of (v ∷ ws) w (inl none) first = absurd cc
first_of (v ∷ ws) w (inr begins) first = begins

-- one more packet is put
pub written_more : (b : List ℕ) (w : Wire) → AreWritten b → IsWire w → w.padding ≡ [] → (length b ≡ 0 → IsReport w.kind) → AreWritten (b ++ spelling w)
written_more b w a fits none first = record {
  packets = a.packets ++ w ∷ [];
  each = all_more IsWire a.packets w a.each fits;
  plain = all_more (λ v. v.padding ≡ []) a.packets w a.plain none;
  first = inr (first_of a.packets w a.first (λ e. first (ap length (a.whole ∙ ap (flat_map spelling) e))));
  whole = ap (λ (l : List ℕ). l ++ spelling w) a.whole ∙ flat_map_more spelling [] a.packets w;
}

pub packets_written : (b : List ℕ) (a : AreWritten b) → packets_in b ≡ map content a.packets
packets_written b a = ap packets_in a.whole ∙ contents_of a.packets a.each (pads_none a.packets a.plain)

pub packets_more : (b : List ℕ) (w : Wire) → AreWritten b → IsWire w → w.padding ≡ [] → (length b ≡ 0 → IsReport w.kind)
    → packets_in (b ++ spelling w) ≡ packets_in b ++ content w ∷ []
unfolding written_more
packets_more b w a fits none first =
    let m = written_more b w a fits none first in
    packets_written (b ++ spelling w) m ∙ map-append content a.packets (w ∷ []) ∙ ap (λ (ps : List Content). ps ++ content w ∷ []) (sym (packets_written b a))

begins_of : (ws : List Wire) → ((ws ≡ []) ⊎ BeginsWithReport ws) → 0 < length (flat_map spelling ws) → BeginsWithReport ws
begins_of [] begins some = absurd (omega arith)
begins_of (w ∷ ws) (inl none) some = absurd cc
begins_of (w ∷ ws) (inr begins) some = begins

-- octets that are written, if any, spell the packets put
pub compound_written : (b : List ℕ) → AreWritten b → 0 < length b → IsCompound (packets_in b) b
compound_written b a some = record {
  packets = a.packets;
  each = a.each;
  first = begins_of a.packets a.first (omega (arith, ap length a.whole));
  last = pads_none a.packets a.plain;
  whole = a.whole;
  contents = packets_written b a;
}

-- numbers so far, and one more
pub numbers_more : (ns : List ℕ) (i : ℕ) → i < length ns → numbers_spelling (take (i + 1) ns) ≡ numbers_spelling (take i ns) ++ to_be_bytes w32 (get_or ns i 0)
numbers_more ns i lt = ap numbers_spelling (take_more ns i 0 lt) ∙ sym (flat_map_more (to_be_bytes w32) [] (take i ns) (get_or ns i 0))

pub numbers_size : (ns : List ℕ) → length (numbers_spelling ns) ≡ 4 * length ns
numbers_size [] = refl
numbers_size (n ∷ ns) = ap length (flat_map-cons (to_be_bytes w32) n ns) ∙ length-append (to_be_bytes w32 n) (numbers_spelling ns) ∙ omega (arith, numbers_size ns)

pub plain_size : (count kind : ℕ) (numbers words : List ℕ) → length (spelling (plain count kind numbers words)) ≡ 4 + (4 * length numbers + length words)
plain_size count kind numbers words =
    spelling_size (plain count kind numbers words) ∙ omega (arith, length-append (numbers_spelling numbers) words, numbers_size numbers)

pub plain_fits : (count kind : ℕ) (numbers words : List ℕ) → count < 32 → 192 ≤ kind → kind ≤ 223 → length words % 4 ≡ 0 → 4 * length numbers + length words ≤ 1400
    → Holds kind count (numbers_spelling numbers ++ words) → IsWire (plain count kind numbers words)
plain_fits count kind numbers words small low high whole size holds =
    let long : length (numbers_spelling numbers ++ words) ≡ 4 * length numbers + length words = omega (arith, length-append (numbers_spelling numbers) words, numbers_size numbers) in
    record { count = small; low = low; high = high; whole = omega (arith, long, whole); size = omega (arith, long, size); padding = tt; body = holds }

-- the parts that were written, one after another
pub put_parts : (old a b c d : List ℕ) (count kind m : ℕ) (numbers words : List ℕ) → a ≡ old ++ (128 + count) ∷ kind ∷ [] → b ≡ a ++ to_be_bytes w16 m → c ≡ b ++ numbers_spelling numbers
    → d ≡ c ++ words → m ≡ (4 * length numbers + length words) / 4 → d ≡ old ++ spelling (plain count kind numbers words)
put_parts old a b c d count kind m numbers words ha hb hc hd hm =
    let long : (length (numbers_spelling numbers ++ words) + 0) / 4 ≡ m = ap (λ (n : ℕ). n / 4) (omega (arith, length-append (numbers_spelling numbers) words, numbers_size numbers)) ∙ sym hm in
    let body = numbers_spelling numbers ++ words in
    let header = (128 + count) ∷ kind ∷ [] in
    let all : d ≡ old ++ (header ++ (to_be_bytes w16 m ++ body)) = rw (hd, hc, hb, ha) (simp append_assoc) in
    let spelled : header ++ (to_be_bytes w16 m ++ body) ≡ spelling (plain count kind numbers words) =
    ap (λ (l : List ℕ). header ++ (to_be_bytes w16 m ++ l)) (sym (append-nil body)) ∙ ap (λ (n : ℕ). header ++ (to_be_bytes w16 n ++ (body ++ []))) (sym long) in
    all ∙ ap (λ (l : List ℕ). old ++ l) spelled

pub same_written : (octets octets' : List ℕ) (packets packets' : List Content) → octets ≡ octets' → packets ≡ packets'
    → ◌≡◌ {A = Written} (record { packets = packets; octets = octets }) (record { packets = packets'; octets = octets' })
same_written octets octets' packets packets' e f = λ i. record { packets = f i; octets = e i }

-- the whole step: what is written after a packet was put
pub put_done : (old new : List ℕ) (w : Wire) (before : Written) → AreWritten old → IsWire w → w.padding ≡ [] → (length old ≡ 0 → IsReport w.kind) → new ≡ old ++ spelling w
    → ◌≡◌ {A = Written} (record { packets = packets_in old; octets = old }) before → ◌≡◌ {A = Written} (record { packets = packets_in new; octets = new }) (with_packet before (content w) (spelling w))
put_done old new w before a fits none first parts view =
    same_written new (old ++ spelling w) (packets_in new) (packets_in old ++ content w ∷ []) parts (ap packets_in parts ∙ packets_more old w a fits none first) ∙ ap (λ (b : Written). with_packet b (content w) (spelling w)) view

pub put_written : (old new : List ℕ) (w : Wire) → AreWritten old → IsWire w → w.padding ≡ [] → (length old ≡ 0 → IsReport w.kind) → new ≡ old ++ spelling w → AreWritten new
put_written old new w a fits none first parts = subst AreWritten (sym parts) (written_more old w a fits none first)
