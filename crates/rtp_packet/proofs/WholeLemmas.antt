-- The packet that stands in octets, from a spelling and back to it.
use Rattle.std.proofs.Common.{◌≡◌, ℕ, ◌+◌, ◌*◌, ◌/◌, ◌%◌, ◌≤◌, false, cond, ltb, List, ◌∷◌, ◌++◌, length, get_or, take, drop, Option, Result, Ok, Err, refl, sym, ap, ◌∙◌, arith}
use Rattle.std.specs.Prelude.{IfOk, is_some, ◌==◌, not}
use Rattle.std.specs.Int.{w16, w32, from_be_bytes, to_be_bytes, bit_at, from_bool}
use Rattle.std.proofs.lemmas.Bool.{le-ltb, ltb-false, eqb-true, not-false}
use Rattle.std.proofs.lemmas.List.{length-append, length-take, length-drop, take_at, drop_at, drop-drop, take-append-drop}
use Rattle.std.proofs.lemmas.Nat.{from_be_bytes-to_be_bytes_2, from_be_bytes-to_be_bytes_4}
use Rattle.rtp_packet.specs.declared.bad.RtpBad.{RtpBad}
use Rattle.rtp_packet.specs.declared.bad.RtpBad.TheVariants.{Short, Version, Sources, Extension, Padding, Long}
use Rattle.rtp_packet.specs.Rtp.{RtpPacket, IsPacket, extension_octets, padding_octets, first_octet, spelling, Spells}
use Rattle.rtp_packet.specs.Reading.{RtpValue, value_of, version_of, has_padding, has_extension, header_len, extension_len, is_cut_extension, extension_at, after_extension, is_bad_padding, payload_at, after_sources, after_header, payload_of, value_in, reading_of}
use Rattle.octet_fields.proofs.OctetLemmas.{AreOctets, AreOctets-drop}
use Rattle.octet_fields.proofs.NumberLemmas.{u16-back, u16-fits, u32-back, u32-fits}
use Rattle.octet_fields.proofs.FlagLemmas.{high_flag-says, high_flag-back}
use Rattle.octet_fields.proofs.TestLemmas.{passed}
use Rattle.rtp_packet.proofs.FieldLemmas.{first-says, first-back}
use Rattle.rtp_packet.proofs.SpelledLemmas.{extension-read, padding-read}
use Rattle.rtp_packet.proofs.ReadLemmas.{padding_at, extension-back, padding-back}

-- the packet that stands in the octets
abbrev pub packet_in : List ℕ → RtpPacket
packet_in octets = record {
  marker = bit_at (get_or octets 1 0) 7 == 1;
  payload_type = get_or octets 1 0 % 128;
  number = from_be_bytes w16 (take 2 (drop 2 octets));
  stamp = from_be_bytes w32 (take 4 (drop 4 octets));
  ssrc = from_be_bytes w32 (take 4 (drop 8 octets));
  sources = take (4 * (get_or octets 0 0 % 16)) (drop 12 octets);
  extension = extension_at (has_extension octets) (after_sources octets);
  payload = payload_of octets;
}

-- the tests but that of the payload's length pass
pub record Passes (octets : List ℕ) : Type 0 where
  pub fixed : 12 ≤ length octets
  pub version : version_of octets ≡ 2
  pub sources : header_len octets ≤ length octets
  pub extension : is_cut_extension (has_extension octets) (after_sources octets) ≡ false
  pub padding : is_bad_padding (has_padding octets) (after_header octets) ≡ false

reading-passes : (octets : List ℕ) → Passes octets
    → reading_of octets ≡ cond (ltb 1500 (length (payload_of octets))) (Err Long) (Ok (value_in octets))
unfolding reading_of
reading-passes octets p = rw (le-ltb _ _ p.fixed, p.version, le-ltb _ _ p.sources, p.extension, p.padding) refl

-- ---- what is spelled is read

-- the octets of a packet pass, and the packet stands in them
pub record Holds (octets : List ℕ) (packet : RtpPacket) : Type 0 where
  pub passes : Passes octets
  pub value : packet_in octets ≡ packet

spelling-holds : (packet : RtpPacket) (padding : Option (List ℕ)) → IsPacket packet → Holds (spelling packet padding) packet
unfolding spelling
spelling-holds packet padding fits =
    let all : List ℕ = spelling packet padding in
    let rest : List ℕ = packet.payload ++ padding_octets padding in
    let tail : List ℕ = extension_octets packet.extension ++ rest in
    let says = first-says (is_some padding) (is_some packet.extension) (length packet.sources / 4) (omega (arith, fits.sources.few)) in
    let kind = high_flag-says packet.marker packet.payload_type fits.payload_type in
    let extension = extension-read packet.extension rest fits.extension in
    let end = padding-read padding packet.payload in
    let len : header_len all ≡ 12 + length packet.sources = omega (arith, says.sources, fits.sources.whole) in
    let size = length-append packet.sources tail in
    let after : after_sources all ≡ tail =
    ap (λ (n : ℕ). drop n all) len ∙ sym (drop-drop (length packet.sources) 12 all) ∙ drop_at packet.sources tail (length packet.sources) refl in
    let past : after_header all ≡ rest =
    (λ i. after_extension (says.extension i) (after i)) ∙ extension.after in
    let sources-are : take (4 * (get_or all 0 0 % 16)) (drop 12 all) ≡ packet.sources =
    take_at packet.sources tail (4 * (get_or all 0 0 % 16)) (omega (arith, len)) in
    let extension-is : extension_at (has_extension all) (after_sources all) ≡ packet.extension =
    (λ i. extension_at (says.extension i) (after i)) ∙ extension.value in
    let payload-is : payload_of all ≡ packet.payload =
    (λ i. payload_at (says.padding i) (past i)) ∙ end.value in
    record {
      passes = record {
        fixed = omega arith;
        version = says.version;
        sources = omega (arith, len, size);
        extension = (λ i. is_cut_extension (says.extension i) (after i)) ∙ extension.cut;
        padding = (λ i. is_bad_padding (says.padding i) (past i)) ∙ end.good;
      };
      value = λ i. record {
        marker = kind.0 i;
        payload_type = kind.1 i;
        number = from_be_bytes-to_be_bytes_2 packet.number fits.number i;
        stamp = from_be_bytes-to_be_bytes_4 packet.stamp fits.stamp i;
        ssrc = from_be_bytes-to_be_bytes_4 packet.ssrc fits.ssrc i;
        sources = sources-are i;
        extension = extension-is i;
        payload = payload-is i;
      };
    }

pub reading-spelled : (packet : RtpPacket) (octets : List ℕ) → Spells packet octets
    → reading_of octets ≡ cond (ltb 1500 (length packet.payload)) (Err Long) (Ok (value_of packet))
reading-spelled packet octets spells =
    let holds = spelling-holds packet spells.padding spells.packet_fits in
    ap reading_of spells.whole ∙ reading-passes (spelling packet spells.padding) holds.passes
    ∙ ap (λ (p : RtpPacket). cond (ltb 1500 (length p.payload)) (Err Long) (Ok (value_of p))) holds.value

-- octets spell one packet at most: the one that stands in them
pub packet-spelled : (packet : RtpPacket) (octets : List ℕ) → Spells packet octets → packet_in octets ≡ packet
packet-spelled packet octets spells =
    ap packet_in spells.whole ∙ (spelling-holds packet spells.padding spells.packet_fits).value

-- ---- what is read is spelled

packet-back : (octets : List ℕ) → AreOctets octets → Passes octets → Spells (packet_in octets) octets
unfolding spelling
packet-back (a ∷ b ∷ more) are p =
    let octets : List ℕ = a ∷ b ∷ more in
    let rest : List ℕ = drop 12 octets in
    let count : ℕ = 4 * (a % 16) in
    let sources : List ℕ = take count rest in
    let few : count ≤ length rest = omega (arith, p.sources, length-drop 12 octets) in
    let len : length sources ≡ count = omega (arith, length-take count rest) in
    let at = AreOctets-drop (header_len octets) octets are in
    let extension = extension-back (has_extension octets) (after_sources octets) at p.extension in
    let past = AreOctets-drop (extension_len (has_extension octets) (after_sources octets)) (after_sources octets) at in
    let padding = padding-back (has_padding octets) (after_header octets) past p.padding in
    let number : List ℕ = to_be_bytes w16 (from_be_bytes w16 (take 2 (drop 2 octets))) in
    let stamp : List ℕ = to_be_bytes w32 (from_be_bytes w32 (take 4 (drop 4 octets))) in
    let ssrc : List ℕ = to_be_bytes w32 (from_be_bytes w32 (take 4 (drop 8 octets))) in
    let tail-is : rest ≡ sources ++ after_sources octets =
    sym (take-append-drop count rest) ∙ ap (λ (x : List ℕ). sources ++ x) (drop-drop count 12 octets) in
    let first-is : a ≡ first_octet (packet_in octets) (padding_at (has_padding octets) (after_header octets)) =
    first-back a (are 0) p.version ∙ (λ i. 128 + 32 * from_bool (sym padding.has i) + 16 * from_bool (sym extension.has i) + (let q : a % 16 ≡ length sources / 4 = omega (arith, len) in q) i) in
    let after-is : after_sources octets ≡ extension_octets (extension_at (has_extension octets) (after_sources octets))
    ++ (payload_of octets ++ padding_octets (padding_at (has_padding octets) (after_header octets))) =
    extension.whole ∙ ap (λ (x : List ℕ). extension_octets (extension_at (has_extension octets) (after_sources octets)) ++ x) padding.whole in
    let rest-is = tail-is ∙ ap (λ (x : List ℕ). sources ++ x) after-is in
    let more-is =
    sym (u16-back 2 octets are (omega (arith, p.fixed)))
    ∙ ap (λ (x : List ℕ). number ++ x) (sym (u32-back 4 octets are (omega (arith, p.fixed)))
    ∙ ap (λ (x : List ℕ). stamp ++ x) (sym (u32-back 8 octets are p.fixed) ∙ ap (λ (x : List ℕ). ssrc ++ x) rest-is)) in
    record {
      packet_fits = record {
        payload_type = omega arith;
        number = u16-fits 2 octets are;
        stamp = u32-fits 4 octets are;
        ssrc = u32-fits 8 octets are;
        sources = record { whole = omega (arith, len); few = omega (arith, len) };
        extension = extension.fits;
      };
      padding = padding_at (has_padding octets) (after_header octets);
      padding_fits = padding.fits;
      whole = λ i. first-is i ∷ high_flag-back b (are 1) i ∷ more-is i;
    }
packet-back octets are p = absurd (omega (arith, p.fixed))

-- what was read: the tests passed, and the value is of the packet that stands there
pub record IsReadFrom (octets : List ℕ) (value : RtpValue) : Type 0 where
  pub passes : Passes octets
  pub few : length (payload_of octets) ≤ 1500
  pub value_is : value_of (packet_in octets) ≡ value

reading-ok : (octets : List ℕ) (value : RtpValue) → reading_of octets ≡ Ok value → IsReadFrom octets value
unfolding reading_of
reading-ok octets value e =
    let long : Result RtpValue RtpBad = cond (ltb 1500 (length (payload_of octets))) (Err Long) (Ok (value_in octets)) in
    let padded : Result RtpValue RtpBad = cond (is_bad_padding (has_padding octets) (after_header octets)) (Err Padding) long in
    let extended : Result RtpValue RtpBad = cond (is_cut_extension (has_extension octets) (after_sources octets)) (Err Extension) padded in
    let listed : Result RtpValue RtpBad = cond (ltb (length octets) (header_len octets)) (Err Sources) extended in
    let versioned : Result RtpValue RtpBad = cond (not (version_of octets == 2)) (Err Version) listed in
    let one = passed (ltb (length octets) 12) Short versioned value e in
    let two = passed (not (version_of octets == 2)) Version listed value one.1 in
    let three = passed (ltb (length octets) (header_len octets)) Sources extended value two.1 in
    let four = passed (is_cut_extension (has_extension octets) (after_sources octets)) Extension padded value three.1 in
    let five = passed (is_bad_padding (has_padding octets) (after_header octets)) Padding long value four.1 in
    let six = passed (ltb 1500 (length (payload_of octets))) Long (Ok (value_in octets)) value five.1 in
    record {
      passes = record {
        fixed = ltb-false (length octets) 12 one.0;
        version = eqb-true (version_of octets) 2 (not-false (version_of octets == 2) two.0);
        sources = ltb-false (length octets) (header_len octets) three.0;
        extension = four.0;
        padding = five.0;
      };
      few = ltb-false 1500 (length (payload_of octets)) six.0;
      value_is = cc;
    }

-- what is read is the value of a packet that the octets spell
pub reading-spells : (octets : List ℕ) (value : RtpValue) → AreOctets octets → reading_of octets ≡ Ok value
    → (packet : RtpPacket) × Spells packet octets × (value ≡ value_of packet) × (length packet.payload ≤ 1500)
reading-spells octets value are e =
    let from = reading-ok octets value e in
    (packet_in octets, packet-back octets are from.passes, sym from.value_is, from.few)

-- the same of what a function answered
pub found_from : (octets : List ℕ) (answer : Result RtpValue RtpBad) → AreOctets octets → answer ≡ reading_of octets
    → IfOk answer (λ value. (packet : RtpPacket) × Spells packet octets × (value ≡ value_of packet))
found_from octets (Ok value) are e =
    let spelled = reading-spells octets value are (sym e) in (spelled.0, spelled.1, spelled.2)
found_from octets (Err bad) are e = tt

pub only_from : (octets : List ℕ) (answer : Result RtpValue RtpBad) → answer ≡ reading_of octets
    → (packet : RtpPacket) → Spells packet octets → length packet.payload ≤ 1500 → answer ≡ Ok (value_of packet)
only_from octets answer e packet spells few =
    e ∙ reading-spelled packet octets spells ∙ rw (le-ltb 1500 (length packet.payload) few) refl
