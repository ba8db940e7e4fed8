-- The datagrams of media: what is read of them, and how long they are.
use Rattle.std.proofs.Common.{◌≡◌, ℕ, ◌+◌, ◌-◌, ◌*◌, ◌%◌, ◌^◌, ◌<◌, ◌≤◌, Bool, true, false, cond, List, [], ◌++◌, length, Option, Some, None, is_some, Result, Ok, Err, IfSome, refl, sym, ap, subst, ◌∙◌, arith, length-append, append-nil, bit_xor}
use Rattle.std.specs.Prelude.{All, ◌||◌, if◌then◌else◌, nat_lt, unwrap_or}
use Rattle.std.specs.Int.{from_bool}
use Rattle.std.proofs.lemmas.Bool.{eq-eqb, ne_eqb}
use Rattle.std.proofs.lemmas.Bool.Decides.{nat_tests}
use Rattle.std.proofs.lemmas.List.FromFn.{length-map-range_with_len}
use Rattle.std.proofs.lemmas.Simd.{length-zip2}
use Rattle.std.proofs.lemmas.Nat.{pow_pos}
use Rattle.seq_unwrap.specs.declared.width.Width.{Width}
use Rattle.seq_unwrap.specs.declared.width.Width.TheVariants.{W16, W32}
use Rattle.seq_unwrap.specs.Nearest.{cycle_of}
use Rattle.ts_nulls.specs.Shape.{Shape, IsShape}
use Rattle.rist_ext.specs.declared.ext_word.ExtWord.{ExtWord}
use Rattle.rist_ext.specs.declared.ext_word.ExtBad.{ExtBad}
use Rattle.rist_ext.specs.Reading.{reading_of as extension_reading_of}
use Rattle.rist_ext.specs.Extension.{IsWord, spelling as extension_spelling, unread_in, nothing_unread, Spells as ExtSpells}
use Rattle.rist_ext.proofs.WordLemmas.{reading-spelled as extension-spelled}
use Rattle.rist_ext.proofs.CountedLemmas.{counted-same}
use Rattle.gre_tunnel.specs.declared.tunnel.Tunnel.{Tunnel}
use Rattle.gre_tunnel.specs.declared.tunnel.Tunnel.TheVariants.{Own, Librist}
use Rattle.rtp_packet.specs.declared.bad.RtpBad.{RtpBad}
use Rattle.rtp_packet.specs.declared.bad.RtpBad.TheVariants.{Long}
use Rattle.rtp_packet.specs.Rtp.{Spells, IsExtension, extension_octets, spelling as rtp_spelling}
use Rattle.rtp_packet.specs.declared.writing.RtpHead.{RtpHead}
use Rattle.rtp_packet.specs.Writing.{packet_with}
use Rattle.rtp_packet.specs.Reading.{RtpValue, value_of, reading_of as rtp_reading_of}
use Rattle.rtp_packet.proofs.WholeLemmas.{reading-spelled as packet-spelled}
use Rattle.octet_fields.proofs.OctetLemmas.{AreOctets, AreOctets-from_all}
use Rattle.ipv4_udp.specs.Ip.{header_octets as ip_header_octets, udp_octets}
use Rattle.ipv4_udp.proofs.WritingLemmas.{Octets, octet, half, whole}
use Rattle.aes_ctr.specs.Ctr.{keystream_octet}
use Rattle.psk_seal.specs.declared.sealer.Pair.{Pair}
use Rattle.link_channels.specs.declared.profile.Profile.{Profile}
use Rattle.link_channels.specs.declared.profile.Profile.TheVariants.{Simple, Main}
use Rattle.rist_wire.specs.declared.session.Session.{Session}
use Rattle.rist_wire.specs.declared.bad.WireBad.TheVariants.{Nulls as NoNulls}
use Rattle.ts_nulls.specs.declared.nulls.NullBad.TheVariants.{Shape as BadShape}
use Rattle.rist_wire.specs.declared.item.Item.TheVariants.{Media as MediaItem}
use Rattle.rist_wire.specs.declared.item.Kind.{Kind}
use Rattle.rist_wire.specs.declared.item.Kind.TheVariants.{Media as MediaKind, Keepalive as KeepaliveKind}
use Rattle.rist_wire.specs.Cipher.{key_by, ciphered, ciphered_under}
use Rattle.rist_wire.specs.Cipher.{first_counter_block}
use Rattle.rist_wire.specs.Media.{MediaValue, can_restore, is_again, width_by, word_by}
use Rattle.rist_nack.specs.Requests.{flow_of}
use Rattle.rist_wire.specs.Messages.{extension_word, word_in, known_word, media_with, tested_media, media_by, rtp_item, item_by}
use Rattle.rist_wire.specs.Item.{item_of}
use Rattle.rist_wire.specs.Session.{IsSession}
use Rattle.rist_wire.specs.Writing.{MediaOut, IsPair, nonce_of, sequence_of}
use Rattle.rist_wire.specs.Packets.{upper_for, word_for, extension_for, head_for, packet_for, media_octets, media_value}
use Rattle.rist_wire.specs.Datagrams.{header_octets, full_octets, carried, text_for, sealed_text, datagram_on}
use Rattle.rist_wire.specs.Sent.{IsMediaOut, media_channel, media_datagram}
use Rattle.rist_wire.proofs.BackLemmas.{IsCarried, item-back}

-- ---- the extension
abbrev extension-if : Bool → ExtWord → Option (ℕ × List ℕ)
extension-if b word = if b then Some (0x5249, extension_spelling word nothing_unread) else None

-- an extension word with nothing in its unread bits
word-spelled : (word : ExtWord) → IsWord word → ExtSpells word (extension_spelling word nothing_unread)
word-spelled word fits = record {
  fits = fits;
  unread = nothing_unread;
  unread_fits = record { reserved = omega arith; size = omega arith; second = room word.strip fits.strip; upper = omega arith };
  whole = refl;
}
  where
    room : (strip : Option Shape) → IfSome strip (λ shape. IsShape shape.units shape.nulls) → 0 < unread_in strip
    room None fits = omega arith
    room (Some shape) fits = pow_pos (7 - shape.units)

word-fits : (width : Width) (number : ℕ) (strip : Option Shape) → IfSome strip (λ shape. IsShape shape.units shape.nulls) → IsWord (word_for width number strip)
word-fits W16 number strip fits = record { strip = fits; upper = tt }
word-fits W32 number strip fits = record { strip = fits; upper = omega arith }

extension-fits : (word : ExtWord) → IfSome (extension_for word) IsExtension
extension-fits word = fits (is_some word.strip || is_some word.upper)
  where
    fits : (b : Bool) → IfSome (extension-if b word) IsExtension
    fits true = record { profile = omega arith; words = record { whole = refl; few = omega arith } }
    fits false = tt

either-read : (tunnel : Tunnel) (left : ℕ) (words : List ℕ) (word : ExtWord) → extension_reading_of 0x5249 words ≡ Ok word
    → extension_word tunnel left 0x5249 words ≡ Ok word
either-read Own left words word is = is
either-read Librist left words word is = counted-same left 0x5249 words word is

either-spelled : (tunnel : Tunnel) (left : ℕ) (word : ExtWord) → IsWord word → extension_word tunnel left 0x5249 (extension_spelling word nothing_unread) ≡ Ok word
either-spelled tunnel left word fits =
    either-read tunnel left (extension_spelling word nothing_unread) word (extension-spelled word (extension_spelling word nothing_unread) (word-spelled word fits)).0

read-back : (tunnel : Tunnel) (left : ℕ) (word : ExtWord) → IsWord word → word_in tunnel left (extension-if true word) ≡ Ok word
read-back tunnel left word fits = ap known_word (either-spelled tunnel left word fits)

back-with : (tunnel : Tunnel) (left : ℕ) (strip : Option Shape) (upper : Option ℕ) → IsWord (record { strip = strip; upper = upper })
    → word_in tunnel left (extension_for (record { strip = strip; upper = upper })) ≡ Ok (record { strip = strip; upper = upper })
back-with tunnel left None None fits = refl
back-with tunnel left None (Some upper) fits = read-back tunnel left (record { strip = None; upper = Some upper }) fits
back-with tunnel left (Some shape) upper fits = read-back tunnel left (record { strip = Some shape; upper = upper }) fits

word-back : (tunnel : Tunnel) (left : ℕ) (word : ExtWord) → IsWord word → word_in tunnel left (extension_for word) ≡ Ok word
word-back tunnel left word fits = back-with tunnel left word.strip word.upper fits

-- ---- the packet
again-back : (flow : ℕ) (again : Bool) → flow % 2 ≡ 0 → (flow_of (flow + from_bool again) ≡ flow) × (is_again (flow + from_bool again) ≡ again)
again-back flow true even = (omega arith, eq-eqb _ _ (omega arith))
again-back flow false even = (omega arith, ne_eqb _ _ (λ e. omega arith))

width-back : (width : Width) (number : ℕ) → width_by (upper_for width number) ≡ width
width-back W16 number = refl
width-back W32 number = refl

number-back : (width : Width) (number : ℕ) → word_by (upper_for width number) (number % 65536) ≡ number % cycle_of width
number-back W16 number = refl
number-back W32 number = omega arith

not-long : (n : ℕ) (value : RtpValue) → n ≤ 1500 → (let answer : Result RtpValue RtpBad = if nat_lt 1500 n then Err Long else Ok value in answer) ≡ Ok value
not-long n value few = grind (arith, nat_tests)

source-fits : (flow : ℕ) (again : Bool) → flow % 2 ≡ 0 → flow < 2 ^ 32 → flow + from_bool again < 2 ^ 32
source-fits flow true even fits = omega arith
source-fits flow false even fits = omega arith

packet-fits : (width : Width) (media : MediaOut) → IsMediaOut media → Spells (packet_for width media) (media_octets width media)
packet-fits width media legal = record {
  packet_fits = record {
    payload_type = omega arith;
    number = omega arith;
    stamp = legal.stamp;
    ssrc = source-fits media.flow media.again legal.even legal.flow;
    sources = record { whole = refl; few = omega arith };
    extension = extension-fits (word_for width media.number media.strip);
  };
  padding = None;
  padding_fits = tt;
  whole = refl;
}

tested : (media : MediaValue) → can_restore media.strip media.payload ≡ true → tested_media media ≡ Ok (MediaItem media)
tested media whole = λ i. cond (whole i) (Ok (MediaItem media)) (Err (NoNulls BadShape))

-- the media of a packet with these headers and this word
worded-item : (width : Width) (media : MediaOut) (extension : Option (ℕ × List ℕ)) → media.flow % 2 ≡ 0 → can_restore media.strip media.payload ≡ true
    → tested_media (media_with (value_of (packet_with (head_for media) extension media.payload)) (word_for width media.number media.strip))
    ≡ Ok (MediaItem (media_value width media))
worded-item width media extension even whole =
    let source = again-back media.flow media.again even in
    let same : media_with (value_of (packet_with (head_for media) extension media.payload)) (word_for width media.number media.strip) ≡ media_value width media = λ i. record {
      flow = source.0 i;
      again = source.1 i;
      width = width-back width media.number i;
      word = number-back width media.number i;
      stamp = media.stamp;
      strip = media.strip;
      payload = media.payload;
    } in
    ap tested_media same ∙ tested (media_value width media) whole

media-item : (tunnel : Tunnel) (width : Width) (media : MediaOut) → IsMediaOut media → item_by tunnel MediaKind (media_octets width media) ≡ Ok (MediaItem (media_value width media))
media-item tunnel width media legal =
    let packet = packet_for width media in
    let word = word_for width media.number media.strip in
    let read : rtp_reading_of (media_octets width media) ≡ Ok (value_of packet) =
    packet-spelled packet (media_octets width media) (packet-fits width media legal) ∙ not-long (length media.payload) (value_of packet) legal.payload in
    ap (rtp_item tunnel) read ∙ ap (media_by (value_of packet)) (word-back tunnel (length media.payload) word (word-fits width media.number media.strip legal.strip))
    ∙ worded-item width media (extension_for word) legal.even legal.whole

-- the same of what was read of a packet and of the words of its extension
pub packet-item : (tunnel : Tunnel) (width : Width) (media : MediaOut) (words all : List ℕ) → media.flow % 2 ≡ 0 → can_restore media.strip media.payload ≡ true
    → extension_reading_of 0x5249 words ≡ Ok (word_for width media.number media.strip)
    → rtp_reading_of all ≡ Ok (value_of (packet_with (head_for media) (Some (0x5249, words)) media.payload))
    → item_by tunnel MediaKind all ≡ Ok (MediaItem (media_value width media))
packet-item tunnel width media words all even whole is read =
    let word = word_for width media.number media.strip in
    ap (rtp_item tunnel) read
    ∙ ap (λ (x : Result ExtWord ExtBad). media_by (value_of (packet_with (head_for media) (Some (0x5249, words)) media.payload)) (known_word x))
    (either-read tunnel (length media.payload) words word is)
    ∙ worded-item width media (Some (0x5249, words)) even whole

-- ---- its length
word-len : (extension : Option (ℕ × List ℕ)) → IfSome extension (λ e. length e.1 ≡ 4) → length (extension_octets extension) ≤ 8
word-len None four = omega arith
word-len (Some (profile, words)) four = omega (arith, four)

packet-len : (head : RtpHead) (extension : Option (ℕ × List ℕ)) (payload : List ℕ) → IfSome extension (λ e. length e.1 ≡ 4)
    → length (rtp_spelling (packet_with head extension payload) None) ≤ length payload + 20
unfolding rtp_spelling
packet-len head extension payload four =
    omega (arith, length-append (extension_octets extension) (payload ++ []), ap length (append-nil payload), word-len extension four)

four-octets : (word : ExtWord) → IfSome (extension_for word) (λ e. length e.1 ≡ 4)
four-octets word = four (is_some word.strip || is_some word.upper)
  where
    four : (b : Bool) → IfSome (extension-if b word) (λ e. length e.1 ≡ 4)
    four true = refl
    four false = tt

media-len : (width : Width) (media : MediaOut) → length (media_octets width media) ≤ length media.payload + 20
media-len width media =
    let word = word_for width media.number media.strip in
    packet-len (head_for media) (extension_for word) media.payload (four-octets word)

-- ---- its octets
first-octet : (b : Bool) (word : ExtWord) → 128 + 32 * 0 + 16 * from_bool (is_some (extension-if b word)) + 0 < 256
first-octet true word = omega arith
first-octet false word = omega arith

long-octet : (long : Bool) (nulls : ℕ) → nulls < 128 → 128 * from_bool long + nulls + 0 < 256
long-octet true nulls below = omega arith
long-octet false nulls below = omega arith

word-are : (strip : Option Shape) (upper : Option ℕ) (rest : List ℕ) → IfSome strip (λ shape. IsShape shape.units shape.nulls)
    → IfSome upper (λ upper. upper < 2 ^ 16) → Octets rest → Octets (extension_spelling (record { strip = strip; upper = upper }) nothing_unread ++ rest)
word-are None None rest strip-fits upper-fits more = octet _ _ (omega arith) (octet _ _ (omega arith) (half 0 _ (omega arith) more))
word-are None (Some upper) rest strip-fits upper-fits more = octet _ _ (omega arith) (octet _ _ (omega arith) (half upper _ upper-fits more))
word-are (Some shape) None rest strip-fits upper-fits more =
    octet _ _ (omega (arith, strip-fits.few)) (octet _ _ (long-octet shape.long shape.nulls strip-fits.below) (half 0 _ (omega arith) more))
word-are (Some shape) (Some upper) rest strip-fits upper-fits more =
    octet _ _ (omega (arith, strip-fits.few)) (octet _ _ (long-octet shape.long shape.nulls strip-fits.below) (half upper _ upper-fits more))

extension-octets-are : (word : ExtWord) → IsWord word → (rest : List ℕ) → Octets rest
    → Octets (extension_octets (Some (0x5249, extension_spelling word nothing_unread)) ++ rest)
extension-octets-are word fits rest more =
    half 0x5249 _ (omega arith) (half 1 _ (omega arith) (word-are word.strip word.upper rest fits.strip fits.upper more))

extension-are : (word : ExtWord) (b : Bool) → IsWord word → (rest : List ℕ) → Octets rest → Octets (extension_octets (extension-if b word) ++ rest)
extension-are word true fits rest more = extension-octets-are word fits rest more
extension-are word false fits rest more = more

media-octets-are : (width : Width) (media : MediaOut) → IsMediaOut media → AreOctets media.payload → AreOctets (media_octets width media)
unfolding rtp_spelling
media-octets-are width media legal are =
    let word = word_for width media.number media.strip in
    let told = is_some word.strip || is_some word.upper in
    let payload : Octets (media.payload ++ []) = record { at = subst AreOctets (sym (append-nil media.payload)) are } in
    (octet _ _ (first-octet told word) (octet 33 _ (omega arith) (half (media.number % 2 ^ 16) _ (omega arith) (whole media.stamp _ legal.stamp
    (whole _ _ (source-fits media.flow media.again legal.even legal.flow)
    (extension-are word told (word-fits width media.number media.strip legal.strip) (media.payload ++ []) payload)))))).at

media-carried : (width : Width) (media : MediaOut) → IsMediaOut media → All (λ octet. octet < 256) media.payload → IsCarried (media_octets width media)
media-carried width media legal are = record {
  are = media-octets-are width media legal (AreOctets-from_all media.payload are);
  few = omega (arith, media-len width media, legal.payload);
}

pub media-taken : (session : Session) (pair : Option Pair) (media : MediaOut) → IsSession session → (session.profile ≡ Main → IsPair pair)
    → is_some pair ≡ is_some session.pass → IsMediaOut media → (session.full ≡ true → All (λ octet. octet < 256) media.payload)
    → item_of session (media_channel session) (media_datagram session pair media) ≡ Ok (MediaItem (media_value session.width media))
media-taken session pair media legal fits paired is are =
    let kept : MediaKind ≡ KeepaliveKind → session.profile ≡ Main = λ e. cc in
    item-back session pair MediaKind (media_octets session.width media) legal fits (λ main. paired) kept
    (λ full. media-carried session.width media is (are full))
    ∙ media-item session.tunnel session.width media is

ciphered-len : (key : List ℕ) (sequence : ℕ) (text : List ℕ) → length (ciphered key sequence text) ≡ length text
unfolding ciphered
ciphered-len key sequence text =
    length-zip2 bit_xor text _ (sym (length-map-range_with_len (keystream_octet key (first_counter_block sequence)) 0 (length text)))

under-len : (key : Option (List ℕ)) (sequence : Option ℕ) (text : List ℕ) → length (ciphered_under key sequence text) ≡ length text
under-len None sequence text = refl
under-len (Some key) sequence text = ciphered-len key (unwrap_or sequence 0) text

header-len : (tunnel : Tunnel) (bits : ℕ) (full : Bool) (pair : Option Pair) (kind : Kind) → length (header_octets tunnel bits full pair kind) ≤ 12
header-len tunnel bits full None kind = omega arith
header-len tunnel bits full (Some pair) kind = omega arith

-- how many octets stand before a message that goes to a port
abbrev before : Bool → ℕ
before true = 28
before false = 4

full-len : (port : ℕ) (octets : List ℕ) → length (full_octets port octets) ≡ 28 + length octets
unfolding full_octets ip_header_octets udp_octets
full-len port octets = omega (arith, ap length (append-nil octets))

carried-len : (full : Bool) (port : ℕ) (octets : List ℕ) → length (carried full port octets) ≡ before full + length octets
carried-len true port octets = full-len port octets
carried-len false port octets = omega arith

datagram-len : (profile : Profile) (session : Session) (pair : Option Pair) (octets : List ℕ)
    → length (datagram_on profile session pair MediaKind octets) ≤ length octets + (12 + before session.full)
datagram-len Simple session pair octets = omega arith
datagram-len Main session pair octets =
    let text = text_for session.full session.port MediaKind octets in
    let sealed = under-len (key_by session.pass session.bits (nonce_of pair)) (sequence_of pair) text in
    omega (
      arith,
      length-append (header_octets session.tunnel session.bits session.full pair MediaKind) (sealed_text session pair text),
      sealed,
      header-len session.tunnel session.bits session.full pair MediaKind,
      carried-len session.full session.port octets,
    )

before-most : (full : Bool) → before full ≤ 28
before-most true = omega arith
before-most false = omega arith

pub length-datagram : (session : Session) (pair : Option Pair) (media : MediaOut) → length (media_datagram session pair media) ≤ length media.payload + 60
length-datagram session pair media =
    omega (arith, datagram-len session.profile session pair (media_octets session.width media), media-len session.width media, before-most session.full)

pub length-reduced : (session : Session) (pair : Option Pair) (media : MediaOut) → session.full ≡ false
    → length (media_datagram session pair media) ≤ length media.payload + 36
length-reduced session pair media reduced =
    omega (arith, datagram-len session.profile session pair (media_octets session.width media), media-len session.width media, ap before reduced)
