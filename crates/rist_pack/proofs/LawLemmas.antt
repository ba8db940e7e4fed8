-- What the definitions of a capture that was packed mean.
use Rattle.std.proofs.Common.{◌≡◌, ℕ, ◌+◌, ◌*◌, ◌/◌, ◌%◌, ◌^◌, ◌<◌, ◌≤◌, Bool, true, false, List, [], length, get_or, refl, sym, ap, ◌∙◌, subst, arith, Option, Some, None, Ok, IfSome, is_some, is_ok}
use Rattle.std.specs.List.{enumerate_from}
use Rattle.std.specs.Prelude.{All}
use Rattle.std.proofs.lemmas.List.{get_or-map}
use Rattle.std.proofs.lemmas.List.FromFn.{length-enumerate_from, get_or-enumerate_from}
use Rattle.std.proofs.lemmas.Nat.{mul-le}
use Rattle.std.proofs.Math.ListN.{length-map}
use Rattle.link_channels.specs.declared.channel.Channel.TheVariants as channels
use Rattle.capture_file.specs.Capture.{Record, Fits}
use Rattle.rtp_packet.specs.Rtp as rtp
use Rattle.rtp_packet.specs.Writing.{packet_with}
use Rattle.ts_nulls.specs.Shape.{Shape, IsShape}
use Rattle.ts_nulls.specs.Nulls.{stripping_of, blanking_of}
use Rattle.ts_nulls.proofs.LawLemmas.{restoring-stripped, told-stripped, stays-unstripped}
use Rattle.psk_seal.specs.Nonces.{AreNonces}
use Rattle.link_channels.specs.declared.profile.Profile.TheVariants.{Simple}
use Rattle.rist_wire.specs.declared.item.Item.TheVariants as items
use Rattle.rist_wire.specs.declared.session.Session.{Session}
use Rattle.rist_wire.specs.Session.{IsSession}
use Rattle.rist_wire.specs.Media.{can_restore, octets_in, restored_payload, content_of}
use Rattle.rist_wire.specs.Item.{item_of}
use Rattle.rist_wire.specs.Writing.{IsPair}
use Rattle.rist_wire.specs.Sent.{IsMediaOut, media_channel, media_datagram}
use Rattle.rist_wire.proofs.MediaLemmas.{media-taken}
use Rattle.rist_wire.proofs.StripLemmas.{stripped-are}
use Rattle.block_source.specs.Pieces.{pieces_of}
use Rattle.block_source.proofs.PieceLemmas.{length-pieces_of, piece_sized}
use Rattle.rist_pack.specs.Capture.{sent_with, sent_of, stamp_of, media_of, taken_of, content_for, pair_of, piece_octets, packed_record, records_of, capture_of}
use Rattle.rist_pack.specs.declared.settings.PackSettings.{PackSettings}
use Rattle.rist_pack.proofs.DatagramLemmas.{sent-within, piece-len}

-- ---- what is sent of a piece

-- what is told fits its bits, and can be put back
record IsSent (strip : Option Shape) (payload whole : List ℕ) : Type 0 where
  shape : IfSome strip (λ shape. IsShape shape.units shape.nulls)
  restored : can_restore strip payload ≡ true
  content : restored_payload strip payload ≡ whole

with-sent : (piece : List ℕ) (told : Option (Shape × List ℕ)) → stripping_of piece ≡ told
    → IsSent (sent_with piece told).strip (sent_with piece told).payload (blanking_of piece)
with-sent piece None is = record { shape = tt; restored = refl; content = sym (stays-unstripped piece is) }
with-sent piece (Some (shape, kept)) is =
    let back = restoring-stripped piece kept shape is in
    record { shape = (told-stripped piece kept shape is).0; restored = ap is_ok back; content = ap octets_in back }

piece-sent : (nulls : Bool) (piece : List ℕ) → IsSent (sent_of nulls piece).strip (sent_of nulls piece).payload (content_for nulls piece)
piece-sent true piece = with-sent piece (stripping_of piece) refl
piece-sent false piece = record { shape = tt; restored = refl; content = refl }

-- what is sent of a piece of octets is octets
with-are : (piece : List ℕ) (told : Option (Shape × List ℕ)) → stripping_of piece ≡ told → All (λ octet. octet < 256) piece
    → All (λ octet. octet < 256) (sent_with piece told).payload
with-are piece None is are = are
with-are piece (Some (shape, kept)) is are = stripped-are piece kept shape is are

piece-are : (nulls : Bool) (piece : List ℕ) → All (λ octet. octet < 256) piece → All (λ octet. octet < 256) (sent_of nulls piece).payload
piece-are true piece are = with-are piece (stripping_of piece) refl are
piece-are false piece are = are

pub piece-content : (session : Session) (settings : PackSettings) (k : ℕ) (piece : List ℕ)
    → content_of (taken_of session settings k piece) ≡ content_for session.nulls piece
piece-content session settings k piece = (piece-sent session.nulls piece).content

-- ---- what is taken of its datagram
media-is : (nulls : Bool) (settings : PackSettings) (k : ℕ) (piece : List ℕ) → settings.flow % 2 ≡ 0 → settings.flow < 2 ^ 32 → length piece ≤ 1316
    → IsMediaOut (media_of nulls settings k piece)
media-is nulls settings k piece even flow few =
    let sent = piece-sent nulls piece in
    record {
      even = even;
      flow = flow;
      stamp = omega arith;
      strip = sent.shape;
      payload = omega (arith, sent-within nulls piece, few);
      whole = sent.restored;
    }

pair-is : (nonces : Option (List ℕ)) (k : ℕ) → IfSome nonces AreNonces → k < 2 ^ 36 → IsPair (pair_of nonces k)
pair-is None k are place = record { nonce = tt; sequence = tt }
pair-is (Some nonces) k are place = record { nonce = (are.each (k / 2 ^ 32) (omega arith)).1; sequence = omega arith }

pair-some : (nonces : Option (List ℕ)) (k : ℕ) → is_some (pair_of nonces k) ≡ is_some nonces
pair-some None k = refl
pair-some (Some nonces) k = refl

pub piece-taken : (session : Session) (nonces : Option (List ℕ)) (settings : PackSettings) (k : ℕ) (piece : List ℕ)
    → IsSession session → IfSome nonces AreNonces → is_some nonces ≡ is_some session.pass
    → settings.flow % 2 ≡ 0 → settings.flow < 2 ^ 32 → k < 2 ^ 36 → length piece ≤ 1316
    → (session.full ≡ true → All (λ octet. octet < 256) piece)
    → item_of session (packed_record session nonces settings k piece).channel (packed_record session nonces settings k piece).octets
    ≡ Ok (items.Media (taken_of session settings k piece))
unfolding piece_octets
piece-taken session nonces settings k piece legal are paired even flow place few octets =
    media-taken session (pair_of nonces k) (media_of session.nulls settings k piece) legal (λ main. pair-is nonces k are place)
    (pair-some nonces k ∙ paired) (media-is session.nulls settings k piece even flow few)
    (λ full. piece-are session.nulls piece (octets full))

-- ---- sessions without a passphrase

pub simple-record : (session : Session) (settings : PackSettings) (k : ℕ) (piece : List ℕ) → IsSession session → session.profile ≡ Simple
    → packed_record session None settings k piece ≡ record {
      link = 0;
      channel = channels.Media;
      us = k * settings.gap;
      octets = rtp.spelling (packet_with (record { number = (settings.first + k) % 2 ^ 16; stamp = stamp_of settings k; ssrc = settings.flow }) None piece) None;
    }
unfolding piece_octets
simple-record session settings k piece legal simple =
    let plain = legal.simple simple in
    let source : settings.flow + 0 ≡ settings.flow = omega arith in
    let octets = (λ i. media_datagram (record session { profile = simple i; nulls = plain.nulls i; width = plain.width i }) None (media_of (plain.nulls i) settings k piece))
    ∙ (λ i. rtp.spelling (packet_with (record { number = (settings.first + k) % 2 ^ 16; stamp = stamp_of settings k; ssrc = source i }) None piece) None) in
    λ i. record { link = 0; channel = media_channel (record session { profile = simple i }); us = k * settings.gap; octets = octets i }

pub clear-capture : (session : Session) (nonces : Option (List ℕ)) (settings : PackSettings) (b : List ℕ)
    → session.pass ≡ None → is_some nonces ≡ is_some session.pass
    → capture_of (packed_record session nonces settings) (pieces_of b) ≡ capture_of (packed_record session None settings) (pieces_of b)
clear-capture session None settings b clear paired = refl
clear-capture session (Some nonces) settings b clear paired = cc

-- ---- the records

record_at : (f : ℕ → List ℕ → Record) (ps : List (List ℕ)) (k : ℕ) (d : Record) → k < length ps → get_or (records_of f 0 ps) k d ≡ f k (get_or ps k [])
record_at f ps k d inside =
    let place : 0 + k ≡ k = omega arith in
    get_or-map (λ piece. f piece.0 piece.1) (enumerate_from 0 ps) k (0, []) d (omega (arith, length-enumerate_from 0 ps))
    ∙ ap (λ (piece : ℕ × List ℕ). f piece.0 piece.1) (get_or-enumerate_from 0 ps k (0, []) inside)
    ∙ ap (λ i. f i (get_or ps k [])) place

length-records : (f : ℕ → List ℕ → Record) (ps : List (List ℕ)) → length (records_of f 0 ps) ≡ length ps
length-records f ps = length-map (enumerate_from 0 ps) (λ piece. f piece.0 piece.1) ∙ length-enumerate_from 0 ps

record_fits : (session : Session) (nonces : Option (List ℕ)) (settings : PackSettings) (k : ℕ) (piece : List ℕ)
    → settings.gap ≤ 1000000 → k ≤ 2 ^ 40 → length piece ≤ 1316 → Fits (packed_record session nonces settings k piece)
record_fits session nonces settings k piece gap place few =
    let time : k * settings.gap ≤ 2 ^ 40 * 1000000 = mul-le k settings.gap (2 ^ 40) 1000000 place gap in
    record { link = omega arith; us = omega arith; octets = omega (arith, piece-len session (pair_of nonces k) settings k piece) }

pub records_fit : (session : Session) (nonces : Option (List ℕ)) (settings : PackSettings) (b : List ℕ) → settings.gap ≤ 1000000 → length b ≤ 2 ^ 40
    → All Fits (records_of (packed_record session nonces settings) 0 (pieces_of b))
records_fit session nonces settings b gap bound k d inside =
    let f = packed_record session nonces settings in
    let here : k < length (pieces_of b) = omega (arith, length-records f (pieces_of b)) in
    let place : k ≤ 2 ^ 40 = omega (arith, length-pieces_of b) in
    subst Fits (sym (record_at f (pieces_of b) k d here))
    (record_fits session nonces settings k (get_or (pieces_of b) k []) gap place (piece_sized b k [] here).1)
