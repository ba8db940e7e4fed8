-- Worked rows of the readings.
use Rattle.std.proofs.Common.{◌≡◌, [], ◌∷◌, None, Ok, Err, refl}
use Rattle.rtp_packet.specs.declared.bad.RtpBad.TheVariants.{Padding, Extension}
use Rattle.rtp_packet.specs.Reading.{reading_of}

-- one octet of payload
plain : reading_of (0x80 ∷ 0x21 ∷ 0 ∷ 10 ∷ 0 ∷ 0 ∷ 0 ∷ 0 ∷ 0x10 ∷ 0x20 ∷ 0x30 ∷ 0x40 ∷ 0x41 ∷ [])
    ≡ Ok (record { number = 10; stamp = 0; ssrc = 0x10203040; extension = None; payload = 0x41 ∷ [] })
unfolding reading_of
plain = refl

-- a count of padding of 0
padding : reading_of (0xA0 ∷ 0x21 ∷ 0 ∷ 10 ∷ 0 ∷ 0 ∷ 0 ∷ 0 ∷ 0x10 ∷ 0x20 ∷ 0x30 ∷ 0x40 ∷ 0 ∷ []) ≡ Err Padding
unfolding reading_of
padding = refl

-- the words of an extension pass the end, and its padding would be bad
extension : reading_of (0xB0 ∷ 0x21 ∷ 0 ∷ 10 ∷ 0 ∷ 0 ∷ 0 ∷ 0 ∷ 0x10 ∷ 0x20 ∷ 0x30 ∷ 0x40 ∷ 0x52 ∷ 0x49 ∷ 0 ∷ 1 ∷ []) ≡ Err Extension
unfolding reading_of
extension = refl
