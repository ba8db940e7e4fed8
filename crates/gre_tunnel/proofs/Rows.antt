-- Worked rows of the reading.
use Rattle.std.proofs.Common.{◌≡◌, [], ◌∷◌, Some, Ok, Err, refl}
use Rattle.gre_tunnel.specs.declared.gre.GreBad.TheVariants.{Checksum, KeyedNoSequence, Protocol}
use Rattle.gre_tunnel.specs.Reading.{reading_of}

checksum : reading_of (0x80 ∷ 0 ∷ 0x88 ∷ 0xB6 ∷ []) ≡ Err Checksum
unfolding reading_of
checksum = refl

unpaired : reading_of (0x20 ∷ 0 ∷ 0x88 ∷ 0xB6 ∷ 0 ∷ 0 ∷ 0 ∷ 0 ∷ []) ≡ Err KeyedNoSequence
unfolding reading_of
unpaired = refl

unknown : reading_of (0 ∷ 0 ∷ 0x88 ∷ 0xB7 ∷ []) ≡ Err Protocol
unfolding reading_of
unknown = refl

both : reading_of (0x30 ∷ 0x40 ∷ 0x88 ∷ 0xB6 ∷ 0 ∷ 0 ∷ 0 ∷ 7 ∷ 0 ∷ 0 ∷ 1 ∷ 0 ∷ 9 ∷ [])
    ≡ Ok (record { key = Some 7; sequence = Some 256; protocol = 0x88B6; rest = 12 })
unfolding reading_of
both = refl
