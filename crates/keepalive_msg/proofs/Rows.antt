-- Worked rows of the reading.
use Rattle.std.proofs.Common.{◌≡◌, [], ◌∷◌, Ok, Err, refl}
use Rattle.keepalive_msg.specs.declared.keepalive.KeepBad.TheVariants.{Short}
use Rattle.keepalive_msg.specs.Reading.{reading_of}

whole : reading_of (2 ∷ 0 ∷ 0x10 ∷ 0x20 ∷ 0x30 ∷ 0x40 ∷ 0 ∷ 0 ∷ [])
    ≡ Ok (record { mac = 2 ∷ 0 ∷ 0x10 ∷ 0x20 ∷ 0x30 ∷ 0x40 ∷ []; capabilities = 0; text = 0 })
unfolding reading_of
whole = refl

cut : reading_of (2 ∷ 0 ∷ 0x10 ∷ []) ≡ Err Short
unfolding reading_of
cut = refl
