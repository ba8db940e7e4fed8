-- Requests of the standards' layouts, against the definitions.
use Rattle.std.proofs.Common.{◌≡◌, [], ◌∷◌, None, refl}
use Rattle.rtcp_compound.specs.Compound.{receiver_report, application, feedback}
use Rattle.rtcp_compound.specs.Name.{rist_name}
use Rattle.rist_nack.specs.Asked.{asks_in, numbers_asked}

-- a range word across the end of the numbers of 16 bits
range_asks : numbers_asked (asks_in None (receiver_report 7 [] ∷ application 0 270544960 rist_name (255 ∷ 255 ∷ 0 ∷ 1 ∷ []) ∷ [])) ≡ 65535 ∷ 0 ∷ []
range_asks = refl

-- the same under a sequence extension
wide_asks : numbers_asked (asks_in None (receiver_report 7 [] ∷ application 1 270544960 rist_name (0 ∷ 1 ∷ 0 ∷ 0 ∷ []) ∷ application 0 270544960 rist_name (255 ∷ 255 ∷ 0 ∷ 1 ∷ []) ∷ []))
    ≡ 131071 ∷ 131072 ∷ []
wide_asks = refl

-- a mask word, the least significant bit for the next number and the most significant one for the sixteenth
mask_word_asks : numbers_asked (asks_in None (receiver_report 7 [] ∷ feedback 205 1 7 270544960 (0 ∷ 100 ∷ 128 ∷ 1 ∷ []) ∷ [])) ≡ 100 ∷ 101 ∷ 116 ∷ []
mask_word_asks = refl
