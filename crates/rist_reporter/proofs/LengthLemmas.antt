-- How many octets requests have.
use Rattle.std.proofs.Common.{◌≡◌, ℕ, ◌+◌, ◌*◌, List, [], ◌∷◌, length, refl, ap, ◌∙◌, arith, length-append}
use Rattle.rtcp_compound.specs.Compound.{Content}
use Rattle.rtcp_compound.specs.Name.{rist_name}
use Rattle.rtcp_compound.specs.Writing.{Written, Gains, app_octets, feedback_octets}
use Rattle.rist_nack.specs.Written.{words_spelling}

-- each word has four octets
pub length_words : (words : List (ℕ × ℕ)) → length (words_spelling words) ≡ 4 * length words
length_words [] = refl
length_words (w ∷ ws) = omega (arith, length_words ws)

-- ---- what the octets gain by a packet

gained : (old new : Written) (content : Content) (octets : List ℕ) → Gains old new content octets → length new.octets ≡ length old.octets + length octets
gained old new content octets gains = ap (λ (w : Written). length w.octets) gains ∙ length-append old.octets octets

pub gained_app : (old new : Written) (content : Content) (subtype ssrc : ℕ) (words : List (ℕ × ℕ)) → Gains old new content (app_octets subtype ssrc rist_name (words_spelling words))
    → length new.octets ≡ length old.octets + 12 + 4 * length words
gained_app old new content subtype ssrc words gains =
    omega (arith, gained old new content (app_octets subtype ssrc rist_name (words_spelling words)) gains, length_words words, length-append (words_spelling words) [])

pub gained_feedback : (old new : Written) (content : Content) (kind format sender media : ℕ) (words : List (ℕ × ℕ)) → Gains old new content (feedback_octets kind format sender media (words_spelling words))
    → length new.octets ≡ length old.octets + 12 + 4 * length words
gained_feedback old new content kind format sender media words gains =
    omega (arith, gained old new content (feedback_octets kind format sender media (words_spelling words)) gains, length_words words, length-append (words_spelling words) [])
