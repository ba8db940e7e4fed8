-- The RIST extension of an RTP header (this profile), and which octets spell it: one word of 32 bits under
-- the profile word 0x5249.
use Rattle.std.specs.Prelude.{◌≡◌, ℕ, ◌+◌, ◌-◌, ◌*◌, ◌^◌, ◌<◌, List, ◌∷◌, Option, Some, None, is_some, IfSome}
use Rattle.std.specs.Int.{w16, to_be_bytes, from_bool}
use Rattle.ts_nulls.specs.Shape.{Shape, IsShape}
use Rattle.rist_ext.specs.declared.ext_word.ExtWord.{ExtWord}

-- each part of a word fits its bits
pub record IsWord (word : ExtWord) : Type 0 where
  pub strip : IfSome word.strip (λ shape. IsShape shape.units shape.nulls)
  pub upper : IfSome word.upper (λ upper. upper < 2 ^ 16)

-- What isn't read: the reserved bits; the size where nothing was deleted; of the second octet the bits past
-- the last packet, or all of it where nothing was deleted; the upper half where the number has none.
pub record Unread : Type 0 where
  pub reserved : ℕ
  pub size : ℕ
  pub second : ℕ
  pub upper : ℕ

-- how many values the unread bits of the second octet have
abbrev pub unread_in : Option Shape → ℕ
unread_in None = 256
unread_in (Some shape) = 2 ^ (7 - shape.units)

-- each fits its bits
pub record IsUnread (word : ExtWord) (unread : Unread) : Type 0 where
  pub reserved : unread.reserved < 8
  pub size : unread.size < 8
  pub second : unread.second < unread_in word.strip
  pub upper : unread.upper < 2 ^ 16

-- the size, in three bits: how many packets there were
abbrev pub size_of : Option Shape → ℕ → ℕ
size_of None unread = unread
size_of (Some shape) unread = shape.units

-- the flag of packets of 204 octets, and a bit for each packet that was null
abbrev pub second_octet : Option Shape → ℕ → ℕ
second_octet None unread = unread
second_octet (Some shape) unread = 128 * from_bool shape.long + shape.nulls + unread

-- the upper half of the number
abbrev pub upper_of : Option ℕ → ℕ → ℕ
upper_of None unread = unread
upper_of (Some upper) unread = upper

-- the flags N and E, the size and the reserved bits
abbrev pub first_octet : ExtWord → Unread → ℕ
first_octet word unread =
    128 * from_bool (is_some word.strip) + 64 * from_bool (is_some word.upper)
    + 8 * size_of word.strip unread.size + unread.reserved

-- the first octet; then the nulls, then the upper half
abbrev pub spelling : ExtWord → Unread → List ℕ
spelling word unread =
    first_octet word unread ∷ second_octet word.strip unread.second ∷ to_be_bytes w16 (upper_of word.upper unread.upper)

-- The octets spell the word, with some bits that aren't read.
pub record Spells (word : ExtWord) (octets : List ℕ) : Type 0 where
  pub fits : IsWord word
  pub unread : Unread
  pub unread_fits : IsUnread word unread
  pub whole : octets ≡ spelling word unread

-- nothing that isn't read is set
abbrev pub nothing_unread : Unread
nothing_unread = record { reserved = 0; size = 0; second = 0; upper = 0 }
