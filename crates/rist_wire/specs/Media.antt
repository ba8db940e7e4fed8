-- The media of a datagram: an RTP packet with the RIST extension (this profile).
use Rattle.std.specs.Prelude.{ℕ, ◌+◌, ◌*◌, ◌%◌, Bool, true, List, [], ◌==◌, Option, Some, None, Result, Ok, Err, is_ok}
use Rattle.seq_unwrap.specs.declared.width.Width.{Width}
use Rattle.seq_unwrap.specs.declared.width.Width.TheVariants.{W16, W32}
use Rattle.ts_nulls.specs.declared.nulls.NullBad.{NullBad}
use Rattle.ts_nulls.specs.Shape.{Shape}
use Rattle.ts_nulls.specs.Nulls.{restoring_of}

-- what is told of media: which null packets were deleted from the payload as it was sent, if any were
pub record MediaValue : Type 0 where
  pub flow : ℕ
  pub again : Bool
  pub width : Width
  pub word : ℕ
  pub stamp : ℕ
  pub strip : Option Shape
  pub payload : List ℕ

-- a payload as it was sent has the length of the packets that weren't null
abbrev pub can_restore : Option Shape → List ℕ → Bool
can_restore None payload = true
can_restore (Some shape) payload = is_ok (restoring_of shape payload)

-- the octets that are restored, where they can be
abbrev pub octets_in : Result (List ℕ) NullBad → List ℕ
octets_in (Ok octets) = octets
octets_in (Err bad) = []

-- a payload as it was sent, with the null packets put back that were deleted from it
abbrev pub restored_payload : Option Shape → List ℕ → List ℕ
restored_payload None payload = payload
restored_payload (Some shape) payload = octets_in (restoring_of shape payload)

-- the payload with its null packets in their places
abbrev pub content_of : MediaValue → List ℕ
content_of media = restored_payload media.strip media.payload

-- ---- the source and the number

-- the lowest bit of the source (SSRC), which its flow has cleared, says that media is sent again
abbrev pub is_again : ℕ → Bool
is_again ssrc = ssrc % 2 == 1

-- numbers have 32 bits where the extension has their upper half
abbrev pub width_by : Option ℕ → Width
width_by None = W16
width_by (Some upper) = W32

-- the bits of the number that were sent
abbrev pub word_by : Option ℕ → ℕ → ℕ
word_by None number = number
word_by (Some upper) number = upper * 65536 + number
