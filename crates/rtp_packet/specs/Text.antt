-- What is printed for each test that fails.
use Rattle.std.specs.Prelude.{ℕ, List, codes}
use Rattle.rtp_packet.specs.declared.bad.RtpBad.{RtpBad}
use Rattle.rtp_packet.specs.declared.bad.RtpBad.TheVariants.{Short, Version, Sources, Extension, Padding, Long}

-- the text of a test
abbrev pub text_of : RtpBad → List ℕ
text_of Short = codes "rtp short"
text_of Version = codes "rtp version"
text_of Sources = codes "rtp sources"
text_of Extension = codes "rtp extension"
text_of Padding = codes "rtp padding"
text_of Long = codes "rtp long"
