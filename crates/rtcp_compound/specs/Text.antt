-- What is printed for octets that are no compound.
use Rattle.std.specs.Prelude.{ℕ, List, ◌++◌, codes, decimal}
use Rattle.rtcp_compound.specs.declared.refusal.RtcpWhy.{RtcpWhy}
use Rattle.rtcp_compound.specs.declared.refusal.RtcpWhy.TheVariants.{Short, Version, Kind, First, Length, Padding, Body}
use Rattle.rtcp_compound.specs.declared.refusal.RtcpBad.{RtcpBad}

-- the test that fails
abbrev pub text_of : RtcpWhy → List ℕ
text_of Short = codes "rtcp short"
text_of Version = codes "rtcp version"
text_of Kind = codes "rtcp kind"
text_of First = codes "rtcp first"
text_of Length = codes "rtcp length"
text_of Padding = codes "rtcp padding"
text_of Body = codes "rtcp body"

-- the test, and the offset of its packet in decimal digits
abbrev pub bad_text : RtcpBad → List ℕ
bad_text bad = text_of bad.why ++ (codes " at " ++ decimal bad.place)
