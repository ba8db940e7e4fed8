-- What is printed for each test that fails.
use Rattle.std.specs.Prelude.{ℕ, List, codes}
use Rattle.ipv4_udp.specs.declared.ip.IpBad.{IpBad}
use Rattle.ipv4_udp.specs.declared.ip.IpBad.TheVariants.{Short, Version, Header, HeaderSum, Length, Fragment, Protocol}
use Rattle.ipv4_udp.specs.declared.ip.IpBad.TheVariants.{UdpShort, UdpLength, UdpSum}

-- the text of a test
abbrev pub text_of : IpBad → List ℕ
text_of Short = codes "ip short"
text_of Version = codes "ip version"
text_of Header = codes "ip header"
text_of HeaderSum = codes "ip header sum"
text_of Length = codes "ip length"
text_of Fragment = codes "ip fragment"
text_of Protocol = codes "ip protocol"
text_of UdpShort = codes "udp short"
text_of UdpLength = codes "udp length"
text_of UdpSum = codes "udp sum"
