-- What is printed for a failure.
use Rattle.std.specs.Prelude.{ℕ, List, ◌++◌, codes, decimal}
use Rattle.pcap_file.specs.declared.bad.PcapKind.{PcapKind}
use Rattle.pcap_file.specs.declared.bad.PcapKind.TheVariants.{Magic, Truncated, Version, LinkType, Long, TooLong}
use Rattle.pcap_file.specs.declared.bad.PcapBad.{PcapBad}
use Rattle.pcap_file.specs.declared.bad.PcapBad.TheVariants.{Bad, ReadFault}

-- the test that fails
abbrev pub kind_text : PcapKind → List ℕ
kind_text Magic = codes "magic"
kind_text Truncated = codes "truncated"
kind_text Version = codes "version"
kind_text LinkType = codes "link type"
kind_text Long = codes "long"
kind_text TooLong = codes "too long"

-- the test and the offset, in decimal digits
abbrev pub bad_text : PcapBad → List ℕ
bad_text (Bad kind at) = kind_text kind ++ (codes " at " ++ decimal at)
bad_text ReadFault = codes "read failed"
