-- What is printed for each status.
use Rattle.std.specs.Prelude.{ℕ, List, ◌++◌, codes, decimal}
use Rattle.capture_file.specs.Text.{kind_text}
use Rattle.pcap_file.specs.Text.{kind_text as pcap_kind_text}
use Rattle.rist_compare.specs.Text.{tear_text}
use Rattle.run_parts.specs.declared.status.Status.{Status}
use Rattle.run_parts.specs.declared.status.Status.TheVariants.{Done, Memory, Usage, OpenFault, ReadFault, WriteFault}
use Rattle.run_parts.specs.declared.status.Status.TheVariants.{BadCapture, EntropyFault, TooLong, LinksDown, TraceFull}
use Rattle.run_parts.specs.declared.status.Status.TheVariants.{Torn, Spent, TurnsSpent, BadPcap}

-- for a bad capture or pcap file the test that fails and the offset, in decimal digits
abbrev pub text_of : Status → List ℕ
text_of Done = codes "done"
text_of Memory = codes "out of memory"
text_of Usage = codes "usage"
text_of OpenFault = codes "cannot open"
text_of ReadFault = codes "read failed"
text_of WriteFault = codes "write failed"
text_of (BadCapture kind at) = codes "bad capture: " ++ (kind_text kind ++ (codes " at " ++ decimal at))
text_of EntropyFault = codes "no randomness"
text_of TooLong = codes "input too long"
text_of LinksDown = codes "all links down"
text_of TraceFull = codes "trace full"
text_of (Torn tear) = tear_text tear
text_of Spent = codes "keys spent"
text_of TurnsSpent = codes "turns spent"
text_of (BadPcap kind at) = codes "bad pcap: " ++ (pcap_kind_text kind ++ (codes " at " ++ decimal at))
