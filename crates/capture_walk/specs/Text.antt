-- What is printed for a walk that did not end after whole records.
use Rattle.std.specs.Prelude.{ℕ, List, ◌++◌, codes, decimal}
use Rattle.capture_file.specs.Text.{kind_text}
use Rattle.pcap_file.specs.Text.{kind_text as pcap_kind_text}
use Rattle.capture_walk.specs.declared.visitor.VisitBad.{VisitBad}
use Rattle.capture_walk.specs.declared.visitor.VisitBad.TheVariants as visits
use Rattle.capture_walk.specs.declared.walk_bad.WalkBad.{WalkBad}
use Rattle.capture_walk.specs.declared.walk_bad.WalkBad.TheVariants as walks

-- the text of each
abbrev pub visit_text : VisitBad → List ℕ
visit_text visits.Memory = codes "out of memory"
visit_text visits.WriteFault = codes "write failed"

-- for a bad capture or pcap file the test that fails and the offset, in decimal digits
abbrev pub walk_text : WalkBad → List ℕ
walk_text walks.Memory = codes "out of memory"
walk_text walks.ReadFault = codes "read failed"
walk_text walks.WriteFault = codes "write failed"
walk_text (walks.BadCapture kind at) = codes "bad capture: " ++ (kind_text kind ++ (codes " at " ++ decimal at))
walk_text (walks.BadPcap kind at) = codes "bad pcap: " ++ (pcap_kind_text kind ++ (codes " at " ++ decimal at))
walk_text walks.TooLong = codes "input too long"
