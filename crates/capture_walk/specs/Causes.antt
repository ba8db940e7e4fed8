-- Which call failed, by what a visitor or a walk answers.
use Rattle.outside_io.specs.Causes.{Fault, NoFault, Read, Write}
use Rattle.capture_walk.specs.declared.visitor.VisitBad.{VisitBad}
use Rattle.capture_walk.specs.declared.visitor.VisitBad.TheVariants as visits
use Rattle.capture_walk.specs.declared.walk_bad.WalkBad.{WalkBad}
use Rattle.capture_walk.specs.declared.walk_bad.WalkBad.TheVariants as walks

-- of a visitor's error
abbrev pub visit_fault : VisitBad → Fault
visit_fault visits.Memory = NoFault
visit_fault visits.WriteFault = Write

-- of a walk's
abbrev pub walk_fault : WalkBad → Fault
walk_fault walks.Memory = NoFault
walk_fault walks.ReadFault = Read
walk_fault walks.WriteFault = Write
walk_fault (walks.BadCapture kind at) = NoFault
walk_fault (walks.BadPcap kind at) = NoFault
walk_fault walks.TooLong = NoFault
