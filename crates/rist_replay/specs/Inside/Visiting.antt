-- What private contracts of a replay cite.
use Rattle.std.specs.Prelude.{Result, Ok, Err}
use Rattle.capture_walk.specs.declared.visitor.VisitBad.{VisitBad}
use Rattle.capture_walk.specs.declared.visitor.VisitBad.TheVariants as bads
use Rattle.rist_ends.specs.declared.outcome.Answer.{Answer}
use Rattle.rist_ends.specs.declared.outcome.Answer.TheVariants as answers

-- what a step's answer is for the walk
abbrev pub answer_of : Answer → Result Unit VisitBad
answer_of answers.Stopped = Ok tt
answer_of answers.WriteFault = Err bads.WriteFault
answer_of (answers.Verdict v) = Ok tt
answer_of answers.Spent = Ok tt
answer_of answers.Made = Ok tt
answer_of answers.Nothing = Ok tt
